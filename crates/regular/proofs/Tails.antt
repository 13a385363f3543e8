-- The shortest words, and the tails that reading finds. Assumes nothing.
use Rattle.std.proofs.Common.{ℕ, ◌+◌, ◌↔◌, List, [], ◌∷◌, ◌++◌, length, sym, refl, ap, inl, inr, ⊎_elim, append_assoc, append-nil, arith, length-append}
use mathlib.Core.Logic.Iff.{symm as flip}
use Rattle.std.proofs.lemmas.Bool.{cases_lt}
use Rattle.std.proofs.lemmas.Bool.Decides.{Decides-eqb}
use Rattle.regular.specs.Language.{Regex, one, join, either, star, plus, maybe, none, Tail, Inhabited, shortest, ShortestKnown, TailsOfTails}
use Rattle.regular.specs.Positions.{size, tailed, TailsTailed}
use Rattle.regular.proofs.Iff.{◌⨾◌, and_true}
use Rattle.regular.proofs.Words.{put_before, row_from}
use Rattle.regular.proofs.Ranges.{holds_in}
use Rattle.regular.proofs.Rests.{Rest, From, word_cons, rest_cons, from_join, from_either}
use Rattle.regular.proofs.Reading.{some_below_is, reached_is}

-- by recursion: of a join the sum, of an either the lesser
pub shortest_known : ShortestKnown
shortest_known (one s) (c, h) = record { reached = (c ∷ [], (c, refl, h), refl); least = λ w (d, e, _). omega (arith, ap length e) }
shortest_known (join a b) (h, k) =
    let A = shortest_known a h in
    let B = shortest_known b k in
    record {
      reached = let (u, p, m) = A.reached in let (v, q, n) = B.reached in (u ++ v, (u, v, refl, p, q), omega (arith, length-append u v));
      least = λ w (x, y, e, p, q). omega (arith, ap length e, length-append x y, A.least x p, B.least y q);
    }
shortest_known (either a b) (h, k) =
    let A = shortest_known a h in
    let B = shortest_known b k in
    record {
      reached = let (u, p, m) = A.reached in let (v, q, n) = B.reached in ⊎_elim (λ l. (u, inl p, omega arith)) (λ l. (v, inr q, omega arith)) (cases_lt (shortest a) (shortest b));
      least = λ w. ⊎_elim (λ p. omega (arith, A.least w p)) (λ q. omega (arith, B.least w q));
    }
shortest_known (star a) h = record { reached = ([], none refl, refl); least = λ w _. omega arith }
shortest_known (plus a) h =
    let A = shortest_known a h in
    let (u, p, m) = A.reached in
    record { reached = (u, (u, [], sym (append-nil u), p, none refl), m); least = λ w (x, y, e, p, _). omega (arith, ap length e, length-append x y, A.least x p) }
shortest_known (maybe a) h = record { reached = ([], inl refl, refl); least = λ w _. omega arith }

pub tails_of_tails : TailsOfTails
tails_of_tails = record {
  empty = λ r h. let (w, p, _) = (shortest_known r h).reached in (w, rw append-nil p);
  suffix = λ r u v (x, p). (x ++ u, rw append_assoc p);
}

-- what can stand from a position on, some word ends with
from_tail : (r : Regex) → Inhabited r → (i q c : ℕ) (v : List ℕ) → From r i q c v → Tail r (c ∷ v)
from_tail (one s) h i q c v (k, (_, e)) = ([], (c, ap (λ x. c ∷ x) e, (and_true.0 k).1))
from_tail (join a b) (h, l) i q c v k =
    ⊎_elim
    (λ (x, y, e, k, w). let (u, p) = from_tail a h i q c x k in (u, put_before u (put_before (c ∷ []) (x, y, e, p, w))))
    (λ k. let (u, p) = from_tail b l _ q c v k in let (x, w, _) = (shortest_known a h).reached in (x ++ u, (x, u ++ c ∷ v, append_assoc x u (c ∷ v), w, p)))
    ((from_join a b i q c v).0 k)
from_tail (either a b) (h, l) i q c v k =
    ⊎_elim
    (λ k. let (u, p) = from_tail a h i q c v k in (u, inl p))
    (λ k. let (u, p) = from_tail b l _ q c v k in (u, inr p))
    ((from_either a b i q c v).0 k)
from_tail (star a) h i q c v (k, (x, y, e, l, r)) = let (u, p) = from_tail a h i q c x (k, l) in (u, row_from (put_before u (put_before (c ∷ []) (x, y, e, p, r))))
from_tail (plus a) h i q c v (k, (x, y, e, l, r)) = let (u, p) = from_tail a h i q c x (k, l) in (u, put_before u (put_before (c ∷ []) (x, y, e, p, r)))
from_tail (maybe a) h i q c v k = let (u, p) = from_tail a h i q c v k in (u, inr p)

-- .. and the other way: walk over what stands before, one position after the other
module _ (r : Regex) (c : ℕ) (v : List ℕ) where
  rest_from : (u : List ℕ) (q : ℕ) → Rest r 0 q (u ++ c ∷ v) → (p : ℕ) × From r 0 p c v
  rest_from [] q k = let (p, (_, k)) = (rest_cons r 0 q c v).0 k in (p, k)
  rest_from (d ∷ u) q k = let (p, (_, (_, k))) = (rest_cons r 0 q d (u ++ c ∷ v)).0 k in rest_from u p k

  tail_from : Tail r (c ∷ v) → (p : ℕ) × From r 0 p c v
  tail_from ([], w) = let (p, (_, k)) = (word_cons r 0 c v).0 w in (p, k)
  tail_from (d ∷ u, w) = let (p, (_, (_, k))) = (word_cons r 0 d (u ++ c ∷ v)).0 w in rest_from u p k

-- a tail that is not empty, by the position of its first code
pub tail_cons : (r : Regex) → Inhabited r → (c : ℕ) (v : List ℕ) → Tail r (c ∷ v) ↔ ((q : ℕ) × From r 0 q c v)
tail_cons r h c v = (tail_from r c v, λ (q, k). from_tail r h 0 q c v k)

pub tails_tailed : TailsTailed
unfolding tailed
tails_tailed r h [] = (λ _. tails_of_tails.empty r h, λ _. (some_below_is (size r + 1) (λ p. Decides-eqb p 0)).1 (0, omega arith, refl))
tails_tailed r h (c ∷ v) =
    some_below_is (size r + 1) (reached_is r v c)
    ⨾ (λ (q, _, k). (q, k), λ (q, k). let l = holds_in r 0 q c k.0 in (q, omega arith, k))
    ⨾ flip (tail_cons r h c v)
