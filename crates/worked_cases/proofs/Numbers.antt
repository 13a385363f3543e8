-- The numbers of positions by computation, for an expression with few tails in which all pieces of a position have one number. Assumes nothing.
use Rattle.std.proofs.Common.{◌≡◌, ℕ, zero, suc, ◌+◌, ◌<◌, ◌≤◌, Bool, true, false, cond, ◌&&◌, eqb, List, [], ◌∷◌, length, get_or, replicate, sym, refl, ◌∙◌, subst, arith}
use mathlib.Core.Logic.Iff.{rfl as same}
use lib.ListN.{get_or-replicate}
use Rattle.std.proofs.lemmas.Bool.{eqb-true}
use Rattle.std.proofs.lemmas.Bool.Decides.{Decides-below_and}
use Rattle.regular.specs.Language.{Regex, Tail, Shortest, Inhabited}
use Rattle.regular.specs.Positions.{size, reached}
use Rattle.regular.proofs.Iff.{and_true}
use Rattle.regular.proofs.Ranges.{holds_in}
use Rattle.regular.proofs.Reachable.{led_to}
use Rattle.regular.proofs.Tails.{tails_tailed}
use Rattle.distance.specs.Extremes.{Distance, infinite, finite, lesser}
use Rattle.distance.specs.Kinds.{Member}
use Rattle.distance.specs.Distances.{PositionJump, PositionJumps, FullLength, Jump}
use Rattle.distance.specs.Found.{Within, tails_upto, first_of, second_of, way_of, upto}
use Rattle.distance.proofs.Alike.{Bounded, within_bounded, tailed_is}
use Rattle.distance.proofs.Exact.{pieces_listed, listed_there}
use Rattle.distance.proofs.Least.{finite_same, least_one}
use Rattle.distance.proofs.Listed.{tails_listed_once}

-- 1 where nothing was read, and else n
abbrev pub after_any : ℕ → List ℕ → ℕ
after_any n [] = 1
after_any n (c ∷ v) = n

abbrev is_number : ℕ → Distance → Bool
is_number t infinite = false
is_number t (finite n) = eqb n t

number_is : (t : ℕ) (d : Distance) → is_number t d ≡ true → d ≡ finite t
number_is t d e = grind (arith, eqb-true)

-- the words of length n have the number t
abbrev even : ℕ → (List ℕ → Distance) → ℕ → List (List ℕ) → Bool
even n f t [] = true
even n f t (w ∷ ws) = cond (eqb (length w) n) (is_number t (f w)) true && even n f t ws

even_is : (n : ℕ) (f : List ℕ → Distance) (t : ℕ) (ws : List (List ℕ)) → even n f t ws ≡ true → (w : List ℕ) → Member w ws → length w ≡ n → f w ≡ finite t
even_is n f t [] e w mem long = absurd mem
even_is n f t (x ∷ ws) e w mem long = grind (arith, number_is t (f x), even_is n f t ws)

module _ (r : Regex) (h : Inhabited r) (codes : ℕ) (W : Within codes r) (m : ℕ) (S : Shortest r m) where
  abbrev found : List (List ℕ)
  found = tails_upto r codes m

  bounded : Bounded r codes
  bounded = within_bounded codes r W 0

  -- the tails are few, so full ones are as long as a shortest word
  full_length : length found ≤ 256 → FullLength r m
  full_length few = (m, S, ((omega arith, (length found, (found, tails_listed_once r codes h bounded m, refl), few)), λ i x. x.0))

  abbrev even_at : ℕ → ℕ → Bool
  even_at q t = even (upto m (way_of r found q)) (λ w. lesser (first_of found w) (finite (second_of m found w))) t found

  even_jump : (q : ℕ) → q < size r + 1 → (t : ℕ) → even_at q t ≡ true → PositionJump r m q t
  even_jump q l t e =
      let (v, leads) = led_to r h q l in
      let (w, L) = listed_there r h codes bounded m m S (omega arith) q v leads in (
        (pieces_listed r h codes bounded m m S (omega arith) q t).0 (w, L, at w L.0 L.1.0),
        λ i J. let (x, K, is) = (pieces_listed r h codes bounded m m S (omega arith) q i).1 J in omega (arith, finite_same (sym is ∙ at x K.0 K.1.0)),
      )
    where
      at : (w : List ℕ) → Member w found → length w ≡ upto m (way_of r found q) → lesser (first_of found w) (finite (second_of m found w)) ≡ finite t
      at = even_is (upto m (way_of r found q)) (λ w. lesser (first_of found w) (finite (second_of m found w))) t found e

  abbrev all_even : List ℕ → ℕ → Bool
  all_even list zero = true
  all_even list (suc n) = even_at n (get_or list n 0) && all_even list n

  pub even_jumps : (list : List ℕ) → length list ≡ size r + 1 → length found ≤ 256 → all_even list (size r + 1) ≡ true → PositionJumps r list
  even_jumps list long few e = record {
    depth = m;
    full = full_length few;
    count = long;
    each = λ q l. even_jump q l (get_or list q 0) ((Decides-below_and (λ q. even_at q (get_or list q 0)) (λ q. even_at q (get_or list q 0) ≡ true) (all_even list) (λ q. same) refl (λ _. refl) (size r + 1)).0 e q l);
  }

-- the jumps after reading, where the start has 1 and all positions have one number
module _ (r : Regex) (h : Inhabited r) (t : ℕ) (P : PositionJumps r (1 ∷ replicate (size r) t)) where
  abbrev Number : ℕ → ℕ → Type 0
  Number q n = PositionJump r P.depth q n

  at_start : Number 0 1
  at_start = P.each 0 (omega arith)

  position : (c : ℕ) (v : List ℕ) (q : ℕ) → reached r (c ∷ v) q ≡ true → Number q t
  position c v zero e = let l = holds_in r 0 0 c (and_true.0 e).0 in absurd (omega arith)
  position c v (suc q) e = let l = holds_in r 0 (suc q) c (and_true.0 e).0 in subst (Number (suc q)) (get_or-replicate (size r) q t 0 (omega arith)) (P.each (suc q) (omega arith))

  pub jump_after : (v : List ℕ) → Tail r v → Jump r v (after_any t v)
  jump_after [] tail = (P.depth, P.full, ((0, refl, at_start), λ i (q, e, J). omega (arith, least_one i 1 (subst (λ (p : ℕ). Number p i) (eqb-true q 0 e) J) at_start)))
  jump_after (c ∷ v) tail =
      let (q, _, e) = (tailed_is r (c ∷ v)).0 ((tails_tailed r h (c ∷ v)).1 tail) in
      (P.depth, P.full, ((q, e, position c v q e), λ i (p, d, J). omega (arith, least_one i t J (position c v p d))))
