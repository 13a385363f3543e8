-- What can stand behind a position, up to the end of a word: of the empty rest and word (`-nil`), and of one that begins with
-- a code (`-cons`), this is what the positions' functions say. Assumes nothing.
use Rattle.std.proofs.Common.{◌≡◌, ℕ, ◌+◌, Bool, true, ◌||◌, ◌⊎◌, ◌↔◌, List, [], ◌∷◌, sym, refl, ap, inl, inr, ⊎_elim, arith}
use mathlib.Core.List.{nil≢cons}
use mathlib.Core.Logic.Iff.{and as pair}
use mathlib.Core.Logic.Iff.{rfl as same}
use mathlib.Core.Logic.Iff.{symm as flip}
use Rattle.std.proofs.lemmas.Bool.{false≢true, eq-eqb}
use Rattle.std.proofs.lemmas.Bool.Decides.{Decides-eqb, Decides-and, Decides-or}
use Rattle.regular.specs.Language.{Regex, one, join, either, star, plus, maybe, Then, Row, none, Word}
use Rattle.regular.specs.Positions.{size, nullable, holds, begins, ends, before}
use Rattle.regular.proofs.Iff.{◌⨾◌, sum, sum_assoc, or_true, and_true, some_like, some_sum, some_or, some_and}
use Rattle.regular.proofs.Ranges.{IsPosition, parts_in, same_part, holds_in, begins_in, before_in}
use Rattle.regular.proofs.Words.{head_same, tail_same, then_nil, then_cons, then_like, row_nil, row_cons, plus_cons}

-- v can stand behind the position q, up to the end of a word
abbrev pub Rest : Regex → ℕ → ℕ → List ℕ → Type 0
Rest (one s) i q v = (q ≡ i + 1) × (v ≡ [])
Rest (join a b) i q v = Then (Rest a i q) (Word b) v ⊎ Rest b (i + size a) q v
Rest (either a b) i q v = Rest a i q v ⊎ Rest b (i + size a) q v
Rest (star a) i q v = Then (Rest a i q) (Row (Word a)) v
Rest (plus a) i q v = Then (Rest a i q) (Row (Word a)) v
Rest (maybe a) i q v = Rest a i q v

-- c at the position q, and v behind it
abbrev pub From : Regex → ℕ → ℕ → ℕ → List ℕ → Type 0
From r i q c v = (holds r i q c ≡ true) × Rest r i q v

-- the same at some position of S
abbrev pub Among : (ℕ → Bool) → Regex → ℕ → ℕ → List ℕ → Type 0
Among S r i c v = (q : ℕ) × ((S q ≡ true) × From r i q c v)

pub word_nil : (r : Regex) → nullable r ≡ true ↔ Word r []
word_nil (one s) = (λ e. absurd (false≢true e), λ (c, e, h). absurd (nil≢cons e))
word_nil (join a b) = Decides-and _ _ (word_nil a) (word_nil b) ⨾ flip then_nil
word_nil (either a b) = Decides-or _ _ (word_nil a) (word_nil b)
word_nil (star a) = (λ _. none refl, λ _. refl)
word_nil (plus a) = word_nil a ⨾ row_nil
word_nil (maybe a) = (λ _. inl refl, λ _. refl)

pub rest_nil : (r : Regex) (i q : ℕ) → ends r i q ≡ true ↔ Rest r i q []
rest_nil (one s) i q = Decides-eqb q (i + 1) ⨾ (λ e. (e, refl), λ h. h.0)
rest_nil (join a b) i q = Decides-or _ _ (Decides-and _ _ (rest_nil a i q) (word_nil b) ⨾ flip then_nil) (rest_nil b _ q)
rest_nil (either a b) i q = Decides-or _ _ (rest_nil a i q) (rest_nil b _ q)
rest_nil (star a) i q = rest_nil a i q ⨾ row_nil
rest_nil (plus a) i q = rest_nil a i q ⨾ row_nil
rest_nil (maybe a) i q = rest_nil a i q

pub rest_in : (r : Regex) (i q : ℕ) (v : List ℕ) → Rest r i q v → IsPosition r i q
rest_in (one s) i q v (e, _) = omega arith
rest_in (join a b) i q v h = parts_in a b (λ (x, _, _, k, _). rest_in a i q x k) (rest_in b _ q v) h
rest_in (either a b) i q v h = parts_in a b (rest_in a i q v) (rest_in b _ q v) h
rest_in (star a) i q v (x, _, _, k, _) = rest_in a i q x k
rest_in (plus a) i q v (x, _, _, k, _) = rest_in a i q x k
rest_in (maybe a) i q v k = rest_in a i q v k

module _ (a b : Regex) (i q c : ℕ) (v : List ℕ) where
  pub from_join : From (join a b) i q c v ↔ (Then (From a i q c) (Word b) v ⊎ From b (i + size a) q c v)
  from_join =
      pair or_true same
      ⨾ same_part a b (holds_in a i q c) (holds_in b _ q c) (λ (x, _, _, k, _). rest_in a i q x k) (rest_in b _ q v)
      ⨾ sum (λ (h, (x, y, e, k, w)). (x, y, e, (h, k), w), λ (x, y, e, (h, k), w). (h, (x, y, e, k, w))) same

  pub from_either : From (either a b) i q c v ↔ (From a i q c v ⊎ From b (i + size a) q c v)
  from_either = pair or_true same ⨾ same_part a b (holds_in a i q c) (holds_in b _ q c) (rest_in a i q v) (rest_in b _ q v)

module _ {S : ℕ → Bool} (a : Regex) (i c : ℕ) (v : List ℕ) where
  among_star : Among S (star a) i c v ↔ Then (Among S a i c) (Row (Word a)) v
  among_star = (λ (q, (s, (h, (x, y, e, k, w)))). (x, y, e, (q, (s, (h, k))), w), λ (x, y, e, (q, (s, (h, k))), w). (q, (s, (h, (x, y, e, k, w)))))

  -- where S is in the first part, and T in the second
  module _ (b : Regex) {T : ℕ → Bool} (f : (q : ℕ) → S q ≡ true → IsPosition a i q) (g : (q : ℕ) → T q ≡ true → IsPosition b (i + size a) q) where
    among_join : Among (λ q. S q || T q) (join a b) i c v ↔ (Then (Among S a i c) (Word b) v ⊎ Among T b (i + size a) c v)
    among_join =
        some_like (λ q. pair or_true (from_join a b i q c v) ⨾ same_part a b (f q) (g q) (λ (_, _, _, k, _). holds_in a i q c k.0) (λ k. holds_in b _ q c k.0))
        ⨾ some_sum
        ⨾ sum (λ (q, (s, (x, y, e, k, w))). (x, y, e, (q, (s, k)), w), λ (x, y, e, (q, (s, k)), w). (q, (s, (x, y, e, k, w)))) same

    among_either : Among (λ q. S q || T q) (either a b) i c v ↔ (Among S a i c v ⊎ Among T b (i + size a) c v)
    among_either =
        some_like (λ q. pair or_true (from_either a b i q c v) ⨾ same_part a b (f q) (g q) (λ k. holds_in a i q c k.0) (λ k. holds_in b _ q c k.0))
        ⨾ some_sum

-- a word that is not empty, by its first position
pub word_cons : (r : Regex) (i c : ℕ) (v : List ℕ) → Word r (c ∷ v) ↔ Among (begins r i) r i c v
word_cons (one s) i c v =
    let here = eq-eqb (i + 1) (i + 1) refl in
    (λ (d, e, h). (i + 1, (here, (and_true.1 (here, rw (head_same e) h), (refl, tail_same e)))), λ (q, (_, (h, (_, e)))). (c, ap (λ x. c ∷ x) e, (and_true.0 h).1))
word_cons (join a b) i c v =
    then_cons
    ⨾ sum (then_like (word_cons a i c)) (pair (flip (word_nil a)) (word_cons b _ c v) ⨾ flip some_and)
    ⨾ flip (among_join a i c v b (begins_in a i) (λ q h. begins_in b _ q (and_true.0 h).1))
word_cons (either a b) i c v = sum (word_cons a i c v) (word_cons b _ c v) ⨾ flip (among_either a i c v b (begins_in a i) (begins_in b _))
word_cons (star a) i c v = row_cons ⨾ then_like (word_cons a i c) ⨾ flip (among_star a i c v)
word_cons (plus a) i c v = plus_cons ⨾ then_like (word_cons a i c) ⨾ flip (among_star a i c v)
word_cons (maybe a) i c v = (⊎_elim (λ e. absurd (nil≢cons (sym e))) (word_cons a i c v).0, λ m. inr ((word_cons a i c v).1 m))

-- a rest that is not empty, by the position that follows
rest_row : (a : Regex) (i q c : ℕ) (v : List ℕ) → ((x : List ℕ) → Rest a i q (c ∷ x) ↔ Among (before a i q) a i c x) → Rest (star a) i q (c ∷ v) ↔ Among (before (star a) i q) (star a) i c v
rest_row a i q c v below =
    then_cons
    ⨾ sum (then_like below ⨾ flip (among_star a i c v)) (pair (flip (rest_nil a i q)) (word_cons (star a) i c v) ⨾ flip some_and)
    ⨾ flip some_or

pub rest_cons : (r : Regex) (i q c : ℕ) (v : List ℕ) → Rest r i q (c ∷ v) ↔ Among (before r i q) r i c v
rest_cons (one s) i q c v = (λ (_, e). absurd (nil≢cons (sym e)), λ (_, (h, _)). absurd (false≢true h))
rest_cons (join a b) i q c v =
    sum then_cons same
    ⨾ sum_assoc
    ⨾ sum (then_like (rest_cons a i q c)) (sum (pair (flip (rest_nil a i q)) (word_cons b _ c v) ⨾ flip some_and) (rest_cons b _ q c v) ⨾ flip some_or)
    ⨾ flip (among_join a i c v b (before_in a i q) (λ p h. ⊎_elim (λ k. begins_in b _ p (and_true.0 k).1) (before_in b _ q p) (or_true.0 h)))
rest_cons (either a b) i q c v = sum (rest_cons a i q c v) (rest_cons b _ q c v) ⨾ flip (among_either a i c v b (before_in a i q) (before_in b _ q))
rest_cons (star a) i q c v = rest_row a i q c v (rest_cons a i q c)
rest_cons (plus a) i q c v = rest_row a i q c v (rest_cons a i q c)
rest_cons (maybe a) i q c v = rest_cons a i q c v
