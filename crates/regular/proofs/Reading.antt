-- Reading a word right to left over the positions accepts the language's words. Assumes nothing.
use Rattle.std.proofs.Common.{◌≡◌, ℕ, suc, ◌+◌, ◌-◌, ◌<◌, Bool, true, ◌&&◌, ◌↔◌, List, [], ◌∷◌, refl, arith}
use mathlib.Core.Logic.Iff.{rfl as same}
use mathlib.Core.Logic.Iff.{symm as flip}
use Rattle.std.proofs.lemmas.Bool.{eqb-true}
use Rattle.std.proofs.lemmas.Bool.Decides.{Decides-eqb, Decides-and, Decides-below_or}
use Rattle.regular.specs.Language.{Regex}
use Rattle.regular.specs.Positions.{size, some_below, arrow, reached, final, accepted, WordsAccepted}
use Rattle.regular.proofs.Iff.{◌⨾◌, and_true}
use Rattle.regular.proofs.Ranges.{holds_in}
use Rattle.regular.proofs.Rests.{From, Among, word_nil, rest_nil, word_cons, rest_cons}

pub some_below_is : {f : ℕ → Bool} {P : ℕ → Type 0} (n : ℕ) → ((k : ℕ) → f k ≡ true ↔ P k) → some_below n f ≡ true ↔ ((k : ℕ) × (k < n) × P k)
some_below_is {f} {P} n each = Decides-below_or f P (λ m. some_below m f) each refl (λ _. refl) n

pub both_below : (n : ℕ) (f g : ℕ → Bool) → some_below n (λ p. f p && g p) ≡ true ↔ ((p : ℕ) × (p < n) × ((f p ≡ true) × (g p ≡ true)))
both_below n f g = some_below_is n (λ p. and_true)

module _ (r : Regex) where
  -- what is reached is the start or a position
  pub reached_in : (v : List ℕ) (q : ℕ) → reached r v q ≡ true → q < size r + 1
  reached_in [] q h = omega (arith, eqb-true q 0 h)
  reached_in (c ∷ v) q h = let k = holds_in r 0 q c (and_true.0 h).0 in omega arith

  -- the test S, among the positions reached by the empty word
  found_nil : (S : ℕ → Bool) → some_below (size r + 1) (λ p. reached r [] p && S p) ≡ true ↔ S 0 ≡ true
  found_nil S =
      some_below_is (size r + 1) (λ p. Decides-and _ _ (Decides-eqb p 0) same)
      ⨾ (λ (p, _, (e, s)). rw (← e) s, λ s. (0, omega arith, (refl, s)))

  module _ (c : ℕ) (v : List ℕ) (each : (q : ℕ) → reached r (c ∷ v) q ≡ true ↔ From r 0 q c v) where
    -- and by any other, where S is T at the positions
    found_cons : (S T : ℕ → Bool) → ((p : ℕ) → S (suc p) ≡ T (suc p)) → some_below (size r + 1) (λ p. reached r (c ∷ v) p && S p) ≡ true ↔ Among T r 0 c v
    found_cons S T e =
        some_below_is (size r + 1) (λ p. Decides-and _ _ (each p) same)
        ⨾ (
          λ (p, _, (k, s)). let l = holds_in r 0 p c k.0 in (p, (grind (arith, e (p - 1)), k)),
          λ (p, (s, k)). let l = holds_in r 0 p c k.0 in (p, omega arith, (k, grind (arith, e (p - 1)))),
        )

  pub reached_is : (v : List ℕ) (c q : ℕ) → reached r (c ∷ v) q ≡ true ↔ From r 0 q c v
  reached_is [] c q = Decides-and _ _ same (found_nil (λ p. arrow r p q) ⨾ rest_nil r 0 q)
  reached_is (d ∷ v) c q = Decides-and _ _ same (found_cons d v (reached_is v d) (λ p. arrow r p q) _ (λ _. refl) ⨾ flip (rest_cons r 0 q d v))

pub words_accepted : WordsAccepted
unfolding accepted
words_accepted r [] = found_nil r (final r) ⨾ word_nil r
words_accepted r (c ∷ v) = found_cons r c v (reached_is r v c) (final r) _ (λ _. refl) ⨾ flip (word_cons r 0 c v)
