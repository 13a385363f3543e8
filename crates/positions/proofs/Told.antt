-- Which positions are among a set's members. Assumes nothing.
use Rattle.std.proofs.Common.{◌≡◌, ℕ, zero, suc, ◌<◌, ◌≤◌, Bool, true, false, cond, ◌||◌, eqb, [], ◌∷◌, refl, ap, ◌∙◌, ⊎_elim, arith}
use Rattle.std.specs.List.{list_any}
use Rattle.std.proofs.Math.Bool.{or-false}
use Rattle.std.proofs.lemmas.Bool.{cases_lt, eq-eqb, ne_eqb}
use Rattle.std.proofs.lemmas.List.Folds.{list_any-append}
use Rattle.regular.specs.Sets.{bit}
use Rattle.positions.specs.Members.{members_below, members}

module _ (s k : ℕ) where
  abbrev is_k : ℕ → Bool
  is_k p = eqb p k

  -- the last of the first n + 1 positions is k, or those before it tell
  one_more : (n : ℕ) → list_any is_k (members_below s (suc n)) ≡ (list_any is_k (members_below s n) || cond (bit s n) (eqb n k) false)
  one_more n = list_any-append is_k (members_below s n) (cond (bit s n) (n ∷ []) []) ∙ ap (λ x. list_any is_k (members_below s n) || x) (last (bit s n))
    where
      last : (b : Bool) → list_any is_k (cond b (n ∷ []) []) ≡ cond b (eqb n k) false
      last true = or-false (eqb n k)
      last false = refl

  none_told : (n : ℕ) → n ≤ k → list_any is_k (members_below s n) ≡ false
  none_told zero l = refl
  none_told (suc n) l = one_more n ∙ grind (arith, none_told n (omega arith), ne_eqb n k)

  told : (n : ℕ) → k < n → list_any is_k (members_below s n) ≡ bit s k
  told zero l = absurd (omega arith)
  told (suc n) l =
      one_more n
      ∙ ⊎_elim
      (λ less. grind (arith, told n less, ne_eqb n k, or-false (bit s k)))
      (λ more. let is : n ≡ k = omega arith in rw (none_told n (omega arith), is, eq-eqb k k refl) (whole (bit s k)))
      (cases_lt k n)
    where
      whole : (b : Bool) → cond b true false ≡ b
      whole true = refl
      whole false = refl

  pub member_told : k < 64 → list_any (λ p. eqb p k) (members s) ≡ bit s k
  unfolding members
  member_told l = told 64 l
