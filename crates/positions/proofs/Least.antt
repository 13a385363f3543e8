-- The least member of a set, and what is left without it. Assumes nothing.
use Rattle.std.proofs.Common.{◌≡◌, ℕ, zero, suc, ◌-◌, ◌/◌, ◌%◌, ◌^◌, ◌<◌, true, false, eqb, [], ◌∷◌, sym, refl, ap, ◌∙◌, ⊎_elim, arith}
use Rattle.std.specs.Int.{w64, bit_at, trailing_zeros}
use Rattle.std.proofs.lemmas.Bool.{cases_lt}
use Rattle.std.proofs.lemmas.Nat.Bits.{bit_at_lowest, bit_at-suc, bit_at_and, bit_at-trailing_zeros}
use lib.Bits.{bit_and}
use Rattle.regular.specs.Sets.{bit}
use Rattle.positions.specs.Members.{members_below, members}

-- p is the least member
record Least (s p : ℕ) : Type 0 where
  pub member : bit_at s p ≡ 1
  pub least : (i : ℕ) → i < p → bit_at s i ≡ 0

-- s - 1 lacks it, and has what s has above it
record Before (s p : ℕ) : Type 0 where
  pub gone : bit_at (s - 1) p ≡ 0
  pub above : (q : ℕ) → p < q → bit_at (s - 1) q ≡ bit_at s q

before : (p s : ℕ) → Least s p → Before s p
before zero s l =
    let odd : s % 2 ≡ 1 = sym (bit_at_lowest s) ∙ l.member in
    record { gone = bit_at_lowest (s - 1) ∙ omega arith; above = upper odd }
  where
    upper : s % 2 ≡ 1 → (q : ℕ) → 0 < q → bit_at (s - 1) q ≡ bit_at s q
    upper odd zero lt = absurd (omega arith)
    upper odd (suc q) lt = let half : (s - 1) / 2 ≡ s / 2 = omega arith in bit_at-suc (s - 1) q ∙ ap (λ x. bit_at x q) half ∙ sym (bit_at-suc s q)
before (suc p) s l =
    let even : s % 2 ≡ 0 = sym (bit_at_lowest s) ∙ l.least 0 (omega arith) in
    let half : (s - 1) / 2 ≡ s / 2 - 1 = omega arith in
    let b = before p (s / 2) (record { member = sym (bit_at-suc s p) ∙ l.member; least = λ i lt. sym (bit_at-suc s i) ∙ l.least (suc i) (omega arith) }) in
    record { gone = bit_at-suc (s - 1) p ∙ ap (λ x. bit_at x p) half ∙ b.gone; above = upper half b }
  where
    upper : (s - 1) / 2 ≡ s / 2 - 1 → Before (s / 2) p → (q : ℕ) → suc p < q → bit_at (s - 1) q ≡ bit_at s q
    upper half b zero lt = absurd (omega arith)
    upper half b (suc q) lt = bit_at-suc (s - 1) q ∙ ap (λ x. bit_at x q) half ∙ b.above q (omega arith) ∙ sym (bit_at-suc s q)

none_below : (s n : ℕ) → ((i : ℕ) → i < n → bit s i ≡ false) → members_below s n ≡ []
none_below s zero none = refl
none_below s (suc n) none = rw (none_below s n (λ i lt. none i (omega arith)), none n (omega arith))

-- x is s without its least member, p
module _ (s x p : ℕ) (member : bit s p ≡ true) (gone : bit x p ≡ false) (least : (i : ℕ) → i < p → bit s i ≡ false) (same : (i : ℕ) → (i ≡ p → ⊥) → bit x i ≡ bit s i) where
  first_below : (n : ℕ) → p < n → members_below s n ≡ p ∷ members_below x n
  first_below zero lt = absurd (omega arith)
  first_below (suc n) lt =
      ⊎_elim
      (λ less. rw (first_below n less, same n (λ e. omega arith)))
      (λ more.
      let is : n ≡ p = omega arith in
      rw (is, none_below s p least, member, none_below x p (λ i l. same i (λ e. omega arith) ∙ least i l), gone))
      (cases_lt p n)

pub no_members : members 0 ≡ []
unfolding members
no_members = refl

members_of : (s : ℕ) → members s ≡ members_below s 64
unfolding members
members_of s = refl

module _ (s : ℕ) (pos : 0 < s) (small : s < 2 ^ 64) where
  abbrev p : ℕ
  p = trailing_zeros w64 s

  is_least : (p < 64) × Least s p
  is_least = let (inside, member, least) = bit_at-trailing_zeros w64 s pos small in (inside, record { member = member; least = least })

  without : (q : ℕ) → (q ≡ p → ⊥) → bit (bit_and s (s - 1)) q ≡ bit s q
  without q ne =
      let l = is_least.1 in
      let b = before p s l in
      ap (λ x. eqb x 1) (bit_at_and s (s - 1) q
      ∙ ⊎_elim (λ less. let low = l.least q less in omega arith) (λ more. let high = b.above q (omega arith) in omega arith) (cases_lt q p))

  pub least_member : members s ≡ p ∷ members (bit_and s (s - 1))
  least_member =
      let l = is_least.1 in
      let b = before p s l in
      let gone : bit_at (bit_and s (s - 1)) p ≡ 0 = omega (arith, bit_at_and s (s - 1) p, b.gone) in
      members_of s
      ∙ first_below s (bit_and s (s - 1)) p (ap (λ x. eqb x 1) l.member) (ap (λ x. eqb x 1) gone) (λ i lt. ap (λ x. eqb x 1) (l.least i lt)) without 64 is_least.0
      ∙ ap (λ xs. p ∷ xs) (sym (members_of (bit_and s (s - 1))))
