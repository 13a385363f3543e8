-- The set of one position. Assumes nothing.
use Rattle.std.proofs.Common.{◌≡◌, ℕ, ◌<◌, ◌≤◌, ◌^◌, eqb, sym, refl, ap, ◌∙◌, ⊎_elim, arith}
use Rattle.std.proofs.lemmas.Bool.{cases_eq, eq-eqb, ne_eqb}
use Rattle.std.proofs.lemmas.Nat.{pow_below}
use Rattle.std.proofs.lemmas.Nat.Bits.{bit_at-pow_same, bit_at-pow_other}
use Rattle.regular.specs.Sets.{bit, as_set}
use Rattle.regular.proofs.Bits.{bit_zero}
use Rattle.regular.proofs.Sets.{is_set}

pub bit_pow : (p q : ℕ) → bit (2 ^ p) q ≡ eqb q p
bit_pow p q =
    ⊎_elim
    (λ e. rw e (ap (λ x. eqb x 1) (bit_at-pow_same p) ∙ sym (eq-eqb p p refl)))
    (λ n. ap (λ x. eqb x 1) (bit_at-pow_other p q n) ∙ sym (ne_eqb q p n))
    (cases_eq q p)

pub only_inside : (p : ℕ) → p < 64 → 2 ^ p ≡ as_set (λ q. eqb q p)
only_inside p l = is_set (2 ^ p) (λ q. eqb q p) (pow_below p 64 l) (λ q k. bit_pow p q)

pub only_outside : (p : ℕ) → 64 ≤ p → 0 ≡ as_set (λ q. eqb q p)
only_outside p l = is_set 0 (λ q. eqb q p) (omega arith) (λ q k. bit_zero q ∙ sym (ne_eqb q p (λ e. omega arith)))
