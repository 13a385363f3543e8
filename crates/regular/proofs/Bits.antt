-- The members of sets that are numbers. Assumes nothing.
use Rattle.std.proofs.Common.{◌≡◌, ℕ, zero, suc, ◌/◌, ◌^◌, ◌<◌, min, max, Bool, true, false, cond, ◌&&◌, ◌||◌, eqb, List, get_or, sym, refl, ap, ◌∙◌, ap₂, arith}
use mathlib.Core.Bool.{or_comm}
pub use mathlib.Core.Bool.{and_comm as and_turn}
use lib.Bits.{bit_and, bit_or}
use Rattle.std.specs.Int.{bit_at}
use Rattle.std.proofs.lemmas.Bool.{ne_eqb, false≢true}
use Rattle.std.proofs.lemmas.Nat.Bits.{bit_at-lt, bit_at-zero, bit_at-suc, bit_at_and, bit_at_or, same_from_bits_below}
use Rattle.regular.specs.Positions.{some_below}
use Rattle.regular.specs.Sets.{bit, followed}

-- a law of two binary digits, by its four cases
digits : (P : ℕ → ℕ → Type 0) → P 0 0 → P 0 1 → P 1 0 → P 1 1 → (x y : ℕ) → x < 2 → y < 2 → P x y
digits P a b c d zero zero l k = a
digits P a b c d zero (suc zero) l k = b
digits P a b c d (suc zero) zero l k = c
digits P a b c d (suc zero) (suc zero) l k = d
digits P a b c d zero (suc (suc y)) l k = absurd (omega arith)
digits P a b c d (suc zero) (suc (suc y)) l k = absurd (omega arith)
digits P a b c d (suc (suc x)) y l k = absurd (omega arith)

pub bit_of_or : (a b q : ℕ) → bit (bit_or a b) q ≡ bit a q || bit b q
bit_of_or a b q = ap (λ x. eqb x 1) (bit_at_or a b q) ∙ digits (λ x y. eqb (max x y) 1 ≡ eqb x 1 || eqb y 1) refl refl refl refl (bit_at a q) (bit_at b q) (bit_at-lt a q) (bit_at-lt b q)

pub bit_of_and : (a b q : ℕ) → bit (bit_and a b) q ≡ bit a q && bit b q
bit_of_and a b q = ap (λ x. eqb x 1) (bit_at_and a b q) ∙ digits (λ x y. eqb (min x y) 1 ≡ eqb x 1 && eqb y 1) refl refl refl refl (bit_at a q) (bit_at b q) (bit_at-lt a q) (bit_at-lt b q)

pub bit_zero : (q : ℕ) → bit 0 q ≡ false
bit_zero q = ap (λ x. eqb x 1) (bit_at-zero q)

pub bit_suc : (a q : ℕ) → bit a (suc q) ≡ bit (a / 2) q
bit_suc a q = ap (λ x. eqb x 1) (bit_at-suc a q)

pub bit_one : (q : ℕ) → bit 1 q ≡ eqb q 0
bit_one zero = refl
bit_one (suc q) = bit_suc 1 q ∙ bit_zero q ∙ sym (ne_eqb (suc q) 0 (λ e. omega arith))

-- sets with the same members are equal
pub same_bits : (n a b : ℕ) → a < 2 ^ n → b < 2 ^ n → ((q : ℕ) → q < n → bit a q ≡ bit b q) → a ≡ b
same_bits n a b l k f =
    same_from_bits_below n a b l k
    (λ q h. digits (λ x y. eqb x 1 ≡ eqb y 1 → x ≡ y) (λ _. refl) (λ e. absurd (false≢true e)) (λ e. absurd (false≢true (sym e))) (λ _. refl) (bit_at a q) (bit_at b q) (bit_at-lt a q) (bit_at-lt b q) (f q h))

pub some_below_like : (n : ℕ) (f g : ℕ → Bool) → ((p : ℕ) → p < n → f p ≡ g p) → some_below n f ≡ some_below n g
some_below_like zero f g e = refl
some_below_like (suc n) f g e = ap₂ ◌||◌ (e n (omega arith)) (some_below_like n f g (λ p l. e p (omega arith)))

-- the union has what some row of the set has
pub followed_bits : (rows : List ℕ) (s q n : ℕ) → bit (followed rows s n) q ≡ some_below n (λ p. bit s p && bit (get_or rows p 0) q)
followed_bits rows s q zero = bit_zero q
followed_bits rows s q (suc n) = go (bit s n) ∙ ap (λ b. (bit s n && bit (get_or rows n 0) q) || b) (followed_bits rows s q n)
  where
    go : (b : Bool) → bit (cond b (bit_or (followed rows s n) (get_or rows n 0)) (followed rows s n)) q ≡ (b && bit (get_or rows n 0) q) || bit (followed rows s n) q
    go true = bit_of_or (followed rows s n) (get_or rows n 0) q ∙ or_comm (bit (followed rows s n) q) (bit (get_or rows n 0) q)
    go false = refl
