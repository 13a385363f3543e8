-- Unions of sets, also of such as are told by a test. Assumes nothing.
use Rattle.std.proofs.Common.{◌≡◌, ℕ, Bool, true, false, cond, ◌&&◌, ◌||◌, sym, ap, ◌∙◌, ap₂, arith}
use Rattle.std.proofs.lemmas.Nat.Bits.{bit_at_or, same_from_bits}
use lib.Bits.{bit_or, or_lt}
use mathlib.Core.Bool.{or_comm, and_comm}
use Rattle.std.proofs.Math.Bool.{or-false}
use Rattle.regular.specs.Sets.{as_set}
use Rattle.regular.proofs.Bits.{bit_of_or, bit_zero}
use Rattle.regular.proofs.Sets.{is_set, as_set_bit, as_set_below}

pub or_assoc : (a b c : ℕ) → bit_or (bit_or a b) c ≡ bit_or a (bit_or b c)
or_assoc a b c = same_from_bits _ _ (λ i. omega (arith, bit_at_or (bit_or a b) c i, bit_at_or a b i, bit_at_or a (bit_or b c) i, bit_at_or b c i))

pub same_set : (f g : ℕ → Bool) → ((q : ℕ) → f q ≡ g q) → as_set f ≡ as_set g
same_set f g e = ap as_set (λ i q. e q i)

pub union_set : (f g : ℕ → Bool) → bit_or (as_set f) (as_set g) ≡ as_set (λ q. f q || g q)
union_set f g =
    is_set (bit_or (as_set f) (as_set g)) (λ q. f q || g q) (or_lt 64 (as_set f) (as_set g) (as_set_below f) (as_set_below g))
    (λ q l. bit_of_or (as_set f) (as_set g) q ∙ ap₂ ◌||◌ (as_set_bit f q l) (as_set_bit g q l))

pub empty_set : 0 ≡ as_set (λ q. false)
empty_set = is_set 0 (λ q. false) (omega arith) (λ q l. bit_zero q)

-- a set, and another one where b says so
pub union_when : (b : Bool) (f g : ℕ → Bool) → cond b (bit_or (as_set f) (as_set g)) (as_set f) ≡ as_set (λ q. f q || (b && g q))
union_when true f g = union_set f g
union_when false f g = same_set f (λ q. f q || false) (λ q. sym (or-false (f q)))

-- .. the other way round
pub union_turned : (b : Bool) (f g : ℕ → Bool) → cond b (bit_or (as_set f) (as_set g)) (as_set f) ≡ as_set (λ q. (g q && b) || f q)
union_turned b f g = union_when b f g ∙ same_set (λ q. f q || (b && g q)) (λ q. (g q && b) || f q) (λ q. or_comm (f q) (b && g q) ∙ ap (λ x. x || f q) (and_comm b (g q)))

pub set_when : (b : Bool) (f : ℕ → Bool) → cond b (as_set f) 0 ≡ as_set (λ q. f q && b)
set_when true f = same_set f (λ q. f q && true) (λ q. and_comm true (f q))
set_when false f = empty_set ∙ same_set (λ q. false) (λ q. f q && false) (λ q. and_comm false (f q))
