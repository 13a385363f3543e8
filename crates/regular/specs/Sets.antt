-- Sets of positions as numbers, and the tables of an expression. Assumes nothing.
use Rattle.std.specs.Prelude.{ℕ, zero, suc, ◌+◌, ◌*◌, ◌/◌, ◌%◌, ◌^◌, Bool, cond, List, [], ◌∷◌, ◌++◌, ◌==◌, bit_or, slice_index}
use Rattle.regular.specs.Language.{Regex}
use Rattle.regular.specs.Positions.{size, holds, arrow}

-- q is in the set
abbrev pub bit : ℕ → ℕ → Bool
bit s q = s / 2 ^ q % 2 == 1

-- the union of the first n rows that the set has
abbrev pub followed : List ℕ → ℕ → ℕ → ℕ
followed rows s zero = 0
followed rows s (suc n) = cond (bit s n) (bit_or (followed rows s n) (slice_index rows n)) (followed rows s n)

-- the set of the first n positions that pass
abbrev pub set_of : ℕ → (ℕ → Bool) → ℕ
set_of zero f = 0
set_of (suc n) f = cond (f 0) 1 0 + 2 * set_of n (λ q. f (suc q))

unfoldable pub as_set : (ℕ → Bool) → ℕ
as_set f = set_of 64 f

-- f at each number below n
abbrev pub row : ℕ → (ℕ → ℕ) → List ℕ
row zero f = []
row (suc n) f = row n f ++ (f n ∷ [])

abbrev pub arrows_of : Regex → List ℕ
arrows_of r = row (size r + 1) (λ p. as_set (arrow r p))

unfoldable pub held_of : Regex → List ℕ
held_of r = row 256 (λ c. as_set (λ q. holds r 0 q c))
