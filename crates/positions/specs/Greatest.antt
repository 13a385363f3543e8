-- The greatest of the numbers that a set's positions have. Assumes nothing.
use Rattle.std.specs.Prelude.{ℕ, zero, suc, max, cond, List, slice_index}
use Rattle.regular.specs.Sets.{bit}

-- of those of the first n positions that are in the set, and at least 1
abbrev pub greatest_in : List ℕ → ℕ → ℕ → ℕ
greatest_in jumps s zero = 1
greatest_in jumps s (suc n) = cond (bit s n) (max (greatest_in jumps s n) (slice_index jumps n)) (greatest_in jumps s n)
