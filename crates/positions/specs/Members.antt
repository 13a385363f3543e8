-- The positions of a set, in ascending order. Assumes nothing.
use Rattle.std.specs.Prelude.{ℕ, zero, suc, cond, List, [], ◌∷◌, ◌++◌}
use Rattle.regular.specs.Sets.{bit}

-- of those below n
abbrev pub members_below : ℕ → ℕ → List ℕ
members_below s zero = []
members_below s (suc n) = members_below s n ++ cond (bit s n) (n ∷ []) []

unfoldable pub members : ℕ → List ℕ
members s = members_below s 64
