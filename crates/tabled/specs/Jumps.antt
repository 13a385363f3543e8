-- How far the tabled engine jumps. Assumes nothing.
use Rattle.std.specs.Prelude.{ℕ, List, length}
use Rattle.regular.specs.Language.{Regex}
use Rattle.regular.specs.Positions.{reached}
use Rattle.regular.specs.Sets.{as_set}
use Rattle.positions.specs.Greatest.{greatest_in}

-- the greatest of the numbers of the positions that v leads to, and at least 1
abbrev pub greatest_of : Regex → List ℕ → List ℕ → ℕ
greatest_of r jumps v = greatest_in jumps (as_set (reached r v)) (length jumps)
