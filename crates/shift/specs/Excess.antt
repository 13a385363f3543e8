-- How much longer one word is than another, and numbers as distances. Assumes nothing.
use Rattle.std.specs.Prelude.{ℕ, ◌-◌, ◌&&◌, List, length, Some, None, Option, nat_lt}
use Rattle.std.specs.Bool.{then_some}
use Rattle.distance.specs.Extremes.{Distance, infinite, finite}
use Rattle.distance.specs.Found.{head_of}

-- how much longer w is than a proper head v of it
abbrev pub excess_of : List ℕ → List ℕ → Option ℕ
excess_of v w = then_some (head_of v w && nat_lt (length v) (length w)) (length w - length v)

abbrev pub distance : Option ℕ → Distance
distance None = infinite
distance (Some n) = finite n
