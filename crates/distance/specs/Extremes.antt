-- The least and the greatest number that has a property, and distances, which may be infinite. Assumes nothing.
use Rattle.std.specs.Prelude.{ℕ, ◌≤◌, min}

abbrev pub Least : (ℕ → Type 0) → ℕ → Type 0
Least P n = P n × ((i : ℕ) → P i → n ≤ i)

abbrev pub Greatest : (ℕ → Type 0) → ℕ → Type 0
Greatest P n = P n × ((i : ℕ) → P i → i ≤ n)

-- a distance is a number or infinite
pub data Distance : Type 0 where
  infinite : Distance
  finite : ℕ → Distance

abbrev pub lesser : Distance → Distance → Distance
lesser infinite e = e
lesser (finite m) infinite = finite m
lesser (finite m) (finite n) = finite (min m n)

-- the least number that has the property, infinite if none has
abbrev pub LeastIfAny : (ℕ → Type 0) → Distance → Type 0
LeastIfAny P infinite = (n : ℕ) → P n → ⊥
LeastIfAny P (finite n) = Least P n
