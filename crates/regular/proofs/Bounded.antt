-- That every code of an expression is below a bound says no more than that it is so. Assumes nothing.
use Rattle.std.proofs.Common.{ℕ}
use Rattle.std.specs.Coded.{×_prop, Π_prop, le_prop}
use Rattle.regular.specs.Language.{Regex, one, join, either, star, plus, maybe, Within}

pub within_prop : (codes : ℕ) (r : Regex) → IsProp (Within codes r)
within_prop codes (one s) = Π_prop (λ c. Π_prop (λ _. le_prop))
within_prop codes (join a b) = ×_prop (within_prop codes a) (within_prop codes b)
within_prop codes (either a b) = ×_prop (within_prop codes a) (within_prop codes b)
within_prop codes (star a) = within_prop codes a
within_prop codes (plus a) = within_prop codes a
within_prop codes (maybe a) = within_prop codes a
