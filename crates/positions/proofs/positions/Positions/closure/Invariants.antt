-- What `closure` keeps as it follows the rows on. Assumes nothing.
use Rattle.std.proofs.Common.{◌≡◌, ℕ, ◌-◌, ◌^◌}
use Rattle.positions.specs.Closure.{spread}
use Rattle.positions.proofs.positions.Positions.closure.Given as goal

abbrev pub invariant-loop-next : goal.invariant-loop-next
invariant-loop-next l = (n : ℕ) × (l.all ≡ spread l.rows l.fn.self n)

abbrev pub decreases-loop-next : goal.decreases-loop-next
decreases-loop-next l = 2 ^ 64 - l.all
