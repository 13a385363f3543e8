use Rattle.std.proofs.Common.{ℕ, ◌<◌}
use Rattle.label.specs.Labels.{entry, Sound}
use Rattle.label.proofs.header.Header.check.Given as goal

-- the entries so far are sound
abbrev pub invariant-loop-i : goal.invariant-loop-i
invariant-loop-i l = (k : ℕ) → k < l.i → Sound l.self.label.now (entry l.self.label.now k)
