use Rattle.std.proofs.Common.{length, vec_items}
use Rattle.script.proofs.Taking.{Leads}
use Rattle.script.proofs.scripts.read_calls.Given as goal

abbrev pub invariant-loop-line : goal.invariant-loop-line
invariant-loop-line l = Leads l.bytes (vec_items l.calls) l.rest

abbrev pub decreases-loop-line : goal.decreases-loop-line
decreases-loop-line l = length l.rest
