-- What `link` keeps as it goes over the positions. Assumes nothing.
use Rattle.single.proofs.Linked.{Linked}
use Rattle.single.proofs.fill.link.Given as goal

abbrev pub invariant-loop-p : goal.invariant-loop-p
invariant-loop-p l = Linked l.initial.rows l.rows l.set l.yielded
