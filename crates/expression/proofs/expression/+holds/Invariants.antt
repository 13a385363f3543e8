-- What falls as `holds` is called on the parts of a tree. Assumes nothing.
use Rattle.syntax.proofs.tree.Node.TheLaws.{the_size}
use Rattle.expression.proofs.expression.+holds.Given as goal

abbrev pub decreases-holds : goal.decreases-holds
decreases-holds l = the_size l.node.now
