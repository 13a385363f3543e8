-- What falls as `size` is called on the parts of a tree. Assumes nothing.
use Rattle.syntax.proofs.tree.Node.TheLaws.{the_size}
use Rattle.expression.proofs.expression.+size.Given as goal

abbrev pub decreases-size : goal.decreases-size
decreases-size l = the_size l.node.now
