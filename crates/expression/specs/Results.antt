-- The tree that was read, or the fault. Assumes nothing.
use Rattle.std.specs.Prelude.{Ok, Err, Result}
use Rattle.refusal.specs.declared.Fault.{Fault}
use Rattle.syntax.specs.declared.tree.Node.{Node}
use Rattle.expression.specs.declared.expression.Expression.{Expression}

abbrev pub tree_of : Result Expression Fault → Result Node Fault
tree_of (Ok e) = Ok e.tree
tree_of (Err f) = Err f
