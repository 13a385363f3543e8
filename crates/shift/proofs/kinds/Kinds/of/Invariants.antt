use Rattle.std.proofs.Common.{◌≡◌, vec_items}
use Rattle.distance.specs.Found.{kinds}
use Rattle.syntax.specs.Tree.{language}
use Rattle.shift.proofs.kinds.Kinds.of.Given as goal

abbrev pub invariant-loop-code : goal.invariant-loop-code
invariant-loop-code l = vec_items l.codes ≡ kinds (language l.engine.expression.tree) l.code
