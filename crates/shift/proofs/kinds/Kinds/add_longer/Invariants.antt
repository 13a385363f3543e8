use Rattle.std.proofs.Common.{◌≡◌, ◌++◌, map, take, vec_items}
use Rattle.std.specs.List.{flat_map}
use Rattle.syntax.specs.Tree.{language}
use Rattle.distance.specs.Found.{longer}
use Rattle.shift.specs.Led.{led}
use Rattle.shift.proofs.kinds.Kinds.add_longer.Given as goal

abbrev pub invariant-loop-code : goal.invariant-loop-code
invariant-loop-code l =
    let r = language l.self.engine.now.expression.tree in
    vec_items l.list ≡ vec_items l.initial.list ++ map (led r) (flat_map (longer r l.tail.codes) (take l.code-index l.code-items))
