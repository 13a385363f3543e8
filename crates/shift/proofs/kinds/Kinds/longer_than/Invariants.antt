use Rattle.std.proofs.Common.{◌≡◌, ◌≤◌, map, take, vec_items, vec_len}
use Rattle.syntax.specs.Tree.{language}
use Rattle.shift.specs.Led.{led, longer_by_one, words}
use Rattle.shift.proofs.kinds.Kinds.longer_than.Given as goal

abbrev pub invariant-loop-tail : goal.invariant-loop-tail
invariant-loop-tail l =
    let r = language l.self.engine.now.expression.tree in record {
      list : vec_items l.list ≡ map (led r) (longer_by_one r (words (take l.tail-index l.level)));
      few : vec_len l.list ≤ l.room;
    }
