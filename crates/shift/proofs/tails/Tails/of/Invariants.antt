use Rattle.std.proofs.Common.{◌≡◌, ◌≤◌, map, drop, length, vec_items}
use Rattle.distance.specs.Found.{tails}
use Rattle.syntax.specs.Tree.{language}
use Rattle.shift.specs.Led.{all_codes, led, listed}
use Rattle.shift.proofs.tails.Tails.of.Given as goal

abbrev pub invariant-loop-depth : goal.invariant-loop-depth
invariant-loop-depth l =
    let r = language l.engine.expression.tree in record {
      list : vec_items l.list ≡ map (led r) (listed r l.depth);
      level : drop l.full (vec_items l.list) ≡ map (led r) (tails r (all_codes r) l.depth);
      full_in : l.full ≤ length (vec_items l.list);
      few : length (listed r l.depth) ≤ 256;
    }
