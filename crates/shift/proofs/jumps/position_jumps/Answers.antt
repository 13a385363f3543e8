use Rattle.std.proofs.Common.{length, vec_items, refl}
use Rattle.syntax.specs.Tree.{language}
use Rattle.syntax.proofs.Filled.{full_inhabited}
use Rattle.shift.proofs.Final.{all_right}
use Rattle.shift.proofs.jumps.position_jumps.Goals as goal

pub returns : goal.returns
returns c =
    let e = c.args.engine.now.expression in
    let arrows = c.arrows-arrows.result.now in
    all_right (language e.tree) e.few (full_inhabited e.tree e.full) e.within c.in_ok-tails.tails c.in_ok-tails.ensures
    arrows c.in_ok-pieces.pieces (length arrows) (vec_items c.in_ok-jumps.jumps) c.arrows-arrows.ensures c.in_ok-pieces.ensures refl c.in_ok-jumps.ensures
