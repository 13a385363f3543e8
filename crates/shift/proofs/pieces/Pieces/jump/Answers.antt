use Rattle.std.proofs.Common.{arith}
use Rattle.shift.proofs.Final.{fold_most}
use Rattle.shift.proofs.pieces.Pieces.jump.Goals as goal

pub overflow_cast-result : goal.overflow_cast-result
overflow_cast-result c = omega (arith, c.least_distance.ensures, fold_most)
