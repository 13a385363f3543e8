use Rattle.regular.proofs.Jumps.{jump_bounded}
use Rattle.regular.proofs.jumps_are_bounded.Goals as goal

pub returns : goal.returns
returns c = jump_bounded
