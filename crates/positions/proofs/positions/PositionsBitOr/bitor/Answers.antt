-- `|` gives a set of positions. Assumes nothing.
use lib.Bits.{or_lt}
use Rattle.positions.proofs.positions.PositionsBitOr.bitor.Goals as goal

pub invariant_of-result : goal.invariant_of-result
invariant_of-result c = or_lt 64 c.self.inside.bits c.other.inside.bits c.self.invariant c.other.invariant
