use Rattle.std.proofs.Common.{length}
use Rattle.shift.proofs.tails.Tails.+second.Given as goal

abbrev pub decreases-second : goal.decreases-second
decreases-second l = length l.word.now
