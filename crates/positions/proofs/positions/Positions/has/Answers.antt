-- `has` meets its contract. Assumes nothing.
use Rattle.std.proofs.Common.{◌<◌, ◌^◌}
use Rattle.std.proofs.lemmas.Bool.{le-ltb}
use Rattle.std.proofs.lemmas.Nat.Bits.{bit_at_above}
use Rattle.positions.proofs.positions.Positions.has.Goals as goal

pub returns-else-position-lt64 : goal.returns-else-position-lt64
returns-else-position-lt64 c = let l : c.self.inside.bits < 2 ^ 64 = c.self.invariant in rw (le-ltb c.args.position 64 c.if-position-lt64.false, ← c.self.view_is, bit_at_above c.self.inside.bits 64 c.args.position l c.if-position-lt64.false)
