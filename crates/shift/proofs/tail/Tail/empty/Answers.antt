use Rattle.std.proofs.Common.{ap₂}
use Rattle.shift.proofs.tail.Tail.empty.Goals as goal

pub returns : goal.returns
returns c r = ap₂ (λ v s. record { codes = v; positions = s }) c.new.ensures.items c.only.ensures
