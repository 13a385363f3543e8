use Rattle.lines.proofs.Digits.{Read}
use Rattle.lines.proofs.decimal.Given as goal

abbrev pub invariant-loop-digit : goal.invariant-loop-digit
invariant-loop-digit l = Read l.limit l.bytes l.digit-index l.n
