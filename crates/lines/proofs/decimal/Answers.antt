use Rattle.std.proofs.Common.{arith}
use Rattle.lines.proofs.Digits.{read_more, no_digit, too_great}
use Rattle.lines.proofs.decimal.Goals as goal

pub loop-digit-preserved : goal.loop-digit-preserved
loop-digit-preserved c =
    let (low, high) = c.if-not-is_ascii_digit.ensures.cases in
    read_more c.args.limit c.args.bytes.now c.loop-digit.digit-index c.loop-digit.n c.from.result c.loop-digit.invariant c.loop-digit-test.true c.from.ensures low high (omega arith)

pub returns-then-not-is_ascii_digit : goal.returns-then-not-is_ascii_digit
returns-then-not-is_ascii_digit c = no_digit c.args.limit c.args.bytes.now c.loop-digit.digit-index c.loop-digit-test.true c.if-not-is_ascii_digit.ensures.cases

pub returns-then-n-from : goal.returns-then-n-from
returns-then-n-from c = too_great c.args.limit c.args.bytes.now c.loop-digit.digit-index c.loop-digit.n c.from.result c.loop-digit.invariant c.loop-digit-test.true c.from.ensures (omega arith)
