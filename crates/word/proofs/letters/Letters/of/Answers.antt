use Rattle.std.proofs.Common.{ℕ, length, ap, arith, length-append}
use Rattle.plain_word.proofs.Plain.{long_enough}
use Rattle.word.proofs.letters.Letters.of.Goals as goal

pub invariant_of-result : goal.invariant_of-result
invariant_of-result c =
    let x = c.args.expression.now in
    let (w, e, items) = c.in_ok-spell.ensures in
    let long = long_enough x.tree w x.exact e x.few in
    let same = ap length c.new-list.ensures.items in
    (omega (arith, ap length items, length-append {A = ℕ}), omega (arith, ap length items, length-append {A = ℕ}))
