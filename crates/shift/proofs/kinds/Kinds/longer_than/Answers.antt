use Rattle.std.proofs.Common.{◌+◌, length, map, vec_items, take, ap, ◌∙◌, arith}
use Rattle.std.proofs.lemmas.List.{take_all, length-map}
use Rattle.syntax.specs.Tree.{language}
use Rattle.shift.specs.Led.{led, longer_by_one, words}
use Rattle.shift.proofs.Longer.{led_at, word_more, word_most}
use Rattle.shift.proofs.kinds.Kinds.longer_than.Goals as goal

pub add_longer-requires : goal.add_longer-requires
add_longer-requires c = led_at (language c.args.self.now.engine.now.expression.tree) c.args.level.now c.requires c.loop-tail.tail-index c.tail-item.result c.tail-item.is c.loop-tail-test.true

pub loop-tail-preserved : goal.loop-tail-preserved
loop-tail-preserved c = record {
  list = word_more (language c.args.self.now.engine.now.expression.tree) c.args.level.now c.loop-tail.tail-index c.tail-item.result c.tail-item.is c.loop-tail-test.true
      (vec_items c.loop-tail.list) (vec_items c.add_longer.new.list) c.loop-tail.invariant.list c.in_ok-add_longer.ensures;
  few = omega arith;
}

pub returns-then-len-room : goal.returns-then-len-room
returns-then-len-room c =
    let r = language c.args.self.now.engine.now.expression.tree in
    let ts = c.args.level.now in
    let i = c.loop-tail.tail-index in
    let more = word_more r ts i c.tail-item.result c.tail-item.is c.loop-tail-test.true (vec_items c.loop-tail.list) (vec_items c.add_longer.new.list) c.loop-tail.invariant.list c.in_ok-add_longer.ensures in
    omega (arith, ap length more, length-map (longer_by_one r (words (take (i + 1) ts))) (led r), word_most r ts i c.tail-item.result c.tail-item.is c.loop-tail-test.true, c.len.ensures, c.if-len-room.true, c.add_longer.new.list.ok)

pub returns : goal.returns
returns c =
    let r = language c.args.self.now.engine.now.expression.tree in
    (c.loop-tail.invariant.list ∙ ap (λ z. map (led r) (longer_by_one r (words z))) (take_all c.loop-tail.tail-index c.args.level.now c.loop-tail-test.false), c.loop-tail.invariant.few)
