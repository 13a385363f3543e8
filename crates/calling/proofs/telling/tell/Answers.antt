use Rattle.std.proofs.Common.{length, ap, sym, subst, arith}
use Rattle.std.proofs.lemmas.List.{with_items_is}
use Rattle.making.specs.Outcomes.{Makes}
use Rattle.calling.specs.Told.{Tells}
use Rattle.calling.specs.Messages.{result_text}
use Rattle.calling.proofs.Tells.{result_told}
use Rattle.calling.proofs.telling.tell.Goals as goal

pub returns : goal.returns
returns c =
    let script = c.args.script.now in
    let before = c.deref_mut.result.now in
    let after = c.make-outcome.new.table in
    let result = c.make-outcome.result in
    let made = subst (λ calls. Makes script.expression.now script.text.now calls before after result) c.deref.ensures.value c.make-outcome.ensures in
    subst (λ told. Tells script.expression.now script.size script.calls.items script.text.now (result_text result told))
    (sym (with_items_is c.in_ok-table.table after (omega (arith, c.make-outcome.auto.table, ap length c.deref_mut.ensures.value, c.in_ok-table.table.ok))))
    (result_told script.expression.now script.size script.calls.items script.text.now before after result (omega (arith, ap length c.deref_mut.ensures.value, c.in_ok-table.ensures.len, c.in_ok-table.table.ok)) made)
