use Rattle.std.proofs.Common.{◌≡◌, not, length, vec_items, sym, ap, ◌∙◌, arith}
use Rattle.regular.proofs.Sets.{length_held}
use Rattle.distance.specs.Found.{first_alike}
use Rattle.syntax.specs.Tree.{language}
use Rattle.shift.proofs.SameKind.{first_by, kinds_yes, kinds_no}
use Rattle.shift.proofs.kinds.Kinds.of.Goals as goal
use Rattle.shift.proofs.kinds.Kinds.of.Goals.{Joined-not-contains, then-not-contains+in_ok-push, else-not-contains}

pub overflow_cast-code : goal.overflow_cast-code
overflow_cast-code c = omega (arith, ap length c.held-held.ensures, length_held (language c.args.engine.now.expression.tree))

told : (c : Joined-not-contains) → not c.contains.result ≡ first_alike (language c.args.engine.now.expression.tree) c.loop-code.code c.loop-code.code
told c =
    let e = c.args.engine.now in
    ap not c.contains.ensures.value
    ∙ first_by (language e.expression.tree) e.expression.few c.held-held.result.now c.loop-code.code c.index-held-code.result c.held-held.ensures
    (omega (arith, ap length c.held-held.ensures, length_held (language e.expression.tree)))
    c.index-held-code.is

pub loop-code-preserved : goal.loop-code-preserved
loop-code-preserved c =
    let r = language c.args.engine.now.expression.tree in
    elim c.if-not-contains.branch [
      | then-not-contains+in_ok-push w ↦
          ap vec_items w.codes-is ∙ w.in_ok-push.ensures.items ∙ kinds_yes r (vec_items c.loop-code.codes) c.loop-code.code c.loop-code.invariant (sym (told c) ∙ ap not w.if-not-contains.true)
      | else-not-contains w ↦ ap vec_items w.codes-is ∙ kinds_no r (vec_items c.loop-code.codes) c.loop-code.code c.loop-code.invariant (sym (told c) ∙ ap not w.if-not-contains.false)
    ]
