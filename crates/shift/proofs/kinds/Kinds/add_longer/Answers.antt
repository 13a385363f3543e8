use Rattle.std.proofs.Common.{◌≡◌, ◌∷◌, ◌++◌, [], length, map, get_or, vec_items, sym, ap, ap₂, ◌∙◌, arith}
use lib.Bits.{bit_and}
use Rattle.std.specs.List.{flat_map}
use Rattle.std.proofs.lemmas.Bool.{both_ways}
use Rattle.std.proofs.lemmas.Grind.{get_or_default_zero}
use Rattle.std.proofs.lemmas.List.{take_all}
use Rattle.regular.specs.Positions.{reached}
use Rattle.regular.specs.Sets.{as_set}
use Rattle.regular.proofs.Sets.{length_held, entered}
use Rattle.distance.specs.Found.{longer}
use Rattle.syntax.specs.Tree.{language}
use Rattle.shift.specs.Led.{led}
use Rattle.shift.proofs.Longer.{code_yes, code_no}
use Rattle.shift.proofs.kinds.Kinds.add_longer.Goals as goal
use Rattle.shift.proofs.kinds.Kinds.add_longer.Goals.{Joined-not-is_empty, then-not-is_empty+in_ok-preceded_by+in_ok-push, else-not-is_empty}

pub bounds-held-from : goal.bounds-held-from
bounds-held-from c = omega (arith, c.from.ensures, ap length c.held-held.ensures, length_held (language c.args.self.now.engine.now.expression.tree), c.type_inv.code-items c.loop-code.code-index)

-- the positions that the code and the tail lead to
entered_is : (c : Joined-not-is_empty) → c.bitand-positions.result ≡ as_set (reached (language c.args.self.now.engine.now.expression.tree) (get_or c.deref-code-items.result.now c.loop-code.code-index 0 ∷ c.args.tail.now.codes))
entered_is c =
    let e = c.args.self.now.engine.now.expression in
    let code = get_or c.deref-code-items.result.now c.loop-code.code-index 0 in
    let small = c.type_inv.code-items c.loop-code.code-index in
    entered (language e.tree) e.few c.args.tail.now.codes code c.positions.result c.bitand-positions.result c.arrows.result.now c.held-held.result.now
    (omega (arith, small)) (c.positions.ensures ∙ ap (λ t. t.positions) c.requires) c.arrows.ensures c.held-held.ensures
    (c.bitand-positions.ensures
    ∙ ap₂ bit_and c.follow-next.ensures (c.index-held-from.is ∙ ap (λ k. get_or c.held-held.result.now k c.index-held-from.result) c.from.ensures ∙ get_or_default_zero c.held-held.result.now code c.index-held-from.result (omega (arith, ap length c.held-held.ensures, length_held (language e.tree), small))))

pub loop-code-preserved : goal.loop-code-preserved
loop-code-preserved c =
    let e = c.args.self.now.engine.now.expression in
    let v = c.args.tail.now.codes in
    let ks = c.deref-code-items.result.now in
    let i = c.loop-code.code-index in
    let xs = vec_items c.loop-code.list in
    let ys = vec_items c.args.list.now in
    elim c.if-not-is_empty.branch [
      | then-not-is_empty+in_ok-preceded_by+in_ok-push w ↦
          ap vec_items w.list-is ∙ w.in_ok-push.ensures.items
          ∙ ap (λ t. xs ++ t ∷ []) (w.in_ok-preceded_by.ensures ∙ ap (λ s. record { codes = get_or ks i 0 ∷ v; positions = s }) (entered_is c))
          ∙ code_yes (language e.tree) e.few v ks i c.loop-code-test.true xs ys c.loop-code.invariant (λ z. both_ways c.is_empty.result w.if-not-is_empty.true (c.is_empty.ensures.1 (entered_is c ∙ z)))
      | else-not-is_empty w ↦
          ap vec_items w.list-is ∙ code_no (language e.tree) e.few v ks i c.loop-code-test.true xs ys c.loop-code.invariant (sym (entered_is c) ∙ c.is_empty.ensures.0 w.if-not-is_empty.false)
    ]

pub returns : goal.returns
returns c =
    let k = c.args.self.now in
    let r = language k.engine.now.expression.tree in
    let all = take_all c.loop-code.code-index c.deref-code-items.result.now c.loop-code-test.false ∙ c.deref-code-items.ensures.value ∙ k.all in
    c.loop-code.invariant ∙ ap (λ ks. vec_items c.args.list.now ++ map (led r) (flat_map (longer r c.args.tail.now.codes) ks)) all
