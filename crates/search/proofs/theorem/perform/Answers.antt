use Rattle.std.proofs.Common.{ℕ, List, map, length, get_or, take, vec_items, sym, ◌∙◌, subst, subst₂, arith}
use Rattle.std.proofs.lemmas.List.{get_or_default}
use Rattle.search.specs.ListTheorem.{SetAside, ListTheorem}
use Rattle.search.specs.Performing.{named, CalledBy}
use Rattle.search.specs.declared.numbers.Call.{Call}
use Rattle.search.proofs.Making.{made_more, made_all}
use Rattle.search.proofs.theorem.perform.Goals as goal

pub loop-call-preserved : goal.loop-call-preserved
loop-call-preserved g c =
    let shifts : ℕ → List ℕ → ℕ = λ i. g.E.Engine.shift (named c.args.engines.now c.args.spare.now i) in
    let code = g.S.Symbol.code in
    let l = c.loop-call in
    let x : Call = get_or c.args.calls.now l.call-index (Call.Step 0) in
    record {
      text = c.call.ensures.text ∙ l.invariant.text;
      count = omega (arith, c.push_reserved.ensures.len);
      room = omega (arith, c.push_reserved.ensures.capacity);
      made = λ r all.
          let made = l.invariant.made r all in
          let by = subst (λ z. SetAside r (map code z.now) l.search.numbers (take l.search.numbers.filled l.table) → CalledBy r (map code z.now) shifts x l.search.numbers c.call.new.self.numbers l.table c.call.new.table c.call.result) l.invariant.text (c.call.ensures.by r all) in
          made_more r _ shifts c.args.calls.now (length c.args.table.now) c.args.table.now l.call-index l.search.numbers c.call.new.self.numbers l.table c.call.new.table _ _ x c.call.result made l.auto.table c.loop-call-test.true
          (get_or_default c.args.calls.now l.call-index (Call.Step 0) x c.loop-call-test.true) (by made.aside) c.push_reserved.ensures.items;
    }

pub returns : goal.returns
returns g c =
    let opened = c.in_ok-search.ensures in
    let shifts : ℕ → List ℕ → ℕ = λ i. g.E.Engine.shift (named c.args.engines.now c.args.spare.now i) in
    let l = c.loop-call in
    record {
      short = opened.0;
      theorem = λ r all.
          let whole = made_all r (map g.S.Symbol.code c.in_ok-search.search.text.now) shifts c.args.calls.now c.args.table.now l.table l.call-index l.search.numbers (vec_items l.answers) (l.invariant.made r all) (omega arith) in
          subst₂ (λ z k. ListTheorem r (map g.S.Symbol.code z.now) shifts c.args.calls.now c.args.table.now l.table k (vec_items l.answers)) opened.1 (sym c.numbers.ensures) whole;
    }
