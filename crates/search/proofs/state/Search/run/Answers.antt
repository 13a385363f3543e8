use Rattle.std.proofs.Common.{◌≡◌, true, false, map, sym, ◌∙◌, subst, arith}
use Rattle.search.specs.Rules.{finished}
use Rattle.search.specs.Calls.{Stepped, Held}
use Rattle.search.proofs.Running.{runs_more, ends_finished, ends_budget, ends_room}
use Rattle.search.proofs.state.Search.run.Goals as goal

pub loop-self-preserved : goal.loop-self-preserved
loop-self-preserved g c =
    let e = c.args.engine.now in
    let (same, runs) = c.loop-self.invariant in
    let by = subst (λ x. Stepped (g.E.Engine.expression e) (g.E.Engine.shift e) (map g.S.Symbol.code x.now) c.loop-self.self.numbers c.step.new.self.numbers c.loop-self.table c.step.new.table c.in-Ok.field-0) same c.in-Ok.ensures.step in
    (c.step.ensures.text ∙ same, runs_more _ _ _ _ _ c.args.budget (g.met.E.Engine.inhabited e) (g.met.E.Engine.skips e) c.loop-self.done c.loop-self.self.numbers c.loop-self.table runs (omega (arith, runs.within, c.if-done-budget.false)) c.loop-self.auto.table _ _ _ by)

pub returns-then-is_behind-clause-run : goal.returns-then-is_behind-clause-run
returns-then-is_behind-clause-run g c =
    let (same, runs) = c.loop-self.invariant in
    ends_finished _ _ _ _ _ _ _ _ _ runs (subst (λ x. finished (map g.S.Symbol.code x.now) c.loop-self.self.numbers.next ≡ true) same (sym c.is_behind.ensures ∙ c.if-is_behind.true))

pub returns-then-done-budget-clause-run : goal.returns-then-done-budget-clause-run
returns-then-done-budget-clause-run g c =
    let (same, runs) = c.loop-self.invariant in
    ends_budget _ _ _ _ _ _ _ _ _ runs (subst (λ x. finished (map g.S.Symbol.code x.now) c.loop-self.self.numbers.next ≡ false) same (sym c.is_behind.ensures ∙ c.if-is_behind.false)) c.if-done-budget.true

pub returns-in-Err-clause-run : goal.returns-in-Err-clause-run
returns-in-Err-clause-run g c =
    let e = c.args.engine.now in
    let (same, runs) = c.loop-self.invariant in
    let by = subst (λ x. Held (g.E.Engine.expression e) (g.E.Engine.shift e) (map g.S.Symbol.code x.now) c.loop-self.self.numbers c.step.new.self.numbers c.loop-self.table c.step.new.table c.in-Err.field-0) same c.in-Err.ensures.step in
    let on = subst (λ x. finished (map g.S.Symbol.code x.now) c.loop-self.self.numbers.next ≡ false) same (sym c.is_behind.ensures ∙ c.if-is_behind.false) in
    ends_room _ _ _ _ _ _ _ _ _ runs on c.if-done-budget.false c.loop-self.auto.table _ _ _ by
