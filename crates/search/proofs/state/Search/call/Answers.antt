use Rattle.std.proofs.Common.{rules, ◌≡◌, ℕ, List, sym, refl, subst}
use lib.ListN.{length-map}
use Rattle.regular.specs.Language.{Regex}
use Rattle.search.specs.Performing.{CalledBy}
use Rattle.search.specs.declared.numbers.Answer.{Answer}
use Rattle.search.specs.declared.numbers.Call.{Call}
use Rattle.search.specs.declared.numbers.Numbers.{Numbers}
use Rattle.search.proofs.Asides.{call_step, call_run, call_cleared, call_moved}
use Rattle.search.proofs.state.Search.call.Goals as goal

-- the call as its arm has it
as_is : {r : Regex} {t : List ℕ} {shifts : ℕ → List ℕ → ℕ} {k k' : Numbers} {table table' : List (ℕ × ℕ)} {a : Answer} {x y : Call} → x ≡ y → CalledBy r t shifts y k k' table table' a → CalledBy r t shifts x k k' table table' a
as_is {r = r} {t = t} {shifts = shifts} {k = k} {k' = k'} {table = table} {table' = table'} {a = a} e h = subst (λ z. CalledBy r t shifts z k k' table table' a) (sym e) h

pub returns-in-Step-clause-by : goal.returns-in-Step-clause-by
returns-in-Step-clause-by g c r all aside =
    as_is c.in-Step.is
    (call_step r _ g.E.Engine.expression g.E.Engine.shift g.met.E.Engine.inhabited g.met.E.Engine.skips c.args.engines.now c.args.spare.now all _ _ _ _ aside c.in-Step.engine c.pick.result.now c.pick.ensures c.step.result _ c.step.ensures.step c.map_or_else.ensures)

pub returns-in-Run-clause-by : goal.returns-in-Run-clause-by
returns-in-Run-clause-by g c r all aside =
    as_is c.in-Run.is
    (call_run r _ g.E.Engine.expression g.E.Engine.shift g.met.E.Engine.inhabited g.met.E.Engine.skips c.args.engines.now c.args.spare.now all _ _ _ _ aside c.in-Run.engine c.pick-in-Run.result.now c.pick-in-Run.ensures c.in-Run.budget c.run-done.result.0 c.run-done.result.1 c.run-done.ensures.run)

pub returns-in-Clear-clause-by : goal.returns-in-Clear-clause-by
returns-in-Clear-clause-by g c r all aside = as_is c.in-Clear.is (call_cleared r _ _ _ _ _ _ aside c.clear.result c.clear.ensures.count c.clear.ensures.after refl)

pub returns-in-Move-clause-by : goal.returns-in-Move-clause-by
returns-in-Move-clause-by g c r all aside =
    as_is c.in-Move.is
    (call_moved r _ _ _ _ _ _ aside c.in-Move.place _ (length-map c.args.self.now.text.now g.S.Symbol.code) refl c.move_to.result _ c.move_to.ensures.after (search rules))
