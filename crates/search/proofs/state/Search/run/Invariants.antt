use Rattle.std.proofs.Common.{◌≡◌, ◌-◌, map}
use Rattle.search.proofs.Running.{Runs}
use Rattle.search.proofs.state.Search.run.Given as goal

abbrev pub invariant-loop-self : goal.invariant-loop-self
invariant-loop-self g l =
    (l.self.text ≡ l.initial.self.text)
    × Runs (g.E.Engine.expression l.engine) (g.E.Engine.shift l.engine) (map g.S.Symbol.code l.initial.self.text.now) l.initial.self.numbers l.initial.table l.budget l.done l.self.numbers l.table

abbrev pub decreases-loop-self : goal.decreases-loop-self
decreases-loop-self g l = l.budget - l.done
