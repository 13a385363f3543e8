use Rattle.std.proofs.Common.{◌≡◌, ◌+◌, map}
use Rattle.search.proofs.Leftward.{On, Counted}
use Rattle.search.proofs.walks.Spot.walk.Given as goal

abbrev pub invariant-walk : goal.invariant-walk
invariant-walk g l =
    On (g.E.Engine.expression l.self.engine.now) (map g.S.Symbol.code l.self.text.now) l.self.place (g.E.Engine.after l.self.engine.now) l.at l.state
    × Counted (g.E.Engine.expression l.self.engine.now) (map g.S.Symbol.code l.self.text.now) l.self.place l.at l.count
    × (l.reads + l.at ≡ l.self.place)
