use Rattle.std.proofs.Common.{map}
use Rattle.search.proofs.Leftward.{On}
use Rattle.search.proofs.Writing.{Put}
use Rattle.search.proofs.walks.Spot.write.Given as goal

abbrev pub invariant-walk : goal.invariant-walk
invariant-walk g l =
    On (g.E.Engine.expression l.self.engine.now) (map g.S.Symbol.code l.self.text.now) l.self.place (g.E.Engine.after l.self.engine.now) l.start l.state
    × Put (g.E.Engine.expression l.self.engine.now) (map g.S.Symbol.code l.self.text.now) l.self.place l.fn.room l.start l.free l.room
