use Rattle.std.proofs.Common.{◌≡◌, map, refl, ap, ◌∙◌, arith}
use lib.ListN.{length-map}
use Rattle.regular.specs.Matches.{starting}
use Rattle.search.proofs.Leftward.{on_start, on_more, none_left}
use Rattle.search.proofs.Writing.{put_start, put_room, put_turn, put_end}
use Rattle.search.proofs.walks.Spot.write.Goals as goal

pub put-free-requires : goal.put-free-requires
put-free-requires g c =
    let s = c.args.self.now in
    let on = on_start _ _ s.place (g.E.Engine.after s.engine.now) (g.met.E.Engine.inhabited s.engine.now) _ c.start-state.ensures in
    put_room _ _ _ _ _ _ _ _ (put_start _ _ _ c.args.room.now) refl _ _ on c.requires c.is_final.result c.is_final.ensures

pub walk-init : goal.walk-init
walk-init g c =
    let s = c.args.self.now in
    let on = on_start _ _ s.place (g.E.Engine.after s.engine.now) (g.met.E.Engine.inhabited s.engine.now) _ c.start-state.ensures in
    (on, put_turn _ _ _ _ _ _ _ _ (put_start _ _ _ c.args.room.now) refl _ _ on c.requires c.is_final.result c.is_final.ensures refl _ _ c.put-free.ensures)

pub put-free-requires-in-walk : goal.put-free-requires-in-walk
put-free-requires-in-walk g c is =
    let s = c.args.self.now in
    let (was, put) = c.walk.invariant in
    let on = on_more _ _ s.place (g.E.Engine.after s.engine.now) _ _ was (omega arith) (simp length-map s.inside) c.in-Some.longer c.in-Some.ensures in
    let free = put_room _ _ _ _ _ _ _ _ put (omega arith) _ _ on c.requires c.is_final-in-walk.result c.is_final-in-walk.ensures is in
    omega (arith, c.walk.auto.room)

pub walk-preserved : goal.walk-preserved
walk-preserved g c =
    let s = c.args.self.now in
    let (was, put) = c.walk.invariant in
    let on = on_more _ _ s.place (g.E.Engine.after s.engine.now) _ _ was (omega arith) (simp length-map s.inside) c.in-Some.longer c.in-Some.ensures in
    (on, put_turn _ _ _ _ _ _ _ _ put (omega arith) _ _ on c.requires c.is_final-in-walk.result c.is_final-in-walk.ensures (c.walk.auto.room ∙ c.put-free.auto.room) _ _ c.put-free-in-walk.ensures)

pub returns-in-None : goal.returns-in-None
returns-in-None g c =
    let s = c.args.self.now in
    let (on, put) = c.walk.invariant in
    put_end _ _ s.place c.args.room.now _ _ _ put (none_left _ _ _ (g.E.Engine.after s.engine.now) _ _ on (omega arith) (simp length-map s.inside) c.in-None.ensures)

pub returns-after-walk : goal.returns-after-walk
returns-after-walk g c =
    let s = c.args.self.now in
    let over : c.walk.start ≡ 0 = omega arith in
    put_end _ _ s.place c.args.room.now _ _ _ c.walk.invariant.1 (ap (starting (g.E.Engine.expression s.engine.now) (map g.S.Symbol.code s.text.now) s.place) over)
