use Rattle.std.proofs.Common.{◌+◌, ◌-◌, map, arith}
use lib.ListN.{length-map}
use Rattle.regular.proofs.Endings.{ending_few}
use Rattle.search.proofs.Leftward.{On, Counted, Ended, on_start, on_more, count_start, count_more, ended_dead, ended_start}
use Rattle.search.proofs.walks.Spot.walk.Given as given
use Rattle.search.proofs.walks.Spot.walk.Goals as goal
use Rattle.search.proofs.walks.Spot.walk.Goals.{else-walk-test, then-walk-test+in-None}

pub walk-init : goal.walk-init
walk-init g c =
    let s = c.args.self.now in
    let r = g.E.Engine.expression s.engine.now in
    let i = g.met.E.Engine.inhabited s.engine.now in
    let on = on_start r (map g.S.Symbol.code s.text.now) s.place (g.E.Engine.after s.engine.now) i c.start-state.result c.start-state.ensures in
    (on, count_start r i _ s.place (g.E.Engine.after s.engine.now) c.start-state.result c.tally-count.result on c.tally-count.ensures, omega arith)

more : (g : given.Over) (c : goal.After-tally-count-in-walk g)
    → On (g.E.Engine.expression c.args.self.now.engine.now) (map g.S.Symbol.code c.args.self.now.text.now) c.args.self.now.place (g.E.Engine.after c.args.self.now.engine.now) (c.walk.at - 1) c.in-Some.longer
    × Counted (g.E.Engine.expression c.args.self.now.engine.now) (map g.S.Symbol.code c.args.self.now.text.now) c.args.self.now.place (c.walk.at - 1) (c.walk.count + c.tally-count-in-walk.result)
more g c =
    let s = c.args.self.now in
    let r = g.E.Engine.expression s.engine.now in
    let t = map g.S.Symbol.code s.text.now in
    let (was, counted, _) = c.walk.invariant in
    let on = on_more r t s.place (g.E.Engine.after s.engine.now) c.walk.at c.walk.state was (omega arith) (simp length-map s.inside) c.in-Some.longer c.in-Some.ensures in
    (on, count_more r (g.met.E.Engine.inhabited s.engine.now) t s.place (g.E.Engine.after s.engine.now) c.walk.at c.in-Some.longer c.walk.count c.tally-count-in-walk.result (omega arith) counted on c.tally-count-in-walk.ensures)

pub walk-preserved : goal.walk-preserved
walk-preserved g c = let (on, counted) = more g c in (on, counted, omega arith)

pub overflow_add-count : goal.overflow_add-count
overflow_add-count g c =
    let s = c.args.self.now in
    omega (arith, (more g c).1.counted, ending_few (g.E.Engine.expression s.engine.now) (map g.S.Symbol.code s.text.now) s.place)

pub returns : goal.returns
returns g c =
    let s = c.args.self.now in
    let r = g.E.Engine.expression s.engine.now in
    let t = map g.S.Symbol.code s.text.now in
    let i = g.met.E.Engine.inhabited s.engine.now in
    let (on, counted, read) = c.walk.invariant in
    let end : Ended r t s.place (g.E.Engine.after s.engine.now) c.walk.at c.walk.state c.walk.count =
    elim c.walk-test.branch [
      | else-walk-test w ↦ ended_start r i t s.place _ _ _ _ on counted (omega (arith, w.walk-test.false))
      | then-walk-test+in-None w ↦ ended_dead r i t s.place _ _ _ _ on counted (omega (arith, w.walk-test.true)) (simp length-map s.inside) w.in-None.ensures
    ] in
    let deep = end.deep in
    let count = end.counted in
    let few = ending_few r t s.place in
    record {
      count = count;
      jump = c.jump.ensures.value _ end.tail end.is;
      reads = elim c.walk-test.branch [ else-walk-test w ↦ omega (arith, w.reads-is, w.walk-test.false) | then-walk-test+in-None w ↦ omega (arith, w.reads-is, w.walk-test.true) ];
      forward = c.jump.ensures.forward;
      few = omega arith;
    }
