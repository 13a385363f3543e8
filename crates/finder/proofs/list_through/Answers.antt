use Rattle.std.proofs.Common.{◌+◌, ◌<◌, ◌≤◌, map, length, vec_items, sym, refl, ap, ◌∙◌, arith}
use lib.ListN.{length-map}
use Rattle.std.proofs.lemmas.Result.{err_from_is_err_and}
use Rattle.search.specs.Calls.{fresh}
use Rattle.finder.specs.Listing.{long, no_memory}
use Rattle.finder.proofs.Going.{Going, going_start, filled_within, turned, all_found, stepped_on, refused_step}
use Rattle.finder.proofs.list_through.Given as given
use Rattle.finder.proofs.list_through.Goals as goal
use Rattle.finder.proofs.list_through.Goals.{In_ok-step}

pub returns-in_err-search : goal.returns-in_err-search
returns-in_err-search g c =
    let p = err_from_is_err_and c.from_residual.result c.from_residual.ensures.1 in
    let why = c.in_err-search.ensures in
    rw (p.1, p.2, why.1) (long (rw length-map why.0))

pub loop-listing-init : goal.loop-listing-init
loop-listing-init g c =
    let opened = c.in_ok-search.ensures in
    record { table = refl; text = ap (λ x. x.now) opened.1; going = rw (opened.2, c.new.ensures.items) (going_start _ _ _ _) }

pub take_over-requires : goal.take_over-requires
take_over-requires g c =
    let e = c.args.engine.now in
    let loop = c.loop-listing in
    let turn = turned (g.E.Engine.expression e) (g.E.Engine.shift e) (map g.S.Symbol.code c.args.text.now) (g.met.E.Engine.inhabited e) (g.met.E.Engine.skips e) (ap (map g.S.Symbol.code) loop.invariant.text) c.numbers.ensures loop.invariant.going c.run-stop.ensures.run in
    let now = c.run-stop.new.self in
    record {
      filled = filled_within _ _ _ turn.going;
      walks = omega (arith, loop.invariant.going.few, loop.search.inside, loop.search.short, ap (λ x. x.walks) c.numbers.ensures, now.few, now.inside, now.short);
      reads = omega (arith, loop.invariant.going.some, loop.search.inside, loop.search.short, ap (λ x. x.reads) c.numbers.ensures, now.some, now.inside, now.short);
    }

pub returns-in_err-take_over : goal.returns-in_err-take_over
returns-in_err-take_over g c =
    let p = err_from_is_err_and c.from_residual-in_err-take_over.result c.from_residual-in_err-take_over.ensures.1 in
    rw (p.1, p.2) no_memory

pub returns-then-eq : goal.returns-then-eq
returns-then-eq g c =
    let e = c.args.engine.now in
    let loop = c.loop-listing in
    let turn = turned (g.E.Engine.expression e) (g.E.Engine.shift e) (map g.S.Symbol.code c.args.text.now) (g.met.E.Engine.inhabited e) (g.met.E.Engine.skips e) (ap (map g.S.Symbol.code) loop.invariant.text) c.numbers.ensures loop.invariant.going c.run-stop.ensures.run in
    all_found _ _ _ turn c.eq.result c.eq.ensures c.in_ok-take_over.ensures c.if-eq.true

-- a run, a clear and a step lead on
on : (g : given.Over) (c : In_ok-step g)
    → Going (g.E.Engine.expression c.args.engine.now) (g.E.Engine.shift c.args.engine.now) (map g.S.Symbol.code c.args.text.now) c.step.new.self.numbers c.step.new.table (vec_items c.take_over.new.self.matches) c.take_over.new.self.walks c.take_over.new.self.reads
    × (c.loop-listing.search.numbers.next < c.step.new.self.numbers.next)
    × (c.step.new.self.numbers.next ≤ length (map g.S.Symbol.code c.args.text.now) + 1)
on g c =
    let e = c.args.engine.now in
    let loop = c.loop-listing in
    let turn = turned (g.E.Engine.expression e) (g.E.Engine.shift e) (map g.S.Symbol.code c.args.text.now) (g.met.E.Engine.inhabited e) (g.met.E.Engine.skips e) (ap (map g.S.Symbol.code) loop.invariant.text) c.numbers.ensures loop.invariant.going c.run-stop.ensures.run in
    let same = ap (λ x. map g.S.Symbol.code x.now) (c.clear.ensures.text ∙ c.run-stop.ensures.text) ∙ ap (map g.S.Symbol.code) loop.invariant.text in
    let cleared = c.clear.ensures.after ∙ ap (λ x. fresh x.next) (sym c.numbers.ensures) in
    let now = c.run-stop.new.self in
    stepped_on _ _ _ turn c.eq.result c.eq.ensures c.in_ok-take_over.ensures (g.met.E.Engine.inhabited e) (g.met.E.Engine.skips e) same cleared
    (omega (arith, ap (λ x. x.walks) c.numbers.ensures, now.few, now.inside, now.short))
    (omega (arith, ap (λ x. x.reads) c.numbers.ensures, now.some, now.inside, now.short))
    c.in_ok-step.ensures.step

pub loop-listing-smaller : goal.loop-listing-smaller
loop-listing-smaller g c = let (_, far, within) = on g c in omega (arith, length-map c.args.text.now g.S.Symbol.code)

pub loop-listing-preserved : goal.loop-listing-preserved
loop-listing-preserved g c = record {
  table = c.step.auto.table ∙ c.run-stop.auto.table ∙ c.loop-listing.invariant.table;
  text = ap (λ x. x.now) (c.in_ok-step.ensures.text ∙ c.clear.ensures.text ∙ c.run-stop.ensures.text) ∙ c.loop-listing.invariant.text;
  going = (on g c).0;
}

pub returns-in_err-step : goal.returns-in_err-step
returns-in_err-step g c =
    let e = c.args.engine.now in
    let loop = c.loop-listing in
    let turn = turned (g.E.Engine.expression e) (g.E.Engine.shift e) (map g.S.Symbol.code c.args.text.now) (g.met.E.Engine.inhabited e) (g.met.E.Engine.skips e) (ap (map g.S.Symbol.code) loop.invariant.text) c.numbers.ensures loop.invariant.going c.run-stop.ensures.run in
    let same = ap (λ x. map g.S.Symbol.code x.now) (c.clear.ensures.text ∙ c.run-stop.ensures.text) ∙ ap (map g.S.Symbol.code) loop.invariant.text in
    let cleared = c.clear.ensures.after ∙ ap (λ x. fresh x.next) (sym c.numbers.ensures) in
    let p = err_from_is_err_and c.from_residual-in_err-step.result c.from_residual-in_err-step.ensures.1 in
    rw (p.1, p.2) (refused_step _ _ _ turn c.eq.result c.eq.ensures c.if-eq.false _ (c.run-stop.auto.table ∙ loop.invariant.table) same cleared c.in_err-step.ensures.step)
