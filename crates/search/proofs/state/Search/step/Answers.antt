use Rattle.std.proofs.Common.{map, sym, ◌∙◌, arith}
use lib.ListN.{length-map}
use Rattle.std.proofs.lemmas.Bool.{lt-ltb, le-ltb}
use Rattle.search.proofs.Moving.{stepped_is, held_finished, held_crowded}
use Rattle.search.proofs.state.Search.step.Goals as goal

pub returns-then-is_behind-clause-step : goal.returns-then-is_behind-clause-step
returns-then-is_behind-clause-step g c = held_finished _ _ _ _ _ (sym c.is_behind.ensures ∙ c.if-is_behind.true)

pub returns-then-matches-saturating_sub-clause-step : goal.returns-then-matches-saturating_sub-clause-step
returns-then-matches-saturating_sub-clause-step g c =
    let count = c.walk-walked.ensures.count in
    held_crowded _ _ _ _ _ _ (sym c.is_behind.ensures ∙ c.if-is_behind.false) count (lt-ltb _ _ (omega (arith, count, c.saturating_sub.ensures, c.if-matches-saturating_sub.true)))

pub returns-clause-step : goal.returns-clause-step
returns-clause-step g c =
    let r = g.E.Engine.expression c.args.engine.now in
    let t = map g.S.Symbol.code c.args.self.now.text.now in
    let k = c.args.self.now.numbers in
    let count = c.walk-walked.ensures.count in
    record {
      going = sym c.is_behind.ensures ∙ c.if-is_behind.false;
      fitting = le-ltb _ _ (omega (arith, count, c.saturating_sub.ensures, c.if-matches-saturating_sub.false));
      count = count;
      after = stepped_is r t (g.E.Engine.shift c.args.engine.now) k c.min.result c.walk-walked.result.jump c.walk-walked.result.count c.walk-walked.result.reads _ (length-map c.args.self.now.text.now g.S.Symbol.code) (omega (arith, c.min.ensures, c.saturating_add.ensures)) c.walk-walked.ensures.jump count c.walk-walked.ensures.reads;
      added = record { front = c.add.ensures.front; rest = c.add.ensures.rest };
    }
