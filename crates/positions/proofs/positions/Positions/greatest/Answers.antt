-- `greatest` meets its contract. Assumes nothing.
use Rattle.std.proofs.Common.{sym, ap, ◌∙◌, arith}
use Rattle.std.specs.Prelude.{fold}
use Rattle.positions.proofs.Gathered.{greatest_by}
use Rattle.positions.proofs.positions.Positions.greatest.Goals as goal

pub returns-clause-value : goal.returns-clause-value
returns-clause-value c = sym (ap (fold _ _) c.in-None.ensures.steps.0) ∙ c.loop-p.invariant.1 ∙ greatest_by c.args.self (omega (arith, c.into_iter-p-iterator.type_inv)) c.args.numbers.now
