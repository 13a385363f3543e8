use Rattle.std.proofs.Common.{ap, length, ◌∙◌, not}
use Rattle.std.specs.Bool.{then_some}
use Rattle.shift.specs.Excess.{excess_of}
use Rattle.shift.proofs.Distances.{excess_none, excess_some}
use Rattle.shift.proofs.tail.Tail.excess.Goals as goal

pub returns-in_err-rest : goal.returns-in_err-rest
returns-in_err-rest c =
    c.from_residual.ensures ∙ excess_none c.args.head.now c.deref.result.now c.in_err-rest.ensures.cases
    ∙ ap (excess_of c.args.head.now) (c.deref.ensures.value ∙ ap (λ t. t.codes) c.self.view_is)

pub returns : goal.returns
returns c =
    c.then_some.ensures ∙ ap (λ b. then_some (not b) (length c.in_ok-rest.rest.now)) c.is_empty.ensures
    ∙ excess_some c.args.head.now c.deref.result.now c.in_ok-rest.rest.now c.in_ok-rest.ensures.cases.0 c.in_ok-rest.ensures.cases.2
    ∙ ap (excess_of c.args.head.now) (c.deref.ensures.value ∙ ap (λ t. t.codes) c.self.view_is)
