use Rattle.std.proofs.Common.{inl}
use Rattle.std.proofs.lemmas.Result.{err_from_is_err_and}
use Rattle.making.specs.Engines.{built, unread}
use Rattle.making.proofs.engines.engine_of.Goals as goal

pub returns-in_err-read : goal.returns-in_err-read
returns-in_err-read g c =
    let p = err_from_is_err_and c.from_residual.result c.from_residual.ensures.1 in
    unread p.0 p.1 (rw p.2 (inl c.in_err-read.ensures.outcome))

pub returns : goal.returns
returns g c = built c.in_ok-read.field-0 c.in_ok-read.ensures.outcome c.new.ensures
