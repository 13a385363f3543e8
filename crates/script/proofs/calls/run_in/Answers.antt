use Rattle.std.proofs.Common.{drop, ap, ◌∙◌}
use Rattle.script.proofs.Names.{has_blank, name_before, names_none}
use Rattle.script.proofs.calls.run_in.Goals as goal

pub returns-in_err-name : goal.returns-in_err-name
returns-in_err-name c =
    rw c.from_residual-in_err-name.ensures
    (λ e budget (name, digits, is, number, written). has_blank c.in_ok-rest.rest.now name digits (c.in_ok-rest.ensures.cases.1 ∙ ap (drop 4) is) c.in_err-name.ensures)

pub returns-in_err-ok : goal.returns-in_err-ok
returns-in_err-ok c =
    rw c.from_residual-in_err-ok.ensures
    (λ e budget (name, digits, is, number, written). names_none c.in_ok-name.name.now c.try_from.result c.try_from.ensures c.in_err-ok.ensures.variant name
    (name_before c.in_ok-rest.rest.now name digits (c.in_ok-rest.ensures.cases.1 ∙ ap (drop 4) is) c.in_ok-name.ensures))
