use Rattle.std.proofs.Common.{Ok, Err, sym, refl, ◌∙◌, subst, inl, inr, ⊎_elim}
use Rattle.std.proofs.lemmas.Result.{err_from_is_err_and}
use Rattle.making.specs.Engines.{LastOf}
use Rattle.making.proofs.Handing.{single_built, tabled_built, handed}
use Rattle.making.proofs.make.Goals as goal

pub returns-in_err-single : goal.returns-in_err-single
returns-in_err-single c =
    let p = err_from_is_err_and c.from_residual.result c.from_residual.ensures.1 in
    rw (p.1, p.2) (record { why = inl (single_built c.args.expression.now (λ x r made. made.2) (Err c.in_err-single.field-0.0) c.in_err-single.ensures); kept = refl })

pub returns-in_err-tabled : goal.returns-in_err-tabled
returns-in_err-tabled c =
    let p = err_from_is_err_and c.from_residual-in_err-tabled.result c.from_residual-in_err-tabled.ensures.1 in
    rw (p.1, p.2) (record { why = inl (tabled_built c.args.expression.now (λ x r made. made.2) (Err c.in_err-tabled.field-0.0) c.in_err-tabled.ensures); kept = refl })

pub returns-in_err-last : goal.returns-in_err-last
returns-in_err-last c =
    let p = err_from_is_err_and c.from_residual-in_err-last.result c.from_residual-in_err-last.ensures.1 in
    rw (p.1, p.2) (record { why = ⊎_elim (λ x. inl x) (λ (asked, no_word). inr (inl (sym c.names_word-asked.ensures ∙ asked, no_word))) c.in_err-last.ensures; kept = refl })

pub returns : goal.returns
returns c =
    handed c.args.expression.now c.in_ok-single.single c.in_ok-tabled.tabled
    (single_built c.args.expression.now (λ x r made. made.2) (Ok c.in_ok-single.single) c.in_ok-single.ensures)
    (tabled_built c.args.expression.now (λ x r made. made.2) (Ok c.in_ok-tabled.tabled) c.in_ok-tabled.ensures)
    c.args.text.now c.in_ok-last.last c.args.calls.now c.args.table.now c.perform.new.table
    (subst (λ b. LastOf c.args.expression.now b c.in_ok-last.last) c.names_word-asked.ensures c.in_ok-last.ensures) c.perform.result c.perform.ensures
