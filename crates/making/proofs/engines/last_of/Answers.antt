use Rattle.std.proofs.Common.{Ok, Err, inl, inr, ⊎_elim}
use Rattle.std.proofs.lemmas.Result.{err_from_is_err_and}
use Rattle.making.proofs.Handing.{single_built, word_built}
use Rattle.making.proofs.engines.last_of.Goals as goal

pub returns-then-asked : goal.returns-then-asked
returns-then-asked c = word_built c.args.bytes.now (λ x r made. made.2) (Ok c.in_ok-word.word) c.in_ok-word.ensures

pub returns-in_err-word : goal.returns-in_err-word
returns-in_err-word c =
    let p = err_from_is_err_and c.from_residual.result c.from_residual.ensures.1 in
    rw (p.1, p.2) (⊎_elim (λ x. inl x) (λ no_word. inr (c.if-asked.true, no_word)) (word_built c.args.bytes.now (λ x r made. made.2) (Err c.in_err-word.field-0.0) c.in_err-word.ensures))

pub returns-in_err-single : goal.returns-in_err-single
returns-in_err-single c =
    let p = err_from_is_err_and c.from_residual-in_err-single.result c.from_residual-in_err-single.ensures.1 in
    rw (p.1, p.2) (inl (single_built c.args.bytes.now (λ x r made. made.2) (Err c.in_err-single.field-0.0) c.in_err-single.ensures))
