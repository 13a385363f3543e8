-- `parse` meets its contract. Assumes nothing.
use Rattle.std.proofs.Common.{Err, refl, sym}
use Rattle.std.proofs.lemmas.Result.{err_from_is_err_and}
use Rattle.syntax.specs.Reading.{too_long}
use Rattle.syntax.proofs.Chains.{before_same}
use Rattle.syntax.proofs.Verdicts.{broken, outcome, promised}
use Rattle.syntax.proofs.parser.parse.Goals as goal

pub returns-then-bytes-gt-LONGEST : goal.returns-then-bytes-gt-LONGEST
returns-then-bytes-gt-LONGEST c = promised c.args.mode c.args.bytes.now _ (too_long refl c.if-bytes-gt-LONGEST.true)

pub returns-in_err-check_grammar : goal.returns-in_err-check_grammar
returns-in_err-check_grammar c =
    let p = err_from_is_err_and c.from_residual.result c.from_residual.ensures.1 in
    rw (p.1, p.2) (promised c.args.mode c.args.bytes.now (Err _) c.in_err-check_grammar.ensures)

pub returns-in_err-check_limits : goal.returns-in_err-check_limits
returns-in_err-check_limits c =
    let p = err_from_is_err_and c.from_residual-in_err-check_limits.result c.from_residual-in_err-check_limits.ensures.1 in
    rw (p.1, p.2) (promised c.args.mode c.args.bytes.now (Err _) (broken c.args.mode c.args.bytes.now c.if-bytes-gt-LONGEST.false c.in_ok-check_grammar.ensures _ (λ t e. c.in_err-check_limits.ensures c.args.mode t (before_same (sym e) c.new-lexer.ensures.before) c.new-lexer.ensures.place)))

pub returns : goal.returns
returns c =
    promised c.args.mode c.args.bytes.now _
    (outcome c.args.mode c.args.bytes.now c.if-bytes-gt-LONGEST.false c.in_ok-check_grammar.ensures (λ t e. c.in_ok-check_limits.ensures c.args.mode t (before_same (sym e) c.new-lexer.ensures.before) c.new-lexer.ensures.place) _ _ _ c.new-lexer.ensures.before (c.read_expression.ensures.got c.args.mode))
