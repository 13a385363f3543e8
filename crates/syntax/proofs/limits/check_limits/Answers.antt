-- `check_limits` meets its contract. Assumes nothing.
use Rattle.std.proofs.Common.{sym, subst}
use Rattle.syntax.specs.Limits.{Checked}
use Rattle.syntax.proofs.Walks.{walk_start, walk_stuck, walk_more, walk_end}
use Rattle.syntax.proofs.limits.check_limits.Goals as goal

pub loop-lexer-init : goal.loop-lexer-init
loop-lexer-init c = let (a, (b, (d, (e, (f, g))))) = c.default-found.ensures in walk_start c.args.lexer c.default-found.result a b d e f g

pub returns-in_err-token : goal.returns-in_err-token
returns-in_err-token c m t before place = walk_stuck c.args.lexer c.loop-lexer.found c.loop-lexer.lexer c.loop-lexer.invariant (sym c.loop-lexer-test.ensures) c.in_err-token.ensures.found m t before place

pub loop-lexer-preserved : goal.loop-lexer-preserved
loop-lexer-preserved c = walk_more c.args.lexer c.loop-lexer.found c.loop-lexer.lexer c.loop-lexer.invariant (sym c.loop-lexer-test.ensures) c.in_ok-token.token c.token.new.self c.mode.result c.place-place.result c.with-found.result c.mode.ensures c.place-place.ensures c.in_ok-token.ensures.ahead c.in_ok-token.ensures.found c.with-found.ensures.notes c.with-found.ensures.bound

pub returns : goal.returns
returns c m t before place = subst (Checked t) (sym c.verdict.ensures) (walk_end c.args.lexer c.loop-lexer.found c.loop-lexer.lexer c.loop-lexer.invariant (sym c.loop-lexer-test.ensures) m t before place)
