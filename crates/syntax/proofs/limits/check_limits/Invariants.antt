-- What the loop of `check_limits` keeps, and what falls with each turn. Assumes nothing.
use Rattle.std.proofs.Common.{length}
use Rattle.syntax.proofs.Walks.{Walk}
use Rattle.syntax.proofs.limits.check_limits.Given as goal

abbrev pub invariant-loop-lexer : goal.invariant-loop-lexer
invariant-loop-lexer l = Walk l.initial.lexer l.found l.lexer

abbrev pub decreases-loop-lexer : goal.decreases-loop-lexer
decreases-loop-lexer l = length l.lexer.rest.now
