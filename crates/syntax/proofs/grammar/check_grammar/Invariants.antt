-- What the loop of `check_grammar` keeps. Assumes nothing.
use Rattle.syntax.proofs.Heads.{Reading}
use Rattle.syntax.proofs.grammar.check_grammar.Given as goal

abbrev pub invariant-loop-place : goal.invariant-loop-place
invariant-loop-place l = Reading l.mode l.bytes l.state.form l.state.depth l.place
