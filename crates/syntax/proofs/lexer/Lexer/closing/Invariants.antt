-- What the loop of `closing` keeps. Assumes nothing.
use Rattle.std.proofs.Common.{◌≡◌, ◌+◌, ◌≤◌, false, length, drop}
use Rattle.syntax.specs.Lexer.{until}
use Rattle.syntax.proofs.lexer.Lexer.closing.Given as goal

abbrev pub invariant-loop-n : goal.invariant-loop-n
invariant-loop-n l = record { within : l.n ≤ length l.self.rest.now; so_far : l.n + until l.close l.escaped (drop l.n l.self.rest.now) ≡ until l.close false l.self.rest.now }
