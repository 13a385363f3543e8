-- `single` meets its contract. Assumes nothing.
use Rattle.syntax.specs.Grammar.{bare}
use Rattle.syntax.specs.Tokens.{Stands, atom}
use Rattle.std.proofs.Common.{◌≡◌, subst}
use Rattle.syntax.proofs.Held.{of_set}
use Rattle.syntax.proofs.lexer.Token.single.Goals as goal

pub returns-in-Set-clause-value : goal.returns-in-Set-clause-value
returns-in-Set-clause-value c s (p, st) =
    of_set c.args.mode c.in-Set.negated c.in-Set.members s p (λ s. c.bare_set.result ≡ bare c.args.mode s) (subst (Stands c.args.mode (atom s) p) c.in-Set.is st) (λ xs h _. c.bare_set.ensures xs h)
