-- `reversed` meets its contract. Assumes nothing.
use Rattle.std.proofs.Common.{◌≡◌, ap, ◌∙◌, subst, find}
use Rattle.syntax.specs.Refusals.{first, reversed_members, reversed_simple}
use Rattle.syntax.specs.Members.{runs_back}
use Rattle.syntax.specs.Tokens.{Stands, atom}
use Rattle.syntax.proofs.Held.{of_set, listed_found, reversed_found, place_of}
use Rattle.syntax.proofs.lexer.Token.reversed.Goals as goal

pub returns-in-Set : goal.returns-in-Set
returns-in-Set c s p st =
    of_set c.args.mode c.in-Set.negated c.in-Set.members s p (λ s. c.first_reversed.result ≡ first (reversed_simple c.args.mode s p)) (subst (Stands c.args.mode (atom s) p) c.in-Set.is st)
    (λ xs h l. c.first_reversed.ensures ∙ ap (λ ks. place_of c.args.mode (find runs_back ks)) (listed_found c.args.mode xs _ h) ∙ reversed_found c.args.mode xs _ ∙ ap (λ p. first (reversed_members c.args.mode xs p)) l)
