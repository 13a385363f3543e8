-- `set` meets its contract. Assumes nothing.
use Rattle.std.proofs.Common.{◌∷◌, sym, ap, ◌∙◌, subst}
use Rattle.syntax.specs.Grammar.{closing}
use Rattle.syntax.specs.declared.lexer.Token.TheVariants.{Set}
use Rattle.syntax.specs.Lexer.{Before}
use Rattle.syntax.proofs.Steps.{caret_eaten, members_split, eaten}
use Rattle.syntax.proofs.lexer.Lexer.set.Goals as goal

pub returns-clause-found : goal.returns-clause-found
returns-clause-found c m n xs w before =
    let (same, behind, place) = caret_eaten n xs _ c.eats-negated.ensures.value c.eats-negated.ensures.read before in
    let (members, bracket) = members_split xs w c.closing.ensures.value c.split-lexer.ensures.front c.split-lexer.ensures.back behind in
    let (is, left) = eaten c.closes.result c.eats.ensures.value c.eats.ensures.read (subst (λ b. Before m (b ∷ w) c.split-lexer.new.self) (sym (c.closes.ensures ∙ ap closing bracket.mode_is)) bracket) in
    rw (c.then_some.ensures, is) ((record { lexer = c.split-lexer.result }, ap (λ z. Set z (record { lexer = c.split-lexer.result })) same, members, c.split-lexer.ensures.place ∙ place), left)
