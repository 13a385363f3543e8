-- `codes` meets its contract. Assumes nothing.
use Rattle.std.proofs.Common.{◌≡◌, Bool, true, false, not, ◌&&◌, leb, get_or, refl, ap, ◌∙◌, rules, tests}
use Rattle.syntax.specs.Grammar.{top}
use Rattle.syntax.specs.Tokens.{turned}
use Rattle.syntax.proofs.Tables.{table_made}
use Rattle.syntax.proofs.lexer.Token.codes.Goals as goal

not_same : (n a : Bool) → not (mathlib.Core.Bool.beq a n) ≡ turned n a
not_same true true = refl
not_same true false = refl
not_same false true = refl
not_same false false = refl

pub returns-clause-table : goal.returns-clause-table
returns-clause-table c s a =
    table_made c.args.mode s _ c.from_fn.ensures.items
    (λ x y q l k.
    let named = c.named-others.result.0 in
    let others = c.named-others.result.1 in
    let made : y ≡ (leb x (top c.args.mode) && not (mathlib.Core.Bool.beq (get_or named x false) others)) = search (rules, tests) in
    (search (rules, tests), made ∙ ap (λ b. leb x (top c.args.mode) && b) (not_same others (get_or named x false) ∙ c.named-others.ensures c.args.mode s a x l)))
