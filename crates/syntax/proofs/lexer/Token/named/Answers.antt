-- `named` meets its contract. Assumes nothing.
use Rattle.std.proofs.Common.{◌≡◌, ℕ, ◌<◌, true, false, not, eqb, get_or, set, replicate, sym, ap, ◌∙◌, subst, ⊎_elim, arith}
use Rattle.std.specs.List.{list_any}
use Rattle.std.proofs.lemmas.Bool.{cases_eq, eq-eqb, ne_eqb}
use Rattle.std.proofs.lemmas.List.{get_or-replicate, get_or-set_same, get_or-set_other}
use Rattle.syntax.specs.Grammar.{held}
use Rattle.syntax.specs.Members.{covers}
use Rattle.syntax.specs.Tokens.{Stands, atom, turned}
use Rattle.syntax.proofs.Held.{of_dot, of_unit, of_set, listed_found, covers_found}
use Rattle.syntax.proofs.lexer.Token.named.Goals as goal

-- a table in which one code is marked
one_marked : (b c : ℕ) → c < 256 → get_or (set (replicate 256 false) b true) c false ≡ eqb b c
one_marked b c l =
    ⊎_elim
    (λ e. ap (λ c. get_or (set (replicate 256 false) b true) c false) (sym e) ∙ get_or-set_same (replicate 256 false) b true false (omega arith) ∙ sym (eq-eqb b c e))
    (λ n. get_or-set_other (replicate 256 false) b c true false (λ e. n (sym e)) ∙ get_or-replicate 256 c false false l ∙ sym (ne_eqb b c n))
    (cases_eq b c)

pub returns-in-Dot : goal.returns-in-Dot
returns-in-Dot c m s (p, st) k l = ap not (get_or-replicate 256 k false false l) ∙ sym (of_dot m s p k (subst (Stands m (atom s) p) c.in-Dot.is st))

pub returns-in-Unit : goal.returns-in-Unit
returns-in-Unit c m s (p, st) k l = ap (λ b. get_or (set (replicate 256 false) b true) k false) c.from.ensures ∙ one_marked c.in-Unit.code k l ∙ sym (of_unit m s p c.in-Unit.code k (subst (Stands m (atom s) p) c.in-Unit.is st))

pub returns-in-Set : goal.returns-in-Set
returns-in-Set c m s (p, st) k l =
    of_set m c.in-Set.negated c.in-Set.members s p (λ s. turned c.in-Set.negated (get_or c.codes.result k false) ≡ held m s k) (subst (Stands m (atom s) p) c.in-Set.is st)
    (λ xs h _. ap (turned c.in-Set.negated) (c.codes.ensures k l ∙ ap (list_any (λ x. covers x k)) (listed_found m xs _ h) ∙ covers_found m xs _ _))
