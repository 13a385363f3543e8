-- From the checks and the reader to what `read` promises. Assumes nothing.
use Rattle.std.proofs.Common.{◌≡◌, ℕ, ◌<◌, ◌≤◌, true, ◌⊎◌, List, [], length, drop, IfErr, Some, None, Ok, Err, Option, Result, sym, refl, ap, ◌∙◌, inl, inr, ⊎_elim, append-nil, arith, length-drop, MatchResult}
use Rattle.std.proofs.lemmas.Bool.{cases_lt}
use Rattle.regular.specs.Positions.{size}
use Rattle.refusal.specs.declared.Fault.{Fault}
use Rattle.refusal.specs.declared.Fault.TheVariants.{NotInGrammar, Memory}
use Rattle.syntax.specs.declared.mode.Mode.{Mode}
use Rattle.syntax.specs.declared.limits.TheConstants.{DEEPEST, LONGEST, MOST_POSITIONS}
use Rattle.syntax.specs.declared.tree.Node.{Node}
use Rattle.syntax.specs.Grammar.{Tree, expression, written}
use Rattle.syntax.specs.Refusals.{OutsideGrammar, first, too_deep, reversed, empty_set, position, spots, breach_of, breach}
use Rattle.syntax.specs.Tree.{language, full, filled}
use Rattle.syntax.specs.Limits.{or_ok, Checked}
use Rattle.syntax.specs.Parser.{nesting, Got}
use Rattle.syntax.specs.Reading.{Written, Accepted, Refusal, too_long, not_in_grammar, beyond_limit, no_memory, Reads}
use Rattle.syntax.proofs.Options.{some_same, none_some}
use Rattle.syntax.proofs.Atoms.{Expressions}
use Rattle.syntax.proofs.Chains.{before_same}
use Rattle.syntax.specs.Lexer.{Before}
use Rattle.syntax.specs.declared.lexer.Lexer.{Lexer}
use Rattle.syntax.proofs.Walks.{shallow}
use Rattle.syntax.proofs.Unique.{one_tree}
use Rattle.syntax.proofs.Filled.{tree_filled, tree_size}

first_none : (xs : List ℕ) → first xs ≡ None → xs ≡ []
first_none xs e = grind arith

-- no limit is broken just where no spot breaks one
no_breach : (a b c d : Option ℕ) → breach_of a b c d ≡ None → (a ≡ None) × (b ≡ None) × (c ≡ None) × (d ≡ None)
no_breach a b c d e = grind arith

pub no_spots : {m : Mode} (t : Tree m expression) → breach t ≡ None → (spots too_deep t ≡ []) × (spots reversed t ≡ []) × (spots empty_set t ≡ []) × (drop MOST_POSITIONS (spots position t) ≡ [])
no_spots t e =
    let (a, b, c, d) = no_breach (first (spots too_deep t)) (first (spots reversed t)) (first (spots empty_set t)) (first (drop MOST_POSITIONS (spots position t))) e in
    (first_none _ a, first_none _ b, first_none _ c, first_none _ d)

ok_none : (o : Option Fault) → ◌≡◌ {A = Result (Unit {0}) Fault} (Ok tt) (or_ok o) → o ≡ None
ok_none o e = grind arith

err_some : (o : Option Fault) (f : Fault) → ◌≡◌ {A = Result (Unit {0}) Fault} (Err f) (or_ok o) → o ≡ Some f
err_some o f e = grind arith

module _ (m : Mode) (w : List ℕ) (l : length w ≤ LONGEST) (some : (t : Tree m expression) × (written t ≡ w)) where
  is_written : Written m w some.0
  is_written = record { short = l; as_bytes = some.1 }

  -- a limit is broken
  pub broken : (f : Fault) → ((t : Tree m expression) → written t ≡ w → Checked t (Err f)) → Refusal m w f
  broken f each = beyond_limit some.0 is_written (err_some (breach some.0) f (each some.0 some.1))

  module _ (limited : (t : Tree m expression) → written t ≡ w → Checked t (Ok tt)) where
    unbroken : breach some.0 ≡ None
    unbroken = ok_none (breach some.0) (limited some.0 some.1)

    nested : nesting some.0 ≤ DEEPEST
    nested = omega (arith, shallow some.0 0 0 (omega arith) (no_spots some.0 unbroken).0)

    -- what the reading comes to
    pub outcome : (r : Result Node Fault) (old new : Lexer) → Before m w old → Expressions m old DEEPEST r new → MatchResult r (Accepted m w) (Refusal m w)
    outcome r old new b h = go r (h some.0 [] (before_same (sym some.1 ∙ sym (append-nil _)) b) tt nested)
      where
        go : (r : Result Node Fault) → Got some.0 [] r new → MatchResult r (Accepted m w) (Refusal m w)
        go (Ok n) (means, _) = record { tree = some.0; is_written = is_written; breaks_no_limit = unbroken; means_it = means.language_is; spells_it = means.spelling_is; values_are_exact = means.exact_is }
        go (Err f) e = no_memory e some.0 is_written unbroken

-- what an accepted tree has
module _ (m : Mode) (w : List ℕ) (n : Node) (a : Accepted m w n) where
  pub accepted_few : size (language n) ≤ MOST_POSITIONS
  accepted_few = omega (arith, ap size a.means_it, tree_size a.tree 0 0, ap length (no_spots a.tree a.breaks_no_limit).3, length-drop MOST_POSITIONS (spots position a.tree))

  pub accepted_full : full n ≡ true
  accepted_full = ap filled a.means_it ∙ tree_filled a.tree 0 0 (no_spots a.tree a.breaks_no_limit).2

-- at most one outcome applies
module _ (m : Mode) (w : List ℕ) where
  same_tree : (t u : Tree m expression) → written t ≡ w → written u ≡ w → t ≡ u
  same_tree t u e f = one_tree m t u (e ∙ sym f)

  -- two heads of one length at most are the longest
  longest_one : (p q : ℕ) → OutsideGrammar m w p → OutsideGrammar m w q → p ≡ q
  longest_one p q g h =
      ⊎_elim
      (λ l. absurd (g.longest q l h.within h.begins))
      (⊎_elim (λ e. e) (λ l. absurd (h.longest p l g.within g.begins)))
      (either_way p q)
    where
      either_way : (p q : ℕ) → (p < q) ⊎ ((p ≡ q) ⊎ (q < p))
      either_way p q = ⊎_elim inl (λ l. inr (⊎_elim inr (λ k. inl (omega arith)) (cases_lt q p))) (cases_lt p q)

  one_refusal : (f g : Fault) → Refusal m w f → Refusal m w g → f ≡ g
  one_refusal f g (too_long e _) (too_long k _) = e ∙ sym k
  one_refusal f g (too_long e l) (not_in_grammar p k h _) = absurd (omega arith)
  one_refusal f g (too_long e l) (beyond_limit t h _) = absurd (omega (arith, h.short))
  one_refusal f g (too_long e l) (no_memory _ t h _) = absurd (omega (arith, h.short))
  one_refusal f g (not_in_grammar p k h _) (too_long e l) = absurd (omega arith)
  one_refusal f g (not_in_grammar p e _ h) (not_in_grammar q k _ i) = e ∙ ap NotInGrammar (longest_one p q h i) ∙ sym k
  one_refusal f g (not_in_grammar p e _ h) (beyond_limit t i _) = absurd (h.no_tree t i.as_bytes)
  one_refusal f g (not_in_grammar p e _ h) (no_memory _ t i _) = absurd (h.no_tree t i.as_bytes)
  one_refusal f g (beyond_limit t h _) (too_long e l) = absurd (omega (arith, h.short))
  one_refusal f g (beyond_limit t i _) (not_in_grammar p e _ h) = absurd (h.no_tree t i.as_bytes)
  one_refusal f g (beyond_limit t h e) (beyond_limit u i k) = some_same (sym e ∙ ap breach (same_tree t u h.as_bytes i.as_bytes) ∙ k)
  one_refusal f g (beyond_limit t h e) (no_memory _ u i k) = none_some (sym (ap breach (same_tree t u h.as_bytes i.as_bytes) ∙ k) ∙ e)
  one_refusal f g (no_memory _ t h _) (too_long e l) = absurd (omega (arith, h.short))
  one_refusal f g (no_memory _ t i _) (not_in_grammar p e _ h) = absurd (h.no_tree t i.as_bytes)
  one_refusal f g (no_memory _ t h e) (beyond_limit u i k) = none_some (sym (ap breach (same_tree u t i.as_bytes h.as_bytes) ∙ e) ∙ k)
  one_refusal f g (no_memory e _ _ _) (no_memory k _ _ _) = e ∙ sym k

  accepted_alone : (n : Node) (f : Fault) → Accepted m w n → Refusal m w f → f ≡ Memory
  accepted_alone n f a r = one_refusal f Memory r (no_memory refl a.tree a.is_written a.breaks_no_limit)

  abbrev Outcome : Result Node Fault → Type 0
  Outcome r = MatchResult r (Accepted m w) (Refusal m w)

  accepts : (r : Result Node Fault) → Outcome r → (t : Tree m expression) → Written m w t → breach t ≡ None → IfErr r (λ f. f ≡ Memory)
  accepts (Ok n) a t h e = tt
  accepts (Err f) o t h e = one_refusal f Memory o (no_memory refl t h e)

  refuses : (r : Result Node Fault) → Outcome r → (f : Fault) → Refusal m w f → (f ≡ Memory → ⊥) → r ≡ Err f
  refuses (Ok n) a f due other = absurd (other (accepted_alone n f a due))
  refuses (Err g) o f due other = ap Err (one_refusal g f o due)

  -- the outcome is all that is left to show
  pub promised : (r : Result Node Fault) → Outcome r → Reads m w r
  promised r h = record { outcome = h; accepts = accepts r h; refuses = refuses r h; one_refusal = one_refusal; accepted_alone = accepted_alone; one_tree = same_tree }
