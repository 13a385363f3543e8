-- What reading promises: the expression that the bytes are written for, or the one refusal that applies, with its place.
-- Assumes nothing.
use Rattle.std.specs.Prelude.{◌≡◌, ℕ, ◌<◌, ◌≤◌, true, List, length, IfErr, Some, None, Err, Result, MatchResult, ◌≢◌}
use Rattle.refusal.specs.declared.Fault.{Fault}
use Rattle.refusal.specs.declared.Fault.TheVariants.{ExpressionTooLong, NotInGrammar, Memory}
use Rattle.syntax.specs.declared.mode.Mode.{Mode}
use Rattle.syntax.specs.declared.tree.Node.{Node}
use Rattle.syntax.specs.Grammar.{Tree, expression, written, meaning, spelled}
use Rattle.syntax.specs.Refusals.{OutsideGrammar, breach}
use Rattle.syntax.specs.Tree.{language, spelling, exact}

-- the bytes are not too long, and t is the tree that is written so
pub record Written (m : Mode) (bytes : List ℕ) (t : Tree m expression) : Type 0 where
  pub short : length bytes ≤ 1024
  pub as_bytes : written t ≡ bytes

-- the tree n is that of an expression that keeps to the limits
pub record Accepted (m : Mode) (bytes : List ℕ) (n : Node) : Type 0 where
  pub tree : Tree m expression
  pub is_written : Written m bytes tree
  pub breaks_no_limit : breach tree ≡ None
  pub means_it : language n ≡ meaning tree
  pub spells_it : spelling n ≡ spelled tree
  pub values_are_exact : exact n ≡ true

-- f is due; want of memory only where nothing else is wrong
pub data Refusal (m : Mode) (bytes : List ℕ) (f : Fault) : Type 0 where
  too_long : f ≡ ExpressionTooLong → 1024 < length bytes → Refusal m bytes f
  not_in_grammar : (p : ℕ) → f ≡ NotInGrammar p → length bytes ≤ 1024 → OutsideGrammar m bytes p → Refusal m bytes f
  beyond_limit : (t : Tree m expression) → Written m bytes t → breach t ≡ Some f → Refusal m bytes f
  no_memory : f ≡ Memory → (t : Tree m expression) → Written m bytes t → breach t ≡ None → Refusal m bytes f

-- what reading comes to: what is in order is accepted, unless there is no memory, and a refusal that is due is given;
-- no two refusals are due, none but want of memory for what is accepted, and no two trees are written as the bytes
pub record Reads (m : Mode) (bytes : List ℕ) (r : Result Node Fault) : Type 0 where
  pub outcome : MatchResult r (Accepted m bytes) (Refusal m bytes)
  pub accepts : (t : Tree m expression) → Written m bytes t → breach t ≡ None → IfErr r (λ f. f ≡ Memory)
  pub refuses : (f : Fault) → Refusal m bytes f → (f ≢ Memory) → r ≡ Err f
  pub one_refusal : (f g : Fault) → Refusal m bytes f → Refusal m bytes g → f ≡ g
  pub accepted_alone : (n : Node) (f : Fault) → Accepted m bytes n → Refusal m bytes f → f ≡ Memory
  pub one_tree : (t u : Tree m expression) → written t ≡ bytes → written u ≡ bytes → t ≡ u
