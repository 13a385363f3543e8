-- What the listing of an expression in a text is. Assumes nothing.
use Rattle.std.specs.Prelude.{◌≡◌, ℕ, ◌+◌, ◌⊎◌, List, length, vec_items, Result, MatchResult}
use Rattle.refusal.specs.declared.Fault.{Fault}
use Rattle.refusal.specs.declared.Fault.TheVariants.{Memory}
use Rattle.regular.specs.Language.{Tail}
use Rattle.regular.specs.Matches.{Exactly}
use Rattle.syntax.specs.declared.mode.Mode.{Mode}
use Rattle.syntax.specs.declared.tree.Node.{Node}
use Rattle.syntax.specs.Tree.{language}
use Rattle.syntax.specs.Reading.{Accepted, Refusal}
use Rattle.distance.specs.Distances.{Jump}
use Rattle.finder.specs.declared.Listing.{Listing}
use Rattle.finder.specs.Listing.{Goes}

-- every match of the accepted expression in the text, each once, in order; and what the walks took, by jumps of the defined distances
pub record Listed (expression text : List ℕ) (l : Listing) : Type 0 where
  pub tree : Node
  pub accepted : Accepted Mode.Bytes expression tree
  pub every : Exactly (language tree) text 0 (length text + 1) (vec_items l.matches)
  pub jump : List ℕ → ℕ
  pub defined : (v : List ℕ) → Tail (language tree) v → Jump (language tree) v (jump v)
  pub took : Goes (language tree) jump text 0 (length text + 1) l.walks l.reads

-- refused only as the expression is, or for want of memory
abbrev pub Found : List ℕ → List ℕ → Result Listing Fault → Type 0
Found expression text result = MatchResult result (Listed expression text) (λ f. Refusal Mode.Bytes expression f ⊎ (f ≡ Memory))
