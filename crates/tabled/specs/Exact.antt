-- What the tabled engine of an expression is. Assumes nothing.
use Rattle.std.specs.Prelude.{◌≡◌, ℕ, List, vec_items}
use Rattle.regular.specs.Language.{Tail}
use Rattle.syntax.specs.declared.tree.Node.{Node}
use Rattle.syntax.specs.Tree.{language}
use Rattle.distance.specs.Distances.{Jump}
use Rattle.tabled.specs.declared.tabled.Tabled.{Tabled}
use Rattle.tabled.specs.Jumps.{greatest_of}

-- it is of that tree, and at each tail the number that it jumps by is the greatest t of the positions that the tail leads to
pub record JumpsExactly (tree : Node) (e : Tabled) : Type 0 where
  pub same_tree : e.single.expression.tree ≡ tree
  pub exact : (v : List ℕ) → Tail (language tree) v → Jump (language tree) v (greatest_of (language tree) (vec_items e.jumps) v)
