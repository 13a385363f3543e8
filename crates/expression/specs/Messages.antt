-- How an expression is summed up. Assumes nothing.
use Rattle.std.specs.Prelude.{ℕ, List, ◌++◌, codes, decimal}
use Rattle.regular.specs.Language.{shortest}
use Rattle.regular.specs.Positions.{size}
use Rattle.syntax.specs.declared.tree.Node.{Node}
use Rattle.syntax.specs.Tree.{language}

abbrev pub measures_text : Node → List ℕ
measures_text tree = codes "positions " ++ decimal (size (language tree)) ++ codes " shortest " ++ decimal (shortest (language tree))
