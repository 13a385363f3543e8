-- Trees that were read, put together as the grammar's are. Assumes nothing.
use Rattle.std.proofs.Common.{rules, arith}
use Rattle.syntax.specs.declared.mode.Mode.{Mode}
use Rattle.syntax.specs.declared.tree.Node.{Node}
use Rattle.syntax.specs.Grammar.{Mark, once, Tree, expression, branch, item, atom, only, or, lone, row, marked, group}
use Rattle.syntax.specs.Parser.{Means}
use Rattle.syntax.specs.Tree.{Grouped, Joined, Chosen, Repeated}

module _ {m : Mode} where
  pub means_lone : {n : Node} {i : Tree m item} → Means n i → Means n (lone i)
  means_lone h = search rules

  pub means_only : {n : Node} {b : Tree m branch} → Means n b → Means n (only b)
  means_only h = search rules

  pub means_row : {e x n : Node} {b : Tree m branch} {i : Tree m item} → Joined e x n → Means e b → Means x i → Means n (row b i)
  means_row k g h = grind arith

  pub means_or : {e x n : Node} {t : Tree m expression} {b : Tree m branch} → Chosen e x n → Means e t → Means x b → Means n (or t b)
  means_or k g h = grind arith

  pub means_group : {e n : Node} {t : Tree m expression} → Grouped e n → Means e t → Means n (group t)
  means_group k h = grind arith

  pub means_marked : {e n : Node} {a : Tree m atom} (k : Mark) → Repeated k e n → Means e a → Means n (marked a k)
  means_marked k g h = grind arith

pub once_repeated : (n : Node) → Repeated once n n
once_repeated n = search rules
