-- No set of an expression that is written by the grammar holds a code above 255. Assumes nothing.
use Rattle.std.proofs.Common.{ℕ, arith}
use Rattle.std.proofs.Math.Dec.{leb}
use Rattle.std.proofs.lemmas.Bool.{and_parts, leb-true}
use Rattle.regular.specs.Language.{Regex, Within}
use Rattle.syntax.specs.declared.mode.Mode.{Mode}
use Rattle.syntax.specs.Grammar.{Mark, once, any, some_times, perhaps, Level, Tree, only, or, lone, row, marked, group, simple, repeated, meaning, held, top}
use Rattle.syntax.proofs.Tables.{top_low}

repeated_within : (codes : ℕ) (k : Mark) (r : Regex) → Within codes r → Within codes (repeated k r)
repeated_within codes once r h = h
repeated_within codes any r h = h
repeated_within codes some_times r h = h
repeated_within codes perhaps r h = h

pub tree_within : {m : Mode} {l : Level} (t : Tree m l) → Within 256 (meaning t)
tree_within (only b) = tree_within b
tree_within (or t b) = (tree_within t, tree_within b)
tree_within (lone i) = tree_within i
tree_within (row b i) = (tree_within b, tree_within i)
tree_within (marked a k) = repeated_within 256 k (meaning a) (tree_within a)
tree_within (group t) = tree_within t
tree_within {m} (simple s) = λ c e. omega (arith, leb-true c (top m) (and_parts (leb c (top m)) (held m s c) e).0, top_low m)
