-- What reading a part of an expression gives, and what may stand behind it. Assumes nothing.
use Rattle.std.specs.Prelude.{◌≡◌, ℕ, suc, max, true, false, ◌||◌, ◌⊎◌, List, [], ◌∷◌, Ok, Err, Result, ◌==◌}
use Rattle.refusal.specs.declared.Fault.{Fault}
use Rattle.refusal.specs.declared.Fault.TheVariants.{Memory}
use Rattle.syntax.specs.declared.mode.Mode.{Mode}
use Rattle.syntax.specs.declared.lexer.Lexer.{Lexer}
use Rattle.syntax.specs.declared.tree.Node.{Node}
use Rattle.syntax.specs.Grammar.{Level, Tree, only, or, lone, row, marked, group, simple, meaning, spelled}
use Rattle.syntax.specs.Lexer.{Before}
use Rattle.syntax.specs.Tree.{language, spelling, exact}

-- how many groups stand in one another
abbrev pub nesting : {m : Mode} {l : Level} → Tree m l → ℕ
nesting (only b) = nesting b
nesting (or t b) = max (nesting t) (nesting b)
nesting (lone i) = nesting i
nesting (row b i) = max (nesting b) (nesting i)
nesting (marked a k) = nesting a
nesting (group t) = suc (nesting t)
nesting (simple s) = 0

-- the tree n that was read stands for the tree t of the grammar
pub record Means {m : Mode} {l : Level} (n : Node) (t : Tree m l) : Type 0 where
  pub language_is : language n ≡ meaning t
  pub spelling_is : spelling n ≡ spelled t
  pub exact_is : exact n ≡ true

-- what came of reading the tree t, behind which the bytes w stand: a tree that means it, or no memory
abbrev pub Got : {m : Mode} {l : Level} → Tree m l → List ℕ → Result Node Fault → Lexer → Type 0
Got {m} t w (Ok n) new = Means n t × Before m w new
Got t w (Err f) new = f ≡ Memory

-- what may stand behind an item, a branch and an expression
abbrev pub Unmarked : List ℕ → Type 0
Unmarked [] = Unit {0}
Unmarked (b ∷ w) = (b == 42 || (b == 43 || b == 63)) ≡ false

abbrev pub Stops : List ℕ → Type 0
Stops [] = Unit {0}
Stops (b ∷ w) = (b ≡ 124) ⊎ (b ≡ 41)

abbrev pub Closes : List ℕ → Type 0
Closes [] = Unit {0}
Closes (b ∷ w) = b ≡ 41
