-- What the word engine of an expression is, and when there is none. Assumes nothing.
use Rattle.std.specs.Prelude.{◌≡◌, true, ◌⊎◌, is_some, Some, None, vec_items, Result, MatchResult}
use Rattle.refusal.specs.declared.Fault.{Fault}
use Rattle.refusal.specs.declared.Fault.TheVariants.{NoPlainWord, Memory}
use Rattle.syntax.specs.declared.tree.Node.{Node}
use Rattle.syntax.specs.Tree.{language, spelling}
use Rattle.plain_word.specs.Jumps.{WordJumps}
use Rattle.word.specs.declared.word.Word.{Word}

-- it is of that tree and has the word that the tree spells; its jumps are the definitions' numbers
pub record JumpsExactly (tree : Node) (e : Word) : Type 0 where
  pub same_tree : e.expression.tree ≡ tree
  pub letters : spelling tree ≡ Some e.letters
  pub exact : WordJumps (language tree) e.letters (vec_items e.jumps)

-- no plain word just if the tree spells none; want of memory only where it does
abbrev pub MadeFor : Node → Result Word Fault → Type 0
MadeFor tree r =
    MatchResult r (JumpsExactly tree) (λ f. ((f ≡ NoPlainWord) × (spelling tree ≡ None)) ⊎ ((f ≡ Memory) × (is_some (spelling tree) ≡ true)))
