-- What calls on a search for a byte expression come to. Assumes nothing.
use Rattle.std.specs.Prelude.{◌≡◌, ℕ, ◌<◌, true, ◌⊎◌, List, length, vec_items, Result, MatchResult}
use Rattle.refusal.specs.declared.Fault.{Fault}
use Rattle.refusal.specs.declared.Fault.TheVariants.{TextTooLong}
use Rattle.regular.specs.Language.{Tail}
use Rattle.syntax.specs.Reading.{Accepted}
use Rattle.syntax.specs.Tree.{language}
use Rattle.syntax.specs.declared.mode.Mode.{Mode}
use Rattle.syntax.specs.declared.tree.Node.{Node}
use Rattle.distance.specs.Distances.{Jump, WholeJump}
use Rattle.search.specs.ListTheorem.{ListTheorem}
use Rattle.search.specs.declared.numbers.Call.{Call}
use Rattle.search.specs.declared.numbers.Outcome.{Outcome}
use Rattle.making.specs.Engines.{asks_word, Unread, NoWord}

module _ (expression text : List ℕ) (calls : List Call) (table table' : List (ℕ × ℕ)) where
  -- the bytes are an expression's, and the list theorem holds for it: engine 0 jumps 1, engine 1 by the greatest number of the positions that a tail leads to, and engine 2, where it is named, by the lesser of the tail's two distances
  pub record Made (outcome : Outcome) : Type 0 where
    pub tree : Node
    pub accepted : Accepted Mode.Bytes expression tree
    pub shifts : ℕ → List ℕ → ℕ
    pub single : (v : List ℕ) → shifts 0 v ≡ 1
    pub tabled : (v : List ℕ) → Tail (language tree) v → Jump (language tree) v (shifts 1 v)
    pub word : asks_word calls ≡ true → (v : List ℕ) → Tail (language tree) v → WholeJump (language tree) v (shifts 2 v)
    pub theorem : ListTheorem (language tree) text shifts calls table table' outcome.numbers (vec_items outcome.answers)

  -- the expression is refused or memory is wanting, or the word engine is named and the expression is no plain word, or the text is too long; and the table is as it was
  pub record NotMade (fault : Fault) : Type 0 where
    pub why : Unread expression fault ⊎ (((asks_word calls ≡ true) × NoWord expression fault) ⊎ ((fault ≡ TextTooLong) × (65535 < length text)))
    pub kept : table' ≡ table

  abbrev pub Makes : Result Outcome Fault → Type 0
  Makes result = MatchResult result Made NotMade
