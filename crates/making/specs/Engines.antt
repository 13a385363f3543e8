-- The engines that calls may name. Assumes nothing.
use Rattle.std.specs.Prelude.{◌≡◌, ℕ, Bool, false, ◌⊎◌, List, length, None, Err, Result, vec_items, ◌==◌, slice_index}
use Rattle.std.specs.List.{list_any}
use Rattle.refusal.specs.declared.Fault.{Fault}
use Rattle.refusal.specs.declared.Fault.TheVariants.{NoPlainWord, Memory}
use Rattle.regular.specs.Language.{Tail}
use Rattle.syntax.specs.Reading.{Accepted, Refusal}
use Rattle.syntax.specs.Tree.{language, spelling}
use Rattle.syntax.specs.declared.mode.Mode.{Mode}
use Rattle.syntax.specs.declared.tree.Node.{Node}
use Rattle.either.specs.declared.Either.{Either}
use Rattle.either.specs.declared.Either.TheVariants.{Left, Right}
use Rattle.expression.specs.declared.expression.Expression.{Expression}
use Rattle.distance.specs.Distances.{Jump, WholeJump}
use Rattle.single.specs.declared.single.SingleStep.{SingleStep}
use Rattle.tabled.specs.declared.tabled.Tabled.{Tabled}
use Rattle.tabled.specs.Jumps.{greatest_of}
use Rattle.word.specs.declared.word.Word.{Word}
use Rattle.script.specs.declared.engines.EngineName.{EngineName}
use Rattle.script.specs.Engines.{number_of}
use Rattle.search.specs.declared.numbers.Call.{Call}
use Rattle.search.specs.declared.numbers.Call.TheVariants.{Step, Run, Clear, Move}

-- the call names the word engine
abbrev pub names_word_engine : Call → Bool
names_word_engine (Step e) = e == number_of EngineName.Word
names_word_engine (Run e budget) = e == number_of EngineName.Word
names_word_engine Clear = false
names_word_engine (Move place) = false

-- some call does
abbrev pub asks_word : List Call → Bool
asks_word calls = list_any names_word_engine calls

-- over the bytes that the expression is written as
module _ (bytes : List ℕ) where
  -- the engine is of that expression, and at each tail its jump is the defined one
  abbrev pub SingleOf : SingleStep → Type 0
  SingleOf e = Accepted Mode.Bytes bytes e.expression.tree

  pub record TabledOf (e : Tabled) : Type 0 where
    pub accepted : Accepted Mode.Bytes bytes e.single.expression.tree
    pub exact : (v : List ℕ) → Tail (language e.single.expression.tree) v → Jump (language e.single.expression.tree) v (greatest_of (language e.single.expression.tree) (vec_items e.jumps) v)

  pub record WordOf (e : Word) : Type 0 where
    pub accepted : Accepted Mode.Bytes bytes e.expression.tree
    pub exact : (v : List ℕ) → Tail (language e.expression.tree) v → WholeJump (language e.expression.tree) v (slice_index (vec_items e.jumps) (length v))

  -- the word engine, or one more single-step engine where the word engine is not asked for
  abbrev pub LastOf : Bool → Either SingleStep (Either Tabled Word) → Type 0
  LastOf asked (Left e) = (asked ≡ false) × SingleOf e
  LastOf asked (Right (Left e)) = ⊥
  LastOf asked (Right (Right e)) = WordOf e

  -- the bytes are refused, or memory is wanting
  abbrev pub Unread : Fault → Type 0
  Unread fault = Refusal Mode.Bytes bytes fault ⊎ (fault ≡ Memory)

  -- the expression is accepted and no plain word
  pub record NoWord (fault : Fault) : Type 0 where
    pub fault_is : fault ≡ NoPlainWord
    pub tree : Node
    pub accepted : Accepted Mode.Bytes bytes tree
    pub spells_none : spelling tree ≡ None

  -- what a maker gives for an expression that the bytes are written for, or why they are not read
  pub data BuiltBy {E : Type 0} (makes : Expression → Result E Fault → Type 0) (r : Result E Fault) : Type 0 where
    built : (x : Expression) → Accepted Mode.Bytes bytes x.tree → makes x r → BuiltBy makes r
    unread : (f : Fault) → r ≡ Err f → Unread f → BuiltBy makes r
