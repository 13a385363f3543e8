-- What the calls of a script come to, as it is printed. Assumes nothing.
use Rattle.std.specs.Prelude.{◌≡◌, ℕ, List, [], ◌∷◌, ◌++◌, take, length, vec_items, Ok, Err}
use Rattle.std.specs.List.{flat_map}
use Rattle.refusal.specs.declared.Fault.{Fault}
use Rattle.refusal.specs.Messages.{fault_text}
use Rattle.search.specs.declared.numbers.Call.{Call}
use Rattle.search.specs.declared.numbers.Numbers.{Numbers}
use Rattle.search.specs.declared.numbers.Answer.{Answer}
use Rattle.search.specs.declared.numbers.Outcome.{Outcome}
use Rattle.search.specs.Messages.{answer_text, match_line, numbers_text}
use Rattle.making.specs.Outcomes.{Makes}

-- a text, and a line feed behind it
abbrev pub line : List ℕ → List ℕ
line text = text ++ (10 ∷ [])

abbrev pub answer_line : Answer → List ℕ
answer_line answer = line (answer_text answer)

-- a line for each answer, one for the numbers, and one for each match of the filled part
abbrev pub outcome_text : Numbers → List Answer → List (ℕ × ℕ) → List ℕ
outcome_text numbers answers table = flat_map answer_line answers ++ (numbers_text numbers ++ (10 ∷ flat_map match_line (take numbers.filled table)))

-- the text tells what making the calls on a table of that size comes to
module _ (expression : List ℕ) (size : ℕ) (calls : List Call) (text told : List ℕ) where
  pub data Tells : Type 0 where
    outcome : (o : Outcome) (table table' : List (ℕ × ℕ)) → length table ≡ size → Makes expression text calls table table' (Ok o) → told ≡ outcome_text o.numbers (vec_items o.answers) table' → Tells
    refusal : (f : Fault) (table table' : List (ℕ × ℕ)) → length table ≡ size → Makes expression text calls table table' (Err f) → told ≡ line (fault_text f) → Tells
