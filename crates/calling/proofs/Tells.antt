-- What is told of what making calls comes to.
use Rattle.std.proofs.Common.{◌≡◌, ℕ, List, length, Result, Ok, Err, refl}
use Rattle.refusal.specs.declared.Fault.{Fault}
use Rattle.search.specs.declared.numbers.Call.{Call}
use Rattle.search.specs.declared.numbers.Outcome.{Outcome}
use Rattle.making.specs.Outcomes.{Makes}
use Rattle.calling.specs.Told.{Tells, outcome, refusal}
use Rattle.calling.specs.Messages.{result_text}

pub result_told : (expression : List ℕ) (size : ℕ) (calls : List Call) (text : List ℕ) (table table' : List (ℕ × ℕ)) (r : Result Outcome Fault) → length table ≡ size → Makes expression text calls table table' r → Tells expression size calls text (result_text r table')
result_told e s cs w a b (Ok o) long made = outcome o a b long made refl
result_told e s cs w a b (Err f) long made = refusal f a b long made refl
