-- What is printed of the calls of a script. Assumes nothing.
use Rattle.std.specs.Prelude.{ℕ, List, vec_items, Result, Ok, Err}
use Rattle.refusal.specs.declared.Fault.{Fault}
use Rattle.refusal.specs.Messages.{fault_text}
use Rattle.search.specs.declared.numbers.Outcome.{Outcome}
use Rattle.calling.specs.declared.telling.Telling.{Telling}
use Rattle.calling.specs.Told.{line, outcome_text}

-- the text of an outcome on the table that the calls leave, or the line of the refusal
abbrev pub result_text : Result Outcome Fault → List (ℕ × ℕ) → List ℕ
result_text (Ok o) table = outcome_text o.numbers (vec_items o.answers) table
result_text (Err f) table = line (fault_text f)

abbrev pub telling_text : Telling → List ℕ
telling_text t = result_text t.outcome (vec_items t.table)
