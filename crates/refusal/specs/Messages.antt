-- How a fault is printed. Assumes nothing.
use Rattle.std.specs.Prelude.{ℕ, List, ◌++◌, Some, None, Option, codes, decimal}
use Rattle.refusal.specs.declared.Refusal.{Refusal}
use Rattle.refusal.specs.declared.Fault.{Fault}
use Rattle.refusal.specs.Refusals.{refusal}

-- a refusal by its number and its place
abbrev pub refusal_text : Option Refusal → List ℕ
refusal_text (Some r) = codes "refused " ++ decimal r.number ++ codes " at " ++ decimal r.place
refusal_text None = codes "out of memory"

abbrev pub fault_text : Fault → List ℕ
fault_text f = refusal_text (refusal f)
