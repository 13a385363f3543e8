-- What one call, and a row of them, comes to on a search and a table, for any symbols and engines. Assumes nothing.
use Rattle.std.specs.Prelude.{◌≡◌, ℕ, ◌<◌, ◌≤◌, ◌⊎◌, List, map, length, take, vec_items, Result, MatchResult, slice_index_or}
use Rattle.regular.specs.Language.{Regex}
use Rattle.refusal.specs.declared.Fault.{Fault}
use Rattle.refusal.specs.declared.Fault.TheVariants.{TextTooLong, Memory}
use Rattle.search.specs.Reckoning.{Reckoned, called, told, left}
use Rattle.search.specs.ListTheorem.{SetAside, ListTheorem}
use Rattle.search.specs.declared.numbers.Answer.{Answer}
use Rattle.search.specs.declared.numbers.Call.{Call}
use Rattle.search.specs.declared.numbers.Numbers.{Numbers}
use Rattle.search.specs.declared.numbers.Outcome.{Outcome}

-- the numbers of a search without filled
abbrev pub plain : Numbers → Reckoned
plain k = record { from = k.from; next = k.next; walks = k.walks; reads = k.reads }

-- a call, of whichever kind
pub record CalledBy (r : Regex) (t : List ℕ) (shifts : ℕ → List ℕ → ℕ) (call : Call) (k k' : Numbers) (table table' : List (ℕ × ℕ)) (answer : Answer) : Type 0 where
  pub says : answer ≡ told r t (length table) shifts call (plain k)
  pub after : plain k' ≡ called r t (length table) shifts call (plain k)
  pub aside : SetAside r t k' (take k'.filled table')
  pub leaves : table' ≡ left r t (length table) shifts call (plain k) table

-- the engine that a number names: one of the row, or the spare one where the row has none of that number
abbrev pub named : {E : Type 0} → List E → E → ℕ → E
named engines spare i = slice_index_or engines i spare

-- a row of calls: the list theorem for each expression that all engines are of; or the text is too long, or memory is wanting, and the table is as it was
module _ {S E : Type 0} (code : S → ℕ) (expression : E → Regex) (shift : E → List ℕ → ℕ) (text : List S) (engines : List E) (spare : E) (calls : List Call) (table table' : List (ℕ × ℕ)) where
  pub record Performed (outcome : Outcome) : Type 0 where
    pub short : length text ≤ 65535
    pub theorem : (r : Regex) → ((i : ℕ) → expression (named engines spare i) ≡ r) → ListTheorem r (map code text) (λ i. shift (named engines spare i)) calls table table' outcome.numbers (vec_items outcome.answers)

  pub record NotPerformed (fault : Fault) : Type 0 where
    pub why : ((65535 < length text) × (fault ≡ TextTooLong)) ⊎ ((length text ≤ 65535) × (fault ≡ Memory))
    pub kept : table' ≡ table

  abbrev pub Performs : Result Outcome Fault → Type 0
  Performs result = MatchResult result Performed NotPerformed
