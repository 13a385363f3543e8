-- What a row of calls comes to, reckoned from the text, the expression, the table's length, the engines' shifts and the calls alone. Assumes nothing.
use Rattle.std.specs.Prelude.{ℕ, zero, suc, ◌+◌, ◌-◌, Bool, cond, ◌||◌, List, [], ◌∷◌, ◌++◌, length, take, drop, nat_lt}
use Rattle.regular.specs.Language.{Regex}
use Rattle.regular.specs.Matches.{ending, listed}
use Rattle.refusal.specs.declared.Fault.TheVariants.{Finished, NoRoom, BeyondText}
use Rattle.search.specs.Rules.{finished, crowded, onward, reading, why}
use Rattle.search.specs.declared.numbers.Numbers.{Numbers}
use Rattle.search.specs.declared.numbers.Call.{Call}
use Rattle.search.specs.declared.numbers.Call.TheVariants.{Step, Run, Clear, Move}
use Rattle.search.specs.declared.numbers.Answer.{Answer}
use Rattle.search.specs.declared.numbers.Answer.TheVariants.{Wrote, Ran, Cleared, Moved, Refused}

-- the numbers that are reckoned; filled is none of them
pub record Reckoned : Type 0 where
  pub from : ℕ
  pub next : ℕ
  pub walks : ℕ
  pub reads : ℕ

abbrev pub begun : ℕ → Reckoned
begun place = record { from = place; next = place; walks = 0; reads = 0 }

-- over the expression, the text's codes, the table's length, and the shifts of the engine that each number names
module _ (r : Regex) (t : List ℕ) (size : ℕ) (shifts : ℕ → List ℕ → ℕ) where
  -- filled is taken as the number of matches that end at from or later and before next
  abbrev pub filled_by : Reckoned → ℕ
  filled_by k = length (listed r t k.from (k.next - k.from))

  -- 9 or 10 is due
  abbrev pub due : Reckoned → Bool
  due k = finished t k.next || crowded r t (size - filled_by k) k.next

  abbrev pub granted : ℕ → Reckoned → Reckoned
  granted e k = record { from = k.from; next = onward r t (shifts e) k.next; walks = k.walks + 1; reads = k.reads + reading r t k.next }

  -- granted steps until 9 is due, the budget is done or 10 is due
  abbrev pub granted_all : ℕ → ℕ → Reckoned → Reckoned
  granted_all e zero k = k
  granted_all e (suc budget) k = cond (due k) k (granted_all e budget (granted e k))

  abbrev pub called : Call → Reckoned → Reckoned
  called (Step e) k = cond (due k) k (granted e k)
  called (Run e budget) k = granted_all e budget k
  called Clear k = begun k.next
  called (Move place) k = cond (nat_lt (length t) place) k (begun place)

  -- what a call is answered, refusals included
  abbrev pub told : Call → Reckoned → Answer
  told (Step e) k =
      cond (finished t k.next) (Refused (Finished k.next))
      (cond (crowded r t (size - filled_by k) k.next) (Refused (NoRoom k.next (length (ending r t k.next)))) (Wrote (length (ending r t k.next))))
  told (Run e budget) k = let k' : Reckoned = granted_all e budget k in Ran (k'.walks - k.walks) (why t budget k'.next (k'.walks - k.walks))
  told Clear k = Cleared (filled_by k)
  told (Move place) k = cond (nat_lt (length t) place) (Refused (BeyondText place)) Moved

  -- what a call leaves of the table: what a step or a run finds stands behind the part that was filled
  abbrev pub left : Call → Reckoned → List (ℕ × ℕ) → List (ℕ × ℕ)
  left (Step e) k table = let k' : Reckoned = called (Step e) k in (take (filled_by k) table ++ listed r t k.next (k'.next - k.next)) ++ drop (filled_by k') table
  left (Run e budget) k table = let k' : Reckoned = called (Run e budget) k in (take (filled_by k) table ++ listed r t k.next (k'.next - k.next)) ++ drop (filled_by k') table
  left Clear k table = table
  left (Move place) k table = table

  -- a row of calls: the numbers, the answers and the table at its end
  abbrev pub reckoned : List Call → Reckoned → Reckoned
  reckoned [] k = k
  reckoned (c ∷ cs) k = reckoned cs (called c k)

  abbrev pub all_told : List Call → Reckoned → List Answer
  all_told [] k = []
  all_told (c ∷ cs) k = told c k ∷ all_told cs (called c k)

  abbrev pub all_left : List Call → Reckoned → List (ℕ × ℕ) → List (ℕ × ℕ)
  all_left [] k table = table
  all_left (c ∷ cs) k table = all_left cs (called c k) (left c k table)

  -- the five numbers of a search
  abbrev pub numbers_by : Reckoned → Numbers
  numbers_by k = record { from = k.from; next = k.next; filled = filled_by k; walks = k.walks; reads = k.reads }
