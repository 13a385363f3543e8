-- What each single call does to the numbers of a search and to the table, and what it answers. Assumes nothing.
use Rattle.std.specs.Prelude.{◌≡◌, ℕ, zero, suc, ◌+◌, ◌-◌, Bool, true, false, cond, ◌||◌, List, ◌++◌, length, take, drop}
use Rattle.regular.specs.Language.{Regex}
use Rattle.regular.specs.Matches.{ending, listed}
use Rattle.refusal.specs.declared.Fault.{Fault}
use Rattle.refusal.specs.declared.Fault.TheVariants.{Finished, NoRoom}
use Rattle.search.specs.Rules.{finished, crowded, onward, reading, why}
use Rattle.search.specs.declared.numbers.Numbers.{Numbers}
use Rattle.search.specs.declared.numbers.Stop.{Stop}

-- all at one place, with nothing done
abbrev pub fresh : ℕ → Numbers
fresh place = record { from = place; next = place; filled = 0; walks = 0; reads = 0 }

abbrev pub stepped : Regex → List ℕ → (List ℕ → ℕ) → Numbers → Numbers
stepped r t shift k = record {
  from = k.from;
  next = onward r t shift k.next;
  filled = k.filled + length (ending r t k.next);
  walks = k.walks + 1;
  reads = k.reads + reading r t k.next;
}

-- a step is refused; room is the table's length less filled, or 0
abbrev pub held : Regex → List ℕ → ℕ → Numbers → Bool
held r t size k = finished t k.next || crowded r t (size - k.filled) k.next

-- steps until one is refused, at most as many as are allowed
abbrev pub ran : Regex → List ℕ → ℕ → (List ℕ → ℕ) → ℕ → Numbers → Numbers
ran r t size shift zero k = k
ran r t size shift (suc budget) k = cond (held r t size k) k (ran r t size shift budget (stepped r t shift k))

-- the new matches stand behind the part that was filled, and what is behind them stays
pub record Added (k k' : Numbers) (new before after : List (ℕ × ℕ)) : Type 0 where
  pub front : take k'.filled after ≡ take k.filled before ++ new
  pub rest : drop k'.filled after ≡ drop k'.filled before

-- over the expression, the engine's shifts, the text's codes, and the numbers and the table before and after
module _ (r : Regex) (shift : List ℕ → ℕ) (t : List ℕ) (k k' : Numbers) (table table' : List (ℕ × ℕ)) where
  -- a step is granted, and answers how many matches it wrote
  pub record Stepped (answer : ℕ) : Type 0 where
    pub going : finished t k.next ≡ false
    pub fitting : crowded r t (length table - k.filled) k.next ≡ false
    pub count : answer ≡ length (ending r t k.next)
    pub after : k' ≡ stepped r t shift k
    pub added : Added k k' (ending r t k.next) table table'

  -- a step is refused, and nothing is changed
  pub record Held (fault : Fault) : Type 0 where
    pub due : held r t (length table) k ≡ true
    pub fault_is : fault ≡ cond (finished t k.next) (Finished k.next) (NoRoom k.next (length (ending r t k.next)))
    pub same : k' ≡ k
    pub kept : table' ≡ table

  -- a run
  pub record RanBy (budget done : ℕ) (stop : Stop) : Type 0 where
    pub after : k' ≡ ran r t (length table) shift budget k
    pub steps : done ≡ k'.walks - k.walks
    pub stop_is : stop ≡ why t budget k'.next done
    pub added : Added k k' (listed r t k.next (k'.next - k.next)) table table'
