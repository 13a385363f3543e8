-- What the rules fix at one place of a text, over its codes and the expression. Assumes nothing.
use Rattle.std.specs.Prelude.{ℕ, ◌+◌, ◌-◌, min, Bool, cond, List, length, ◌==◌, nat_lt}
use Rattle.regular.specs.Language.{Regex}
use Rattle.regular.specs.Matches.{ending, reach, longest}
use Rattle.search.specs.declared.numbers.Stop.{Stop}

-- every place is looked at
abbrev pub finished : List ℕ → ℕ → Bool
finished t next = nat_lt (length t) next

-- more matches end at next than there is room
abbrev pub crowded : Regex → List ℕ → ℕ → ℕ → Bool
crowded r t room next = nat_lt room (length (ending r t next))

-- where a step leads: on by the shift of the longest tail that ends at next, up to length + 1
abbrev pub onward : Regex → List ℕ → (List ℕ → ℕ) → ℕ → ℕ
onward r t shift next = min (next + shift (longest r t next)) (length t + 1)

-- how many symbols a step reads: those of the longest tail and the one before it, as far as the text has them
abbrev pub reading : Regex → List ℕ → ℕ → ℕ
reading r t next = min next (next - reach r t next next + 1)

-- why a run ended that was allowed `budget` steps and did `done`
abbrev pub why : List ℕ → ℕ → ℕ → ℕ → Stop
why t budget next done = cond (finished t next) Stop.Finished (cond (done == budget) Stop.Budget Stop.Room)
