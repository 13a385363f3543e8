use Rattle.std.proofs.Common.{ℕ, List, Some, None, Option, MatchOption}
use Rattle.std.specs.Option.{option_or}
use Rattle.search.specs.declared.numbers.Call.{Call}
use Rattle.search.specs.declared.numbers.Call.TheVariants.{Step, Run, Clear, Move}
use Rattle.script.specs.Calls.{Writes}
use Rattle.script.proofs.calls.read_call.Goals as goal

-- a line that is no call of any kind is no call
first_of : (line : List ℕ) (step run clear move : Option Call)
    → MatchOption step ((e : ℕ) → Writes line (Step e) → ⊥) (λ c. Writes line c)
    → MatchOption run ((e b : ℕ) → Writes line (Run e b) → ⊥) (λ c. Writes line c)
    → MatchOption clear (Writes line Clear → ⊥) (λ c. Writes line c)
    → MatchOption move ((p : ℕ) → Writes line (Move p) → ⊥) (λ c. Writes line c)
    → MatchOption (option_or (option_or (option_or step run) clear) move) ((c : Call) → Writes line c → ⊥) (λ c. Writes line c)
first_of line (Some c) run clear move s r k m = s
first_of line None (Some c) clear move s r k m = r
first_of line None None (Some c) move s r k m = k
first_of line None None None (Some c) s r k m = m
first_of line None None None None s r k m = elim [ Step e ↦ s e | Run e b ↦ r e b | Clear ↦ k | Move p ↦ m p ]

pub returns : goal.returns
returns c = rw (c.or-3.ensures, c.or-2.ensures, c.or.ensures) (first_of c.args.line.now c.step_in.result c.run_in.result c.clear_in.result c.move_in.result c.step_in.ensures c.run_in.ensures c.clear_in.ensures c.move_in.ensures)
