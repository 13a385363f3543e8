-- How the numbers of a search, a run's end, an answer and a match are printed. Assumes nothing.
use Rattle.std.specs.Prelude.{ℕ, List, [], ◌++◌, codes, decimal}
use Rattle.refusal.specs.declared.Fault.{Fault}
use Rattle.refusal.specs.declared.Fault.TheVariants.{NoRoom}
use Rattle.refusal.specs.Messages.{fault_text}
use Rattle.search.specs.declared.numbers.Numbers.{Numbers}
use Rattle.search.specs.declared.numbers.Stop.{Stop}
use Rattle.search.specs.declared.numbers.Answer.{Answer}
use Rattle.search.specs.declared.numbers.Answer.TheVariants.{Wrote, Ran, Cleared, Moved, Refused}

abbrev pub numbers_text : Numbers → List ℕ
numbers_text k =
    codes "from " ++ decimal k.from
    ++ codes " next " ++ decimal k.next
    ++ codes " filled " ++ decimal k.filled
    ++ codes " walks " ++ decimal k.walks
    ++ codes " reads " ++ decimal k.reads

abbrev pub stop_text : Stop → List ℕ
stop_text Stop.Finished = codes "finished"
stop_text Stop.Budget = codes "budget"
stop_text Stop.Room = codes "room"

-- a refusal for want of room says how many matches end at its place
abbrev matches_text : Fault → List ℕ
matches_text (NoRoom p matches) = codes " with " ++ decimal matches
matches_text f = []

abbrev pub answer_text : Answer → List ℕ
answer_text (Wrote count) = codes "wrote " ++ decimal count
answer_text (Ran steps stop) = codes "ran " ++ decimal steps ++ codes " " ++ stop_text stop
answer_text (Cleared count) = codes "cleared " ++ decimal count
answer_text Moved = codes "moved"
answer_text (Refused fault) = fault_text fault ++ matches_text fault

-- a match has a line of its own
abbrev pub match_line : ℕ × ℕ → List ℕ
match_line m = decimal m.0 ++ (codes " " ++ (decimal m.1 ++ codes "\n"))
