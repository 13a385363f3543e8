-- A script: an expression, a table's size and calls, a line for each, then an empty line and the text. Assumes nothing.
use Rattle.std.specs.Prelude.{◌≡◌, ℕ, zero, suc, List, [], ◌∷◌, ◌≢◌}
use Rattle.search.specs.declared.numbers.Call.{Call}
use Rattle.lines.specs.Lines.{line, behind}
use Rattle.script.specs.Calls.{Writes, WritesTable}

-- calls, a line for each, up to an empty line and the text, or to the end of input
abbrev pub WritesCalls : List ℕ → List Call → List ℕ → Type 0
WritesCalls bytes [] text = (line bytes ≡ []) × (text ≡ behind bytes)
WritesCalls bytes (c ∷ cs) text = (line bytes ≢ []) × Writes (line bytes) c × WritesCalls (behind bytes) cs text

-- the line of the number n, counted from 0, is not empty and no call, and those before it are calls
abbrev pub NoCallAt : List ℕ → ℕ → Type 0
NoCallAt bytes zero = (line bytes ≢ []) × ((c : Call) → Writes (line bytes) c → ⊥)
NoCallAt bytes (suc n) = (line bytes ≢ []) × ((c : Call) × Writes (line bytes) c) × NoCallAt (behind bytes) n

-- a whole script: the expression's line, the table's size, the calls and the text
pub record WritesScript (bytes expression : List ℕ) (size : ℕ) (calls : List Call) (text : List ℕ) : Type 0 where
  pub first : expression ≡ line bytes
  pub second : WritesTable (line (behind bytes)) size
  pub rest : WritesCalls (behind (behind bytes)) calls text

-- the number of the first line that is wrong, the expression's being 1
abbrev pub WrongLine : List ℕ → ℕ → Type 0
WrongLine bytes zero = ⊥
WrongLine bytes (suc zero) = ⊥
WrongLine bytes (suc (suc zero)) = (n : ℕ) → WritesTable (line (behind bytes)) n → ⊥
WrongLine bytes (suc (suc (suc n))) = ((size : ℕ) × WritesTable (line (behind bytes)) size) × NoCallAt (behind (behind bytes)) n
