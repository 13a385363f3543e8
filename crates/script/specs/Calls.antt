-- How calls and the table's size are written in a line. Assumes nothing.
use Rattle.std.specs.Prelude.{◌≡◌, ℕ, List, ◌∷◌, ◌++◌, codes}
use Rattle.search.specs.declared.numbers.Call.{Call}
use Rattle.search.specs.declared.numbers.Call.TheVariants.{Step, Run, Clear, Move}
use Rattle.lines.specs.Numbers.{Decimal}
use Rattle.script.specs.declared.engines.EngineName.{EngineName}
use Rattle.script.specs.Engines.{name_of, number_of}

-- `step ENGINE`, `run ENGINE BUDGET`, `clear`, `move PLACE`; numbers have 32 bits
abbrev pub Writes : List ℕ → Call → Type 0
Writes line (Step e) = (name : EngineName) × (line ≡ codes "step " ++ name_of name) × (e ≡ number_of name)
Writes line (Run e budget) = (name : EngineName) × (digits : List ℕ) × (line ≡ codes "run " ++ (name_of name ++ (32 ∷ digits))) × (e ≡ number_of name) × Decimal 4294967295 digits budget
Writes line Clear = line ≡ codes "clear"
Writes line (Move place) = (digits : List ℕ) × (line ≡ codes "move " ++ digits) × Decimal 4294967295 digits place

-- `table N`, N at most 65,536
abbrev pub WritesTable : List ℕ → ℕ → Type 0
WritesTable line size = (digits : List ℕ) × (line ≡ codes "table " ++ digits) × Decimal 65536 digits size
