-- How engines are named and numbered. Assumes nothing.
use Rattle.std.specs.Prelude.{◌≡◌, ℕ, List, codes, Result, MatchResult, ◌≢◌}
use Rattle.script.specs.declared.engines.EngineName.{EngineName}
use Rattle.script.specs.declared.engines.EngineName.TheVariants.{Single, Tabled, Word}
use Rattle.script.specs.declared.engines.UnknownEngine.{UnknownEngine}

abbrev pub name_of : EngineName → List ℕ
name_of Single = codes "single"
name_of Tabled = codes "tabled"
name_of Word = codes "word"

abbrev pub number_of : EngineName → ℕ
number_of Single = 0
number_of Tabled = 1
number_of Word = 2

-- the engine that the bytes name, if they name one
abbrev pub NamesEngine : List ℕ → Result EngineName UnknownEngine → Type 0
NamesEngine bytes r = MatchResult r (λ e. bytes ≡ name_of e) (λ _. (e : EngineName) → bytes ≢ name_of e)
