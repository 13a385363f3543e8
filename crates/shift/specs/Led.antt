-- A word with the positions that it leads to. Assumes nothing.
use Rattle.std.specs.Prelude.{◌≡◌, ℕ, List, map, length}
use Rattle.std.specs.List.{flat_map}
use Rattle.regular.specs.Language.{Regex}
use Rattle.regular.specs.Positions.{reached}
use Rattle.regular.specs.Sets.{as_set, held_of}
use Rattle.distance.specs.Found.{fronted, tails_upto}

pub record Led : Type 0 where
  pub codes : List ℕ
  pub positions : ℕ

-- .. in an expression
abbrev pub led : Regex → List ℕ → Led
led r v = record { codes = v; positions = as_set (reached r v) }

abbrev pub words : List Led → List (List ℕ)
words ts = map (λ (t : Led). t.codes) ts

-- the positions are those of the words
abbrev pub AllLed : Regex → List Led → Type 0
AllLed r ts = ts ≡ map (led r) (words ts)

-- how many codes there are
abbrev pub all_codes : Regex → ℕ
all_codes r = length (held_of r)

-- the tails of length n at most
abbrev pub listed : Regex → ℕ → List (List ℕ)
listed r n = tails_upto r (all_codes r) n

-- the tails that are one code longer than the words
abbrev pub longer_by_one : Regex → List (List ℕ) → List (List ℕ)
longer_by_one r ws = flat_map (fronted r (all_codes r)) ws
