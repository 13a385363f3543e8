-- What is added to a table of sets, row by row. Assumes nothing.
use Rattle.std.specs.Prelude.{◌≡◌, ℕ, ◌<◌, Bool, List, length, bit_or, slice_index}
use Rattle.regular.specs.Language.{Regex}
use Rattle.regular.specs.Positions.{holds, before}
use Rattle.regular.specs.Sets.{as_set}
use Rattle.expression.specs.declared.outline.Outline.{Outline}
use Rattle.expression.specs.Outlines.{Outlines}

-- each of the first n rows p gains the positions q with f p q
abbrev pub Gains : ℕ → List ℕ → List ℕ → (ℕ → ℕ → Bool) → Type 0
Gains n rows rows' f = (p : ℕ) → p < n → slice_index rows' p ≡ bit_or (slice_index rows p) (as_set (f p))

-- what an expression adds whose first position is at + 1: the positions that may stand before each, and those that hold each code
pub record Filled (r : Regex) (at : ℕ) (rows rows' codes codes' : List ℕ) (o : Outline) : Type 0 where
  pub outline : Outlines r at o
  pub arrows : Gains (length rows) rows rows' (λ p q. before r at q p)
  pub long : length codes' ≡ 256
  pub held : Gains 256 codes codes' (λ c q. holds r at q c)
