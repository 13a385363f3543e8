-- What an outline tells of an expression. Assumes nothing.
use Rattle.std.specs.Prelude.{◌≡◌, ℕ, ◌+◌, ◌≤◌}
use Rattle.regular.specs.Language.{Regex, shortest}
use Rattle.regular.specs.Positions.{size, nullable, begins, ends}
use Rattle.regular.specs.Sets.{as_set}
use Rattle.expression.specs.declared.outline.Outline.{Outline}

-- o is of the expression whose positions are before + 1 to before + size r, which are at most 63
pub record Outlines (r : Regex) (before : ℕ) (o : Outline) : Type 0 where
  pub few : before + size r ≤ 63
  pub end : o.end ≡ before + size r
  pub empty : o.nullable ≡ nullable r
  pub shortest : o.shortest ≡ shortest r
  pub firsts : o.firsts ≡ as_set (begins r before)
  pub lasts : o.lasts ≡ as_set (ends r before)
