-- The outline of an expression, from those of its parts. Assumes nothing.
use Rattle.std.proofs.Common.{◌≡◌, ℕ, ◌+◌, ◌-◌, ◌^◌, ◌≤◌, min, Bool, cond, ◌&&◌, ◌||◌, ◌∙◌, subst, ap₂, arith}
use lib.Bits.{bit_or}
use Rattle.regular.specs.Language.{Regex, one, join, either, star, plus, maybe, shortest}
use Rattle.regular.specs.Positions.{size, nullable, begins, ends}
use Rattle.positions.proofs.Unions.{union_set, union_when, union_turned}
use Rattle.expression.specs.declared.outline.Outline.{Outline}
use Rattle.expression.specs.Outlines.{Outlines}

-- no word is needed that is longer than there are positions
pub shortest_few : (r : Regex) → shortest r ≤ size r
shortest_few (one s) = omega arith
shortest_few (join a b) = omega (arith, shortest_few a, shortest_few b)
shortest_few (either a b) = omega (arith, shortest_few a, shortest_few b)
shortest_few (star a) = omega arith
shortest_few (plus a) = shortest_few a
shortest_few (maybe a) = omega arith

module _ (r s : Regex) (before : ℕ) (x y : Outline) (left : Outlines r before x) (right : Outlines s x.end y) where
  there : Outlines s (before + size r) y
  there = subst (λ n. Outlines s n y) left.end right

  pub outlines_either : (n : Bool) (m f l : ℕ) → n ≡ (x.nullable || y.nullable) → m ≡ min x.shortest y.shortest → f ≡ bit_or x.firsts y.firsts → l ≡ bit_or x.lasts y.lasts
      → Outlines (either r s) before (record { end = y.end; nullable = n; shortest = m; firsts = f; lasts = l })
  outlines_either n m f l ns ms fs ls = record {
    few = omega (arith, there.few);
    end = omega (arith, there.end);
    empty = ns ∙ ap₂ ◌||◌ left.empty there.empty;
    shortest = ms ∙ ap₂ min left.shortest there.shortest;
    firsts = fs ∙ ap₂ bit_or left.firsts there.firsts ∙ union_set (begins r before) (begins s (before + size r));
    lasts = ls ∙ ap₂ bit_or left.lasts there.lasts ∙ union_set (ends r before) (ends s (before + size r));
  }

  pub outlines_join : (n : Bool) (m f l : ℕ) → n ≡ (x.nullable && y.nullable) → m ≡ min (x.shortest + y.shortest) (2 ^ 32 - 1)
      → f ≡ cond x.nullable (bit_or x.firsts y.firsts) x.firsts → l ≡ cond y.nullable (bit_or y.lasts x.lasts) y.lasts
      → Outlines (join r s) before (record { end = y.end; nullable = n; shortest = m; firsts = f; lasts = l })
  outlines_join n m f l ns ms fs ls = record {
    few = omega (arith, there.few);
    end = omega (arith, there.end);
    empty = ns ∙ ap₂ ◌&&◌ left.empty there.empty;
    shortest = omega (arith, ms, left.shortest, there.shortest, there.few, shortest_few r, shortest_few s);
    firsts = fs ∙ (λ i. cond (left.empty i) (bit_or (left.firsts i) (there.firsts i)) (left.firsts i)) ∙ union_when (nullable r) (begins r before) (begins s (before + size r));
    lasts = ls ∙ (λ i. cond (there.empty i) (bit_or (there.lasts i) (left.lasts i)) (there.lasts i)) ∙ union_turned (nullable s) (ends s (before + size r)) (ends r before);
  }
