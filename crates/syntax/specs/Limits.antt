-- What is noted of the parts of an expression, from its tokens. Assumes nothing.
use Rattle.std.specs.Prelude.{◌≡◌, ℕ, ◌+◌, ◌-◌, List, [], ◌∷◌, length, drop, Some, None, Ok, Err, Option, Result}
use Rattle.std.specs.List.{flat_map}
use Rattle.refusal.specs.declared.Fault.{Fault}
use Rattle.syntax.specs.declared.mode.Mode.{Mode}
use Rattle.syntax.specs.declared.limits.Findings.{Findings}
use Rattle.syntax.specs.Grammar.{Part, group_at, simple_at, Tree, expression}
use Rattle.syntax.specs.Refusals.{first, too_deep, reversed, empty_set, position, breach_of, breach}
use Rattle.syntax.specs.Tokens.{Lexeme, open_group, close_group, bar, mark, atom}

-- the findings f are those of the parts
pub record Noted (m : Mode) (f : Findings) (parts : List (Part m)) : Type 0 where
  pub deep : f.deep ≡ first (flat_map too_deep parts)
  pub reversed : f.reversed ≡ first (flat_map reversed parts)
  pub empty : f.empty ≡ first (flat_map empty_set parts)
  pub over : f.over ≡ first (drop 63 (flat_map position parts))
  pub positions : f.positions ≡ length (flat_map position parts)

-- the part that a lexeme at the depth d and the place p begins, and the depth behind it
abbrev pub part_of : {m : Mode} → Lexeme m → ℕ → ℕ → List (Part m)
part_of open_group d p = group_at (d + 1) p ∷ []
part_of close_group d p = []
part_of bar d p = []
part_of (mark k) d p = []
part_of (atom s) d p = simple_at s p ∷ []

abbrev pub depth_behind : {m : Mode} → Lexeme m → ℕ → ℕ
depth_behind open_group d = d + 1
depth_behind close_group d = d - 1
depth_behind bar d = d
depth_behind (mark k) d = d
depth_behind (atom s) d = d

-- the fault, if any, as a result
abbrev pub or_ok : Option Fault → Result (Unit {0}) Fault
or_ok None = Ok tt
or_ok (Some f) = Err f

abbrev pub verdict_of : Findings → Result (Unit {0}) Fault
verdict_of f = or_ok (breach_of f.deep f.reversed f.empty f.over)

-- the result tells the limit that the tree breaks
abbrev pub Checked : {m : Mode} → Tree m expression → Result (Unit {0}) Fault → Type 0
Checked t r = r ≡ or_ok (breach t)
