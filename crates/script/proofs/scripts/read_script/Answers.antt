use Rattle.std.proofs.Common.{sym, refl, ap, ◌∙◌, subst, inr}
use Rattle.lines.specs.Lines.{line}
use Rattle.script.specs.Calls.{WritesTable}
use Rattle.script.proofs.scripts.read_script.Goals as goal

pub returns-in_default : goal.returns-in_default
returns-in_default c =
    let second = c.parted-2.ensures.line ∙ ap line c.parted.ensures.rest in
    inr (2, refl, λ n w. c.in_default.ensures n (subst (λ l. WritesTable l n) (sym second) w))
