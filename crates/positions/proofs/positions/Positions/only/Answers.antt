-- `only` meets its contract. Assumes nothing.
use Rattle.std.proofs.Common.{◌∙◌}
use Rattle.std.proofs.lemmas.Nat.{one_shl}
use Rattle.positions.proofs.Only.{only_inside, only_outside}
use Rattle.positions.proofs.positions.Positions.only.Goals as goal
use Rattle.positions.proofs.positions.Positions.only.Goals.{then-position-lt64, else-position-lt64}

pub returns : goal.returns
returns c =
    elim c.if-position-lt64.branch [
      | then-position-lt64 w ↦ w.bits-is ∙ one_shl c.args.position 64 w.if-position-lt64.true ∙ only_inside c.args.position w.if-position-lt64.true
      | else-position-lt64 w ↦ w.bits-is ∙ only_outside c.args.position w.if-position-lt64.false
    ]
