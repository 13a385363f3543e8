-- `join` meets its contract. Assumes nothing.
use Rattle.std.proofs.Common.{refl}
use Rattle.expression.proofs.Parts.{outlines_join}
use Rattle.expression.proofs.outline.Outline.join.Goals as goal

pub returns : goal.returns
returns c r s before left right = outlines_join r s before c.args.self c.args.next left right _ _ _ _ refl c.saturating_add.ensures c.through.ensures c.through-2.ensures
