-- `either` meets its contract. Assumes nothing.
use Rattle.std.proofs.Common.{refl, arith}
use Rattle.expression.proofs.Parts.{outlines_either}
use Rattle.expression.proofs.outline.Outline.either.Goals as goal

pub returns : goal.returns
returns c r s before left right = outlines_either r s before c.args.self c.args.other left right _ _ _ _ refl (omega arith) c.bitor.ensures c.bitor-2.ensures
