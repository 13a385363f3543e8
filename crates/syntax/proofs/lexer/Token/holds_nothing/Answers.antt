-- `holds_nothing` meets its contract. Assumes nothing.
use Rattle.std.proofs.Common.{not, ap}
use Rattle.syntax.proofs.Tables.{any_held}
use Rattle.syntax.proofs.lexer.Token.holds_nothing.Goals as goal

pub returns-in_default : goal.returns-in_default
returns-in_default c s a = ap not (any_held c.args.mode s c.codes.result c.contains.result (c.codes.ensures.table s a) c.codes.ensures.long c.contains.ensures.cases)
