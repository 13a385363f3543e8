-- `bare_set` meets its contract. Assumes nothing.
use Rattle.syntax.proofs.Held.{fields_sole}
use Rattle.syntax.proofs.sets.bare_set.Goals as goal

pub returns-in-Fields : goal.returns-in-Fields
returns-in-Fields c xs h = fields_sole c.args.mode c.args.negated xs c.args.members.lexer c.sole.result c.in-Fields.is c.if-not-negated.true h c.sole.ensures
