use Rattle.plain_word.proofs.Plain.{advance_is}
use Rattle.word.proofs.steps.WordEngine.advance.Goals as goal

pub returns : goal.returns
returns c v tail is = let e = c.args.self.now in advance_is e.expression.tree e.letters e.expression.exact e.spells v tail c.args.code c.next.result (rw is at c.next.ensures)
