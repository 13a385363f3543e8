use Rattle.std.proofs.Common.{arith}
use Rattle.std.proofs.lemmas.Grind.{common_steps}
use Rattle.plain_word.proofs.Plain.{counted}
use Rattle.word.proofs.steps.WordEngine.jump.Goals as goal

pub returns-clause-value : goal.returns-clause-value
returns-clause-value c v tail is =
    let e = c.args.self.now in
    let within = counted e.expression.tree e.letters e.expression.exact e.spells v tail in
    let count = e.count in
    grind (arith, common_steps)
