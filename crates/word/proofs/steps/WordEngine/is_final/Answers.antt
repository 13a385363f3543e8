use Rattle.std.proofs.Common.{arith}
use Rattle.std.proofs.lemmas.Bool.Decides.{Decides-eqb}
use Rattle.plain_word.proofs.Plain.{final_is}
use Rattle.word.proofs.steps.WordEngine.is_final.Goals as goal

pub returns : goal.returns
returns c v tail is =
    let e = c.args.self.now in
    let final = final_is e.expression.tree e.letters e.expression.exact e.spells v tail in
    let test = Decides-eqb c.args.state c.count.result in
    (λ t. final.0 (omega (arith, test.0 t)), λ p. test.1 (omega (arith, final.1 p)))
