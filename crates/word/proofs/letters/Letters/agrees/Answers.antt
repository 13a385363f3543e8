use Rattle.std.proofs.Common.{arith, ap, ◌∙◌, length}
use Rattle.plain_word.proofs.Aligned.{agrees_by}
use Rattle.word.proofs.letters.Letters.agrees.Goals as goal

pub returns : goal.returns
returns c =
    agrees_by c.args.self.now c.deref.result.now c.deref-2.result.now c.len-m.result c.args.j c.args.n c.max-over.result c.eq.result
    (omega (arith, ap length c.self.view_is, c.self.inside.list.ok)) (c.deref.ensures.value ∙ c.self.view_is) (c.deref-2.ensures.value ∙ c.self.view_is) c.max-over.ensures c.eq.ensures
