-- `advance` meets its contract. Assumes nothing.
use Rattle.std.proofs.Common.{refl, ◌∙◌, arith}
use Rattle.std.proofs.lemmas.Bool.{false≢true}
use Rattle.syntax.specs.Tree.{language}
use Rattle.syntax.proofs.Filled.{full_inhabited}
use Rattle.single.proofs.Stepping.{lost, found}
use Rattle.single.proofs.single.SingleStepEngine.advance.Goals as goal

pub returns-then-is_empty : goal.returns-then-is_empty
returns-then-is_empty c v tail is =
    let e = c.args.self.now in
    let x = e.expression in
    lost (language x.tree) x.few v (full_inhabited x.tree x.full) c.args.code c.args.state _ _ _ (omega (arith, c.ranges.code)) is (c.deref.ensures.value ∙ e.entering) e.holding c.index-self-from.result (cc) (c.if-is_empty.ensures.0 refl)

pub returns-else-is_empty : goal.returns-else-is_empty
returns-else-is_empty c v tail is =
    let e = c.args.self.now in
    let x = e.expression in
    found (language x.tree) x.few v (full_inhabited x.tree x.full) c.args.code c.args.state _ _ _ (omega (arith, c.ranges.code)) is (c.deref.ensures.value ∙ e.entering) e.holding c.index-self-from.result (cc) (λ z. false≢true (c.if-is_empty.ensures.1 z))
