-- `is_final` meets its contract. Assumes nothing.
use Rattle.syntax.specs.Tree.{language}
use Rattle.single.proofs.Stepping.{word_told}
use Rattle.single.proofs.single.SingleStepEngine.is_final.Goals as goal

pub returns : goal.returns
returns c v tail is = let e = c.args.self.now in word_told (language e.expression.tree) e.expression.few v c.is_empty.result _ c.args.state e.finals c.is_empty.ensures is e.ending (cc)
