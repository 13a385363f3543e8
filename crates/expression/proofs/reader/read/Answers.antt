-- `read` meets its contract. Assumes nothing.
use Rattle.std.proofs.Common.{sym, subst, arith}
use Rattle.regular.specs.Language.{Regex, Within}
use Rattle.syntax.proofs.Verdicts.{accepted_few, accepted_full}
use Rattle.expression.proofs.Bounded.{tree_within}
use Rattle.expression.proofs.reader.read.Goals as goal

pub outline_of-outline-requires : goal.outline_of-outline-requires
outline_of-outline-requires c = omega (arith, accepted_few _ _ _ c.in_ok-tree.ensures.outcome)

pub invariant_of-result : goal.invariant_of-result
invariant_of-result c =
    let a = c.in_ok-tree.ensures.outcome in
    record {
      few = accepted_few _ _ _ a;
      full = accepted_full _ _ _ a;
      exact = a.values_are_exact;
      within = subst (λ (r : Regex). Within 256 r) (sym a.means_it) (tree_within a.tree);
      outlined = c.outline_of-outline.ensures;
    }
