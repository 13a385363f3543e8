-- `closure` meets its contract. Assumes nothing.
use Rattle.std.proofs.Common.{◌≢◌, suc, length, sym, ap, ◌∙◌, ap₂, arith}
use Rattle.std.proofs.lemmas.Bool.{eqb-false}
use lib.Bits.{bit_or, or_add_and, and_le_r}
use Rattle.regular.specs.Sets.{followed}
use Rattle.positions.proofs.positions.Positions.closure.Goals as goal

pub loop-next-smaller : goal.loop-next-smaller
loop-next-smaller c =
    let all = c.loop-next.all in
    let more : c.bitor-next.result ≢ all = eqb-false _ _ (sym c.eq.ensures ∙ c.if-eq.false) in
    omega (arith, c.bitor-next.type_inv, c.bitor-next.ensures, or_add_and all c.follow.result, and_le_r all c.follow.result)

pub loop-next-preserved : goal.loop-next-preserved
loop-next-preserved c =
    let (n, is) = c.loop-next.invariant in
    (suc n, c.bitor-next.ensures ∙ ap₂ bit_or is (c.follow.ensures ∙ ap (λ s. followed c.args.rows.now s (length c.args.rows.now)) is))
