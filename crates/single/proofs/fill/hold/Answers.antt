-- `hold` meets its contract. Assumes nothing.
use Rattle.std.proofs.Common.{◌≡◌, ◌≢◌, ℕ, ◌<◌, false, cond, length, get_or, ◌∙◌, arith, below_more}
use Rattle.std.proofs.lemmas.List.{length-set, get_or-set_same, get_or-set_other, get_or_default}
use lib.Bits.{bit_or, or_zero_r}
use Rattle.single.proofs.fill.hold.Goals as goal
use Rattle.single.proofs.fill.hold.Goals.{then-holds, else-holds}

pub loop-code-preserved : goal.loop-code-preserved
loop-code-preserved c =
    let i = c.loop-code.code in
    let rows = c.loop-code.held in
    let h = c.loop-code.invariant in
    let lt : i < length rows = omega (arith, h.long) in
    let here : get_or c.if-holds.held i 0 ≡ bit_or (get_or rows i 0) (cond (get_or c.args.codes.now i false) c.args.set 0) =
    elim c.if-holds.branch [
      | then-holds w ↦ rw (w.held-is, get_or-set_same rows i _ 0 lt, w.bitor_assign.ensures.after, get_or_default rows i _ 0 lt, w.if-holds.true)
      | else-holds w ↦ rw (w.held-is, w.if-holds.false, or_zero_r (get_or rows i 0))
    ] in
    let there : (k : ℕ) → k ≢ i → get_or c.if-holds.held k 0 ≡ get_or rows k 0 =
    elim c.if-holds.branch [ then-holds w ↦ λ k ne. rw w.held-is (get_or-set_other rows i k _ 0 ne) | else-holds w ↦ λ k ne. rw w.held-is ] in
    record {
      long = elim c.if-holds.branch [ then-holds w ↦ rw (w.held-is, length-set rows i _) h.long | else-holds w ↦ rw w.held-is h.long ];
      done = below_more _ _ (λ k l. there k (λ e. omega arith) ∙ h.done k l) (rw (here, h.left i (omega arith)));
      left = λ k l. there k (λ e. omega arith) ∙ h.left k (omega arith);
    }
