-- `link` meets its contract. Assumes nothing.
use Rattle.std.proofs.Common.{get_or, sym, ap, ◌∙◌, cond, eqb, arith}
use Rattle.std.specs.List.{list_any}
use Rattle.std.proofs.lemmas.List.{get_or_default, map-id}
use Rattle.std.proofs.lemmas.Iterator.Consumers.{YieldsList-from_first, YieldsList-end}
use lib.Bits.{bit_or, or_zero_r}
use Rattle.positions.specs.Members.{members}
use Rattle.positions.proofs.Told.{member_told}
use Rattle.single.proofs.Linked.{linked_more}
use Rattle.single.proofs.fill.link.Goals as goal

pub loop-p-init : goal.loop-p-init
loop-p-init c k lt = sym (or_zero_r (get_or c.args.rows.now k 0))

pub loop-p-preserved-then-p-rows : goal.loop-p-preserved-then-p-rows
loop-p-preserved-then-p-rows c =
    linked_more c.args.rows.now c.loop-p.rows c.args.set c.loop-p.yielded c.loop-p.invariant c.in-Some.p c.bitor_assign.new.self (c.bitor_assign.ensures.after ∙ ap (λ x. bit_or x c.args.set) (get_or_default _ _ _ _ c.if-p-rows.true)) c.if-p-rows.true

pub returns : goal.returns
returns c p lt =
    let (all, _) = YieldsList-end (YieldsList-from_first (λ x. x) (λ s. members s.bits) (members c.args.from) (ap members c.into_iter-p-iterator.ensures.into_iter_gives)) c.loop-p.yielded c.loop-p.p-iterator c.loop-p.yielded_by c.next.result c.next.new.self c.in-None.is c.next.ensures.steps in
    c.loop-p.invariant p (omega (arith, lt, c.loop-p.auto.rows))
    ∙ ap (λ b. bit_or (get_or c.args.rows.now p 0) (cond b c.args.set 0)) (ap (list_any (λ q. eqb q p)) (sym (map-id c.loop-p.yielded) ∙ all) ∙ member_told c.args.from p (omega (arith, lt, c.requires)))
