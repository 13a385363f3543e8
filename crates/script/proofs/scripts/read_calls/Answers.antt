use Rattle.std.proofs.Common.{◌≡◌, ◌+◌, length, vec_items, sym, ap, ◌∙◌, subst, inr, arith}
use Rattle.script.specs.Calls.{Writes}
use Rattle.script.specs.declared.scripts.Misread.{Misread}
use Rattle.lines.proofs.Feeds.{behind_shorter}
use Rattle.script.proofs.Taking.{leads_all, leads_more, leads_end, leads_wrong, not_empty, empty}
use Rattle.script.proofs.scripts.read_calls.Goals as goal

pub loop-line-init : goal.loop-line-init
loop-line-init c = leads_all c.args.bytes.now (vec_items c.new-calls.result) c.new-calls.ensures.items

pub loop-line-preserved : goal.loop-line-preserved
loop-line-preserved c =
    let is = c.parted.ensures.line in
    leads_more c.args.bytes.now (vec_items c.loop-line.calls) c.loop-line.rest.now c.loop-line.invariant c.in-Some.call (not_empty c.loop-line.rest.now c.parted.result.0.now is c.if-is_empty.ensures)
    (subst (λ l. Writes l c.in-Some.call) is c.in-Some.ensures) _ _ c.in_ok-push.ensures.items c.parted.ensures.rest

pub loop-line-smaller : goal.loop-line-smaller
loop-line-smaller c =
    let shorter = behind_shorter c.loop-line.rest.now (not_empty c.loop-line.rest.now c.parted.result.0.now c.parted.ensures.line c.if-is_empty.ensures) in
    omega (arith, ap length c.parted.ensures.rest)

pub returns-then-is_empty : goal.returns-then-is_empty
returns-then-is_empty c =
    leads_end c.args.bytes.now (vec_items c.loop-line.calls) c.loop-line.rest.now c.loop-line.invariant c.parted.result.1.now
    (sym c.parted.ensures.line ∙ empty c.parted.result.0.now c.if-is_empty.ensures) c.parted.ensures.rest

pub returns-in_default : goal.returns-in_default
returns-in_default c =
    let is = c.parted.ensures.line in
    let same : c.len.result ≡ length (vec_items c.loop-line.calls) = omega (arith, c.len.ensures, c.loop-line.calls.ok) in
    inr (
      length (vec_items c.loop-line.calls),
      ap (λ n. Misread.Line (n + 3)) same,
      leads_wrong c.args.bytes.now (vec_items c.loop-line.calls) c.loop-line.rest.now c.loop-line.invariant (not_empty c.loop-line.rest.now c.parted.result.0.now is c.if-is_empty.ensures) (λ x w. c.in_default.ensures x (subst (λ l. Writes l x) (sym is) w)),
    )
