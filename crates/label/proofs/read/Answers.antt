use Rattle.std.proofs.Common.{◌≤◌, length, Ok, sym, subst}
use Rattle.std.proofs.lemmas.Result.{err_from_is_err_and}
use Rattle.label.specs.Labels.{count, Headed, WellFormed}
use Rattle.label.specs.Reading.{Unsound, unsound, Reads}
use Rattle.label.proofs.Outcomes.{reads_refused, reads_filled}
use Rattle.label.proofs.read.Goals as goal

pub returns-in_err-header : goal.returns-in_err-header
returns-in_err-header c =
    let p = err_from_is_err_and c.from_residual.result c.from_residual.ensures.1 in
    rw (p.1, p.2) (reads_refused c.args.label.now c.args.fields.now c.in_err-header.ensures)

pub returns-in_err-check : goal.returns-in_err-check
returns-in_err-check c =
    let p = err_from_is_err_and c.from_residual-in_err-check.result c.from_residual-in_err-check.ensures.1 in
    let (same, room) = c.in_ok-header.ensures in
    rw (p.1, p.2) (reads_refused c.args.label.now c.args.fields.now (unsound (subst Headed same c.in_ok-header.header.headed) room (subst (λ l. Unsound l c.in_err-check.field-0.0) same c.in_err-check.ensures)))

pub returns : goal.returns
returns c =
    let header = c.in_ok-header.header in
    let (same, room) = c.in_ok-header.ensures in
    let formed : WellFormed header.label.now = record { header = header.headed; entries = c.in_ok-check.ensures } in
    subst (λ l. Reads l c.args.fields.now c.fill.new.fields (Ok c.count.result)) same
    (reads_filled header.label.now c.args.fields.now c.fill.new.fields _ formed (subst (λ l. count l ≤ length c.args.fields.now) (sym same) room) c.count.ensures c.fill.ensures.fields c.fill.ensures.rest)
