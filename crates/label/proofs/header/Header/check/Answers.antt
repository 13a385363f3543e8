use Rattle.std.proofs.Common.{ℕ, ◌<◌, ◌≤◌, length, sym, ap, ◌∙◌, subst, arith, below_more}
use Rattle.label.specs.declared.Field.{Field}
use Rattle.label.specs.Labels.{place, entry, lies_within, Within, Sound}
use Rattle.label.specs.Reading.{unknown, outside}
use Rattle.label.proofs.Entries.{length_entries, says, not_within, is_sound}
use Rattle.label.proofs.header.Header.check.Goals as goal

pub returns-then-field-gt-HIGHEST_IDENTIFIER : goal.returns-then-field-gt-HIGHEST_IDENTIFIER
returns-then-field-gt-HIGHEST_IDENTIFIER c =
    let h = c.args.self.now in
    let i = c.loop-i.i in
    rw c.place.ensures (unknown i (record { listed = omega (arith, length_entries h.label.now h.entries.now h.listed); sound = c.loop-i.invariant })
    (subst (λ (f : Field). 99 < f.identifier) (c.from-field.ensures ∙ says h.label.now h.entries.now h.listed i _ c.loop-i-test.true) c.if-field-gt-HIGHEST_IDENTIFIER.true))

pub returns-then-not-is_within : goal.returns-then-not-is_within
returns-then-not-is_within c =
    let h = c.args.self.now in
    let i = c.loop-i.i in
    let same = c.from-field.ensures ∙ says h.label.now h.entries.now h.listed i _ c.loop-i-test.true in
    let end = c.place-header_end.ensures ∙ ap place c.count.ensures in
    let out = ap (λ (n : ℕ). lies_within c.from-field.result n (length h.label.now)) (sym end) ∙ sym c.if-not-is_within.ensures in
    rw c.place-then-not-is_within.ensures (outside i (record { listed = omega (arith, length_entries h.label.now h.entries.now h.listed); sound = c.loop-i.invariant })
    (subst (λ (f : Field). f.identifier ≤ 99) same c.if-field-gt-HIGHEST_IDENTIFIER.false)
    (subst (λ (f : Field). Within h.label.now f → ⊥) same (not_within h.label.now c.from-field.result out)))

pub loop-i-preserved : goal.loop-i-preserved
loop-i-preserved c =
    let h = c.args.self.now in
    let i = c.loop-i.i in
    let same = c.from-field.ensures ∙ says h.label.now h.entries.now h.listed i _ c.loop-i-test.true in
    let end = c.place-header_end.ensures ∙ ap place c.count.ensures in
    let inside = ap (λ (n : ℕ). lies_within c.from-field.result n (length h.label.now)) (sym end) ∙ sym c.if-not-is_within.ensures in
    below_more (λ n. Sound h.label.now (entry h.label.now n)) i c.loop-i.invariant (subst (Sound h.label.now) same (is_sound h.label.now c.from-field.result c.if-field-gt-HIGHEST_IDENTIFIER.false inside))

pub returns : goal.returns
returns c i less = let h = c.args.self.now in c.loop-i.invariant i (omega (arith, length_entries h.label.now h.entries.now h.listed))
