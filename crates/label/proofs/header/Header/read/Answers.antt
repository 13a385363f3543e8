-- Each refusal has its constructor; what is left is the length of the rest that the pattern gives.
use Rattle.std.proofs.Common.{◌≡◌, ℕ, take, drop, ◌-◌, ◌/◌, length, ap, ◌∙◌, arith, rules, length-drop}
use Rattle.std.specs.Simd.{first_chunks}
use Rattle.std.proofs.lemmas.List.{take_rest}
use Rattle.label.specs.Reading.{short, other_edition, many, cut_off, narrow}
use Rattle.label.proofs.Entries.{take_chunks}
use Rattle.label.proofs.header.Header.read.Goals as goal

pub returns-then-edition-ne-EDITION : goal.returns-then-edition-ne-EDITION
returns-then-edition-ne-EDITION c = other_edition (search rules) c.if-edition-ne-EDITION.true

pub returns-then-count-gt-MOST_ENTRIES : goal.returns-then-count-gt-MOST_ENTRIES
returns-then-count-gt-MOST_ENTRIES c = many (search rules) c.if-edition-ne-EDITION.false c.if-count-gt-MOST_ENTRIES.true

pub returns-then-entries-count : goal.returns-then-entries-count
returns-then-entries-count c =
    let len : length c.as_chunks.result.0.now ≡ (length c.args.label.now - 2) / 4 = simp (take_rest, length-drop) at c.as_chunks.ensures.front_len in
    cut_off (search rules) c.if-edition-ne-EDITION.false c.if-count-gt-MOST_ENTRIES.false (omega (arith, c.from-count.ensures))

pub returns-then-room-count : goal.returns-then-room-count
returns-then-room-count c =
    let len : length c.as_chunks.result.0.now ≡ (length c.args.label.now - 2) / 4 = simp (take_rest, length-drop) at c.as_chunks.ensures.front_len in
    narrow (record { begun = search rules; third = c.if-edition-ne-EDITION.false; few = c.if-count-gt-MOST_ENTRIES.false; whole = omega (arith, c.from-count.ensures) }) (omega (arith, c.from-count.ensures))

pub returns-in_default : goal.returns-in_default
returns-in_default c = short (search rules)

pub invariant_of-result : goal.invariant_of-result
invariant_of-result c =
    let chunks = simp take_rest at c.as_chunks.ensures.front in
    let len : length c.as_chunks.result.0.now ≡ (length c.args.label.now - 2) / 4 = simp (take_rest, length-drop) at c.as_chunks.ensures.front_len in
    record {
      headed = record { begun = search rules; third = c.if-edition-ne-EDITION.false; few = c.if-count-gt-MOST_ENTRIES.false; whole = omega (arith, c.from-count.ensures) };
      listed = ap (take c.from-count.result) chunks ∙ take_chunks c.from-count.result _ (drop 2 c.args.label.now) (omega (arith, length-drop 2 c.args.label.now)) ∙ ap (λ (n : ℕ). first_chunks 4 n (drop 2 c.args.label.now)) c.from-count.ensures;
    }
