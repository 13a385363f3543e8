-- `with` meets its contract. Assumes nothing.
use Rattle.std.proofs.Common.{refl, ap, ◌∙◌}
use Rattle.std.specs.Option.{option_or}
use Rattle.syntax.proofs.Walks.{kind_rest, notes_atom, noted_simple}
use Rattle.syntax.proofs.limits.Findings.with.Goals as goal

pub returns-in_default-clause-notes : goal.returns-in_default-clause-notes
returns-in_default-clause-notes c =
    notes_atom c.args.mode c.args.token c.args.place c.args.self _ (kind_rest c.args.token c.in_default.not-Open c.in_default.not-Close c.in_default.not-Bar c.in_default.not-Mark)
    (λ s done st n. noted_simple _ _ done n _ s _ _ refl (c.reversed.ensures s _ st) (c.holds_nothing.ensures s (_, st)) c.or.ensures (c.or-in_default.ensures ∙ ap (option_or c.args.self.empty) c.then_some-in_default.ensures) (c.or-in_default-2.ensures ∙ ap (option_or c.args.self.over) c.then_some-in_default-2.ensures) refl)
    refl
