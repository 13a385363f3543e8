use Rattle.std.proofs.Common.{◌≡◌, ℕ, ◌<◌, get_or, drop}
use Rattle.label.specs.declared.Field.{Field}
use Rattle.label.specs.Labels.{entry}
use Rattle.label.proofs.header.Header.fill.Given as goal

-- the fields so far are the entries, and the list behind them is as it was
abbrev pub invariant-loop-i : goal.invariant-loop-i
invariant-loop-i l =
    record {
      fields : (k : ℕ) (d : Field) → k < l.i → get_or l.fields k d ≡ entry l.self.label.now k;
      rest : drop l.i l.fields ≡ drop l.i l.initial.fields;
    }
