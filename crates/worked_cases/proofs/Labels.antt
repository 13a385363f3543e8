-- The worked labels. Assumes nothing.
use Rattle.std.proofs.Common.{ℕ, zero, suc, ◌<◌, [], ◌∷◌, refl, arith, lit≤}
use Rattle.refusal.specs.declared.Fault.TheVariants.{PartOutside}
use Rattle.label.specs.Labels.{entry, Sound, Headed}
use Rattle.label.specs.Reading.{outside, unsound}
use Rattle.worked_cases.specs.WorkedCases.{OneField, LabelRefusedBy, label_with}

headed : (offset : ℕ) → Headed (label_with offset)
headed offset = record { begun = lit≤ tt; third = refl; few = lit≤ tt; whole = lit≤ tt }

pub one_field : OneField (label_with 6) (record { identifier = 10; offset = 6; length = 2 }) (76 ∷ 55 ∷ [])
one_field = record { well_formed = record { header = headed 6; entries = sound }; one = refl; field = refl; its_bytes = refl }
  where
    sound : (i : ℕ) → i < 1 → Sound (label_with 6) (entry (label_with 6) i)
    sound zero l = record { known = lit≤ tt; within = record { behind = lit≤ tt; inside = lit≤ tt } }
    sound (suc i) l = absurd (omega arith)

pub part_outside : LabelRefusedBy (label_with 7) 15 2
part_outside = record {
  fault = PartOutside 2;
  due = λ room roomy. unsound (headed 7) roomy (outside 0 (record { listed = lit≤ tt; sound = λ k l. absurd (omega arith) }) (lit≤ tt) (λ w. omega (arith, w.inside)));
  by_number = refl;
  at_place = refl;
}
