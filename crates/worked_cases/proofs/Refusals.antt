-- The refusals of the worked expressions. Assumes nothing.
use Rattle.std.proofs.Common.{true, false, [], ◌∷◌, refl, lit≤}
use Rattle.refusal.specs.declared.Fault.TheVariants.{NotInGrammar, ReversedRange, EmptySet}
use Rattle.syntax.specs.declared.mode.Mode.{Mode}
use Rattle.syntax.specs.declared.mode.Mode.TheVariants.{Bytes, Fields}
use Rattle.syntax.specs.declared.grammar.Form.TheVariants.{Need, Atom, Marked}
use Rattle.syntax.specs.Grammar.{plain, pair, range, last, set, once, only, lone, marked, simple}
use Rattle.syntax.specs.Reading.{not_in_grammar, beyond_limit}
use Rattle.syntax.proofs.Heads.{stuck, unfinished}
use Rattle.worked_cases.specs.WorkedCases.{RefusedBy}

pub nothing_refused : (m : Mode) → RefusedBy m [] 2 0
nothing_refused m = record {
  fault = NotInGrammar 0;
  due = not_in_grammar 0 refl (lit≤ tt) (unfinished _ _ Need 0 refl refl);
  by_number = refl;
  at_place = refl;
}

pub second_star_refused : RefusedBy Bytes (97 ∷ 42 ∷ 42 ∷ []) 2 2
second_star_refused = record {
  fault = NotInGrammar 2;
  due = not_in_grammar 2 refl (lit≤ tt) (stuck _ _ 2 Marked 0 (lit≤ tt) refl refl);
  by_number = refl;
  at_place = refl;
}

pub open_group_refused : RefusedBy Bytes (40 ∷ 97 ∷ 98 ∷ []) 2 3
open_group_refused = record {
  fault = NotInGrammar 3;
  due = not_in_grammar 3 refl (lit≤ tt) (unfinished _ _ Atom 1 refl refl);
  by_number = refl;
  at_place = refl;
}

pub backward_range_refused : RefusedBy Bytes (91 ∷ 98 ∷ 45 ∷ 97 ∷ 93 ∷ []) 4 1
backward_range_refused = record {
  fault = ReversedRange 1;
  due = beyond_limit (only (lone (marked (simple (set false (last (range (plain 98 refl) (plain 97 refl))))) once))) (record { short = lit≤ tt; as_bytes = refl }) refl;
  by_number = refl;
  at_place = refl;
}

pub empty_set_refused : RefusedBy Fields (60 ∷ 94 ∷ 48 ∷ 48 ∷ 45 ∷ 57 ∷ 57 ∷ 62 ∷ []) 5 0
empty_set_refused = record {
  fault = EmptySet 0;
  due = beyond_limit (only (lone (marked (simple (set true (last (range (pair 48 48 refl refl) (pair 57 57 refl refl))))) once))) (record { short = lit≤ tt; as_bytes = refl }) refl;
  by_number = refl;
  at_place = refl;
}
