use Rattle.std.proofs.Common.{◌∷◌, ◌++◌, take, vec_items, sym, ap, ap₂, ◌∙◌}
use Rattle.std.proofs.Output.{has_written_of_eq}
use Rattle.std.specs.List.{flat_map}
use Rattle.search.specs.Messages.{match_line, numbers_text}
use Rattle.calling.specs.Told.{answer_line}
use Rattle.calling.specs.Messages.{result_text}
use Rattle.calling.proofs.telling.TellingDisplay.fmt.Goals as goal

pub returns-in-Ok-clause-writes : goal.returns-in-Ok-clause-writes
returns-in-Ok-clause-writes g c plain ok =
    let t = c.args.self.now in
    let numbers = c.in-Ok.outcome.numbers in
    let answers = ap (flat_map answer_line) c.deref.ensures.value in
    let matches = ap (flat_map match_line) (c.filled_part.ensures ∙ ap (take numbers.filled) c.deref-in-Ok.ensures.value) in
    has_written_of_eq _ _ _ _ _
    (ap₂ (λ a m. a ++ (numbers_text numbers ++ (10 ∷ m))) answers matches ∙ sym (ap (λ o. result_text o (vec_items t.table)) c.in-Ok.is))
    (c.write.ensures.writes plain ok)
