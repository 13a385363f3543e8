use Rattle.std.proofs.Common.{[], get_or, take, sym, refl, ap, ◌∙◌}
use Rattle.std.proofs.Output.{has_written_append, has_written_of_eq}
use Rattle.std.proofs.lemmas.List.{take_more, flat_map_more}
use Rattle.std.specs.List.{flat_map}
use Rattle.search.specs.Messages.{match_line}
use Rattle.finder.proofs.ListingDisplay.fmt.Goals as goal

pub loop-start-preserved : goal.loop-start-preserved
loop-start-preserved g c plain =
    let xs = c.deref-start-items.result.now in
    let i = c.loop-start.start-index in
    let line = flat_map_more match_line [] (take i xs) (get_or xs i (0, 0)) ∙ ap (flat_map match_line) (sym (take_more xs i (0, 0) c.loop-start-test.true)) in
    let so_far = c.loop-start.invariant plain in
    has_written_of_eq _ _ _ _ _ line (has_written_append _ _ _ _ _ _ so_far (c.in_ok-writeln.ensures.writes so_far.plain refl))
