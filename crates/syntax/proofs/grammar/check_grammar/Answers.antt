-- `check_grammar` meets its contract. Assumes nothing.
use Rattle.std.proofs.Common.{sym, refl}
use Rattle.syntax.specs.Reading.{not_in_grammar}
use Rattle.syntax.proofs.Heads.{one_more, stuck, read_whole, read_short}
use Rattle.syntax.proofs.grammar.check_grammar.Goals as goal

pub returns-in_default : goal.returns-in_default
returns-in_default c = not_in_grammar _ refl c.requires (stuck _ _ _ _ _ c.loop-place-test.true c.loop-place.invariant.so_far (sym c.in_default.ensures))

pub loop-place-preserved : goal.loop-place-preserved
loop-place-preserved c = one_more _ _ _ _ _ _ _ c.loop-place.invariant c.loop-place-test.true c.in-Some.ensures

pub returns-then-is_final : goal.returns-then-is_final
returns-then-is_final c = read_whole _ _ _ _ _ c.loop-place.invariant c.loop-place-test.false c.if-is_final.ensures

pub returns-else-is_final : goal.returns-else-is_final
returns-else-is_final c = not_in_grammar _ refl c.requires (read_short _ _ _ _ _ c.loop-place.invariant c.loop-place-test.false c.if-is_final.ensures)
