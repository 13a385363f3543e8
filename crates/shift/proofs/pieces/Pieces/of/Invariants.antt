use Rattle.std.proofs.Common.{◌≡◌, length, take, vec_items}
use Rattle.shift.specs.Listed.{Seconds, all_words, full_words}
use Rattle.shift.specs.Weighed.{EachWeighed}
use Rattle.shift.proofs.pieces.Pieces.of.Given as goal

abbrev pub invariant-loop-tail : goal.invariant-loop-tail
invariant-loop-tail l = record {
  each : EachWeighed l.arrows (all_words l.tails) (full_words l.tails) l.tails.depth (take l.tail-index (vec_items l.tails.list)) (vec_items l.list);
  known : Seconds l.tails (vec_items l.seconds);
  long : length (vec_items l.seconds) ≡ l.tail-index;
}
