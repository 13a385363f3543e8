-- What `follow` keeps as it takes in one position after another. Assumes nothing.
use Rattle.std.proofs.Common.{◌≡◌}
use Rattle.std.specs.Prelude.{fold, bit_or, slice_index}
use Rattle.positions.specs.Members.{members}
use Rattle.positions.proofs.positions.Positions.follow.Given as goal

abbrev pub invariant-loop-p : goal.invariant-loop-p
invariant-loop-p l = fold (λ x p. bit_or x (slice_index l.rows p)) l.all (members l.p-iterator.bits) ≡ fold (λ x p. bit_or x (slice_index l.rows p)) 0 (members l.fn.self)
