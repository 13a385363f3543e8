-- What `greatest` keeps as it takes in one position after another. Assumes nothing.
use Rattle.std.proofs.Common.{◌≡◌, ◌≤◌}
use Rattle.std.specs.Prelude.{fold, max, slice_index}
use Rattle.positions.specs.Members.{members}
use Rattle.positions.proofs.positions.Positions.greatest.Given as goal

abbrev pub invariant-loop-p : goal.invariant-loop-p
invariant-loop-p l = (1 ≤ l.best) × (fold (λ x p. max x (slice_index l.numbers p)) l.best (members l.p-iterator.bits) ≡ fold (λ x p. max x (slice_index l.numbers p)) 1 (members l.fn.self))
