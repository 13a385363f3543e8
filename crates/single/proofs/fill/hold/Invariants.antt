-- What `hold` keeps as it goes over the codes. Assumes nothing.
use Rattle.std.proofs.Common.{◌≡◌, ℕ, ◌<◌, ◌≤◌, false, cond, length, get_or}
use lib.Bits.{bit_or}
use Rattle.single.proofs.fill.hold.Given as goal

abbrev pub invariant-loop-code : goal.invariant-loop-code
invariant-loop-code l = record {
  long : length l.held ≡ 256;
  done : (k : ℕ) → k < l.code → get_or l.held k 0 ≡ bit_or (get_or l.initial.held k 0) (cond (get_or l.codes k false) l.set 0);
  left : (k : ℕ) → l.code ≤ k → get_or l.held k 0 ≡ get_or l.initial.held k 0;
}
