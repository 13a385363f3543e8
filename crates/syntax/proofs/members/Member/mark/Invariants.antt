-- What `mark` keeps as it goes over the codes. Assumes nothing.
use Rattle.std.proofs.Common.{◌≡◌, ℕ, ◌+◌, ◌<◌, ◌≤◌, ◌||◌, ◌&&◌, leb, ltb, false, get_or}
use Rattle.syntax.proofs.members.Member.mark.Given as goal

abbrev pub invariant-loop-code : goal.invariant-loop-code
invariant-loop-code l = record {
  within : l.fn.self.last + 1 < l.code → l.code ≤ l.fn.self.first;
  marked : (k : ℕ) → k < 256 → get_or l.table k false ≡ (get_or l.initial.table k false || (leb l.fn.self.first k && ltb k l.code));
}
