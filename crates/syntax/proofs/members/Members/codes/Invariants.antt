-- What `codes` keeps as it goes over the members. Assumes nothing.
use Rattle.std.proofs.Common.{◌≡◌, ℕ, ◌<◌, ◌||◌, false, get_or}
use Rattle.std.specs.List.{list_any}
use Rattle.syntax.specs.Members.{covers, listed}
use Rattle.syntax.proofs.members.Members.codes.Given as goal

abbrev pub invariant-loop-member : goal.invariant-loop-member
invariant-loop-member l =
    (c : ℕ) → c < 256 → (get_or l.codes c false || list_any (λ k. covers k c) (listed l.member-iterator)) ≡ list_any (λ k. covers k c) (listed l.fn.self)
