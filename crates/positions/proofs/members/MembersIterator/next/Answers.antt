-- `next` meets its contract. Assumes nothing.
use Rattle.std.proofs.Common.{length, ap, ◌∙◌, arith}
use Rattle.positions.specs.Members.{members}
use Rattle.positions.proofs.Least.{no_members, least_member}
use Rattle.positions.proofs.members.MembersIterator.next.Goals as goal

pub returns-then-self-eq0-clause-steps : goal.returns-then-self-eq0-clause-steps
returns-then-self-eq0-clause-steps c = let none = ap members c.if-self-eq0.true ∙ no_members in (none, none)

pub returns-clause-steps : goal.returns-clause-steps
returns-clause-steps c = least_member c.args.self.now.bits (omega arith) (omega arith)

pub returns-clause-goes : goal.returns-clause-goes
returns-clause-goes c = record {
  on = λ _. (tt, tt, omega (arith, ap length (least_member c.args.self.now.bits (omega arith) (omega arith))));
  keeps = tt;
  rests = λ _. tt;
}
