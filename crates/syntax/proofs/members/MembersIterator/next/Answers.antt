-- `next` meets its contract. Assumes nothing.
use Rattle.std.proofs.Common.{length, ap, arith}
use Rattle.syntax.proofs.Listing.{next_listed}
use Rattle.syntax.proofs.members.MembersIterator.next.Goals as goal

pub returns-clause-steps : goal.returns-clause-steps
returns-clause-steps c = next_listed c.args.self.now (record { lexer = c.member.new.self }) _ c.in_ok-member.ensures

pub returns-clause-goes : goal.returns-clause-goes
returns-clause-goes c =
    let first = next_listed c.args.self.now (record { lexer = c.member.new.self }) _ c.in_ok-member.ensures in
    record { on = λ _. (tt, tt, omega (arith, ap length first)); keeps = tt; rests = λ _. tt }
