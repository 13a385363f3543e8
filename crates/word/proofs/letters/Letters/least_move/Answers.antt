use Rattle.std.proofs.Common.{◌≡◌, ◌≤◌, length, ap, arith, rules}
use Rattle.std.proofs.lemmas.Iterator.{first_from_Range}
use Rattle.plain_word.specs.Jumps.{Agrees, LeastMove}
use Rattle.plain_word.proofs.Aligned.{first_agrees}
use Rattle.word.proofs.letters.Letters.least_move.Goals as goal
use Rattle.word.proofs.letters.Letters.least_move.Goals.{After-unwrap_or}

found : (c : After-unwrap_or) → LeastMove c.args.self.now c.args.j c.unwrap_or.result × (c.unwrap_or.result ≤ c.len-m.result)
found c =
    let w = c.args.self.now in
    let A = Agrees w c.args.j in
    let m : c.len-m.result ≡ length w = omega (arith, ap length c.self.view_is, c.self.inside.list.ok) in
    rw c.unwrap_or.ensures (first_agrees w c.args.j c.len-m.result c.find.result m (omega (arith, ap length c.self.view_is, c.self.invariant.0))
    (first_from_Range _ _ _ c.find.result A (λ n. A n → ⊥) c.find.ensures.ran (λ x q k. search rules) (λ x q k. search rules)))

pub overflow_cast-result : goal.overflow_cast-result
overflow_cast-result c = omega (arith, (found c).1, ap length c.self.view_is)

pub returns : goal.returns
returns c = (found c).0
