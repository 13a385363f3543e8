-- `outline_of` meets its contract. Assumes nothing.
use Rattle.std.proofs.Common.{refl, ap, arith}
use Rattle.regular.specs.Positions.{size}
use Rattle.syntax.specs.Tree.{language}
use Rattle.expression.proofs.outline.+outline_of.Goals as goal

pub returns-in-Atom : goal.returns-in-Atom
returns-in-Atom t c = rw c.in-Atom.is (c.atom.ensures _ c.args.before refl (omega (arith, c.requires, ap (λ n. size (language n)) c.in-Atom.is)))

pub returns-in-Join : goal.returns-in-Join
returns-in-Join t c = rw (c.in-Join.is, ← c.deref-in-Join.ensures, ← c.deref-in-Join-2.ensures) (c.join.ensures _ _ _ c.outline_of-left.ensures c.outline_of-in-Join.ensures)

pub returns-in-Either : goal.returns-in-Either
returns-in-Either t c = rw (c.in-Either.is, ← c.deref-in-Either.ensures, ← c.deref-in-Either-2.ensures) (c.either.ensures _ _ _ c.outline_of-left-in-Either.ensures c.outline_of-in-Either.ensures)
