-- `fill` meets its contract. Assumes nothing.
use Rattle.std.proofs.Common.{ℕ, List, false, get_or, sym, refl, ap, ◌∙◌, subst, ⊎_elim, arith}
use Rattle.regular.specs.Positions.{size}
use Rattle.syntax.specs.Tree.{language}
use Rattle.single.proofs.Filling.{filled_one, filled_join, filled_either, filled_marked, Links}
use Rattle.single.proofs.fill.+fill.Goals as goal
use Rattle.single.proofs.fill.+fill.Goals.{in-Query, in-Star}

pub returns-in-Atom : goal.returns-in-Atom
returns-in-Atom t c =
    rw c.in-Atom.is
    (filled_one (λ k. get_or c.in-Atom.atom.codes k false) c.args.at c.args.arrows.now c.args.held.now c.hold.new.held c.atom-outline.result
    (c.atom-outline.ensures _ c.args.at refl (omega (arith, c.requires, ap (λ n. size (language n)) c.in-Atom.is))) c.hold.ensures.long c.hold.ensures.gains)

pub returns-in-Join : goal.returns-in-Join
returns-in-Join t c =
    let left = c.fill-left.ensures in
    let right = c.fill-right.ensures in
    rw (c.in-Join.is, ← c.deref-in-Join.ensures, ← c.deref-in-Join-2.ensures)
    (filled_join _ _ c.args.at _ c.fill-left.new.arrows _ _ c.fill-left.new.held _ _ _ c.fill-left.auto.arrows left right c.join.result c.link.new.rows (c.fill-right.auto.arrows ∙ c.fill-left.auto.arrows) c.requires.few c.link.ensures
    (c.join.ensures _ _ _ left.outline right.outline))

pub returns-in-Either : goal.returns-in-Either
returns-in-Either t c =
    let left = c.fill-left-in-Either.ensures in
    let right = c.fill-right-in-Either.ensures in
    rw (c.in-Either.is, ← c.deref-in-Either.ensures, ← c.deref-in-Either-2.ensures)
    (filled_either _ _ c.args.at _ c.fill-left-in-Either.new.arrows _ _ c.fill-left-in-Either.new.held _ _ _ c.fill-left-in-Either.auto.arrows left right c.either.result
    (c.either.ensures _ _ _ left.outline right.outline))

pub returns-after-mark : goal.returns-after-mark
returns-after-mark t c =
    let inner = c.fill-inner.ensures in
    let filled = filled_marked (language c.deref-in-Marked.result.now) c.args.at c.args.arrows.now c.fill-inner.new.arrows c.args.held.now c.fill-inner.new.held c.fill-inner.result inner c.match-mark.arrows c.fill-inner.auto.arrows c.requires.few c.marked.result c.in-Marked.mark in
    let out = c.marked.ensures _ _ inner.outline in
    rw (c.in-Marked.is, ← c.deref-in-Marked.ensures)
    (elim c.match-mark.branch [
      | in-Query w ↦ filled (λ _. w.arrows-is) (λ ne. absurd (ne w.in-Query.is)) out
      | in-Star w ↦ filled (λ e. ⊎_elim (λ s. cc) (λ s. cc) w.in-Star.is)
          (λ _. subst (λ (xs : List ℕ). Links c.fill-inner.new.arrows xs c.fill-inner.result.firsts c.fill-inner.result.lasts) (sym w.arrows-is) w.link-in-Star.ensures) out
    ])
