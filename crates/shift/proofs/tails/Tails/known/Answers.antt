use Rattle.std.proofs.Common.{◌≡◌, length, vec_items, get_or, sym, ap, ◌∙◌, arith}
use Rattle.std.proofs.lemmas.Bool.Decides.{Decides-eqb}
use Rattle.std.proofs.lemmas.Slice.Eq.{slice_eq-Decides}
use Rattle.distance.specs.Found.{second_of}
use Rattle.shift.specs.Led.{Led}
use Rattle.shift.specs.Listed.{full_words}
use Rattle.shift.proofs.Seconds.{second_at}
use Rattle.shift.proofs.tails.Tails.known.Goals as goal

pub returns-then-eq : goal.returns-then-eq
returns-then-eq c =
    let t = c.args.self.now in
    let i = c.loop-index.index in
    let x = c.tail-item.result in
    let at : x ≡ get_or (vec_items t.list) i x = c.tail-item.is ∙ ap (λ xs. get_or xs i x) c.deref-tail-items.ensures.value in
    let same = (slice_eq-Decides Decides-eqb c.codes.result.now c.args.word.now c.eq.result c.eq.ensures).0 c.if-eq.true in
    second_at t c.args.seconds.now c.requires i x (omega (arith, c.if-index-seconds.true)) (omega (arith, c.loop-index-test.true, ap length c.deref-tail-items.ensures.value))
    ∙ ap (second_of t.depth (full_words t)) (ap (λ (u : Led). u.codes) (sym at) ∙ sym c.codes.ensures ∙ same)
