use Rattle.std.proofs.Common.{◌≡◌, ◌<◌, ◌∷◌, ◌++◌, [], length, vec_items, get_or, sym, ap, ◌∙◌, subst, arith, length-append}
use Rattle.positions.specs.Closure.{Closed}
use Rattle.distance.specs.Extremes.{finite, lesser}
use Rattle.distance.specs.Found.{first_of, second_of}
use Rattle.shift.specs.Led.{Led}
use Rattle.shift.specs.Listed.{all_words, full_words}
use Rattle.shift.proofs.Final.{each_more}
use Rattle.shift.proofs.Seconds.{second_more}
use Rattle.shift.proofs.pieces.Pieces.of.Goals as goal

pub loop-tail-preserved : goal.loop-tail-preserved
loop-tail-preserved c =
    let t = c.args.tails.now in
    let ts = vec_items t.list in
    let x = c.tail-item.result in
    let i = c.loop-tail.tail-index in
    let ws = all_words t in
    let fs = full_words t in
    let inv = c.loop-tail.invariant in
    let here : x ≡ get_or ts i x = c.tail-item.is ∙ ap (λ z. get_or z i x) c.deref-tail-items.ensures.value in
    let in_list : i < length ts = omega (arith, c.loop-tail-test.true, ap length c.deref-tail-items.ensures.value) in
    let second : c.second-second.result ≡ second_of t.depth fs x.codes = c.second-second.ensures ∙ ap (second_of t.depth fs) c.codes.ensures in
    let at : get_or ts (length (vec_items c.loop-tail.seconds)) x ≡ x = ap (λ n. get_or ts n x) inv.long ∙ sym here in
    let pushed = c.in_ok-push.ensures.items ∙ ap (λ n. vec_items c.loop-tail.seconds ++ n ∷ []) (second ∙ ap (λ (u : Led). second_of t.depth fs u.codes) (sym at)) in
    record {
      each = each_more c.args.arrows.now ws fs t.depth ts (vec_items c.loop-tail.list) (vec_items c.push-in-loop-tail.new.self) i x _
          here
          in_list
          inv.each
          (record {
            span = ap length c.codes-in-loop-tail.ensures;
            positions = c.positions.ensures;
            onward = subst (λ s. Closed c.args.arrows.now s c.closure.result) c.positions-in-loop-tail.ensures c.closure.ensures;
            nearest = c.nearest.ensures ∙ ap (λ v. lesser (first_of ws v) (finite c.second-second.result)) c.codes-in-loop-tail-2.ensures ∙ ap (λ n. lesser (first_of ws x.codes) (finite n)) second;
          })
          c.in_ok-push-2.ensures.items;
      known = second_more t (vec_items c.loop-tail.seconds) (vec_items c.push.new.self) inv.known x (omega (arith, in_list, inv.long)) pushed;
      long = omega (arith, ap length c.in_ok-push.ensures.items, length-append (vec_items c.loop-tail.seconds) (c.second-second.result ∷ []), inv.long);
    }
