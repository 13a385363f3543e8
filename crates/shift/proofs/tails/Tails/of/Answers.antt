use Rattle.std.proofs.Common.{◌≡◌, ◌+◌, ◌++◌, ◌∷◌, [], length, drop, map, vec_items, sym, refl, ap, ap₂, ◌∙◌, arith, length-append}
use Rattle.std.proofs.lemmas.List.{drop_at, length-map, map-append}
use Rattle.distance.specs.Found.{tails}
use Rattle.syntax.specs.Tree.{language}
use Rattle.shift.specs.Led.{all_codes, led, listed}
use Rattle.shift.proofs.Longer.{level_led, next_words, listed_more}
use Rattle.shift.proofs.tails.Tails.of.Goals as goal

pub loop-depth-init : goal.loop-depth-init
loop-depth-init c =
    let e : vec_items c.push.new.self ≡ led (language c.args.engine.now.expression.tree) [] ∷ [] =
    c.in_ok-push.ensures.items ∙ ap₂ (λ l t. l ++ t ∷ []) c.new-list.ensures.items (c.empty.ensures (language c.args.engine.now.expression.tree)) in
    record { list = e; level = e; full_in = omega arith; few = omega arith }

pub longer_than-requires : goal.longer_than-requires
longer_than-requires c =
    rw c.in_ok-kinds.ensures (level_led (language c.args.engine.now.expression.tree) c.loop-depth.depth c.loop-depth.full (vec_items c.loop-depth.list) c.deref.result.now _ c.deref.ensures.value refl c.loop-depth.invariant.level)

pub returns-in-None : goal.returns-in-None
returns-in-None c =
    let r = language c.args.engine.now.expression.tree in
    let n = c.loop-depth.depth in
    let long = ap length c.loop-depth.invariant.list ∙ length-map (listed r n) (led r) in
    let next = next_words r n c.loop-depth.full (vec_items c.loop-depth.list) c.deref.result.now _ c.deref.ensures.value refl c.loop-depth.invariant.level in
    let much = rw (c.in-None.is, c.in_ok-kinds.ensures) at c.in_ok-longer_than.ensures in
    record {
      list = c.loop-depth.invariant.list;
      full_ones = c.loop-depth.invariant.level;
      most = omega (arith, c.shortest-shortest.ensures);
      few = c.loop-depth.invariant.few;
      full = λ _. omega (arith, much, ap length next, ap length (listed_more r n), length-append (listed r n) (tails r (all_codes r) (n + 1)), long, c.len.ensures, c.loop-depth.list.ok);
    }

pub loop-depth-preserved : goal.loop-depth-preserved
loop-depth-preserved c =
    let r = language c.args.engine.now.expression.tree in
    let n = c.loop-depth.depth in
    let xs = vec_items c.loop-depth.list in
    let next = next_words r n c.loop-depth.full xs c.deref.result.now _ c.deref.ensures.value refl c.loop-depth.invariant.level in
    let found = rw (c.in-Some.is, c.in_ok-kinds.ensures) at c.in_ok-longer_than.ensures in
    let ys = vec_items c.in-Some.longer in
    let ys_are : ys ≡ map (led r) (tails r (all_codes r) (n + 1)) = found.0 ∙ ap (map (led r)) next in
    let joined : vec_items c.append.new.self ≡ xs ++ ys = c.in_ok-append-in-Some.ensures.items in
    let end : c.len-full.result ≡ length xs = omega (arith, c.len-full.ensures, c.loop-depth.list.ok) in
    record {
      list = joined ∙ ap₂ ◌++◌ c.loop-depth.invariant.list ys_are ∙ sym (map-append (led r) (listed r n) (tails r (all_codes r) (n + 1))) ∙ ap (map (led r)) (sym (listed_more r n));
      level = ap (drop c.len-full.result) joined ∙ drop_at xs ys c.len-full.result (sym end) ∙ ys_are;
      full_in = omega (arith, ap length joined, length-append xs ys);
      few = omega (
        arith,
        found.1,
        c.len.ensures,
        c.loop-depth.list.ok,
        c.in-Some.longer.ok,
        ap length ys_are,
        length-map (tails r (all_codes r) (n + 1)) (led r),
        ap length c.loop-depth.invariant.list,
        length-map (listed r n) (led r),
        ap length (listed_more r n),
        length-append (listed r n) (tails r (all_codes r) (n + 1)),
      );
    }
