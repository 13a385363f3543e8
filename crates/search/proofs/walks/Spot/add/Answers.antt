use Rattle.std.proofs.Common.{◌≡◌, ◌+◌, [], ◌++◌, map, take, sym, refl, ap, ◌∙◌, append-nil, arith}
use Rattle.std.proofs.lemmas.List.{nil_from_length}
use Rattle.regular.specs.Matches.{ending}
use Rattle.search.proofs.Writing.{lent_front, lent_rest}
use Rattle.search.proofs.walks.Spot.add.Goals as goal

pub returns-then-count-gt0 : goal.returns-then-count-gt0
returns-then-count-gt0 g c =
    let new = ending (g.E.Engine.expression c.args.self.now.engine.now) (map g.S.Symbol.code c.args.self.now.text.now) c.args.self.now.place in
    record {
      front = lent_front c.args.filled c.args.count c.args.table.now new _ (omega arith) c.requires.counted c.write.ensures;
      rest = lent_rest c.args.filled c.args.count c.args.table.now new _ (omega arith) c.requires.counted c.write.ensures;
    }

pub returns-else-count-gt0 : goal.returns-else-count-gt0
returns-else-count-gt0 g c =
    let r = g.E.Engine.expression c.args.self.now.engine.now in
    let t = map g.S.Symbol.code c.args.self.now.text.now in
    let none : ending r t c.args.self.now.place ≡ [] = nil_from_length _ (sym c.requires.counted ∙ (let z : c.args.count ≡ 0 = omega arith in z)) in
    let same : c.args.filled + c.args.count ≡ c.args.filled = omega arith in
    record {
      front = ap (λ n. take n c.args.table.now) same ∙ sym (append-nil (take c.args.filled c.args.table.now)) ∙ ap (λ l. take c.args.filled c.args.table.now ++ l) (sym none);
      rest = refl;
    }
