use Rattle.std.proofs.Common.{◌≡◌, ◌-◌, ◌&&◌, eqb, length, drop, is_some, vec_items, sym, ap, ◌∙◌, arith, rules, tests, length-drop}
use Rattle.std.proofs.lemmas.List.{take_all}
use Rattle.std.proofs.lemmas.Iterator.{YieldsList-from_slice}
use Rattle.std.proofs.lemmas.Iterator.Search.{any_from_yields_List}
use Rattle.std.specs.Slice.Iter.{iter_rest}
use Rattle.shift.specs.Led.{Led}
use Rattle.shift.specs.Excess.{excess_of}
use Rattle.shift.specs.Listed.{full_words}
use Rattle.shift.proofs.Distances.{opens_any, opens_none}
use Rattle.shift.proofs.tails.Tails.opens.Goals as goal

pub returns-then-word-self : goal.returns-then-word-self
returns-then-word-self c = sym (opens_none c.args.self.now.depth c.args.word.now (omega (arith, c.if-word-self.true)) (full_words c.args.self.now))

pub returns : goal.returns
returns c =
    let t = c.args.self.now in
    let fulls = drop t.full (vec_items t.list) in
    let read = c.deref.result.now in
    let rest : iter_rest c.iter.result ≡ fulls =
    c.iter.ensures.rest ∙ take_all (length read - t.full) (drop t.full read) (omega (arith, length-drop t.full read)) ∙ ap (drop t.full) c.deref.ensures.value in
    any_from_yields_List (λ (x : Led). eqb (length x.codes) t.depth && is_some (excess_of c.args.word.now x.codes)) _ _ _ c.any.ensures.ran (YieldsList-from_slice fulls rest) (λ x q r h. search (rules, tests))
    ∙ opens_any t.depth c.args.word.now fulls
