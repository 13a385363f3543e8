use Rattle.std.proofs.Common.{◌≡◌, ◌<◌, ◌≢◌, length, get_or, drop, set, ◌∙◌, subst, arith, get_or-set_other, get_or-set_same, below_more}
use Rattle.label.specs.Labels.{entry}
use Rattle.label.proofs.Entries.{length_entries, says, rest_stays}
use Rattle.label.proofs.header.Header.fill.Goals as goal

pub bounds-fields-i : goal.bounds-fields-i
bounds-fields-i c = let h = c.args.self.now in omega (arith, length_entries h.label.now h.entries.now h.listed, c.loop-i.auto.fields)

pub loop-i-preserved : goal.loop-i-preserved
loop-i-preserved c =
    let h = c.args.self.now in
    let i = c.loop-i.i in
    let fields = c.loop-i.fields in
    let f = c.from.result in
    let within : i < length fields = omega (arith, length_entries h.label.now h.entries.now h.listed, c.loop-i.auto.fields) in
    record {
      fields = λ k d less.
          below_more (λ n. get_or (set fields i f) n d ≡ entry h.label.now n) i
          (λ n earlier. let other : n ≢ i = omega arith in get_or-set_other fields i n f d other ∙ c.loop-i.invariant.fields n d earlier)
          (get_or-set_same fields i f d within ∙ c.from.ensures ∙ says h.label.now h.entries.now h.listed i _ c.loop-i-test.true) k less;
      rest = rest_stays fields c.args.fields.now i f c.loop-i.invariant.rest;
    }

pub returns : goal.returns
returns c =
    let h = c.args.self.now in
    let all = length_entries h.label.now h.entries.now h.listed in
    record {
      fields = λ i d less. c.loop-i.invariant.fields i d (omega arith);
      rest = subst (λ n. drop n c.loop-i.fields ≡ drop n c.args.fields.now) (omega arith) c.loop-i.invariant.rest;
    }
