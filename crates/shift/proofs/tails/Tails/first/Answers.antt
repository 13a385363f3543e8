use Rattle.std.proofs.Common.{sym, ap, ◌∙◌, rules, tests}
use Rattle.std.proofs.lemmas.Iterator.{YieldsList-from_slice}
use Rattle.std.proofs.lemmas.Iterator.Consumers.{min_from_yields_List, YieldsList-at, YieldsList-from_filter_map}
use Rattle.std.proofs.lemmas.Iterator.Adapters.{option_map_id}
use Rattle.shift.specs.Led.{Led}
use Rattle.shift.specs.Excess.{excess_of}
use Rattle.shift.specs.Excess.{distance}
use Rattle.shift.proofs.Distances.{first_reduced}
use Rattle.shift.proofs.tails.Tails.first.Goals as goal

pub returns : goal.returns
returns c =
    ap distance (sym (option_map_id _) ∙ min_from_yields_List c.filter_map.result _ c.min.ensures.ran
    (YieldsList-from_filter_map _ (λ (t : Led). excess_of c.args.word.now t.codes) (YieldsList-at c.filter_map.ensures.source (YieldsList-from_slice c.args.self.now.list.items (cc))) c.filter_map.ensures.closure (λ x r q k. search (rules, tests))))
    ∙ first_reduced c.args.word.now c.args.self.now.list.items
