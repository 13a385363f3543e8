-- `first_reversed` meets its contract. Assumes nothing.
use Rattle.std.proofs.Common.{◌≡◌, find, option_map, sym, refl, ap, ◌∙◌, rules, tests}
use Rattle.std.proofs.lemmas.Iterator.Consumers.{YieldsList-from_first}
use Rattle.std.proofs.lemmas.Iterator.Search.{find_from_yields_List}
use Rattle.syntax.specs.Members.{runs_back, listed}
use Rattle.syntax.proofs.members.Members.first_reversed.Goals as goal
use Rattle.syntax.proofs.members.Members.first_reversed.Goals.{After-find}

found : (c : After-find) → option_map (λ k. k) c.find.result ≡ find runs_back (listed c.args.self)
found c = find_from_yields_List runs_back c.find.new.self _ c.find.result c.find.ensures.ran (YieldsList-from_first (λ k. k) listed {s = c.args.self} _ refl) (λ x b q k. search (rules, tests))

pub returns : goal.returns
returns c = ap (option_map (λ k. k.place)) (sym (ap (option_map (λ k. k)) c.in_ok-reversed.was) ∙ found (goal.at.returns c).After-find)

pub returns-in_err-reversed : goal.returns-in_err-reversed
returns-in_err-reversed c = c.from_residual.ensures ∙ ap (option_map (λ k. k.place)) (sym (ap (option_map (λ k. k)) c.in_err-reversed.was) ∙ found (goal.at.returns-in_err-reversed c).After-find)
