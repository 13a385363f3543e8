-- `codes` meets its contract. Assumes nothing.
use Rattle.std.proofs.Common.{false, ◌||◌, ap, ◌∙◌}
use Rattle.std.specs.List.{list_any}
use Rattle.std.proofs.lemmas.List.{get_or-replicate}
use Rattle.syntax.specs.Members.{covers, listed}
use Rattle.syntax.proofs.members.Members.codes.Goals as goal

pub loop-member-init : goal.loop-member-init
loop-member-init c k l =
    ap (λ b. b || list_any (λ m. covers m k) (listed c.into_iter-member-iterator.result)) (get_or-replicate 256 k false false l)
    ∙ ap (λ s. list_any (λ m. covers m k) (listed s)) c.into_iter-member-iterator.ensures.into_iter_gives
