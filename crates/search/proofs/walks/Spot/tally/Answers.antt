use Rattle.std.proofs.Common.{◌≡◌, Bool, true, false, cond, refl, ap, ◌∙◌}
use mir.Val.{bool_byte}
use Rattle.regular.proofs.Endings.{flag}
use Rattle.search.proofs.walks.Spot.tally.Goals as goal

as_number : (b : Bool) → bool_byte b ≡ cond b 1 0
as_number true = refl
as_number false = refl

pub returns : goal.returns
returns g c v tail is = let (only, if_word) = c.is_final.ensures v tail is in c.from.ensures ∙ as_number c.is_final.result ∙ ap (λ b. cond b 1 0) (flag _ v c.is_final.result if_word only)
