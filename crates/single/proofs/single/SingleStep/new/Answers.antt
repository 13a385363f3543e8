-- `new` meets its contract. Assumes nothing.
use Rattle.std.proofs.Common.{◌≡◌, ℕ, ◌+◌, Bool, true, false, List, set, replicate, ap, ◌∙◌, ap₂, cond, sym}
use Rattle.std.specs.Prelude.{◌==◌}
use Rattle.std.proofs.lemmas.List.{take_at}
use lib.Bits.{bit_or}
use Rattle.regular.specs.Positions.{size}
use Rattle.regular.specs.Sets.{as_set}
use Rattle.syntax.specs.Tree.{language}
use Rattle.single.proofs.Filling.{arrows_made, held_made, finals_made}
use Rattle.single.proofs.single.SingleStep.new.Goals as goal
use Rattle.single.proofs.single.SingleStep.new.Goals.{then-outline, else-outline}

pub invariant_of-result : goal.invariant_of-result
invariant_of-result c =
    let r = language c.args.expression.tree in
    let made = c.fill-outline.ensures in
    let zeros : c.deref_mut.result.now ≡ replicate (size r + 1) 0 = c.deref_mut.ensures.value ∙ c.in_ok-arrows.ensures.items_if_clones_equal (λ y e. e) ∙ ap₂ (λ n x. replicate (n + 1) x) c.positions.ensures c.empty.ensures in
    let o = c.fill-outline.result in
    let finals = λ (b : Bool) (e : o.nullable ≡ b). ap (λ x. cond x (bit_or o.firsts (as_set (λ q. q == 0))) o.firsts) (sym e) ∙ finals_made r o made.outline in
    record {
      entering =
          ap (λ (l : List ℕ). set l 0 c.fill-outline.result.lasts) (take_at c.fill-outline.new.arrows _ _ (c.fill-outline.auto.arrows ∙ c.deref_mut.ensures.len))
          ∙ arrows_made r c.deref_mut.result.now c.fill-outline.new.arrows c.fill-outline.result.lasts zeros c.fill-outline.auto.arrows made.arrows made.outline.lasts;
      holding = held_made r (replicate 256 c.empty-held.result) c.fill-outline.new.held (ap (replicate 256) c.empty-held.ensures) made.long made.held;
      ending =
          elim c.if-outline.branch [
            | then-outline w ↦ w.finals-is ∙ w.bitor-finals.ensures ∙ ap (bit_or o.firsts) w.only.ensures ∙ finals true w.if-outline.true
            | else-outline w ↦ w.finals-is ∙ finals false w.if-outline.false
          ];
    }
