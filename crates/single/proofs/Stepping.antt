-- One more code is read, and what is read is told to be a word, by the tables of an expression. Assumes nothing.
use Rattle.std.proofs.Common.{◌≡◌, ℕ, ◌<◌, ◌≤◌, Bool, true, not, ◌↔◌, List, ◌∷◌, length, get_or, sym, ap, ◌∙◌, ap₂, arith}
use Rattle.std.specs.Prelude.{IsTrue}
use Rattle.std.proofs.lemmas.Bool.{not-true, ne_eqb, eqb-false, both_ways}
use Rattle.std.proofs.lemmas.List.{get_or_default}
use lib.Bits.{bit_and}
use Rattle.regular.specs.Language.{Regex, Word, Tail, Inhabited}
use Rattle.regular.specs.Positions.{size, reached, final}
use Rattle.regular.specs.Sets.{as_set, followed, arrows_of, held_of}
use Rattle.regular.proofs.Sets.{length_held, entered, no_tail, a_tail, word_final, final_word}
use Rattle.single.proofs.Filling.{no_from_not}

module _ (r : Regex) (few : size r ≤ 63) (v : List ℕ) where
  module _ (inh : Inhabited r) (code s next : ℕ) (arrows held : List ℕ) (small : code < 256) (is : s ≡ as_set (reached r v)) (entering : arrows ≡ arrows_of r) (holding : held ≡ held_of r)
      (d : ℕ) (meets : next ≡ bit_and (followed arrows s (length arrows)) (get_or held code d)) where
    next_is : next ≡ as_set (reached r (code ∷ v))
    next_is =
        entered r few v code s next arrows held small is entering holding
        (meets ∙ ap (bit_and (followed arrows s (length arrows))) (get_or_default held code d 0 (omega (arith, ap length holding ∙ length_held r))))

    pub lost : next ≡ 0 → Tail r (code ∷ v) → ⊥
    lost none = no_tail r few inh (code ∷ v) (sym next_is ∙ none)

    pub found : (next ≡ 0 → ⊥) → Tail r (code ∷ v) × (next ≡ as_set (reached r (code ∷ v)))
    found some = (a_tail r few inh (code ∷ v) (λ e. some (next_is ∙ e)), next_is)

  -- b says whether none of the final positions is reached
  pub word_told : (b : Bool) (x s finals : ℕ) → (IsTrue b ↔ x ≡ 0) → s ≡ as_set (reached r v) → finals ≡ as_set (final r) → x ≡ bit_and s finals → (not b ≡ true) ↔ Word r v
  word_told b x s finals told is ending meets =
      let same = meets ∙ ap₂ bit_and is ending in (
        λ t. final_word r few v (ap not (ne_eqb _ 0 (λ z. both_ways b (not-true b t) (told.1 (same ∙ z))))),
        λ w. ap not (no_from_not b (λ t. eqb-false _ 0 (not-true _ (word_final r few v w)) (sym same ∙ told.0 t))),
      )
