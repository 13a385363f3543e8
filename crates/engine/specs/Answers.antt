-- What an engine's answers say at the state of a tail; at a state that no tail gives they are free, save that a jump is at least 1. Assumes nothing.
use Rattle.std.specs.Prelude.{◌≡◌, ℕ, Bool, true, ◌↔◌, List, ◌∷◌, Option, MatchOption}
use Rattle.regular.specs.Language.{Regex, Word, Tail}

-- over the expression, and the state after each tail, read right to left
module _ {State : Type 0} (r : Regex) (after : List ℕ → State) (state : State) where
  -- P holds of each tail that gives the state; where none does, this says nothing
  abbrev pub AtTails : (List ℕ → Type 0) → Type 0
  AtTails P = (v : List ℕ) → Tail r v → state ≡ after v → P v

  -- with the code before the tail there is a state just if the longer word is a tail, and then it is that one's
  abbrev pub Advances : ℕ → Option State → Type 0
  Advances code next = AtTails (λ v. MatchOption next (Tail r (code ∷ v) → ⊥) (λ s. Tail r (code ∷ v) × (s ≡ after (code ∷ v))))

  -- yes just if the tail is a word
  abbrev pub TellsWord : Bool → Type 0
  TellsWord final = AtTails (λ v. (final ≡ true) ↔ Word r v)
