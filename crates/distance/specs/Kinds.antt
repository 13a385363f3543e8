-- Kinds of codes, and the tails of an expression counted as words of kinds. Assumes nothing.
use Rattle.std.specs.Prelude.{◌≡◌, ℕ, ◌≤◌, ◌⊎◌, List, [], ◌∷◌, length}
use Rattle.regular.specs.Language.{Regex, Tail}
use Rattle.regular.specs.Positions.{holds}

-- codes held by just the same positions' sets are of one kind
abbrev pub OneKind : Regex → ℕ → ℕ → Type 0
OneKind r c d = (q : ℕ) → holds r 0 q c ≡ holds r 0 q d

-- the same word of kinds
abbrev pub SameKinds : Regex → List ℕ → List ℕ → Type 0
SameKinds r [] [] = Unit {0}
SameKinds r [] (d ∷ w) = ⊥
SameKinds r (c ∷ v) [] = ⊥
SameKinds r (c ∷ v) (d ∷ w) = OneKind r c d × SameKinds r v w

abbrev pub Member : {A : Type 0} → A → List A → Type 0
Member x [] = ⊥
Member x (y ∷ ys) = (x ≡ y) ⊎ Member x ys

-- no two of the words are the same word of kinds
abbrev pub Apart : Regex → List (List ℕ) → Type 0
Apart r [] = Unit {0}
Apart r (v ∷ vs) = ((w : List ℕ) → Member w vs → SameKinds r v w → ⊥) × Apart r vs

-- the list has every tail of length n at most, as a word of kinds, and has it once
pub record TailsOfKinds (r : Regex) (n : ℕ) (list : List (List ℕ)) : Type 0 where
  pub tails : (v : List ℕ) → Member v list → Tail r v × (length v ≤ n)
  pub every : (v : List ℕ) → Tail r v → length v ≤ n → (w : List ℕ) × Member w list × SameKinds r v w
  pub once : Apart r list

-- so many tails of length n at most are there, the empty one counted
abbrev pub TailCount : Regex → ℕ → ℕ → Type 0
TailCount r n count = (list : List (List ℕ)) × TailsOfKinds r n list × (length list ≡ count)
