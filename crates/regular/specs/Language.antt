-- Regular expressions over codes, and the words that each stands for. Assumes nothing.
use Rattle.std.specs.Prelude.{◌≡◌, ℕ, ◌+◌, ◌<◌, ◌≤◌, min, Bool, true, ◌⊎◌, List, [], ◌∷◌, ◌++◌, length}

-- one symbol out of a set, one after the other, either of two, any number in a row, at least one in a row, none or one
pub data Regex : Type 0 where
  one : (ℕ → Bool) → Regex
  join : Regex → Regex → Regex
  either : Regex → Regex → Regex
  star : Regex → Regex
  plus : Regex → Regex
  maybe : Regex → Regex

-- a word of P and then a word of Q
abbrev pub Then : (List ℕ → Type 0) → (List ℕ → Type 0) → List ℕ → Type 0
Then P Q w = (u : List ℕ) × (v : List ℕ) × (w ≡ u ++ v) × P u × Q v

-- words of P in a row, any number of them
pub data Row (P : List ℕ → Type 0) : List ℕ → Type 0 where
  none : {w : List ℕ} → w ≡ [] → Row P w
  more : {w : List ℕ} (u v : List ℕ) → w ≡ u ++ v → P u → Row P v → Row P w

-- the words of an expression
abbrev pub Word : Regex → List ℕ → Type 0
Word (one holds) w = (c : ℕ) × (w ≡ c ∷ []) × (holds c ≡ true)
Word (join a b) w = Then (Word a) (Word b) w
Word (either a b) w = Word a w ⊎ Word b w
Word (star a) w = Row (Word a) w
Word (plus a) w = Then (Word a) (Row (Word a)) w
Word (maybe a) w = (w ≡ []) ⊎ Word a w

-- a word that some word of the language ends with
abbrev pub Tail : Regex → List ℕ → Type 0
Tail r v = (u : List ℕ) × Word r (u ++ v)

-- some word of the language stands at the end of the text
abbrev pub EndsInWord : Regex → List ℕ → Type 0
EndsInWord r t = (u : List ℕ) × (v : List ℕ) × (t ≡ u ++ v) × Word r v

-- m is the length of a shortest word
pub record Shortest (r : Regex) (m : ℕ) : Type 0 where
  pub reached : (w : List ℕ) × Word r w × (length w ≡ m)
  pub least : (w : List ℕ) → Word r w → m ≤ length w

-- .. and this computes it
abbrev pub shortest : Regex → ℕ
shortest (one holds) = 1
shortest (join a b) = shortest a + shortest b
shortest (either a b) = min (shortest a) (shortest b)
shortest (star a) = 0
shortest (plus a) = shortest a
shortest (maybe a) = 0

-- every set of the expression holds some code
abbrev pub Inhabited : Regex → Type 0
Inhabited (one holds) = (c : ℕ) × (holds c ≡ true)
Inhabited (join a b) = Inhabited a × Inhabited b
Inhabited (either a b) = Inhabited a × Inhabited b
Inhabited (star a) = Inhabited a
Inhabited (plus a) = Inhabited a
Inhabited (maybe a) = Inhabited a

-- every code that the expression's sets hold is below the bound
abbrev pub Within : ℕ → Regex → Type 0
Within codes (one s) = (c : ℕ) → s c ≡ true → c < codes
Within codes (join a b) = Within codes a × Within codes b
Within codes (either a b) = Within codes a × Within codes b
Within codes (star a) = Within codes a
Within codes (plus a) = Within codes a
Within codes (maybe a) = Within codes a

-- the shortest length that is computed is the length of a shortest word
abbrev pub ShortestKnown : Type 0
ShortestKnown = (r : Regex) → Inhabited r → Shortest r (shortest r)

-- the empty word is a tail, and tails are closed under taking ends
pub record TailsOfTails : Type 0 where
  pub empty : (r : Regex) → Inhabited r → Tail r []
  pub suffix : (r : Regex) (u v : List ℕ) → Tail r (u ++ v) → Tail r v
