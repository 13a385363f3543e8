-- What positions mean: whose set each has, and, by words of positions, what can begin a word, end one and stand just before another. Assumes nothing.
use Rattle.std.specs.Prelude.{◌≡◌, ℕ, suc, ◌+◌, Bool, true, false, ◌↔◌, List, [], ◌∷◌, ◌++◌, length, nat_eq, slice_index_or}
use Rattle.regular.specs.Language.{Regex, one, join, either, star, plus, maybe, Word}
use Rattle.regular.specs.Positions.{size, nullable, holds, begins, ends, before}

-- the sets of an expression in written order: the first is that of position 1
abbrev pub sets : Regex → List (ℕ → Bool)
sets (one s) = s ∷ []
sets (join a b) = sets a ++ sets b
sets (either a b) = sets a ++ sets b
sets (star a) = sets a
sets (plus a) = sets a
sets (maybe a) = sets a

-- the same expression, with each set replaced by its position's number: its words are words of positions
abbrev pub numbered : Regex → ℕ → Regex
numbered (one s) i = one (nat_eq (i + 1))
numbered (join a b) i = join (numbered a i) (numbered b (i + size a))
numbered (either a b) i = either (numbered a i) (numbered b (i + size a))
numbered (star a) i = star (numbered a i)
numbered (plus a) i = plus (numbered a i)
numbered (maybe a) i = maybe (numbered a i)

abbrev pub CanBegin : Regex → ℕ → Type 0
CanBegin r q = (v : List ℕ) × Word (numbered r 0) (q ∷ v)

abbrev pub CanEnd : Regex → ℕ → Type 0
CanEnd r q = (u : List ℕ) × Word (numbered r 0) (u ++ (q ∷ []))

abbrev pub CanPrecede : Regex → ℕ → ℕ → Type 0
CanPrecede r q p = (u : List ℕ) × (v : List ℕ) × Word (numbered r 0) (u ++ (q ∷ (p ∷ v)))

-- the functions that compute these say the same; the start, 0, has no set
pub record PositionsMean (r : Regex) : Type 0 where
  pub count : size r ≡ length (sets r)
  pub hold : (k c : ℕ) → holds r 0 (suc k) c ≡ slice_index_or (sets r) k (λ _. false) c
  pub start : (c : ℕ) → holds r 0 0 c ≡ false
  pub begin : (q : ℕ) → begins r 0 q ≡ true ↔ CanBegin r q
  pub end : (q : ℕ) → ends r 0 q ≡ true ↔ CanEnd r q
  pub precede : (q p : ℕ) → before r 0 q p ≡ true ↔ CanPrecede r q p
  pub empty : nullable r ≡ true ↔ Word r []

abbrev pub PositionsMeanWords : Type 0
PositionsMeanWords = (r : Regex) → PositionsMean r
