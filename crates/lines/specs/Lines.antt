-- Bytes parted at the first of a byte, and at their first line feed. Assumes nothing.
use Rattle.std.specs.Prelude.{◌≡◌, ℕ, ◌<◌, cond, List, [], ◌∷◌, ◌++◌, length, ◌==◌, ◌≢◌, slice_index}

-- the byte b does not stand in the bytes
abbrev pub Lacks : ℕ → List ℕ → Type 0
Lacks b bytes = (i : ℕ) → i < length bytes → slice_index bytes i ≢ b

-- at the first b
pub record Splits (b : ℕ) (bytes front rest : List ℕ) : Type 0 where
  pub whole : bytes ≡ front ++ (b ∷ rest)
  pub first : Lacks b front

-- at the first line feed, or with nothing behind where there is none
pub data Parted (bytes line rest : List ℕ) : Type 0 where
  at_feed : Splits 10 bytes line rest → Parted bytes line rest
  no_feed : Lacks 10 line → bytes ≡ line → rest ≡ [] → Parted bytes line rest

-- the bytes before the first line feed, and those behind it
abbrev pub line : List ℕ → List ℕ
line [] = []
line (b ∷ bs) = cond (b == 10) [] (b ∷ line bs)

abbrev pub behind : List ℕ → List ℕ
behind [] = []
behind (b ∷ bs) = cond (b == 10) bs (behind bs)
