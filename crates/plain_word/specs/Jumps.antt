-- How far a search for a word may go on. Assumes nothing.
use Rattle.std.specs.Prelude.{◌≡◌, ℕ, ◌-◌, ◌<◌, ◌≤◌, List, length, slice_index}
use Rattle.regular.specs.Language.{Regex}
use Rattle.distance.specs.Distances.{last, WholeJump}

-- c is the letter of w before its last j
abbrev pub Precedes : List ℕ → ℕ → ℕ → Type 0
Precedes w j c = (j < length w) × (slice_index w (length w - 1 - j) ≡ c)

-- the word w, moved on by n, agrees with its own last j letters where it stands over them
abbrev pub Agrees : List ℕ → ℕ → ℕ → Type 0
Agrees w j n = (p : ℕ) → length w - j ≤ p → n ≤ p → p < length w → slice_index w (p - n) ≡ slice_index w p

-- h is the least number from 1 on by which it may be moved so
pub record LeastMove (w : List ℕ) (j h : ℕ) : Type 0 where
  pub forward : 1 ≤ h
  pub agrees : Agrees w j h
  pub least : (n : ℕ) → 1 ≤ n → Agrees w j n → h ≤ n

-- at each count j the jump is the lesser of the two distances of the word's last j symbols
abbrev pub WordJumps : Regex → List ℕ → List ℕ → Type 0
WordJumps r w jumps = (j : ℕ) → j ≤ length w → WholeJump r (last j w) (slice_index jumps j)
