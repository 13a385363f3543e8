-- A set with all that can be come to from it. Assumes nothing.
use Rattle.std.specs.Prelude.{◌≡◌, ℕ, zero, suc, List, length, bit_or}
use Rattle.regular.specs.Sets.{followed}

-- the set with all that can be entered from it, n times
abbrev pub spread : List ℕ → ℕ → ℕ → ℕ
spread rows s zero = s
spread rows s (suc n) = bit_or (spread rows s n) (followed rows (spread rows s n) (length rows))

-- r is the set with all that can be come to from it
pub record Closed (arrows : List ℕ) (s r : ℕ) : Type 0 where
  pub spread : (n : ℕ) × (r ≡ spread arrows s n)
  pub closed : bit_or r (followed arrows r (length arrows)) ≡ r
