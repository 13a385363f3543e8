-- How numbers are written. Assumes nothing.
use Rattle.std.specs.Prelude.{◌≡◌, ℕ, ◌+◌, ◌-◌, ◌*◌, ◌<◌, ◌≤◌, Bool, true, ◌&&◌, List, [], ◌∷◌, length, nat_le}

-- the number that decimal digits write behind the number n
abbrev pub value : ℕ → List ℕ → ℕ
value n [] = n
value n (d ∷ ds) = value (n * 10 + (d - 48)) ds

abbrev pub all_digits : List ℕ → Bool
all_digits [] = true
all_digits (d ∷ ds) = (nat_le 48 d && nat_le d 57) && all_digits ds

-- one or more decimal digits write the number n, which is at most the limit
pub record Decimal (limit : ℕ) (bytes : List ℕ) (n : ℕ) : Type 0 where
  pub some : 0 < length bytes
  pub digits : all_digits bytes ≡ true
  pub value_is : n ≡ value 0 bytes
  pub small : n ≤ limit
