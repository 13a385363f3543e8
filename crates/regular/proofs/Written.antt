-- Positions in written order: each holds what the set that stands there holds. Assumes nothing.
use Rattle.std.proofs.Common.{◌≡◌, ℕ, suc, ◌+◌, ◌-◌, false, length, get_or, refl, arith, length-append}
use Rattle.std.proofs.lemmas.List.{get_or_append_left, get_or-append_right}
use Rattle.std.proofs.lemmas.Bool.{false_from_ne_true}
use Rattle.regular.specs.Language.{Regex, one, join, either, star, plus, maybe}
use Rattle.regular.specs.Positions.{size, holds}
use Rattle.regular.specs.Numbered.{sets}
use Rattle.regular.proofs.Ranges.{IsPosition, holds_in}

pub length_sets : (r : Regex) → size r ≡ length (sets r)
length_sets (one s) = refl
length_sets (join a b) = omega (arith, length_sets a, length_sets b, length-append (sets a) (sets b))
length_sets (either a b) = omega (arith, length_sets a, length_sets b, length-append (sets a) (sets b))
length_sets (star a) = length_sets a
length_sets (plus a) = length_sets a
length_sets (maybe a) = length_sets a

-- what is no position holds nothing
pub holds_out : (r : Regex) (i q c : ℕ) → (IsPosition r i q → ⊥) → holds r i q c ≡ false
holds_out r i q c out = false_from_ne_true (holds r i q c) (λ h. out (holds_in r i q c h))

-- c stands in the set that is the k-th from i on
abbrev AsWritten : Regex → ℕ → ℕ → ℕ → Type 0
AsWritten r i c k = holds r i (i + suc k) c ≡ get_or (sets r) k (λ _. false) c

-- a position of two parts in a row is one of the first or one of the second
two_parts : (a b : Regex) (i c k : ℕ) → AsWritten a i c k → AsWritten b (i + size a) c (k - size a) → AsWritten (join a b) i c k
two_parts a b i c k left right = grind (arith, length_sets, get_or_append_left, get_or-append_right, holds_out)

pub holds_written : (r : Regex) (i c k : ℕ) → AsWritten r i c k
holds_written (one s) i c k = grind arith
holds_written (join a b) i c k = two_parts a b i c k (holds_written a i c k) (holds_written b (i + size a) c (k - size a))
holds_written (either a b) i c k = two_parts a b i c k (holds_written a i c k) (holds_written b (i + size a) c (k - size a))
holds_written (star a) i c k = holds_written a i c k
holds_written (plus a) i c k = holds_written a i c k
holds_written (maybe a) i c k = holds_written a i c k
