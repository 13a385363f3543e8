-- The positions of an expression are those that its functions speak of. Assumes nothing.
use Rattle.std.proofs.Common.{◌≡◌, ℕ, zero, suc, ◌+◌, ◌<◌, ◌≤◌, true, ◌⊎◌, ◌↔◌, inl, inr, ⊎_elim, arith}
use Rattle.std.proofs.lemmas.Bool.{eqb-true}
use Rattle.regular.specs.Language.{Regex, one, join, either, star, plus, maybe}
use Rattle.regular.specs.Positions.{size, holds, begins, ends, before, arrow}

-- the positions of r
abbrev pub IsPosition : Regex → ℕ → ℕ → Type 0
IsPosition r i q = (i < q) × (q ≤ i + size r)

module _ (a b : Regex) {i q : ℕ} where
  -- what is a position of either part is one of the two in a row ..
  pub parts_in : {A B : Type 0} → (A → IsPosition a i q) → (B → IsPosition b (i + size a) q) → A ⊎ B → IsPosition (join a b) i q
  parts_in f g s = grind arith

  -- .. and the other way
  pub part : IsPosition (join a b) i q → IsPosition a i q ⊎ IsPosition b (i + size a) q
  part l = grind arith

  -- two facts of a position are of the same part
  pub same_part : {A B C D : Type 0} → (A → IsPosition a i q) → (B → IsPosition b (i + size a) q) → (C → IsPosition a i q) → (D → IsPosition b (i + size a) q) → ((A ⊎ B) × (C ⊎ D)) ↔ ((A × C) ⊎ (B × D))
  same_part f g h k = (λ s. grind arith, ⊎_elim (λ (x, y). (inl x, inl y)) (λ (x, y). (inr x, inr y)))

-- all that the positions' functions speak of is in the range of r
record InRange (r : Regex) (i : ℕ) : Type 0 where
  hold : (q c : ℕ) → holds r i q c ≡ true → IsPosition r i q
  begin : (q : ℕ) → begins r i q ≡ true → IsPosition r i q
  end : (q : ℕ) → ends r i q ≡ true → IsPosition r i q
  -- of two positions in a row, the second and the first
  next : (q p : ℕ) → before r i q p ≡ true → IsPosition r i p
  front : (q p : ℕ) → before r i q p ≡ true → IsPosition r i q

in_range : (r : Regex) (i : ℕ) → InRange r i
in_range (one s) i = grind (arith, eqb-true)
in_range (join a b) i = grind (arith, in_range a i, in_range b (i + size a))
in_range (either a b) i = grind (arith, in_range a i, in_range b (i + size a))
in_range (star a) i = grind (arith, in_range a i)
in_range (plus a) i = grind (arith, in_range a i)
in_range (maybe a) i = grind (arith, in_range a i)

pub holds_in : (r : Regex) (i q c : ℕ) → holds r i q c ≡ true → IsPosition r i q
holds_in r i = (in_range r i).hold

pub begins_in : (r : Regex) (i q : ℕ) → begins r i q ≡ true → IsPosition r i q
begins_in r i = (in_range r i).begin

pub ends_in : (r : Regex) (i q : ℕ) → ends r i q ≡ true → IsPosition r i q
ends_in r i = (in_range r i).end

pub before_in : (r : Regex) (i q p : ℕ) → before r i q p ≡ true → IsPosition r i p
before_in r i = (in_range r i).next

pub front_in : (r : Regex) (i q p : ℕ) → before r i q p ≡ true → IsPosition r i q
front_in r i = (in_range r i).front

pub arrow_in : (r : Regex) (p q : ℕ) → arrow r p q ≡ true → IsPosition r 0 q
arrow_in r zero q h = ends_in r 0 q h
arrow_in r (suc p) q h = front_in r 0 q (suc p) h
