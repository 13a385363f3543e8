-- Lists in an order: what stands in them, and that this determines the list. Assumes nothing.
use Rattle.std.proofs.Common.{◌≡◌, ℕ, zero, suc, ◌<◌, ◌⊎◌, ◌↔◌, List, [], ◌∷◌, ◌++◌, length, get_or, refl, subst, inl, inr, ⊎_elim, arith}

-- x stands in the list
abbrev pub In : {A : Type 0} → A → List A → Type 0
In x [] = ⊥
In x (y ∷ ys) = (y ≡ x) ⊎ In x ys

module _ {A : Type 0} where
  pub in_append : (x : A) (xs ys : List A) → In x (xs ++ ys) ↔ (In x xs ⊎ In x ys)
  in_append x [] ys = (inr, ⊎_elim (λ h. absurd h) (λ h. h))
  in_append x (y ∷ xs) ys = grind (arith, in_append x xs ys)

  pub at_in : (xs : List A) (i : ℕ) (d : A) → i < length xs → In (get_or xs i d) xs
  at_in [] i d h = absurd (omega arith)
  at_in (x ∷ xs) zero d h = inl refl
  at_in (x ∷ xs) (suc i) d h = inr (at_in xs i d (omega arith))

  pub in_at : (x : A) (xs : List A) (d : A) → In x xs → (i : ℕ) × (i < length xs) × (get_or xs i d ≡ x)
  in_at x [] d h = absurd h
  in_at x (y ∷ xs) d (inl e) = (zero, omega arith, e)
  in_at x (y ∷ xs) d (inr h) = let (i, l, e) = in_at x xs d h in (suc i, omega arith, e)

module _ {A : Type 0} (R : A → A → Type 0) where
  -- each element stands before all that follow
  abbrev pub Sorted : List A → Type 0
  Sorted [] = Unit {0}
  Sorted (x ∷ xs) = ((y : A) → In y xs → R x y) × Sorted xs

  -- .. and the same by places
  abbrev pub Rising : List A → A → Type 0
  Rising xs d = (i j : ℕ) → i < j → j < length xs → R (get_or xs i d) (get_or xs j d)

  pub sorted_append : (xs ys : List A) → Sorted xs → Sorted ys → ((x y : A) → In x xs → In y ys → R x y) → Sorted (xs ++ ys)
  sorted_append [] ys a b h = b
  sorted_append (x ∷ xs) ys (before, a) b h = (λ y i. ⊎_elim (before y) (h x y (inl refl)) ((in_append y xs ys).0 i), sorted_append xs ys a b (λ u v i. h u v (inr i)))

  pub sorted_rising : (xs : List A) (d : A) → Sorted xs → Rising xs d
  sorted_rising [] d s i j a b = absurd (omega arith)
  sorted_rising (x ∷ xs) d s i zero a b = absurd (omega arith)
  sorted_rising (x ∷ xs) d s zero (suc j) a b = s.0 (get_or xs j d) (at_in xs j d (omega arith))
  sorted_rising (x ∷ xs) d s (suc i) (suc j) a b = sorted_rising xs d s.1 i j (omega arith) (omega arith)

  pub rising_sorted : (xs : List A) (d : A) → Rising xs d → Sorted xs
  rising_sorted [] d h = tt
  rising_sorted (x ∷ xs) d h = (
    λ y i. let (j, l, e) = in_at y xs d i in subst (R x) e (h zero (suc j) (omega arith) (omega arith)),
    rising_sorted xs d (λ i j a b. h (suc i) (suc j) (omega arith) (omega arith)),
  )

  module _ (one_way : (x y : A) → R x y → R y x → ⊥) where
    pub same_sorted : (xs ys : List A) → Sorted xs → Sorted ys → ((z : A) → In z xs ↔ In z ys) → xs ≡ ys
    same_sorted [] [] a b f = refl
    same_sorted [] (y ∷ ys) a b f = absurd ((f y).1 (inl refl))
    same_sorted (x ∷ xs) [] a b f = absurd ((f x).0 (inl refl))
    same_sorted (x ∷ xs) (y ∷ ys) a b f =
        let heads : x ≡ y = grind (arith, one_way x y, a.0 y, b.0 x, (f y).1 (inl refl), (f x).0 (inl refl)) in
        let tails : xs ≡ ys = same_sorted xs ys a.1 b.1 (λ z. grind (arith, one_way z z, a.0 z, b.0 z, f z)) in
        cc
