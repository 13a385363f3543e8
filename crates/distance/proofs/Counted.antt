-- The number of tails, as words of kinds, is one: lists of words that are apart can be matched with one another. Assumes nothing.
use Rattle.std.proofs.Common.{◌≡◌, ℕ, suc, ◌≤◌, ◌⊎◌, List, [], ◌∷◌, length, sym, refl, ap, ◌∙◌, subst, inl, inr, ⊎_elim, arith}
use Rattle.regular.specs.Language.{Regex}
use Rattle.distance.specs.Kinds.{SameKinds, Member, Apart, TailsOfKinds, TailCount}
use Rattle.distance.proofs.Alike.{like_back, like_trans}

-- a list without one of its members
remove : {A : Type 0} (w : A) (ys : List A) → Member w ys → (zs : List A) × (length ys ≡ suc (length zs)) × ((u : A) → Member u ys → (u ≡ w) ⊎ Member u zs)
remove w [] m = absurd m
remove w (y ∷ ys) (inl e) = (ys, refl, λ u. ⊎_elim (λ is. inl (is ∙ sym e)) inr)
remove w (y ∷ ys) (inr m) =
    let (zs, long, rest) = remove w ys m in
    (y ∷ zs, ap suc long, λ u. ⊎_elim (λ is. inr (inl is)) (λ k. ⊎_elim inl (λ l. inr (inr l)) (rest u k)))

module _ (r : Regex) where
  abbrev Has : List (List ℕ) → List ℕ → Type 0
  Has ys v = (w : List ℕ) × Member w ys × SameKinds r v w

  -- words that are apart and all in a list are no more than it has
  no_more : (xs ys : List (List ℕ)) → Apart r xs → ((v : List ℕ) → Member v xs → Has ys v) → length xs ≤ length ys
  no_more [] ys a f = omega arith
  no_more (x ∷ xs) ys (n, a) f =
      let (w, m, l) = f x (inl refl) in
      let (zs, long, rest) = remove w ys m in
      omega (
        arith,
        no_more xs zs a (λ v k.
            let (u, k', s) = f v (inr k) in
            ⊎_elim (λ e. absurd (n v k (like_trans r x w v l (like_back r v w (subst (λ (z : List ℕ). SameKinds r v z) e s))))) (λ o. (u, o, s)) (rest u k')),
      )

  pub count_one : (n c c' : ℕ) → TailCount r n c → TailCount r n c' → c ≡ c'
  count_one n c c' (xs, X, e) (ys, Y, f) = omega (arith, half xs ys X Y, half ys xs Y X)
    where
      half : (xs ys : List (List ℕ)) → TailsOfKinds r n xs → TailsOfKinds r n ys → length xs ≤ length ys
      half xs ys X Y = no_more xs ys X.once (λ v m. let (t, l) = X.tails v m in Y.every v t l)
