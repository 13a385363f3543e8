-- Words that lead on from a position, and the shortest that leads to one. Assumes nothing.
use Rattle.std.proofs.Common.{◌≡◌, ℕ, zero, suc, ◌+◌, ◌<◌, true, ◌↔◌, List, [], ◌∷◌, ◌++◌, length, refl, ap, append-nil}
use Rattle.std.proofs.lemmas.Bool.{eqb-true, eq-eqb}
use Rattle.regular.specs.Language.{Regex, Inhabited}
use Rattle.regular.specs.Positions.{size, holds, arrow, reached}
use Rattle.regular.proofs.Iff.{◌⨾◌, and_true}
use Rattle.regular.proofs.Ranges.{arrow_in}
use Rattle.regular.proofs.Reading.{some_below_is, both_below}
use Rattle.regular.proofs.Reachable.{held}
use Rattle.distance.specs.Distances.{Leads, Way}
use Rattle.distance.specs.Found.{walk}
use Rattle.distance.proofs.Least.{search_least}

module _ (r : Regex) where
  -- the last step of a word
  step : (c : ℕ) (v : List ℕ) (q : ℕ) → reached r (c ∷ v) q ≡ true ↔ ((holds r 0 q c ≡ true) × ((p : ℕ) × (p < size r + 1) × ((reached r v p ≡ true) × (arrow r p q ≡ true))))
  step c v q = and_true ⨾ (λ (h, k). (h, (some_below_is _ (λ p. and_true)).0 k), λ (h, k). (h, (some_below_is _ (λ p. and_true)).1 k))

  module _ (w : List ℕ) where
    pub onward : (u : List ℕ) (q : ℕ) → reached r (u ++ w) q ≡ true → (p : ℕ) × (reached r w p ≡ true) × (walk r (length u) p q ≡ true)
    onward [] q h = (q, h, eq-eqb q q refl)
    onward (c ∷ u) q h =
        let (_, (o, l, (k, a))) = (step c (u ++ w) q).0 h in
        let (p, s, e) = onward u o k in
        (p, s, (both_below (size r + 1) (walk r (length u) p) (λ o. arrow r o q)).1 (o, l, (e, a)))

    pub onward_word : Inhabited r → (n p q : ℕ) → reached r w p ≡ true → walk r n p q ≡ true → (u : List ℕ) × (reached r (u ++ w) q ≡ true) × (length u ≡ n)
    onward_word h zero p q s e = ([], rw (eqb-true q p e) s, refl)
    onward_word h (suc n) p q s e =
        let (o, l, (k, a)) = (both_below (size r + 1) (walk r n p) (λ o. arrow r o q)).0 e in
        let (u, t, long) = onward_word h n p o s k in
        let (c, holds) = held r h 0 q (arrow_in r o q a) in
        (c ∷ u, (step c (u ++ w) q).1 (holds, (o, l, (t, a))), ap suc long)

  pub way_walk : Inhabited r → (q n : ℕ) → ((v : List ℕ) × Leads r v q × (length v ≡ n)) ↔ walk r n 0 q ≡ true
  way_walk h q n = (
    λ (v, k, long). let (p, s, e) = onward [] v q (rw append-nil k) in rw (← long, ← eqb-true p 0 s) e,
    λ e. let (u, t, long) = onward_word [] h n 0 q refl e in (u, rw append-nil at t, long),
  )

  -- where a word leads to a position, there is a shortest
  pub way_there : Inhabited r → (q : ℕ) (v : List ℕ) → Leads r v q → (a : ℕ) × Way r q a
  way_there h q v k =
      let (a, (e, least)) = search_least (λ n. walk r n 0 q) (length v) ((way_walk h q (length v)).0 (v, k, refl)) in
      (a, ((way_walk h q a).1 e, λ i x. least i ((way_walk h q i).0 x)))
