-- The least and the greatest number of a property. Assumes nothing.
use Rattle.std.proofs.Common.{◌≡◌, ℕ, zero, suc, ◌<◌, ◌≤◌, min, Bool, true, ◌⊎◌, ◌↔◌, refl, inl, inr, ⊎_elim, arith}
use Rattle.std.proofs.lemmas.Bool.{cases_Bool}
use Rattle.distance.specs.Extremes.{Least, Greatest, Distance, infinite, finite, lesser, LeastIfAny}

pub finite_same : {m n : ℕ} → finite m ≡ finite n → m ≡ n
finite_same e = cc

pub finite_not : {n : ℕ} → infinite ≡ finite n → ⊥
finite_not e = let z : ◌≡◌ {A = ℕ} 0 1 = cc in omega arith

module _ {P : ℕ → Type 0} where
  pub least_one : (m n : ℕ) → Least P m → Least P n → m ≡ n
  least_one m n (p, f) (q, g) = omega (arith, f n q, g m p)

  pub greatest_one : (m n : ℕ) → Greatest P m → Greatest P n → m ≡ n
  greatest_one m n (p, f) (q, g) = omega (arith, f n q, g m p)

module _ (P : ℕ → Type 0) where
  pub least_if_one : (d e : Distance) → LeastIfAny P d → LeastIfAny P e → d ≡ e
  least_if_one d e h k = grind arith

  -- there is a distance, as far as a proof of ⊥ asks
  pub least_if_any : ((d : Distance) → LeastIfAny P d → ⊥) → ⊥
  least_if_any no_one = no_one infinite (λ n. below (suc n) n (omega arith))
    where
      below : (m : ℕ) (n : ℕ) → n < m → P n → ⊥
      below zero n h p = omega arith
      below (suc m) n h p = no_one (finite n) (p, λ i q. grind (arith, below m i))

module _ (P Q : ℕ → Type 0) where
  pub lesser_is : (d e : Distance) (n : ℕ) → LeastIfAny P d → LeastIfAny Q e → lesser d e ≡ finite n → P n ⊎ Q n
  lesser_is d e n h k is = grind arith

  pub lesser_least : (d e : Distance) (n : ℕ) → LeastIfAny P d → LeastIfAny Q e → P n ⊎ Q n → (j : ℕ) × (lesser d e ≡ finite j) × (j ≤ n)
  lesser_least infinite infinite n h k s = absurd (⊎_elim (h n) (k n) s)
  lesser_least infinite (finite j) n h (_, g) s = (j, refl, ⊎_elim (λ p. absurd (h n p)) (g n) s)
  lesser_least (finite i) infinite n (_, f) k s = (i, refl, ⊎_elim (f n) (λ q. absurd (k n q)) s)
  lesser_least (finite i) (finite j) n (_, f) (_, g) s = (min i j, refl, ⊎_elim (λ p. omega (arith, f n p)) (λ q. omega (arith, g n q)) s)

  pub lesser_both : (d e : Distance) → LeastIfAny P d → LeastIfAny Q e → LeastIfAny (λ n. P n ⊎ Q n) (lesser d e)
  lesser_both infinite infinite h k = grind arith
  lesser_both infinite (finite j) h k = grind arith
  lesser_both (finite i) infinite h k = grind arith
  lesser_both (finite i) (finite j) h k = grind arith

  pub least_if_like : ((n : ℕ) → P n ↔ Q n) → (d : Distance) → LeastIfAny P d → LeastIfAny Q d
  least_if_like f d h = grind arith

pub self_least : (d : Distance) → LeastIfAny (λ n. d ≡ finite n) d
self_least d = grind arith

-- of the numbers below m, one is the least that passes a test, or none passes
pub least_below : (f : ℕ → Bool) (m : ℕ) → ((a : ℕ) × Least (λ i. f i ≡ true) a) ⊎ ((i : ℕ) → i < m → f i ≡ true → ⊥)
least_below f zero = inr (λ i l _. omega arith)
least_below f (suc m) =
    ⊎_elim
    inl
    (λ none. elim (cases_Bool (f m)) [ inl e ↦ inl (m, (e, λ i k. grind (arith, none i))) | inr e ↦ inr (λ i l k. grind (arith, none i)) ])
    (least_below f m)

-- a test that some number passes has a least number
pub search_least : (f : ℕ → Bool) (n : ℕ) → f n ≡ true → (a : ℕ) × Least (λ i. f i ≡ true) a
search_least f n h = ⊎_elim (λ found. found) (λ none. absurd (none n (omega arith) h)) (least_below f (suc n))
