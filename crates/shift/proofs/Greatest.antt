-- The greatest number of the positions that a tail leads to is the jump of their set. Assumes nothing.
use Rattle.std.proofs.Common.{◌≡◌, ◌≢◌, ℕ, zero, suc, ◌<◌, ◌≤◌, max, true, false, ◌⊎◌, List, length, slice_index, sym, refl, ap, ◌∙◌, subst, inl, inr, ⊎_elim, arith}
use Rattle.std.proofs.lemmas.Bool.{cases_lt, both_ways, cond_both}
use Rattle.regular.specs.Language.{Regex, Tail, Inhabited}
use Rattle.regular.specs.Positions.{size, reached}
use Rattle.regular.specs.Sets.{bit, as_set}
use Rattle.regular.proofs.Reading.{reached_in}
use Rattle.regular.proofs.Sets.{as_set_bit}
use Rattle.regular.proofs.Tails.{tails_tailed}
use Rattle.distance.specs.Distances.{Inside, Past, PositionJump, PositionJumps, Jump}
use Rattle.distance.proofs.Alike.{tailed_is}
use Rattle.distance.proofs.Least.{least_one, lesser_is}
use Rattle.positions.specs.Greatest.{greatest_in}

module _ (jumps : List ℕ) (s : ℕ) where
  abbrev more : ℕ → ℕ
  more n = max (greatest_in jumps s n) (slice_index jumps n)

  abbrev NoneBelow : ℕ → Type 0
  NoneBelow n = (q : ℕ) → q < n → bit s q ≢ true

  -- below n + 1 there is what is below n, and n
  one_more : (n : ℕ) → NoneBelow n → bit s n ≡ false → NoneBelow (suc n)
  one_more n none e q l b = ⊎_elim (λ less. none q less b) (λ le. let is : q ≡ n = omega arith in both_ways (bit s n) e (ap (bit s) (sym is) ∙ b)) (cases_lt q n)

  pub at_least_one : (n : ℕ) → 1 ≤ greatest_in jumps s n
  at_least_one zero = omega arith
  at_least_one (suc n) = let ih = at_least_one n in cond_both (bit s n) (more n) (greatest_in jumps s n) (λ x. 1 ≤ x) (λ _. omega arith) (λ _. ih)

  greatest_most : (n q : ℕ) → q < n → bit s q ≡ true → slice_index jumps q ≤ greatest_in jumps s n
  greatest_most zero q l b = absurd (omega arith)
  greatest_most (suc n) q l b =
      cond_both (bit s n) (more n) (greatest_in jumps s n) (λ x. slice_index jumps q ≤ x)
      (λ _. ⊎_elim (λ less. omega (arith, greatest_most n q less b)) (λ le. let is : q ≡ n = omega arith in omega (arith, ap (λ i. slice_index jumps i) is)) (cases_lt q n))
      (λ e. ⊎_elim (λ less. greatest_most n q less b) (λ le. let is : q ≡ n = omega arith in absurd (both_ways (bit s n) e (ap (bit s) (sym is) ∙ b))) (cases_lt q n))

  abbrev Attained : ℕ → ℕ → Type 0
  Attained n h = (p : ℕ) × (p < n) × (bit s p ≡ true) × (slice_index jumps p ≡ h)

  -- where each number is at least 1, the greatest is that of a position in the set, or no position is
  greatest_there : (n : ℕ) → ((q : ℕ) → q < n → 1 ≤ slice_index jumps q) → Attained n (greatest_in jumps s n) ⊎ ((greatest_in jumps s n ≡ 1) × NoneBelow n)
  greatest_there zero pos = inr (refl, λ q l _. omega arith)
  greatest_there (suc n) pos =
      cond_both (bit s n) (more n) (greatest_in jumps s n) (λ x. Attained (suc n) x ⊎ ((x ≡ 1) × NoneBelow (suc n)))
      (λ e. ⊎_elim
      (λ (p, l, b, is). inl (⊎_elim (λ less. (n, omega arith, e, omega arith)) (λ le. (p, omega arith, b, omega arith)) (cases_lt (greatest_in jumps s n) (slice_index jumps n))))
      (λ (is, _). inl (n, omega arith, e, omega (arith, pos n (omega arith))))
      (greatest_there n (λ q l. pos q (omega arith))))
      (λ e. ⊎_elim (λ (p, l, b, is). inl (p, omega arith, b, is)) (λ (is, none). inr (is, one_more n none e)) (greatest_there n (λ q l. pos q (omega arith))))

positive : (r : Regex) (k q t : ℕ) → PositionJump r k q t → 1 ≤ t
positive r k q t ((w, _, (d, e, D, E, is)), _) = ⊎_elim (λ i. i.0) (λ p. p.0) (lesser_is (Inside r k w) (Past r k w) d e t D E is)

module _ (r : Regex) (few : size r ≤ 63) (h : Inhabited r) (jumps : List ℕ) (P : PositionJumps r jumps) (v : List ℕ) (tail : Tail r v) where
  abbrev s : ℕ
  s = as_set (reached r v)

  in_set : (q : ℕ) → reached r v q ≡ true → (q < length jumps) × (bit s q ≡ true)
  in_set q e = let l = reached_in r v q e in (omega (arith, P.count), as_set_bit (reached r v) q (omega arith) ∙ e)

  attained : (q : ℕ) × (reached r v q ≡ true) × PositionJump r P.depth q (greatest_in jumps s (length jumps))
  attained =
      ⊎_elim
      (λ (p, l, b, e). (p, sym (as_set_bit (reached r v) p (omega (arith, P.count))) ∙ b, subst (λ (x : ℕ). PositionJump r P.depth p x) e (P.each p (omega (arith, P.count)))))
      (λ (_, none). let (q, _, e) = (tailed_is r v).0 ((tails_tailed r h v).1 tail) in let (l, b) = in_set q e in absurd (none q l b))
      (greatest_there jumps s (length jumps) (λ q l. positive r P.depth q (slice_index jumps q) (P.each q (omega (arith, P.count)))))

  most : (i : ℕ) → (q : ℕ) × (reached r v q ≡ true) × PositionJump r P.depth q i → i ≤ greatest_in jumps s (length jumps)
  most i (q, e, J) =
      let (l, b) = in_set q e in
      omega (arith, greatest_most jumps s (length jumps) q l b, least_one i (slice_index jumps q) J (P.each q (omega (arith, P.count))))

  pub greatest_jump : Jump r v (greatest_in jumps s (length jumps))
  greatest_jump = (P.depth, P.full, (attained, most))
