-- What is gathered of a table, member by member. Assumes nothing.
use Rattle.std.proofs.Common.{◌≡◌, ℕ, zero, suc, ◌≤◌, ◌<◌, ◌^◌, Bool, true, false, cond, List, [], ◌∷◌, length, sym, refl, ap, ◌∙◌, ⊎_elim, arith}
use Rattle.std.specs.Prelude.{slice_index, fold, max}
use Rattle.std.proofs.lemmas.Bool.{cases_lt}
use Rattle.std.proofs.lemmas.List.{get_or_past}
use Rattle.std.proofs.lemmas.List.Sums.{fold-append}
use Rattle.std.proofs.lemmas.Nat.Bits.{bit_at_above}
use lib.Bits.{bit_or, or_zero_r}
use Rattle.regular.specs.Sets.{bit, followed}
use Rattle.positions.specs.Members.{members_below, members}
use Rattle.positions.specs.Greatest.{greatest_in}

-- f takes in what the table has for each member, one after another; 0 adds nothing
module _ (join : ℕ → ℕ → ℕ) (nothing : (x : ℕ) → join x 0 ≡ x) (first : ℕ) (table : List ℕ) (s : ℕ) (small : s < 2 ^ 64)
    (f : ℕ → ℕ) (begin : f 0 ≡ first) (step : (n : ℕ) → f (suc n) ≡ cond (bit s n) (join (f n) (slice_index table n)) (f n)) where
  abbrev taken : ℕ → ℕ → ℕ
  taken x p = join x (slice_index table p)

  gathered : (n : ℕ) → f n ≡ fold taken first (members_below s n)
  gathered zero = begin
  gathered (suc n) = rw (step n, gathered n, fold-append taken first (members_below s n) (cond (bit s n) (n ∷ []) [])) (one_more (bit s n) (fold taken first (members_below s n)))
    where
      one_more : (b : Bool) (x : ℕ) → cond b (taken x n) x ≡ fold taken x (cond b (n ∷ []) [])
      one_more true x = refl
      one_more false x = refl

  -- behind the table, or behind the set, nothing is taken in
  beyond : (m n : ℕ) → ((i : ℕ) → m ≤ i → cond (bit s i) (join (f i) (slice_index table i)) (f i) ≡ f i) → m ≤ n → f n ≡ f m
  beyond m zero none le = let e : 0 ≡ m = omega arith in ap f e
  beyond m (suc n) none le =
      ⊎_elim (λ less. let e : suc n ≡ m = omega arith in ap f e) (λ more. step n ∙ none n more ∙ beyond m n none more) (cases_lt n m)

  behind_table : (i : ℕ) → length table ≤ i → cond (bit s i) (join (f i) (slice_index table i)) (f i) ≡ f i
  behind_table i le = rw (get_or_past table i 0 le, nothing (f i)) (cond_same (bit s i))
    where
      cond_same : (b : Bool) → cond b (f i) (f i) ≡ f i
      cond_same true = refl
      cond_same false = refl

  behind_set : (i : ℕ) → 64 ≤ i → cond (bit s i) (join (f i) (slice_index table i)) (f i) ≡ f i
  behind_set i le = rw (bit_at_above s 64 i small le)

  all_gathered : fold taken first (members_below s 64) ≡ f (length table)
  all_gathered =
      sym (gathered 64)
      ∙ ⊎_elim (λ short. beyond (length table) 64 behind_table (omega arith)) (λ long. sym (beyond 64 (length table) behind_set long)) (cases_lt (length table) 64)

module _ (s : ℕ) (small : s < 2 ^ 64) where
  pub followed_by : (rows : List ℕ) → fold (λ x p. bit_or x (slice_index rows p)) 0 (members s) ≡ followed rows s (length rows)
  unfolding members
  followed_by rows = all_gathered bit_or or_zero_r 0 rows s small (followed rows s) refl (λ _. refl)

  pub greatest_by : (numbers : List ℕ) → fold (λ x p. max x (slice_index numbers p)) 1 (members s) ≡ greatest_in numbers s (length numbers)
  unfolding members
  greatest_by numbers = all_gathered max (λ x. omega arith) 1 numbers s small (greatest_in numbers s) refl (λ _. refl)
