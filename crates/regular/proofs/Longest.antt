-- The longest tail that ends at a place. Assumes nothing.
use Rattle.std.proofs.Common.{ℕ, zero, suc, ◌≤◌, List, sym, subst, arith}
use Rattle.regular.specs.Language.{Regex, Tail, Inhabited}
use Rattle.regular.specs.Matches.{between, reach, longest, LongestIsFound}
use Rattle.regular.proofs.Tails.{tails_tailed, tails_of_tails}
use Rattle.regular.proofs.Places.{between_self, between_split}

module _ (r : Regex) (t : List ℕ) (e : ℕ) where
  pub reach_le : (n : ℕ) → reach r t e n ≤ n
  reach_le zero = omega arith
  reach_le (suc n) = grind (arith, reach_le n)

  -- what ends with no tail is no tail
  shorter : (m n : ℕ) → m ≤ n → n ≤ e → Tail r (between t m e) → Tail r (between t n e)
  shorter m n a b h = tails_of_tails.suffix r (between t m n) (between t n e) (rw (← between_split t m n e a b) h)

  module _ (i : Inhabited r) where
    reach_tail : (n : ℕ) → Tail r (between t n e) → Tail r (between t (reach r t e n) e)
    reach_tail zero h = h
    reach_tail (suc n) h = grind (arith, reach_tail n, tails_tailed r i (between t n e))

    reach_least : (n m : ℕ) → n ≤ e → m ≤ n → Tail r (between t m e) → reach r t e n ≤ m
    reach_least zero m b a h = omega arith
    reach_least (suc n) m b a h = grind (arith, reach_least n m, reach_le n, shorter m n, tails_tailed r i (between t n e))

    pub longest_tail : Tail r (longest r t e)
    longest_tail = reach_tail e (subst (Tail r) (sym (between_self t e)) (tails_of_tails.empty r i))

pub every_longest_is_found : LongestIsFound
every_longest_is_found r i t e = record { ordered = reach_le r t e e; tail = longest_tail r t e i; longest = λ n le h. reach_least r t e i e n (omega arith) le h }
