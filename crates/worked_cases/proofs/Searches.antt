-- A run over a whole text, from the shifts at the tails alone, whatever room there is beyond the matches. Assumes nothing.
use Rattle.std.proofs.Common.{◌≡◌, ℕ, zero, suc, ◌+◌, ◌-◌, ◌≤◌, min, cond, List, length, sym, refl, ap, ◌∙◌, ap₂, subst₂, zero-add, arith, length-append}
use Rattle.std.proofs.Math.Nat.{sub-zero}
use Rattle.regular.specs.Language.{Regex, Tail, Inhabited}
use Rattle.regular.specs.Matches.{ending, listed, longest, Exactly}
use Rattle.regular.proofs.Endings.{listed_append, listed_range}
use Rattle.regular.proofs.Longest.{longest_tail}
use Rattle.search.specs.Rules.{finished, reading}
use Rattle.search.specs.Reckoning.{Reckoned, begun, due, granted, granted_all, numbers_by}
use Rattle.search.specs.declared.numbers.Numbers.{Numbers}
use Rattle.worked_cases.specs.WorkedCases.{Searched}

module _ (r : Regex) (t : List ℕ) where
  abbrev all : List (ℕ × ℕ)
  all = listed r t 0 (length t + 1)

  -- up to a place, and there, are no more matches than in all
  no_more : (n : ℕ) → n ≤ length t → length (listed r t 0 n) + length (ending r t n) ≤ length all
  no_more n l =
      let whole : suc n + (length t - n) ≡ length t + 1 = omega arith in
      grind (arith, zero-add n, zero-add (suc n), length-append, listed_append r t 0 (suc n) (length t - n))

  -- with room for all, a step from the opening on is refused only at the end
  due_at_end : (room : ℕ) (s : ℕ → List ℕ → ℕ) → length all ≤ room → (k : Reckoned) → k.from ≡ 0 → due r t room s k ≡ finished t k.next
  due_at_end room s fits k opened = grind (arith, no_more k.next)

  module _ (i : Inhabited r) (g h : List ℕ → ℕ) (same : (v : List ℕ) → Tail r v → h v ≡ g v) (room : ℕ) (fits : length all ≤ room) where
    granted_same : (k : Reckoned) → granted r t room (λ _. h) 0 k ≡ granted r t (length all) (λ _. g) 0 k
    granted_same k =
        let on = ap (λ x. min (k.next + x) (length t + 1)) (same (longest r t k.next) (longest_tail r t k.next i)) in
        λ i. record { from = k.from; next = on i; walks = k.walks + 1; reads = k.reads + reading r t k.next }

    run_same : (b : ℕ) (k : Reckoned) → k.from ≡ 0 → granted_all r t room (λ _. h) 0 b k ≡ granted_all r t (length all) (λ _. g) 0 b k
    run_same zero k opened = refl
    run_same (suc b) k opened =
        ap₂ (λ d n. cond d k n)
        (due_at_end room (λ _. h) fits k opened ∙ sym (due_at_end (length all) (λ _. g) (omega arith) k opened))
        (run_same b (granted r t room (λ _. h) 0 k) opened ∙ ap (granted_all r t (length all) (λ _. g) 0 b) (granted_same k))

  -- the list and the numbers by computation, at the shifts g
  module _ (i : Inhabited r) (matches : List (ℕ × ℕ)) (is : all ≡ matches) (g : List ℕ → ℕ) (walks reads : ℕ)
      (ends : granted_all r t (length all) (λ _. g) 0 (length t + 1) (begun 0) ≡ record { from = 0; next = length t + 1; walks = walks; reads = reads }) where
    abbrev ended : ℕ → Numbers
    ended filled = record { from = 0; next = length t + 1; filled = filled; walks = walks; reads = reads }

    pub searched : (h : List ℕ → ℕ) → ((v : List ℕ) → Tail r v → h v ≡ g v) → Searched r t h matches walks reads
    searched h same = record {
      every_match = subst₂ (Exactly r t 0) (zero-add (length t + 1)) is (listed_range r t 0 (length t + 1) (omega arith));
      numbers = λ room fits.
          ap (numbers_by r t room (λ _. h)) (run_same i g h same room (omega (arith, ap length is)) (length t + 1) (begun 0) refl ∙ ends)
          ∙ ap (λ n. ended (length (listed r t 0 n))) (sub-zero (length t + 1))
          ∙ ap (λ l. ended (length l)) is;
    }
