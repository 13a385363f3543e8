-- The worked cases, put together. Assumes nothing.
use Rattle.std.proofs.Common.{◌≡◌, ℕ, ◌+◌, ◌<◌, List, [], ◌∷◌, length, replicate, refl, arith, lit≤}
use Rattle.std.proofs.lemmas.Bool.{eqb-true}
use Rattle.regular.specs.Language.{Regex, Inhabited}
use Rattle.regular.specs.Positions.{accepted, tailed, size}
use Rattle.regular.specs.Matches.{listed, Exactly}
use Rattle.regular.proofs.Endings.{listed_range}
use Rattle.regular.proofs.Tails.{shortest_known}
use Rattle.distance.specs.Distances.{PositionJumps}
use Rattle.distance.specs.Found.{Within}
use Rattle.distance.proofs.Safe.{determined}
use Rattle.search.specs.Reckoning.{begun, granted_all}
use Rattle.worked_cases.specs.WorkedCases.{letter, SearchedByJumps, Searched, abc, aba, any_a, one_ten, xabbcabc, ababa, WorkedCases}
use Rattle.worked_cases.proofs.Expressions.{abc_read, aba_read, any_a_read, one_ten_read}
use Rattle.worked_cases.proofs.Refusals.{nothing_refused, second_star_refused, open_group_refused, backward_range_refused, empty_set_refused}
use Rattle.worked_cases.proofs.Numbers.{after_any, even_jumps, jump_after}
use Rattle.worked_cases.proofs.Searches.{searched}
use Rattle.worked_cases.proofs.Labels.{one_field, part_outside}

letter_within : (c : ℕ) → c < 100 → Within 100 (letter c)
letter_within c l d e = omega (arith, eqb-true c d e)

abc_there : Inhabited abc
abc_there = (((97, refl), (98, refl)), (99, refl))

aba_there : Inhabited aba
aba_there = (((97, refl), (98, refl)), (97, refl))

one_ten_there : Inhabited one_ten
one_ten_there = ((1, refl), (10, refl))

abc_jumps : PositionJumps abc (1 ∷ 3 ∷ 3 ∷ 3 ∷ [])
unfolding tailed
abc_jumps = even_jumps _ abc_there 100 ((letter_within 97 (lit≤ tt), letter_within 98 (lit≤ tt)), letter_within 99 (lit≤ tt)) 3 (shortest_known _ abc_there) _ refl (lit≤ tt) refl

aba_jumps : PositionJumps aba (1 ∷ 2 ∷ 2 ∷ 2 ∷ [])
unfolding tailed
aba_jumps = even_jumps _ aba_there 100 ((letter_within 97 (lit≤ tt), letter_within 98 (lit≤ tt)), letter_within 97 (lit≤ tt)) 3 (shortest_known _ aba_there) _ refl (lit≤ tt) refl

one_ten_jumps : PositionJumps one_ten (1 ∷ 2 ∷ 2 ∷ [])
unfolding tailed
one_ten_jumps = even_jumps _ one_ten_there 100 (letter_within 1 (lit≤ tt), letter_within 10 (lit≤ tt)) 2 (shortest_known _ one_ten_there) _ refl (lit≤ tt) refl

-- by shifts that are the defined jumps, where the start has 1 and all positions have one number
module _ (r : Regex) (i : Inhabited r) (t : ℕ) (P : PositionJumps r (1 ∷ replicate (size r) t)) (text : List ℕ) (matches : List (ℕ × ℕ)) (is : listed r text 0 (length text + 1) ≡ matches) (walks reads : ℕ)
    (ends : granted_all r text (length (listed r text 0 (length text + 1))) (λ _. after_any t) 0 (length text + 1) (begun 0) ≡ record { from = 0; next = length text + 1; walks = walks; reads = reads }) where
  by_jumps : SearchedByJumps r text matches walks reads
  by_jumps = record {
    defined = (after_any t, jump_after r i t P);
    by_any = λ h D. searched r text i matches is (after_any t) walks reads ends h (λ v tail. determined.jump r v (h v) (after_any t v) (D v tail) (jump_after r i t P v tail));
  }

abc_searched : SearchedByJumps abc xabbcabc ((1, 5) ∷ (5, 8) ∷ []) 7 13
unfolding accepted tailed
abc_searched = by_jumps _ abc_there 3 abc_jumps _ _ refl _ _ refl

aba_searched : SearchedByJumps aba ababa ((0, 3) ∷ (2, 5) ∷ []) 4 8
unfolding accepted tailed
aba_searched = by_jumps _ aba_there 2 aba_jumps _ _ refl _ _ refl

aba_single : Searched aba ababa (λ _. 1) ((0, 3) ∷ (2, 5) ∷ []) 6 10
unfolding accepted tailed
aba_single = searched _ _ aba_there _ refl (λ _. 1) _ _ refl _ (λ v tail. refl)

one_ten_searched : SearchedByJumps one_ten (1 ∷ 10 ∷ 17 ∷ 1 ∷ 10 ∷ []) ((0, 2) ∷ (3, 5) ∷ []) 5 7
unfolding accepted tailed
one_ten_searched = by_jumps _ one_ten_there 2 one_ten_jumps _ _ refl _ _ refl

any_a_nothing : Exactly any_a [] 0 1 ((0, 0) ∷ [])
unfolding accepted
any_a_nothing = listed_range _ _ 0 1 (lit≤ tt)

any_a_a : Exactly any_a (97 ∷ []) 0 2 ((0, 0) ∷ (1, 1) ∷ (0, 1) ∷ [])
unfolding accepted
any_a_a = listed_range _ _ 0 2 (lit≤ tt)

pub all_worked_cases : WorkedCases
all_worked_cases = record {
  abc_is_read = abc_read;
  abc_has_jumps = abc_jumps;
  abc_is_searched = abc_searched;
  aba_is_read = aba_read;
  aba_has_jumps = aba_jumps;
  aba_is_searched = aba_searched;
  aba_in_single_steps = aba_single;
  any_a_is_read = any_a_read;
  any_a_in_nothing = any_a_nothing;
  any_a_in_a = any_a_a;
  nothing_is_refused = nothing_refused;
  second_star_is_refused = second_star_refused;
  open_group_is_refused = open_group_refused;
  backward_range_is_refused = backward_range_refused;
  empty_set_is_refused = empty_set_refused;
  one_ten_is_read = one_ten_read;
  one_ten_has_jumps = one_ten_jumps;
  one_ten_is_searched = one_ten_searched;
  label_has_one_field = one_field;
  part_outside_is_refused = part_outside;
}
