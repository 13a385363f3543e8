-- What a jump passes, and how long it may be. Assumes nothing.
use Rattle.std.proofs.Common.{◌≡◌, ℕ, suc, ◌+◌, ◌<◌, ◌≤◌, max, List, [], ◌∷◌, ◌++◌, length, take, sym, refl, ◌∙◌, ⊎_elim, append-nil, arith}
use Rattle.std.proofs.lemmas.Bool.{cases_lt}
use Rattle.regular.specs.Language.{Regex, Word, Tail, Inhabited, Shortest}
use Rattle.regular.specs.Jumps.{Skips, JumpsBounded}
use Rattle.regular.specs.Matches.{between, ending, reach, longest}
use Rattle.regular.proofs.Places.{take_between, take_two, length_between}
use Rattle.regular.proofs.Endings.{starting_none}
use Rattle.regular.proofs.Longest.{reach_le, longest_tail}

-- a shortest word laid behind v would end at a place that the jump passes
pub jump_bounded : JumpsBounded
jump_bounded r v h m free s = let (w, is, long) = s.reached in ⊎_elim (λ over. absurd (too_far w is long over)) (λ le. le) (cases_lt (max 1 m) h)
  where
    too_far : (w : List ℕ) → Word r w → length w ≡ m → max 1 m < h → ⊥
    too_far [] is long over = free [] (0 ∷ []) (omega arith) (omega arith) (v ++ (0 ∷ []), [], sym (append-nil (v ++ (0 ∷ []))), is)
    too_far (c ∷ w) is long over = free [] (c ∷ w) (omega arith) (omega arith) (v, c ∷ w, refl, is)

-- .. so it is with all jumps of an engine
pub jumps_bounded : (r : Regex) (h : List ℕ → ℕ) → Skips r h → (v : List ℕ) → Tail r v → (m : ℕ) → Shortest r m → h v ≤ max 1 m
jumps_bounded r h skips v tail m = jump_bounded r v (h v) m (skips v tail).1

-- between the place of a longest tail and the place that it jumps to, nothing ends
module _ (r : Regex) (i : Inhabited r) (h : List ℕ → ℕ) (skips : Skips r h) (t : List ℕ) where
  pub nothing_between : (p q : ℕ) → p < q → q ≤ length t → q < p + h (longest r t p) → ending r t q ≡ []
  nothing_between p q a b c =
      let le = reach_le r t p p in
      let long = length_between t p q (omega arith) b in
      starting_none r t q (suc q) (λ m lt w. (skips (longest r t p) (longest_tail r t p i)).1 (take (reach r t p p) t) (between t p q) (omega arith) (omega arith)
      (take m t, between t m q, sym (take_two t (reach r t p p) p q le (omega arith)) ∙ take_between t m q (omega arith), w))
