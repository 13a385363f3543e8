-- What a walk to the left keeps from place to place. Assumes nothing.
use Rattle.std.proofs.Common.{◌≡◌, ℕ, ◌+◌, ◌-◌, ◌<◌, ◌≤◌, Bool, true, false, cond, List, [], ◌∷◌, length, get_or, sym, refl, ap, ◌∙◌, subst, arith}
use Rattle.std.proofs.lemmas.Bool.{cond-true, cond-false}
use Rattle.regular.specs.Language.{Regex, Tail, Inhabited}
use Rattle.regular.specs.Positions.{accepted, tailed}
use Rattle.regular.specs.Matches.{between, starting, ending, reach, longest}
use Rattle.regular.proofs.Tails.{tails_tailed, tails_of_tails}
use Rattle.regular.proofs.Places.{between_self, between_left}
use Rattle.regular.proofs.Endings.{flag, starting_dead, starting_left, reach_left, tailed_not}
use Rattle.engine.specs.Answers.{AtTails, TellsWord}

module _ (r : Regex) (t : List ℕ) (p : ℕ) {Z : Type 0} (after : List ℕ → Z) where
  -- what stands from at to p is a tail, and the state is the one after it
  pub record On (at : ℕ) (state : Z) : Type 0 where
    pub below : at ≤ p
    pub tail : Tail r (between t at p)
    pub is : state ≡ after (between t at p)

  pub on_start : Inhabited r → (state : Z) → state ≡ after [] → On p state
  on_start i state is = let nil = between_self t p in record { below = omega arith; tail = subst (Tail r) (sym nil) (tails_of_tails.empty r i); is = is ∙ ap after (sym nil) }

  module _ (at : ℕ) (state : Z) (on : On at state) where
    -- an engine's answer is the decider's
    pub tells : (b : Bool) → TellsWord r after state b → b ≡ accepted r (between t at p)
    tells b told = let (only, if_word) = told (between t at p) on.tail on.is in flag r (between t at p) b if_word only

    -- what `advance` answers at the code of the symbol before: the state of the longer tail, or none
    module _ (pos : 0 < at) (inside : p ≤ length t) where
      abbrev pub before : ℕ
      before = get_or t (at - 1) 0

      longer : before ∷ between t at p ≡ between t (at - 1) p
      longer = sym (between_left t at p pos on.below inside)

      pub on_more : (s : Z) → AtTails r after state (λ v. Tail r (before ∷ v) × (s ≡ after (before ∷ v))) → On (at - 1) s
      on_more s more =
          let below = on.below in
          let live = more (between t at p) on.tail on.is in
          record { below = omega arith; tail = subst (Tail r) longer live.0; is = live.1 ∙ ap after longer }

      pub not_tail : AtTails r after state (λ v. Tail r (before ∷ v) → ⊥) → Tail r (between t (at - 1) p) → ⊥
      not_tail dead h = dead (between t at p) on.tail on.is (subst (Tail r) (sym longer) h)

      pub none_left : AtTails r after state (λ v. Tail r (before ∷ v) → ⊥) → starting r t p at ≡ []
      none_left dead = starting_dead r t p at pos on.below (not_tail dead)

-- 1 or 0 is counted at the state of a tail
abbrev pub Tallies : Regex → {Z : Type 0} → (List ℕ → Z) → Z → ℕ → Type 0
Tallies r after state n = AtTails r after state (λ v. n ≡ cond (accepted r v) 1 0)

counted_one : (b : Bool) (x : ℕ × ℕ) (ys : List (ℕ × ℕ)) → cond b 1 0 + length ys ≡ length (cond b (x ∷ ys) ys)
counted_one true x ys = omega arith
counted_one false x ys = omega arith

-- the matches that start at `at` or later are counted, and the tail may reach further
pub record Counted (r : Regex) (t : List ℕ) (p at count : ℕ) : Type 0 where
  pub counted : count + length (starting r t p at) ≡ length (ending r t p)
  pub deep : reach r t p at ≡ reach r t p p

-- all are counted, and the state is that of the longest tail
pub record Ended (r : Regex) (t : List ℕ) (p : ℕ) {Z : Type 0} (after : List ℕ → Z) (at : ℕ) (state : Z) (count : ℕ) : Type 0 where
  pub below : at ≤ p
  pub counted : count ≡ length (ending r t p)
  pub deep : at ≡ reach r t p p
  pub tail : Tail r (longest r t p)
  pub is : state ≡ after (longest r t p)

module _ (r : Regex) (i : Inhabited r) (t : List ℕ) (p : ℕ) {Z : Type 0} (after : List ℕ → Z) where
  pub count_start : (state : Z) (n : ℕ) → On r t p after p state → Tallies r after state n → Counted r t p p n
  count_start state n on told = record {
    counted = ap (λ m. m + length (starting r t p p)) (told (between t p p) on.tail on.is) ∙ counted_one (accepted r (between t p p)) (p, p) (starting r t p p);
    deep = refl;
  }

  pub count_more : (at : ℕ) (s : Z) (count n : ℕ) → 0 < at → Counted r t p at count → On r t p after (at - 1) s → Tallies r after s n → Counted r t p (at - 1) (count + n)
  count_more at s count n pos sofar on told =
      let v : List ℕ = between t (at - 1) p in
      let one = told v on.tail on.is in
      let parts = counted_one (accepted r v) (at - 1, p) (starting r t p (at - 1)) ∙ ap length (sym (starting_left r t p at pos)) in
      let all = sofar.counted in
      record {
        counted = omega arith;
        deep = sym (cond-true (tailed r v) (reach r t p (at - 1)) at ((tails_tailed r i v).1 on.tail)) ∙ sym (reach_left r t p at pos) ∙ sofar.deep;
      }

  module _ (at : ℕ) (state : Z) (count : ℕ) (on : On r t p after at state) (sofar : Counted r t p at count) where
    ended : starting r t p at ≡ [] → reach r t p at ≡ at → Ended r t p after at state count
    ended none stays =
        let deep : at ≡ reach r t p p = sym stays ∙ sofar.deep in
        let all = sofar.counted in
        let nil = ap length none in
        record {
          below = on.below;
          counted = omega arith;
          deep = deep;
          tail = subst (λ m. Tail r (between t m p)) deep on.tail;
          is = on.is ∙ ap (λ m. after (between t m p)) deep;
        }

    pub ended_dead : 0 < at → p ≤ length t → AtTails r after state (λ v. Tail r (get_or t (at - 1) 0 ∷ v) → ⊥) → Ended r t p after at state count
    ended_dead pos inside dead =
        let shorter = not_tail r t p after at state on pos inside dead in
        ended (none_left r t p after at state on pos inside dead) (reach_left r t p at pos ∙ cond-false (tailed r (between t (at - 1) p)) (reach r t p (at - 1)) at (tailed_not r (between t (at - 1) p) i shorter))

    pub ended_start : at ≡ 0 → Ended r t p after at state count
    ended_start zero_at = ended (ap (starting r t p) zero_at) (ap (reach r t p) zero_at ∙ sym zero_at)
