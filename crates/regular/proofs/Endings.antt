-- What `starting`, `ending` and `listed` hold, and how they grow. Assumes nothing.
use Rattle.std.proofs.Common.{◌≡◌, ℕ, zero, suc, ◌+◌, ◌-◌, ◌<◌, ◌≤◌, Bool, true, false, cond, ◌↔◌, List, [], ◌∷◌, ◌++◌, length, get_or, refl, subst, append_assoc, append-nil, add-zero, arith}
use mathlib.Core.Logic.Iff.{symm as flip}
use Rattle.std.proofs.Math.Nat.{add-sub_of_le}
use Rattle.std.proofs.lemmas.Bool.{cond_both, false_from_ne_true}
use Rattle.std.proofs.lemmas.Bool.Decides.{same_from_decides}
use Rattle.regular.specs.Language.{Regex, Word, Tail, Inhabited}
use Rattle.regular.specs.Positions.{accepted, tailed}
use Rattle.regular.specs.Matches.{IsMatch, between, starting, ending, listed, reach, Precedes, Exactly, ListsAreExact}
use Rattle.regular.proofs.Iff.{◌⨾◌}
use Rattle.regular.proofs.Reading.{words_accepted}
use Rattle.regular.proofs.Tails.{tails_tailed, tails_of_tails}
use Rattle.regular.proofs.Places.{between_split}
use Rattle.regular.proofs.Orders.{In, Sorted, in_append, at_in, in_at, sorted_append, sorted_rising, rising_sorted, same_sorted}

pub tailed_not : (r : Regex) (w : List ℕ) → Inhabited r → (Tail r w → ⊥) → tailed r w ≡ false
tailed_not r w i h = false_from_ne_true (tailed r w) (λ e. h ((tails_tailed r i w).0 e))

-- an answer that agrees with the language is the decider's
pub flag : (r : Regex) (w : List ℕ) (b : Bool) → (Word r w → b ≡ true) → (b ≡ true → Word r w) → b ≡ accepted r w
flag r w b word only = same_from_decides b (accepted r w) (only, word) (words_accepted r w)

precedes_one_way : (p q : ℕ × ℕ) → Precedes p q → Precedes q p → ⊥
precedes_one_way p q a b = grind arith

module _ (r : Regex) (t : List ℕ) (e : ℕ) where
  pub in_starting : (n : ℕ) (p : ℕ × ℕ) → In p (starting r t e n) ↔ ((p.1 ≡ e) × (p.0 < n) × Word r (between t p.0 e))
  in_starting zero (s, f) = (absurd, λ (_, l, _). absurd (omega arith))
  in_starting (suc n) (s, f) = grind (arith, in_starting n (s, f), words_accepted r (between t n e))

  pub starting_none : (n : ℕ) → ((m : ℕ) → m < n → Word r (between t m e) → ⊥) → starting r t e n ≡ []
  starting_none zero h = refl
  starting_none (suc n) h = grind (arith, starting_none n (λ m l. h m (omega arith)), h n, words_accepted r (between t n e))

  -- a walk stops where there is no tail
  pub starting_dead : (n : ℕ) → 0 < n → n ≤ e → (Tail r (between t (n - 1) e) → ⊥) → starting r t e n ≡ []
  starting_dead n pos le dead =
      starting_none n (λ m l w. dead (tails_of_tails.suffix r (between t m (n - 1)) (between t (n - 1) e) ([], rw (← between_split t m (n - 1) e (omega arith) (omega arith)) w)))

  pub starting_left : (n : ℕ) → 0 < n → starting r t e n ≡ cond (accepted r (between t (n - 1) e)) ((n - 1, e) ∷ starting r t e (n - 1)) (starting r t e (n - 1))
  starting_left zero pos = absurd (omega arith)
  starting_left (suc n) pos = let h : suc n - 1 ≡ n = omega arith in rw h

  pub reach_left : (n : ℕ) → 0 < n → reach r t e n ≡ cond (tailed r (between t (n - 1) e)) (reach r t e (n - 1)) n
  reach_left zero pos = absurd (omega arith)
  reach_left (suc n) pos = let h : suc n - 1 ≡ n = omega arith in rw h

  pub starting_sorted : (n : ℕ) → Sorted Precedes (starting r t e n)
  starting_sorted zero = tt
  starting_sorted (suc n) =
      cond_both (accepted r (between t n e)) ((n, e) ∷ starting r t e n) (starting r t e n) (Sorted Precedes)
      (λ _. (λ p i. grind (arith, (in_starting n p).0 i), starting_sorted n))
      (λ _. starting_sorted n)

  starting_few : (n : ℕ) → length (starting r t e n) ≤ n
  starting_few zero = omega arith
  starting_few (suc n) = grind (arith, starting_few n)

module _ (r : Regex) (t : List ℕ) where
  pub ending_few : (e : ℕ) → length (ending r t e) ≤ e + 1
  ending_few e = omega (arith, starting_few r t e (suc e))

  pub in_listed : (f n : ℕ) (p : ℕ × ℕ) → In p (listed r t f n) ↔ ((f ≤ p.1) × (p.1 < f + n) × (p.0 ≤ p.1) × Word r (between t p.0 p.1))
  in_listed f zero p = grind arith
  in_listed f (suc n) (s, e) = grind (arith, in_append (s, e) (listed r t f n) (ending r t (f + n)), in_listed f n (s, e), in_starting r t (f + n) (suc (f + n)) (s, e))

  listed_sorted : (f n : ℕ) → Sorted Precedes (listed r t f n)
  listed_sorted f zero = tt
  listed_sorted f (suc n) =
      sorted_append Precedes (listed r t f n) (ending r t (f + n)) (listed_sorted f n) (starting_sorted r t (f + n) (suc (f + n)))
      (λ p q i j. grind (arith, (in_listed f n p).0 i, (in_starting r t (f + n) (suc (f + n)) q).0 j))

-- Exactly, by what stands in the list
module _ (r : Regex) (t : List ℕ) (from next : ℕ) where
  abbrev Due : ℕ × ℕ → Type 0
  Due p = IsMatch r t p × (from ≤ p.1) × (p.1 < next)

  exactly_from : (xs : List (ℕ × ℕ)) → Sorted Precedes xs → ((p : ℕ × ℕ) → In p xs ↔ Due p) → Exactly r t from next xs
  exactly_from xs sorted is = record {
    sound = λ i l. (is (get_or xs i (0, 0))).0 (at_in xs i (0, 0) l);
    complete = λ p m a b. in_at p xs (0, 0) ((is p).1 (m, a, b));
    ordered = sorted_rising Precedes xs (0, 0) sorted;
  }

  exactly_in : (xs : List (ℕ × ℕ)) → Exactly r t from next xs → (p : ℕ × ℕ) → In p xs ↔ Due p
  exactly_in xs h p = (
    λ i. let (j, l, e) = in_at p xs (0, 0) i in subst Due e (h.sound j l),
    λ (m, a, b). let (j, l, e) = h.complete p m a b in subst (λ q. In q xs) e (at_in xs j (0, 0) l),
  )

  -- there is one such list
  pub exactly_one : (xs ys : List (ℕ × ℕ)) → Exactly r t from next xs → Exactly r t from next ys → xs ≡ ys
  exactly_one xs ys a b =
      same_sorted Precedes precedes_one_way xs ys (rising_sorted Precedes xs (0, 0) a.ordered) (rising_sorted Precedes ys (0, 0) b.ordered)
      (λ p. exactly_in xs a p ⨾ flip (exactly_in ys b p))

module _ (r : Regex) (t : List ℕ) where
  pub listed_range : (from n : ℕ) → from + n ≤ length t + 1 → Exactly r t from (from + n) (listed r t from n)
  listed_range from n within =
      exactly_from r t from (from + n) (listed r t from n) (listed_sorted r t from n)
      (λ p. in_listed r t from n p ⨾ (λ (a, b, c, w). (record { ordered = c; inside = omega arith; word = w }, a, b), λ (m, a, b). (a, b, m.ordered, m.word)))

  pub listed_exactly : (from next : ℕ) → from ≤ next → next ≤ length t + 1 → Exactly r t from next (listed r t from (next - from))
  listed_exactly from next le within = rw (add-sub_of_le le) at (listed_range from (next - from) (omega arith))

  pub ending_exactly : (e : ℕ) → e ≤ length t → Exactly r t e (e + 1) (ending r t e)
  ending_exactly e within = subst (λ n. Exactly r t e (e + 1) (ending r t n)) (add-zero e) (listed_range e 1 (omega arith))

  -- lists in a row
  pub listed_append : (f n m : ℕ) → listed r t f n ++ listed r t (f + n) m ≡ listed r t f (n + m)
  listed_append f n zero = rw (append-nil, add-zero)
  listed_append f n (suc m) =
      let h : f + n + m ≡ f + (n + m) = omega arith in
      let k : n + suc m ≡ suc (n + m) = omega arith in
      cc (listed_append f n m, append_assoc (listed r t f n) (listed r t (f + n) m) (ending r t (f + n + m)))

  -- from one place to another, and on to a third
  pub listed_on : (a b c : ℕ) → a ≤ b → b ≤ c → listed r t a (b - a) ++ listed r t b (c - b) ≡ listed r t a (c - a)
  listed_on a b c p q =
      let e : a + (b - a) ≡ b = omega arith in
      let f : (b - a) + (c - b) ≡ c - a = omega arith in
      rw (e, f) at (listed_append a (b - a) (c - b))

  -- where nothing ends
  pub listed_none : (f n : ℕ) → ((q : ℕ) → f ≤ q → q < f + n → ending r t q ≡ []) → listed r t f n ≡ []
  listed_none f zero h = refl
  listed_none f (suc n) h = rw (listed_none f n (λ q a b. h q a (omega arith)), h (f + n) (omega arith) (omega arith))

  -- one place at which something ends, and then none
  pub listed_one : (f n : ℕ) → ((q : ℕ) → f < q → q < f + (n + 1) → ending r t q ≡ []) → listed r t f (n + 1) ≡ ending r t f
  listed_one f n h =
      let e : 1 + n ≡ n + 1 = omega arith in
      cc (add-zero f, listed_append f 1 n, listed_none (f + 1) n (λ q a b. h q (omega arith) (omega arith)), append-nil (ending r t (f + 0)))

pub every_list_is_exact : ListsAreExact
every_list_is_exact r t = record { place = ending_exactly r t; range = listed_range r t; only = exactly_one r t }
