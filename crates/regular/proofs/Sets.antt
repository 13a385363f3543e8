-- Sets of positions as numbers, and the tables of an expression, as reading uses them. Assumes nothing.
use Rattle.std.proofs.Common.{◌≡◌, ℕ, zero, suc, ◌+◌, ◌*◌, ◌/◌, ◌%◌, ◌^◌, ◌<◌, ◌≤◌, Bool, true, false, cond, not, ◌&&◌, eqb, List, [], ◌∷◌, length, get_or, sym, refl, ap, ◌∙◌, ap₂, ⊎_elim, pow-suc, add-one, arith}
use mathlib.Core.Logic.Iff.{rfl as same}
use lib.Bits.{bit_and, and_le_r}
use Rattle.std.proofs.lemmas.List.{get_or_append_left, get_or_push, length_push}
use Rattle.std.proofs.lemmas.Bool.{cases_lt, cases_Bool, both_ways, eq-eqb, ne_eqb}
use Rattle.regular.specs.Language.{Regex, Word, Tail, Inhabited}
use Rattle.regular.specs.Positions.{size, holds, some_below, arrow, reached, final, tailed, accepted}
use Rattle.regular.specs.Sets.{bit, followed, set_of, as_set, row, arrows_of, held_of}
use Rattle.regular.proofs.Iff.{and_true}
use Rattle.regular.proofs.Reading.{some_below_is, reached_in, words_accepted}
use Rattle.regular.proofs.Tails.{tails_tailed}
use Rattle.regular.proofs.Bits.{bit_of_and, bit_zero, bit_one, bit_suc, same_bits, some_below_like, and_turn, followed_bits}

-- the first digit of a set, and the rest of it
digit : (b : Bool) (x : ℕ) → ((cond b 1 0 + 2 * x) / 2 ≡ x) × (eqb ((cond b 1 0 + 2 * x) % 2) 1 ≡ b) × (cond b 1 0 ≤ 1)
digit true x = (omega arith, let e : (1 + 2 * x) % 2 ≡ 1 = omega arith in ap (λ z. eqb z 1) e, omega arith)
digit false x = (omega arith, let e : (0 + 2 * x) % 2 ≡ 0 = omega arith in ap (λ z. eqb z 1) e, omega arith)

pub bit_set : (n : ℕ) (f : ℕ → Bool) (q : ℕ) → q < n → bit (set_of n f) q ≡ f q
bit_set zero f q l = absurd (omega arith)
bit_set (suc n) f zero l =
    let s = set_of (suc n) f in
    let e : s / 1 ≡ s = omega arith in ap (λ z. eqb (z % 2) 1) e ∙ (digit (f 0) (set_of n (λ q. f (suc q)))).1
bit_set (suc n) f (suc q) l =
    bit_suc (set_of (suc n) f) q ∙ ap (λ z. bit z q) (digit (f 0) (set_of n (λ q. f (suc q)))).0 ∙ bit_set n (λ q. f (suc q)) q (omega arith)

pub set_below : (n : ℕ) (f : ℕ → Bool) → set_of n f < 2 ^ n
set_below zero f = omega arith
set_below (suc n) f =
    let x = set_of n (λ q. f (suc q)) in
    let h = set_below n (λ q. f (suc q)) in
    let d = (digit (f 0) x).2 in
    let e : 2 ^ suc n ≡ 2 ^ n * 2 = pow-suc 2 n in omega arith

module _ (f : ℕ → Bool) where
  pub as_set_bit : (q : ℕ) → q < 64 → bit (as_set f) q ≡ f q
  unfolding as_set
  as_set_bit = bit_set 64 f

  pub as_set_below : as_set f < 2 ^ 64
  unfolding as_set
  as_set_below = set_below 64 f

-- a number with the members of a set is that set
pub is_set : (s : ℕ) (f : ℕ → Bool) → s < 2 ^ 64 → ((q : ℕ) → q < 64 → bit s q ≡ f q) → s ≡ as_set f
is_set s f l b = same_bits 64 s (as_set f) l (as_set_below f) (λ q k. b q k ∙ sym (as_set_bit f q k))

-- a set of positions below n is empty just if none passes
module _ (n : ℕ) (few : n ≤ 64) (f : ℕ → Bool) (inside : (q : ℕ) → f q ≡ true → q < n) where
  pub empty_set : as_set f ≡ 0 → some_below n f ≡ false
  empty_set e =
      ⊎_elim
      (λ t. let (q, k, s) = (some_below_is n (λ q. same)).0 t in absurd (both_ways (f q) (sym (as_set_bit f q (omega arith)) ∙ ap (λ x. bit x q) e ∙ bit_zero q) s))
      (λ h. h)
      (cases_Bool (some_below n f))

  pub some_set : (as_set f ≡ 0 → ⊥) → some_below n f ≡ true
  some_set h =
      ⊎_elim
      (λ t. t)
      (λ no_one. absurd (h (same_bits 64 (as_set f) 0 (as_set_below f) (omega arith) (λ q k. as_set_bit f q k ∙ none no_one q ∙ sym (bit_zero q)))))
      (cases_Bool (some_below n f))
    where
      none : some_below n f ≡ false → (q : ℕ) → f q ≡ false
      none e q = ⊎_elim (λ s. absurd (both_ways (some_below n f) e ((some_below_is n (λ q. same)).1 (q, inside q s, s)))) (λ s. s) (cases_Bool (f q))

pub length_row : (n : ℕ) (f : ℕ → ℕ) → length (row n f) ≡ n
length_row zero f = refl
length_row (suc n) f = length_push (row n f) (f n) ∙ ap (λ k. k + 1) (length_row n f) ∙ add-one n

pub get_or_row : (n : ℕ) (f : ℕ → ℕ) (i : ℕ) → i < n → get_or (row n f) i 0 ≡ f i
get_or_row zero f i l = absurd (omega arith)
get_or_row (suc n) f i l =
    ⊎_elim
    (λ less. get_or_append_left (row n f) (f n ∷ []) 0 i (omega (arith, length_row n f)) ∙ get_or_row n f i less)
    (λ more. let e : i ≡ n = omega arith in rw e (get_or_push (row n f) (f n) 0 n (length_row n f)))
    (cases_lt i n)

module _ (r : Regex) where
  pub length_held : length (held_of r) ≡ 256
  unfolding held_of
  length_held = length_row 256 (λ c. as_set (λ q. holds r 0 q c))

  pub held_at : (c : ℕ) → c < 256 → get_or (held_of r) c 0 ≡ as_set (λ q. holds r 0 q c)
  unfolding held_of
  held_at = get_or_row 256 (λ c. as_set (λ q. holds r 0 q c))

  module _ (few : size r ≤ 63) where
    -- what the arrows lead to
    next_bits : (v : List ℕ) (q : ℕ) → q < 64
        → bit (followed (arrows_of r) (as_set (reached r v)) (size r + 1)) q ≡ some_below (size r + 1) (λ p. reached r v p && arrow r p q)
    next_bits v q l =
        followed_bits (arrows_of r) (as_set (reached r v)) q (size r + 1)
        ∙ some_below_like (size r + 1) _ (λ p. reached r v p && arrow r p q)
        (λ p k. ap₂ ◌&&◌ (as_set_bit (reached r v) p (omega arith)) (ap (λ x. bit x q) (get_or_row (size r + 1) (λ p. as_set (arrow r p)) p k) ∙ as_set_bit (arrow r p) q l))

    -- one more code is read
    pub read_one : (v : List ℕ) (c : ℕ) → c < 256
        → bit_and (followed (arrows_of r) (as_set (reached r v)) (length (arrows_of r))) (get_or (held_of r) c 0) ≡ as_set (reached r (c ∷ v))
    read_one v c l =
        let a = followed (arrows_of r) (as_set (reached r v)) (size r + 1) in
        let h = as_set (λ q. holds r 0 q c) in
        ap₂ (λ n x. bit_and (followed (arrows_of r) (as_set (reached r v)) n) x) (length_row (size r + 1) (λ p. as_set (arrow r p))) (held_at c l)
        ∙ is_set (bit_and a h) (reached r (c ∷ v)) (omega (arith, and_le_r a h, as_set_below (λ q. holds r 0 q c)))
        (λ q k. bit_of_and a h q ∙ and_turn (bit a q) (bit h q) ∙ ap₂ ◌&&◌ (as_set_bit (λ q. holds r 0 q c) q k) (next_bits v q k))

    -- .. by the tables that are those of the expression
    pub entered : (v : List ℕ) (c s n : ℕ) (arrows held : List ℕ) → c < 256 → s ≡ as_set (reached r v) → arrows ≡ arrows_of r → held ≡ held_of r
        → n ≡ bit_and (followed arrows s (length arrows)) (get_or held c 0) → n ≡ as_set (reached r (c ∷ v))
    entered v c s n arrows held l is a h e =
        e ∙ ap₂ bit_and (ap₂ (λ rows x. followed rows x (length rows)) a is) (ap (λ xs. get_or xs c 0) h) ∙ read_one v c l

    -- the set is empty just for what is no tail
    module _ (inh : Inhabited r) (v : List ℕ) where
      pub no_tail : as_set (reached r v) ≡ 0 → Tail r v → ⊥
      unfolding tailed
      no_tail e t = both_ways (tailed r v) (empty_set (size r + 1) (omega arith) (reached r v) (reached_in r v) e) ((tails_tailed r inh v).1 t)

      pub a_tail : (as_set (reached r v) ≡ 0 → ⊥) → Tail r v
      unfolding tailed
      a_tail h = (tails_tailed r inh v).0 (some_set (size r + 1) (omega arith) (reached r v) (reached_in r v) h)

    module _ (v : List ℕ) where
      -- the final positions that are reached
      both : as_set (λ q. reached r v q && final r q) ≡ bit_and (as_set (reached r v)) (as_set (final r))
      both = sym (is_set _ _ (omega (arith, and_le_r (as_set (reached r v)) (as_set (final r)), as_set_below (final r)))
          (λ q k. bit_of_and (as_set (reached r v)) (as_set (final r)) q ∙ ap₂ ◌&&◌ (as_set_bit (reached r v) q k) (as_set_bit (final r) q k)))

      pub word_final : Word r v → not (eqb (bit_and (as_set (reached r v)) (as_set (final r))) 0) ≡ true
      unfolding accepted
      word_final w = ap not (ne_eqb _ 0 (λ e. both_ways (accepted r v)
          (empty_set (size r + 1) (omega arith) (λ q. reached r v q && final r q) (λ q h. reached_in r v q (and_true.0 h).0) (both ∙ e)) ((words_accepted r v).1 w)))

      pub final_word : not (eqb (bit_and (as_set (reached r v)) (as_set (final r))) 0) ≡ true → Word r v
      unfolding accepted
      final_word h = (words_accepted r v).0 (some_set (size r + 1) (omega arith) (λ q. reached r v q && final r q) (λ q h. reached_in r v q (and_true.0 h).0)
          (λ e. both_ways (not (eqb (bit_and (as_set (reached r v)) (as_set (final r))) 0)) (ap not (eq-eqb _ 0 (sym both ∙ e))) h))

  -- the set of the empty word: the start alone
  pub start_set : 1 ≡ as_set (reached r [])
  start_set = is_set 1 (reached r []) (omega arith) (λ q k. bit_one q)
