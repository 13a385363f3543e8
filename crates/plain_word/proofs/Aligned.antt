-- A word that agrees with its own last letters, moved on by n, is a full tail with those inside it or before it. Assumes nothing.
use Rattle.std.proofs.Common.{◌≡◌, ℕ, suc, ◌+◌, ◌-◌, ◌<◌, ◌≤◌, max, Bool, true, ◌&&◌, eqb, leb, ◌⊎◌, ◌↔◌, List, ◌++◌, length, get_or, take, drop, Some, None, Option, unwrap_or, sym, refl, ◌∙◌, ap, ap₂, subst, append_assoc, inl, inr, ⊎_elim, arith, length-append, length-drop}
use Rattle.std.specs.Option.{MatchOption}
use Rattle.std.proofs.lemmas.List.Prefix.{front_from_reads, at_from_reads}
use Rattle.std.proofs.lemmas.List.{length-take, take-append-drop, drop-drop, get_or_append_left, get_or-append-add, get_or-take, get_or-drop, ext_get_or}
use Rattle.std.proofs.lemmas.Bool.{cases_lt, leb-true, le-leb}
use Rattle.std.proofs.lemmas.Bool.Decides.{Decides-eqb, Decides-and, Decides-at, Decides-like}
use Rattle.std.proofs.lemmas.Slice.Eq.{slice_eq-Decides}
use lib.Pointwise.{pointwise}
use Rattle.regular.specs.Language.{Regex, Word}
use Rattle.distance.specs.Extremes.{Least, Distance, infinite, finite, lesser, LeastIfAny}
use Rattle.distance.specs.Distances.{Full, Inside, Past, WholeJump, last}
use Rattle.distance.proofs.Least.{least_below, search_least, lesser_both, least_if_one}
use Rattle.distance.proofs.Safe.{length_last}
use Rattle.plain_word.specs.Jumps.{Agrees, LeastMove}
use Rattle.plain_word.proofs.Ends.{full_word, full_is, full_length}

decides_leb : (a b : ℕ) → leb a b ≡ true ↔ (a ≤ b)
decides_leb a b = (leb-true a b, le-leb a b)

-- the word moved on by n agrees with its last j letters just if two slices of it are equal
module _ (w : List ℕ) (j n : ℕ) where
  abbrev over : ℕ
  over = max (length w - j) n

  abbrev above : List ℕ
  above = take (length w - n - (over - n)) (drop (over - n) w)

  abbrev below : List ℕ
  below = take (length w - over) (drop over w)

  read_above : (i : ℕ) → i < length w - over → get_or above i 0 ≡ get_or w (over - n + i) 0
  read_above i l = get_or-take (length w - n - (over - n)) (drop (over - n) w) i 0 (omega arith) ∙ get_or-drop (over - n) w i 0

  read_below : (i : ℕ) → i < length w - over → get_or below i 0 ≡ get_or w (over + i) 0
  read_below i l = get_or-take (length w - over) (drop over w) i 0 l ∙ get_or-drop over w i 0

  length_above : length above ≡ length w - over
  length_above = omega (arith, length-take (length w - n - (over - n)) (drop (over - n) w), length-drop (over - n) w)

  length_below : length below ≡ length w - over
  length_below = omega (arith, length-take (length w - over) (drop over w), length-drop over w)

  abbrev agree : Bool
  agree = pointwise eqb above below

  agree_is : agree ≡ true ↔ Agrees w j n
  agree_is =
      Decides-like agree
      (λ e p a b l.
      let there : over - n + (p - over) ≡ p - n = omega arith in
      let here : over + (p - over) ≡ p = omega arith in
      ap (λ k. get_or w k 0) (sym there) ∙ sym (read_above (p - over) (omega arith)) ∙ ap (λ t. get_or t (p - over) 0) e ∙ read_below (p - over) (omega arith) ∙ ap (λ k. get_or w k 0) here)
      (λ A. ext_get_or 0 above below (length_above ∙ sym length_below) (λ i l.
      let there : over - n + i ≡ over + i - n = omega arith in
      read_above i (omega (arith, length_above)) ∙ ap (λ k. get_or w k 0) there ∙ A (over + i) (omega arith) (omega arith) (omega (arith, length_above)) ∙ sym (read_below i (omega (arith, length_above)))))
      (slice_eq-Decides Decides-eqb above below agree refl)

-- .. with the word as it is read
pub agrees_by : (w s t : List ℕ) (m j n o : ℕ) (r : Bool) → m ≡ length w → s ≡ w → t ≡ w → o ≡ max (m - j) n
    → r ≡ pointwise eqb (take (m - n - (o - n)) (drop (o - n) s)) (take (length t - o) (drop o t)) → (r ≡ true) ↔ Agrees w j n
agrees_by w s t m j n o r long is same from test =
    let at : o ≡ over w j n = omega arith in
    Decides-at r (agree w j n)
    (test ∙ ap₂ (λ x y. pointwise eqb (take (m - n - (o - n)) (drop (o - n) x)) (take (length y - o) (drop o y))) is same
    ∙ ap₂ (λ k p. pointwise eqb (take (k - n - (p - n)) (drop (p - n) w)) (take (length w - p) (drop p w))) long at)
    (agree_is w j n)

module _ (r : Regex) (w : List ℕ) (alone : (v : List ℕ) → Word r v ↔ (v ≡ w)) (j : ℕ) (le : j ≤ length w) where
  abbrev m : ℕ
  m = length w

  abbrev v : List ℕ
  v = last j w

  long : length v ≡ j
  long = length_last j w le

  -- the letters of v, read in v and more
  read_last : (x : List ℕ) (p i : ℕ) → m - j ≤ p → p < m → i ≡ p - (m - j) → get_or (v ++ x) i 0 ≡ get_or w p 0
  read_last x p i a l e =
      let at : m - j + i ≡ p = omega arith in
      get_or_append_left v x 0 i (omega (arith, long)) ∙ get_or-drop (m - j) w i 0 ∙ ap (λ k. get_or w k 0) at

  inside_agrees : (n : ℕ) → Inside r m v n → (1 ≤ n) × ((j + n ≤ m) × Agrees w j n)
  inside_agrees n (one, (x, y, size, F)) = (
    one,
    (
      omega (arith, parts),
      λ p a b l.
          let at : p - n ≡ length y + (p - (m - j)) = omega (arith, parts) in
          ap₂ (λ t k. get_or t k 0) (sym (full_is r w alone _ F)) at ∙ get_or-append-add y (v ++ x) (p - (m - j)) 0 ∙ read_last x p (p - (m - j)) a l refl,
    ),
  )
    where
      parts : length y + (j + n) ≡ m
      parts = omega (arith, F.long, length-append y (v ++ x), length-append v x, long)

  past_agrees : (n : ℕ) → Past r m v n → (1 ≤ n) × ((m ≤ j + n) × Agrees w j n)
  past_agrees n (one, (x, y, f, size, e, F)) = (
    one,
    (
      omega (arith, parts),
      λ p a b l.
          let at : length y + (p - n) ≡ p - (m - j) = omega (arith, parts) in
          sym (get_or-append-add y w (p - n) 0) ∙ ap₂ (λ t k. get_or t k 0) (ap (λ t. y ++ t) (sym (full_is r w alone f F)) ∙ sym e) at ∙ read_last x p (p - (m - j)) a l refl,
    ),
  )
    where
      parts : j + n ≡ length y + m
      parts = omega (arith, F.long, ap length e, length-append y f, length-append v x, long)

  agrees_inside : (n : ℕ) → 1 ≤ n → j + n ≤ m → Agrees w j n → Inside r m v n
  agrees_inside n one fits A = (one, (x, y, omega (arith, length-drop (at + length v) w, long), subst (Full r m) (sym whole) (full_word r w alone)))
    where
      at : ℕ
      at = m - j - n

      x : List ℕ
      x = drop (at + length v) w

      y : List ℕ
      y = take at w

      reads : (i : ℕ) → i < length v → get_or w (at + i) 0 ≡ get_or v i 0
      reads i l =
          let here : at + i ≡ (m - j + i) - n = omega arith in
          ap (λ k. get_or w k 0) here ∙ A (m - j + i) (omega arith) (omega arith) (omega (arith, long)) ∙ sym (get_or-drop (m - j) w i 0)

      whole : y ++ (v ++ x) ≡ w
      whole = ap (λ t. y ++ t) (sym (at_from_reads 0 w v at (omega (arith, long)) reads)) ∙ take-append-drop at w

  agrees_past : (n : ℕ) → 1 ≤ n → n ≤ m → m ≤ j + n → Agrees w j n → Past r m v n
  agrees_past n one upto fits A = (one, (x, y, w, omega (arith, length-drop (length (drop n w)) w, length-drop n w), whole, full_word r w alone))
    where
      x : List ℕ
      x = drop (length (drop n w)) w

      y : List ℕ
      y = take (j + n - m) v

      reads : (i : ℕ) → i < length (drop n w) → get_or w i 0 ≡ get_or (drop n w) i 0
      reads i l =
          let here : i ≡ (n + i) - n = omega arith in
          ap (λ k. get_or w k 0) here ∙ A (n + i) (omega arith) (omega arith) (omega (arith, length-drop n w)) ∙ sym (get_or-drop n w i 0)

      again : w ≡ drop n w ++ x
      again = front_from_reads 0 w (drop n w) (omega (arith, length-drop n w)) reads

      rest : drop (j + n - m) v ≡ drop n w
      rest = let at : m - j + (j + n - m) ≡ n = omega arith in drop-drop (j + n - m) (m - j) w ∙ ap (λ k. drop k w) at

      whole : v ++ x ≡ y ++ w
      whole = ap (λ t. t ++ x) (sym (take-append-drop (j + n - m) v) ∙ ap (λ t. y ++ t) rest) ∙ append_assoc y (drop n w) x ∙ ap (λ t. y ++ t) (sym again)

  module _ (some : 1 ≤ m) where
    abbrev is_inside : ℕ → Bool
    is_inside n = leb 1 n && (leb (j + n) m && agree w j n)

    inside_is : (n : ℕ) → is_inside n ≡ true ↔ ((1 ≤ n) × ((j + n ≤ m) × Agrees w j n))
    inside_is n = Decides-and _ _ (decides_leb 1 n) (Decides-and _ _ (decides_leb (j + n) m) (agree_is w j n))

    first : (d : Distance) × LeastIfAny (Inside r m v) d
    first =
        ⊎_elim
        (λ (a, (e, least)). let (one, (fits, A)) = (inside_is a).0 e in (finite a, (agrees_inside a one fits A, λ i I. least i ((inside_is i).1 (inside_agrees i I)))))
        (λ none. (infinite, λ i I. let (one, (fits, A)) = inside_agrees i I in none i (omega arith) ((inside_is i).1 (one, (fits, A)))))
        (least_below is_inside (suc m))

    abbrev is_past : ℕ → Bool
    is_past n = leb 1 n && (leb n m && (leb m (j + n) && agree w j n))

    past_is : (n : ℕ) → is_past n ≡ true ↔ ((1 ≤ n) × ((n ≤ m) × ((m ≤ j + n) × Agrees w j n)))
    past_is n = Decides-and _ _ (decides_leb 1 n) (Decides-and _ _ (decides_leb n m) (Decides-and _ _ (decides_leb m (j + n)) (agree_is w j n)))

    at_whole : Agrees w j m
    at_whole p a b l = absurd (omega arith)

    second : (e : ℕ) × Least (Past r m v) e
    second =
        let (e, (is, least)) = search_least is_past m ((past_is m).1 (some, (omega arith, (omega arith, at_whole)))) in
        let (one, (upto, (fits, A))) = (past_is e).0 is in (
          e,
          (
            agrees_past e one upto fits A,
            λ i P.
                let (one, (fits, A)) = past_agrees i P in
                ⊎_elim (λ more. omega arith) (λ le. least i ((past_is i).1 (one, (le, (fits, A))))) (cases_lt m i),
          ),
        )

    -- the least n that agrees is the lesser of the two distances
    pub least_agrees : length w ≤ 63 → (h : ℕ) → LeastMove w j h → WholeJump r v h
    least_agrees few h L =
        let one = L.forward in
        let A = L.agrees in
        let (d, D) = first in
        let (e, E) = second in
        let upto : h ≤ m = L.least m some at_whole in
        let either_way = λ (n : ℕ). Inside r m v n ⊎ Past r m v n in
        let here : either_way h = ⊎_elim (λ less. inl (agrees_inside h one (omega arith) A)) (λ more. inr (agrees_past h one upto (omega arith) A)) (cases_lt (j + h) m) in
        let both = lesser_both (Inside r m v) (Past r m v) d (finite e) D E in
        let found : LeastIfAny either_way (finite h) = (here, λ i. ⊎_elim (λ I. let (x, (_, B)) = inside_agrees i I in L.least i x B) (λ P. let (x, (_, B)) = past_agrees i P in L.least i x B)) in
        (m, full_length r w alone few, (d, finite e, D, E, least_if_one either_way (lesser d (finite e)) (finite h) both found))

-- the first n below the length that agrees, and the length where none does, is the least move
pub first_agrees : (w : List ℕ) (j m : ℕ) (o : Option ℕ) → m ≡ length w → 1 ≤ m
    → MatchOption o ((n : ℕ) → 1 ≤ n → n < m → Agrees w j n → ⊥) (λ n. (1 ≤ n) × (n < m) × Agrees w j n × ((i : ℕ) → 1 ≤ i → i < n → Agrees w j i → ⊥))
    → LeastMove w j (unwrap_or o m) × (unwrap_or o m ≤ m)
first_agrees w j m None long some none = (
  record {
    forward = some;
    agrees = λ p a b l. absurd (omega arith);
    least = λ i l A. ⊎_elim (λ less. absurd (none i l less A)) (λ more. more) (cases_lt i m);
  },
  omega arith,
)
first_agrees w j m (Some n) long some (one, below, A, none) = (
  record { forward = one; agrees = A; least = λ i l B. ⊎_elim (λ less. absurd (none i l less B)) (λ more. more) (cases_lt i n) },
  omega arith,
)
