-- Decimal digits, read from the left. Assumes nothing.
use Rattle.std.proofs.Common.{◌≡◌, ℕ, zero, suc, ◌+◌, ◌-◌, ◌*◌, ◌<◌, ◌≤◌, true, ◌&&◌, leb, List, [], ◌∷◌, ◌++◌, length, get_or, take, drop, sym, refl, ap, ◌∙◌, inl, inr, arith, take-append-drop}
use Rattle.std.specs.Char.{IsNotAsciiDigit}
use Rattle.std.proofs.lemmas.List.{take_more, take_all}
use Rattle.std.proofs.lemmas.Bool.{and_from, and_parts, le-leb, leb-true}
use Rattle.lines.specs.Numbers.{value, all_digits, Decimal}

value_append : (n : ℕ) (xs ys : List ℕ) → value n (xs ++ ys) ≡ value (value n xs) ys
value_append n [] ys = refl
value_append n (x ∷ xs) ys = value_append (n * 10 + (x - 48)) xs ys

value_grows : (n : ℕ) (xs : List ℕ) → n ≤ value n xs
value_grows n [] = omega arith
value_grows n (x ∷ xs) = let ih = value_grows (n * 10 + (x - 48)) xs in omega arith

digits_append : (xs : List ℕ) (d : ℕ) → all_digits xs ≡ true → (leb 48 d && leb d 57) ≡ true → all_digits (xs ++ (d ∷ [])) ≡ true
digits_append [] d h k = and_from (leb 48 d && leb d 57) true k refl
digits_append (x ∷ xs) d h k = let (a, b) = and_parts (leb 48 x && leb x 57) (all_digits xs) h in and_from (leb 48 x && leb x 57) (all_digits (xs ++ (d ∷ []))) a (digits_append xs d b k)

-- each of the digits is one
digit_at : (xs : List ℕ) (i : ℕ) → all_digits xs ≡ true → i < length xs → (48 ≤ get_or xs i 0) × (get_or xs i 0 ≤ 57)
digit_at [] i h lt = absurd (omega arith)
digit_at (x ∷ xs) zero h lt = let (a, b) = and_parts (leb 48 x) (leb x 57) (and_parts (leb 48 x && leb x 57) (all_digits xs) h).0 in (leb-true 48 x a, leb-true x 57 b)
digit_at (x ∷ xs) (suc i) h lt = digit_at xs i (and_parts (leb 48 x && leb x 57) (all_digits xs) h).1 (omega arith)

module _ (limit : ℕ) (bytes : List ℕ) where
  -- the first i bytes are digits that write n
  pub record Read (i n : ℕ) : Type 0 where
    pub digits : all_digits (take i bytes) ≡ true
    pub value_is : n ≡ value 0 (take i bytes)
    pub small : n ≤ limit

  pub read_none : Read 0 0
  read_none = record { digits = refl; value_is = refl; small = omega arith }

  -- one byte more, which as a digit is d
  module _ (i n d : ℕ) (read : Read i n) (lt : i < length bytes) (digit_is : d ≡ get_or bytes i 0 - 48) where
    more : value 0 (take (i + 1) bytes) ≡ n * 10 + d
    more = ap (value 0) (take_more bytes i 0 lt) ∙ value_append 0 (take i bytes) (get_or bytes i 0 ∷ []) ∙ omega (arith, read.value_is, digit_is)

    pub read_more : 48 ≤ get_or bytes i 0 → get_or bytes i 0 ≤ 57 → n * 10 + d ≤ limit → Read (i + 1) (n * 10 + d)
    read_more a b small = record {
      digits = ap all_digits (take_more bytes i 0 lt) ∙ digits_append (take i bytes) (get_or bytes i 0) read.digits (and_from (leb 48 (get_or bytes i 0)) (leb (get_or bytes i 0) 57) (le-leb 48 (get_or bytes i 0) a) (le-leb (get_or bytes i 0) 57 b));
      value_is = sym more;
      small = small;
    }

    -- a number that has grown too great stays so
    pub too_great : limit < n * 10 + d → (m : ℕ) → Decimal limit bytes m → ⊥
    too_great over m w =
        let whole = ap (value 0) (take-append-drop (i + 1) bytes) in
        let parts = value_append 0 (take (i + 1) bytes) (drop (i + 1) bytes) in
        let grows = value_grows (value 0 (take (i + 1) bytes)) (drop (i + 1) bytes) in
        let here = more in
        let is = w.value_is in
        let small = w.small in
        omega arith

  pub no_digit : (i : ℕ) → i < length bytes → IsNotAsciiDigit (get_or bytes i 0) → (m : ℕ) → Decimal limit bytes m → ⊥
  no_digit i lt out m w = let (a, b) = digit_at bytes i w.digits lt in elim out [ inl low ↦ omega arith | inr high ↦ omega arith ]

  pub read_all : (i n : ℕ) → Read i n → length bytes ≤ i → 0 < length bytes → Decimal limit bytes n
  read_all i n read over some =
      let all = take_all i bytes over in
      record { some = some; digits = ap all_digits (sym all) ∙ read.digits; value_is = read.value_is ∙ ap (value 0) all; small = read.small }
