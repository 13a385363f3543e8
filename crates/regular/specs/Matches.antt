-- The matches of a text, as pairs of a start and an end, and the lists of them. Assumes nothing.
use Rattle.std.specs.Prelude.{◌≡◌, ℕ, zero, suc, ◌+◌, ◌<◌, ◌≤◌, cond, ◌⊎◌, List, [], ◌∷◌, ◌++◌, length, slice_index_or, slice_range}
use Rattle.regular.specs.Language.{Regex, Word, Tail, Inhabited}
use Rattle.regular.specs.Positions.{accepted, tailed}

-- the text from the place s to the place e
abbrev pub between : List ℕ → ℕ → ℕ → List ℕ
between t s e = slice_range t s e

-- the symbols from the start to the end form a word
pub record IsMatch (r : Regex) (t : List ℕ) (p : ℕ × ℕ) : Type 0 where
  pub ordered : p.0 ≤ p.1
  pub inside : p.1 ≤ length t
  pub word : Word r (between t p.0 p.1)

-- the matches that end at e and start below n, the latest start first
abbrev pub starting : Regex → List ℕ → ℕ → ℕ → List (ℕ × ℕ)
starting r t e zero = []
starting r t e (suc n) = cond (accepted r (between t n e)) ((n, e) ∷ starting r t e n) (starting r t e n)

-- the matches that end at e, shorter before longer
abbrev pub ending : Regex → List ℕ → ℕ → List (ℕ × ℕ)
ending r t e = starting r t e (suc e)

-- the matches that end in the n places from f on
abbrev pub listed : Regex → List ℕ → ℕ → ℕ → List (ℕ × ℕ)
listed r t f zero = []
listed r t f (suc n) = listed r t f n ++ ending r t (f + n)

-- the least start, from n down, of a tail that ends at e: n itself if none below is a tail
abbrev pub reach : Regex → List ℕ → ℕ → ℕ → ℕ
reach r t e zero = zero
reach r t e (suc n) = cond (tailed r (between t n e)) (reach r t e n) (suc n)

-- the longest tail that ends at e
abbrev pub longest : Regex → List ℕ → ℕ → List ℕ
longest r t e = between t (reach r t e e) e

-- in order of end, and at one end the shorter first
abbrev pub Precedes : ℕ × ℕ → ℕ × ℕ → Type 0
Precedes p q = (p.1 < q.1) ⊎ ((p.1 ≡ q.1) × (q.0 < p.0))

-- the list is exactly the matches that end at from or later and before next, each once, in order
pub record Exactly (r : Regex) (t : List ℕ) (from next : ℕ) (xs : List (ℕ × ℕ)) : Type 0 where
  pub sound : (i : ℕ) → i < length xs → IsMatch r t (slice_index_or xs i (0, 0)) × (from ≤ (slice_index_or xs i (0, 0)).1) × ((slice_index_or xs i (0, 0)).1 < next)
  pub complete : (p : ℕ × ℕ) → IsMatch r t p → from ≤ p.1 → p.1 < next → (i : ℕ) × (i < length xs) × (slice_index_or xs i (0, 0) ≡ p)
  pub ordered : (i j : ℕ) → i < j → j < length xs → Precedes (slice_index_or xs i (0, 0)) (slice_index_or xs j (0, 0))

-- the lists are exact, and there is one exact list
pub record ListsExact (r : Regex) (t : List ℕ) : Type 0 where
  pub place : (e : ℕ) → e ≤ length t → Exactly r t e (e + 1) (ending r t e)
  pub range : (from n : ℕ) → from + n ≤ length t + 1 → Exactly r t from (from + n) (listed r t from n)
  pub only : (from next : ℕ) (xs ys : List (ℕ × ℕ)) → Exactly r t from next xs → Exactly r t from next ys → xs ≡ ys

-- the text from s to e is a tail, and no longer one that ends at e is
pub record LongestTail (r : Regex) (t : List ℕ) (e s : ℕ) : Type 0 where
  pub ordered : s ≤ e
  pub tail : Tail r (between t s e)
  pub longest : (n : ℕ) → n ≤ e → Tail r (between t n e) → s ≤ n

abbrev pub ListsAreExact : Type 0
ListsAreExact = (r : Regex) (t : List ℕ) → ListsExact r t

abbrev pub LongestIsFound : Type 0
LongestIsFound = (r : Regex) → Inhabited r → (t : List ℕ) (e : ℕ) → LongestTail r t e (reach r t e e)
