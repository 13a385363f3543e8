-- The tails listed by lengths, and the distances reckoned from the list: what the code computes. Assumes nothing.
use Rattle.std.specs.Prelude.{◌≡◌, ℕ, zero, suc, ◌+◌, ◌-◌, min, max, Bool, true, false, cond, ◌&&◌, ◌||◌, List, [], ◌∷◌, ◌++◌, length, ◌==◌, nat_lt}
use Rattle.std.specs.List.{flat_map}
use Rattle.regular.specs.Language.{Regex}
pub use Rattle.regular.specs.Language.{Within}
use Rattle.regular.specs.Positions.{holds, size, some_below, arrow, reached, tailed}
use Rattle.distance.specs.Extremes.{Distance, infinite, finite, lesser}

-- the positions 1 to n hold both codes or neither
abbrev pub alike_below : Regex → ℕ → ℕ → ℕ → Bool
alike_below r c d zero = true
alike_below r c d (suc n) = cond (holds r 0 (suc n) c) (holds r 0 (suc n) d) (cond (holds r 0 (suc n) d) false true) && alike_below r c d n

abbrev pub alike : Regex → ℕ → ℕ → Bool
alike r c d = alike_below r c d (size r)

-- no code below n is of c's kind
abbrev pub first_alike : Regex → ℕ → ℕ → Bool
first_alike r c zero = true
first_alike r c (suc n) = cond (alike r n c) false (first_alike r c n)

-- the kinds, each by its least code, of the codes below n
abbrev pub kinds : Regex → ℕ → List ℕ
kinds r zero = []
kinds r (suc n) = kinds r n ++ cond (first_alike r n n) (n ∷ []) []

-- the tails that are one symbol longer than v
abbrev pub longer : Regex → List ℕ → ℕ → List (List ℕ)
longer r v c = cond (tailed r (c ∷ v)) ((c ∷ v) ∷ []) []

abbrev pub fronted : Regex → ℕ → List ℕ → List (List ℕ)
fronted r codes v = flat_map (longer r v) (kinds r codes)

-- the tails of length n, and those of length n at most
abbrev pub tails : Regex → ℕ → ℕ → List (List ℕ)
tails r codes zero = [] ∷ []
tails r codes (suc n) = flat_map (fronted r codes) (tails r codes n)

abbrev pub tails_upto : Regex → ℕ → ℕ → List (List ℕ)
tails_upto r codes zero = [] ∷ []
tails_upto r codes (suc n) = tails_upto r codes n ++ tails r codes (suc n)

-- v is a head of w
abbrev pub head_of : List ℕ → List ℕ → Bool
head_of [] w = true
head_of (c ∷ v) [] = false
head_of (c ∷ v) (d ∷ w) = c == d && head_of v w

-- the least value of f over a list
abbrev pub least_of : (List ℕ → Distance) → List (List ℕ) → Distance
least_of f [] = infinite
least_of f (w ∷ ws) = lesser (f w) (least_of f ws)

abbrev pub when : Bool → Distance → Distance
when b d = cond b d infinite

-- how much longer w is than its head v
abbrev pub beyond : List ℕ → List ℕ → Distance
beyond v w = when (head_of v w && nat_lt (length v) (length w)) (finite (length w - length v))

abbrev pub first_of : List (List ℕ) → List ℕ → Distance
first_of found v = least_of (beyond v) found

-- v is a proper head of some tail of length k
abbrev pub opens : ℕ → List (List ℕ) → List ℕ → Bool
opens k [] v = false
opens k (w ∷ ws) v = (length w == k && (head_of v w && nat_lt (length v) (length w))) || opens k ws v

abbrev pub second_of : ℕ → List (List ℕ) → List ℕ → ℕ
second_of k found [] = max 1 k
second_of k found (c ∷ v) = cond (opens k found (c ∷ v)) (k - length (c ∷ v)) (second_of k found v)

-- the shortest way to q, up to k
abbrev pub way_of : Regex → List (List ℕ) → ℕ → Distance
way_of r found q = least_of (λ w. when (reached r w q) (finite (length w))) found

abbrev pub upto : ℕ → Distance → ℕ
upto k infinite = k
upto k (finite n) = min k n

-- q can be come to from p, in n steps
abbrev pub walk : Regex → ℕ → ℕ → ℕ → Bool
walk r zero p q = q == p
walk r (suc n) p q = some_below (size r + 1) (λ o. walk r n p o && arrow r o q)

abbrev pub Onward : Regex → ℕ → ℕ → Type 0
Onward r p q = (n : ℕ) × (walk r n p q ≡ true)
