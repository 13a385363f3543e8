-- Positions of an expression, and reading words right to left over them. Assumes nothing.
use Rattle.std.specs.Prelude.{◌≡◌, ℕ, zero, suc, ◌+◌, Bool, true, false, ◌&&◌, ◌||◌, ◌↔◌, List, [], ◌∷◌, ◌==◌}
use Rattle.regular.specs.Language.{Regex, one, join, either, star, plus, maybe, Word, Tail, Inhabited}

-- how many positions
abbrev pub size : Regex → ℕ
size (one s) = 1
size (join a b) = size a + size b
size (either a b) = size a + size b
size (star a) = size a
size (plus a) = size a
size (maybe a) = size a

-- the empty word is in the language
abbrev pub nullable : Regex → Bool
nullable (one s) = false
nullable (join a b) = nullable a && nullable b
nullable (either a b) = nullable a || nullable b
nullable (star a) = true
nullable (plus a) = nullable a
nullable (maybe a) = true

-- the positions of r are i + 1 to i + size r, in written order: each function below takes i
-- the set of q holds c
abbrev pub holds : Regex → ℕ → ℕ → ℕ → Bool
holds (one s) i q c = q == i + 1 && s c
holds (join a b) i q c = holds a i q c || holds b (i + size a) q c
holds (either a b) i q c = holds a i q c || holds b (i + size a) q c
holds (star a) i q c = holds a i q c
holds (plus a) i q c = holds a i q c
holds (maybe a) i q c = holds a i q c

-- q can begin a word
abbrev pub begins : Regex → ℕ → ℕ → Bool
begins (one s) i q = q == i + 1
begins (join a b) i q = begins a i q || (nullable a && begins b (i + size a) q)
begins (either a b) i q = begins a i q || begins b (i + size a) q
begins (star a) i q = begins a i q
begins (plus a) i q = begins a i q
begins (maybe a) i q = begins a i q

-- q can end a word
abbrev pub ends : Regex → ℕ → ℕ → Bool
ends (one s) i q = q == i + 1
ends (join a b) i q = (ends a i q && nullable b) || ends b (i + size a) q
ends (either a b) i q = ends a i q || ends b (i + size a) q
ends (star a) i q = ends a i q
ends (plus a) i q = ends a i q
ends (maybe a) i q = ends a i q

-- q can stand just before p
abbrev pub before : Regex → ℕ → ℕ → ℕ → Bool
before (one s) i q p = false
before (join a b) i q p = before a i q p || ((ends a i q && begins b (i + size a) p) || before b (i + size a) q p)
before (either a b) i q p = before a i q p || before b (i + size a) q p
before (star a) i q p = before a i q p || (ends a i q && begins a i p)
before (plus a) i q p = before a i q p || (ends a i q && begins a i p)
before (maybe a) i q p = before a i q p

-- some number below n passes
abbrev pub some_below : ℕ → (ℕ → Bool) → Bool
some_below zero f = false
some_below (suc n) f = f n || some_below n f

-- reading goes from p to q: from the start to what can end a word, from a position to what can stand just before it
abbrev pub arrow : Regex → ℕ → ℕ → Bool
arrow r zero q = ends r 0 q
arrow r (suc p) q = before r 0 q (suc p)

-- q is reached from the start by reading the word right to left
abbrev pub reached : Regex → List ℕ → ℕ → Bool
reached r [] q = q == 0
reached r (c ∷ v) q = holds r 0 q c && some_below (size r + 1) (λ p. reached r v p && arrow r p q)

-- a position that can begin a word, and the start if the empty word is in the language
abbrev pub final : Regex → ℕ → Bool
final r zero = nullable r
final r (suc p) = begins r 0 (suc p)

-- something final is reached
unfoldable pub accepted : Regex → List ℕ → Bool
accepted r v = some_below (size r + 1) (λ q. reached r v q && final r q)

-- something is reached
unfoldable pub tailed : Regex → List ℕ → Bool
tailed r v = some_below (size r + 1) (reached r v)

-- reading reaches a final position exactly for the words of the language
abbrev pub WordsAccepted : Type 0
WordsAccepted = (r : Regex) (w : List ℕ) → accepted r w ≡ true ↔ Word r w

-- .. and anything at all exactly for the tails
abbrev pub TailsTailed : Type 0
TailsTailed = (r : Regex) → Inhabited r → (v : List ℕ) → tailed r v ≡ true ↔ Tail r v
