-- How far a search may go on from a place, and that no such jump is longer than a shortest word. Assumes nothing.
use Rattle.std.specs.Prelude.{ℕ, ◌<◌, ◌≤◌, max, List, ◌++◌, length}
use Rattle.regular.specs.Language.{Regex, Tail, EndsInWord, Shortest}

-- no match ends 1 to h - 1 symbols behind v, whatever stands before v and whatever follows
abbrev pub NothingWithin : Regex → List ℕ → ℕ → Type 0
NothingWithin r v h = (u x : List ℕ) → 1 ≤ length x → length x < h → EndsInWord r (u ++ (v ++ x)) → ⊥

-- a search may go on by h v from a place where the longest tail is v: it goes on, and passes no match
abbrev pub Skips : Regex → (List ℕ → ℕ) → Type 0
Skips r h = (v : List ℕ) → Tail r v → (1 ≤ h v) × NothingWithin r v (h v)

-- a jump is at most a shortest word's length, and at most 1 where that is 0
abbrev pub JumpsBounded : Type 0
JumpsBounded = (r : Regex) (v : List ℕ) (h m : ℕ) → NothingWithin r v h → Shortest r m → h ≤ max 1 m
