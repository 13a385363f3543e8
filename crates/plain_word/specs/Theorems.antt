-- What holds of an expression that spells a word: its tails are the word's ends, and its jumps the least moves of the word over itself. Assumes nothing.
use Rattle.std.specs.Prelude.{◌≡◌, ℕ, ◌≤◌, true, ◌↔◌, List, length, Some}
use Rattle.regular.specs.Language.{Tail}
use Rattle.regular.specs.Positions.{size}
use Rattle.syntax.specs.declared.tree.Node.{Node}
use Rattle.syntax.specs.Tree.{language, spelling, exact}
use Rattle.distance.specs.Distances.{WholeJump, last}
use Rattle.plain_word.specs.Jumps.{LeastMove}

abbrev pub EndsAreTails : Type 0
EndsAreTails = (n : Node) (w : List ℕ) → exact n ≡ true → spelling n ≡ Some w → (v : List ℕ) → Tail (language n) v ↔ ((length v ≤ length w) × (v ≡ last (length v) w))

abbrev pub MovesAreJumps : Type 0
MovesAreJumps =
    (n : Node) (w : List ℕ) → size (language n) ≤ 63 → exact n ≡ true → spelling n ≡ Some w
    → (j h : ℕ) → j ≤ length w → LeastMove w j h → WholeJump (language n) (last j w) h
