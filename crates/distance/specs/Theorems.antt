-- What holds of the distances: jumps by them pass no match, and each of the numbers is one. Assumes nothing.
use Rattle.std.specs.Prelude.{◌≡◌, ℕ, Bool, List}
use Rattle.regular.specs.Language.{Regex, Tail}
use Rattle.regular.specs.Jumps.{Skips}
use Rattle.distance.specs.Extremes.{Distance}
use Rattle.distance.specs.Kinds.{TailCount}
use Rattle.distance.specs.Distances.{FullLength, First, Second, Lesser, PositionJump, SetJump, Jump, WholeJump}

-- a search may go on by the jump of the set, and by the lesser of the two distances of all that was read
pub record JumpsSafe : Type 0 where
  pub set : (r : Regex) (h : List ℕ → ℕ) → ((v : List ℕ) → Tail r v → Jump r v (h v)) → Skips r h
  pub whole : (r : Regex) (h : List ℕ → ℕ) → ((v : List ℕ) → Tail r v → WholeJump r v (h v)) → Skips r h

pub record Determined : Type 0 where
  pub count : (r : Regex) (n c c' : ℕ) → TailCount r n c → TailCount r n c' → c ≡ c'
  pub depth : (r : Regex) (k k' : ℕ) → FullLength r k → FullLength r k' → k ≡ k'
  pub first : (r : Regex) (k : ℕ) (v : List ℕ) (d d' : Distance) → First r k v d → First r k v d' → d ≡ d'
  pub second : (r : Regex) (k : ℕ) (v : List ℕ) (d d' : Distance) → Second r k v d → Second r k v d' → d ≡ d'
  pub nearer : (r : Regex) (k : ℕ) (v : List ℕ) (n n' : ℕ) → Lesser r k v n → Lesser r k v n' → n ≡ n'
  pub position : (r : Regex) (k q t t' : ℕ) → PositionJump r k q t → PositionJump r k q t' → t ≡ t'
  pub set : (r : Regex) (k : ℕ) (S : ℕ → Bool) (h h' : ℕ) → SetJump r k S h → SetJump r k S h' → h ≡ h'
  pub jump : (r : Regex) (v : List ℕ) (h h' : ℕ) → Jump r v h → Jump r v h' → h ≡ h'
  pub whole : (r : Regex) (v : List ℕ) (h h' : ℕ) → WholeJump r v h → WholeJump r v h' → h ≡ h'
