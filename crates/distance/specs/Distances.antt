-- How far a search may go on from what it has read: the two distances, the numbers of positions and the jumps of sets. Assumes nothing.
use Rattle.std.specs.Prelude.{◌≡◌, ℕ, ◌+◌, ◌-◌, ◌<◌, ◌≤◌, min, Bool, true, List, ◌++◌, length, drop, slice_index}
use Rattle.regular.specs.Language.{Regex, Tail, Shortest}
use Rattle.regular.specs.Positions.{size, reached}
use Rattle.distance.specs.Extremes.{Least, Greatest, Distance, finite, lesser, LeastIfAny}
use Rattle.distance.specs.Kinds.{TailCount}

-- the length k of a full tail, of a language whose shortest word has length m:
-- the greatest number up to m for which the tails of at most that length, as words of kinds, are at most 256
abbrev pub Depth : Regex → ℕ → ℕ → Type 0
Depth r m k = Greatest (λ n. (n ≤ m) × ((count : ℕ) × TailCount r n count × (count ≤ 256))) k

abbrev pub FullLength : Regex → ℕ → Type 0
FullLength r k = (m : ℕ) × Shortest r m × Depth r m k

pub record Full (r : Regex) (k : ℕ) (w : List ℕ) : Type 0 where
  pub tail : Tail r w
  pub long : length w ≡ k

-- v and some n symbols are the end, or the whole, of a full tail
abbrev pub Inside : Regex → ℕ → List ℕ → ℕ → Type 0
Inside r k v n = (1 ≤ n) × ((x : List ℕ) × (y : List ℕ) × (length x ≡ n) × Full r k (y ++ (v ++ x)))

-- v and some n symbols have a full tail at their end
abbrev pub Past : Regex → ℕ → List ℕ → ℕ → Type 0
Past r k v n = (1 ≤ n) × ((x : List ℕ) × (y : List ℕ) × (w : List ℕ) × (length x ≡ n) × (v ++ x ≡ y ++ w) × Full r k w)

abbrev pub First : Regex → ℕ → List ℕ → Distance → Type 0
First r k v d = LeastIfAny (Inside r k v) d

abbrev pub Second : Regex → ℕ → List ℕ → Distance → Type 0
Second r k v d = LeastIfAny (Past r k v) d

-- n is the lesser of the two distances of v
abbrev pub Lesser : Regex → ℕ → List ℕ → ℕ → Type 0
Lesser r k v n = (d : Distance) × (e : Distance) × First r k v d × Second r k v e × (lesser d e ≡ finite n)

-- the word v leads from the start to q
abbrev pub Leads : Regex → List ℕ → ℕ → Type 0
Leads r v q = reached r v q ≡ true

-- a is the length of the shortest such word
abbrev pub Way : Regex → ℕ → ℕ → Type 0
Way r q a = Least (λ n. (v : List ℕ) × Leads r v q × (length v ≡ n)) a

-- the last n symbols
abbrev pub last : ℕ → List ℕ → List ℕ
last n v = drop (length v - n) v

-- w is what q keeps of some word that leads to it
abbrev pub Piece : Regex → ℕ → ℕ → List ℕ → Type 0
Piece r k q w = (a : ℕ) × (v : List ℕ) × Way r q a × Leads r v q × (w ≡ last (min k a) v)

-- t of a position: the least, over its pieces, of the lesser of the two distances
abbrev pub PositionJump : Regex → ℕ → ℕ → ℕ → Type 0
PositionJump r k q t = Least (λ n. (w : List ℕ) × Piece r k q w × Lesser r k w n) t

-- the list has t of the start and of each position
pub record PositionJumps (r : Regex) (list : List ℕ) : Type 0 where
  pub depth : ℕ
  pub full : FullLength r depth
  pub count : length list ≡ size r + 1
  pub each : (q : ℕ) → q < size r + 1 → PositionJump r depth q (slice_index list q)

-- the jump of a set: the greatest t of its positions
abbrev pub SetJump : Regex → ℕ → (ℕ → Bool) → ℕ → Type 0
SetJump r k S h = Greatest (λ t. (q : ℕ) × (S q ≡ true) × PositionJump r k q t) h

-- the jump of the set of the positions that v leads to
abbrev pub Jump : Regex → List ℕ → ℕ → Type 0
Jump r v h = (k : ℕ) × FullLength r k × SetJump r k (reached r v) h

-- the lesser of the two distances of the whole of v
abbrev pub WholeJump : Regex → List ℕ → ℕ → Type 0
WholeJump r v h = (k : ℕ) × FullLength r k × Lesser r k v h
