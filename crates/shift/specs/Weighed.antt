-- What counts of each tail, and the least over those that lead to a position. Assumes nothing.
use Rattle.std.specs.Prelude.{◌≡◌, ℕ, min, max, ◌&&◌, List, [], ◌∷◌, length, map, filter, vec_items, ◌==◌}
use Rattle.std.specs.List.{fold}
use Rattle.regular.specs.Sets.{bit}
use Rattle.positions.specs.Closure.{Closed}
use Rattle.distance.specs.Extremes.{finite, lesser}
use Rattle.distance.specs.Found.{first_of, second_of}
use Rattle.shift.specs.Led.{Led}
use Rattle.shift.specs.Listed.{all_words, full_words}
use Rattle.shift.specs.declared.pieces.Piece.{Piece}
use Rattle.shift.specs.declared.pieces.Pieces.{Pieces}
use Rattle.shift.specs.declared.tails.Tails.{Tails}

-- p is what counts of the tail t, of the tails whose words are ws and of which the longest, of length k, are fs
pub record Weighs (arrows : List ℕ) (ws fs : List (List ℕ)) (k : ℕ) (t : Led) (p : Piece) : Type 0 where
  pub span : p.span ≡ length t.codes
  pub positions : p.positions ≡ t.positions
  pub onward : Closed arrows t.positions p.onward
  pub nearest : finite p.nearest ≡ lesser (first_of ws t.codes) (finite (second_of k fs t.codes))

-- .. of each of the tails
abbrev pub EachWeighed : List ℕ → List (List ℕ) → List (List ℕ) → ℕ → List Led → List Piece → Type 0
EachWeighed arrows ws fs k [] [] = Unit {0}
EachWeighed arrows ws fs k [] (p ∷ ps) = ⊥
EachWeighed arrows ws fs k (t ∷ ts) [] = ⊥
EachWeighed arrows ws fs k (t ∷ ts) (p ∷ ps) = Weighs arrows ws fs k t p × EachWeighed arrows ws fs k ts ps

pub record WeighedFor (arrows : List ℕ) (t : Tails) (p : Pieces) : Type 0 where
  pub depth : p.depth ≡ t.depth
  pub each : EachWeighed arrows (all_words t) (full_words t) t.depth (vec_items t.list) (vec_items p.list)

-- the least length, up to k, of a piece that leads to q
abbrev pub short_of : ℕ → List Piece → ℕ → ℕ
short_of k ps q = fold min k (map (λ (p : Piece). p.span) (filter (λ (p : Piece). bit p.positions q) ps))

-- the least distance, up to m, of the pieces that have the length s and lead on to q
abbrev pub distance_of : ℕ → List Piece → ℕ → ℕ → ℕ
distance_of m ps s q = fold min m (map (λ (p : Piece). p.nearest) (filter (λ (p : Piece). p.span == s && bit p.onward q) ps))

abbrev pub jump_of : ℕ → List Piece → ℕ → ℕ
jump_of k ps q = distance_of (max k 1) ps (short_of k ps q) q
