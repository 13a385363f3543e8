-- The list of all tails up to a length. Assumes nothing.
use Rattle.std.specs.Prelude.{◌≡◌, ℕ, ◌+◌, ◌<◌, ◌≤◌, List, map, length, take, drop, vec_items}
use Rattle.regular.specs.Language.{Regex, shortest}
use Rattle.distance.specs.Found.{second_of, tails}
use Rattle.shift.specs.Led.{all_codes, led, listed, words}
use Rattle.shift.specs.declared.tails.Tails.{Tails}

-- the words of all, and of those of the depth
abbrev pub all_words : Tails → List (List ℕ)
all_words t = words (vec_items t.list)

abbrev pub full_words : Tails → List (List ℕ)
full_words t = words (drop t.full (vec_items t.list))

-- the second distances of the first tails
abbrev pub Seconds : Tails → List ℕ → Type 0
Seconds t ss = ss ≡ map (second_of t.depth (full_words t)) (take (length ss) (all_words t))

-- every tail up to the depth, which is the greatest length up to the shortest word's for which they are at most 256
pub record ListedFor (r : Regex) (t : Tails) : Type 0 where
  pub list : vec_items t.list ≡ map (led r) (listed r t.depth)
  pub full_ones : drop t.full (vec_items t.list) ≡ map (led r) (tails r (all_codes r) t.depth)
  pub most : t.depth ≤ shortest r
  pub few : length (listed r t.depth) ≤ 256
  pub full : t.depth < shortest r → 256 < length (listed r (t.depth + 1))
