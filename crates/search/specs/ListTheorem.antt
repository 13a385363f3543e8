-- The list theorem: whatever calls are made on a search, it lists every match between its two places, and does and answers what is reckoned. Assumes nothing.
use Rattle.std.specs.Prelude.{◌≡◌, ℕ, ◌+◌, ◌-◌, ◌*◌, ◌≤◌, max, List, length, take}
use Rattle.regular.specs.Language.{Regex, Shortest}
use Rattle.regular.specs.Matches.{Exactly}
use Rattle.search.specs.Reckoning.{begun, reckoned, numbers_by, all_told, all_left}
use Rattle.search.specs.declared.numbers.Answer.{Answer}
use Rattle.search.specs.declared.numbers.Call.{Call}
use Rattle.search.specs.declared.numbers.Numbers.{Numbers}

-- what holds of a search whenever it is set aside: of the text and the expression, its numbers, and the filled part of its table
pub record SetAside (r : Regex) (t : List ℕ) (k : Numbers) (filled : List (ℕ × ℕ)) : Type 0 where
  -- 0 ≤ from ≤ next ≤ length + 1
  pub ordered : k.from ≤ k.next
  pub inside : k.next ≤ length t + 1
  -- exactly the matches that end at from or later and before next, each once, ordered by end, shorter before longer
  pub exact : Exactly r t k.from k.next filled
  pub counted : k.filled ≡ length filled
  -- walks ≤ next - from ≤ walks × max 1 m, with m the length of a shortest word
  pub walks_most : k.walks ≤ k.next - k.from
  pub walks_least : (m : ℕ) → Shortest r m → k.next - k.from ≤ k.walks * max 1 m

-- A search of the text t is opened, and the calls are made on it and on one table, which they change from `before` to `after`; then it has the numbers k.
-- Every engine is of the expression r, and shifts has for the number of each the shift that it means for each tail.
pub record ListTheorem (r : Regex) (t : List ℕ) (shifts : ℕ → List ℕ → ℕ) (calls : List Call) (before after : List (ℕ × ℕ)) (k : Numbers) (answers : List Answer) : Type 0 where
  -- each call is granted, refused and answered as is reckoned
  pub answered : answers ≡ all_told r t (length before) shifts calls (begun 0)
  -- from, next and walks are the reckoned ones, with filled the number of matches that end at from or later and before next
  pub numbers : k ≡ numbers_by r t (length before) shifts (reckoned r t (length before) shifts calls (begun 0))
  -- the filled part is exactly these matches, and walks are bounded
  pub aside : SetAside r t k (take k.filled after)
  -- any two searches alike in text, expression, from and next have equal filled parts
  pub alike : (k' : Numbers) (other : List (ℕ × ℕ)) → SetAside r t k' other → k'.from ≡ k.from → k'.next ≡ k.next → other ≡ take k.filled after
  -- and what no call wrote stays as it was
  pub table : after ≡ all_left r t (length before) shifts calls (begun 0) before
