-- What listing a whole text gives: every match, and what finding them took. Assumes nothing.
use Rattle.std.specs.Prelude.{◌≡◌, ℕ, ◌+◌, ◌<◌, ◌≤◌, List, ◌++◌, length, take, vec_items, Result, MatchResult}
use Rattle.refusal.specs.declared.Fault.{Fault}
use Rattle.refusal.specs.declared.Fault.TheVariants.{TextTooLong, NoRoom, Memory}
use Rattle.regular.specs.Language.{Regex}
use Rattle.regular.specs.Matches.{ending, Exactly}
use Rattle.search.specs.Rules.{onward, reading}
use Rattle.search.specs.declared.numbers.Numbers.{Numbers}
use Rattle.finder.specs.declared.Listing as listings

-- what stands in the filled part of a table is added to a listing, and what finding it took
pub record TakenOver (k : Numbers) (table : List (ℕ × ℕ)) (before after : listings.Listing) : Type 0 where
  pub matches : vec_items after.matches ≡ vec_items before.matches ++ take k.filled table
  pub walks : after.walks ≡ before.walks + k.walks
  pub reads : after.reads ≡ before.reads + k.reads

-- over the expression, the shifts of its engine and the text's codes
module _ (r : Regex) (shift : List ℕ → ℕ) (t : List ℕ) where
  -- steps lead from p to q in so many walks, which read so many symbols
  pub data Goes (p : ℕ) : (q walks reads : ℕ) → Type 0 where
    here : Goes p p 0 0
    on : {q walks reads : ℕ} → Goes p q walks reads → q ≤ length t → Goes p (onward r t shift q) (walks + 1) (reads + reading r t q)

  -- the list has every match of the text, each once, in order; and steps led over all places in so many walks and reads
  pub record Whole (l : listings.Listing) : Type 0 where
    pub every : Exactly r t 0 (length t + 1) (vec_items l.matches)
    pub took : Goes 0 (length t + 1) l.walks l.reads

  -- a text is too long, or at some place more matches end than there is room in all, or memory is wanting
  pub data NotListed (room : ℕ) : Fault → Type 0 where
    long : 65535 < length t → NotListed room TextTooLong
    narrow : (p : ℕ) → p ≤ length t → room < length (ending r t p) → NotListed room (NoRoom p (length (ending r t p)))
    no_memory : NotListed room Memory

  abbrev pub Lists : ℕ → Result listings.Listing Fault → Type 0
  Lists room result = MatchResult result Whole (NotListed room)
