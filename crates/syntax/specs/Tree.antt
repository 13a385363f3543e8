-- What a tree that was read stands for: its expression and, where it is a plain word, that word. Assumes nothing.
use Rattle.std.specs.Prelude.{◌≡◌, ℕ, Bool, true, false, cond, not, ◌&&◌, List, length, Some, None, Option, ◌==◌, nat_le, nat_lt, slice_index_or}
use Rattle.regular.specs.Language.{Regex, one, join, either, star, plus, maybe}
use Rattle.regular.specs.Positions.{some_below}
use Rattle.syntax.specs.declared.tree.Node.{Node}
use Rattle.syntax.specs.declared.tree.Node.TheVariants.{Atom, Group', Join', Either', Marked'}
use Rattle.syntax.specs.declared.tree.Mark as tree
use Rattle.syntax.specs.declared.tree.Mark.TheVariants.{Star, Plus, Query}
use Rattle.syntax.specs.Grammar.{Mark, any, some_times, perhaps, repeated, letter, in_a_row, unless_marked}

-- a mark as the grammar has it
abbrev pub mark_of : tree.Mark → Mark
mark_of Star = any
mark_of Plus = some_times
mark_of Query = perhaps

-- a group means what it holds
abbrev pub language : Node → Regex
language (Atom a) = one (λ c. slice_index_or a.codes c false)
language (Group' p a) = language a
language (Join' p a q b) = join (language a) (language b)
language (Either' p a q b) = either (language a) (language b)
language (Marked' k p a) = repeated (mark_of k) (language a)

-- the word that a tree spells, if it is made of atoms in a row that are each written as a value and no more
abbrev pub spelling : Node → Option (List ℕ)
spelling (Atom a) = letter a.single
spelling (Group' p a) = None
spelling (Join' p a q b) = in_a_row (spelling a) (spelling b)
spelling (Either' p a q b) = None
spelling (Marked' k p a) = None

-- every set of an expression holds some code below 256
unfoldable pub some_code : (ℕ → Bool) → Bool
some_code s = some_below 256 s

abbrev pub filled : Regex → Bool
filled (one s) = some_code s
filled (join a b) = filled a && filled b
filled (either a b) = filled a && filled b
filled (star a) = filled a
filled (plus a) = filled a
filled (maybe a) = filled a

abbrev pub full : Node → Bool
full n = filled (language n)

-- the table holds the code c and no other
unfoldable pub only : ℕ → List Bool → Bool
only c codes = (nat_le (length codes) 256 && nat_lt c 256) && not (some_below 256 (λ k. cond (slice_index_or codes k false) (not (c == k)) (c == k)))

abbrev pub only_if : Option ℕ → List Bool → Bool
only_if None codes = true
only_if (Some c) codes = only c codes

-- every atom that is written as a value and no more holds that value and no other
abbrev pub exact : Node → Bool
exact (Atom a) = only_if a.single a.codes
exact (Group' p a) = exact a
exact (Join' p a q b) = exact a && exact b
exact (Either' p a q b) = exact a && exact b
exact (Marked' k p a) = exact a

-- the tree e is built from others
pub record Grouped (a e : Node) : Type 0 where
  pub language_is : language e ≡ language a
  pub spelling_is : spelling e ≡ None
  pub exact_is : exact e ≡ exact a

pub record Joined (a b e : Node) : Type 0 where
  pub language_is : language e ≡ join (language a) (language b)
  pub spelling_is : spelling e ≡ in_a_row (spelling a) (spelling b)
  pub exact_is : exact e ≡ (exact a && exact b)

pub record Chosen (a b e : Node) : Type 0 where
  pub language_is : language e ≡ either (language a) (language b)
  pub spelling_is : spelling e ≡ None
  pub exact_is : exact e ≡ (exact a && exact b)

pub record Repeated (k : Mark) (a e : Node) : Type 0 where
  pub language_is : language e ≡ repeated k (language a)
  pub spelling_is : spelling e ≡ unless_marked k (spelling a)
  pub exact_is : exact e ≡ exact a
