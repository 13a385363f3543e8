-- Trees whose atoms each hold some code, and how many positions a tree has. Assumes nothing.
use Rattle.std.proofs.Common.{◌≡◌, ℕ, ◌+◌, ◌≤◌, Bool, true, false, cond, [], ◌∷◌, length, sym, refl, ◌∙◌, append-nil, arith, length-append, rules}
use mathlib.Core.List.{nil≢cons}
use Rattle.std.specs.List.{flat_map}
use Rattle.std.proofs.lemmas.Bool.{and_parts}
use Rattle.std.proofs.lemmas.Grind.{flat_map-append}
use Rattle.regular.specs.Language.{Regex, one, join, either, star, plus, maybe, Inhabited}
use Rattle.regular.specs.Positions.{some_below, size}
use Rattle.syntax.specs.declared.mode.Mode.{Mode}
use Rattle.syntax.specs.declared.tree.Node.{Node}
use Rattle.syntax.specs.Grammar.{Mark, Level, Tree, only, or, lone, row, marked, group, simple, repeated, written, meaning, holds, top, parts}
use Rattle.syntax.specs.Refusals.{empty_set, position}
use Rattle.syntax.specs.Tree.{some_code, filled, full, language}
use Rattle.syntax.proofs.Walks.{append_none}
use Rattle.syntax.proofs.Tables.{some_below_is, top_low}

some_code_is : (s : ℕ → Bool) → some_code s ≡ true → (c : ℕ) × (s c ≡ true)
unfolding some_code
some_code_is s e = let (c, _, h) = (some_below_is s 256).0 e in (c, h)

some_code_from : (s : ℕ → Bool) (n : ℕ) → n ≤ 256 → some_below n s ≡ true → some_code s ≡ true
unfolding some_code
some_code_from s n l e = let (c, k, h) = (some_below_is s n).0 e in (some_below_is s 256).1 (c, omega arith, h)

filled_inhabited : (r : Regex) → filled r ≡ true → Inhabited r
filled_inhabited (one s) e = some_code_is s e
filled_inhabited (join a b) e = let (x, y) = and_parts (filled a) (filled b) e in (filled_inhabited a x, filled_inhabited b y)
filled_inhabited (either a b) e = let (x, y) = and_parts (filled a) (filled b) e in (filled_inhabited a x, filled_inhabited b y)
filled_inhabited (star a) e = filled_inhabited a e
filled_inhabited (plus a) e = filled_inhabited a e
filled_inhabited (maybe a) e = filled_inhabited a e

-- every set of a full tree holds some code
pub full_inhabited : (n : Node) → full n ≡ true → Inhabited (language n)
full_inhabited n e = filled_inhabited (language n) e

repeated_filled : (k : Mark) (r : Regex) → filled (repeated k r) ≡ filled r
repeated_filled k r = search rules

repeated_size : (k : Mark) (r : Regex) → size (repeated k r) ≡ size r
repeated_size k r = search rules

module _ {m : Mode} where
  -- a tree with no empty set is filled
  pub tree_filled : {l : Level} (t : Tree m l) (d p : ℕ) → flat_map empty_set (parts t d p) ≡ [] → filled (meaning t) ≡ true
  tree_filled (only b) d p e = tree_filled b d p e
  tree_filled (or t b) d p e = grind (arith, flat_map-append, append_none, tree_filled t d p, tree_filled b d (p + length (written t) + 1))
  tree_filled (lone i) d p e = tree_filled i d p e
  tree_filled (row b i) d p e = grind (arith, flat_map-append, append_none, tree_filled b d p, tree_filled i d (p + length (written b)))
  tree_filled (marked a k) d p e = repeated_filled k (meaning a) ∙ tree_filled a d p e
  tree_filled (group t) d p e = tree_filled t (d + 1) (p + 1) e
  tree_filled (simple s) d p e = some_code_from (holds m s) (top m + 1) (omega (arith, top_low m)) (go (some_below (top m + 1) (holds m s)) (sym (append-nil _) ∙ e))
    where
      go : (b : Bool) → cond b [] (p ∷ []) ≡ [] → b ≡ true
      go true e = refl
      go false e = absurd (nil≢cons (sym e))

  -- a tree has as many positions as it has simple atoms
  pub tree_size : {l : Level} (t : Tree m l) (d p : ℕ) → size (meaning t) ≡ length (flat_map position (parts t d p))
  tree_size (only b) d p = tree_size b d p
  tree_size (or t b) d p = grind (arith, flat_map-append, length-append, tree_size t d p, tree_size b d (p + length (written t) + 1))
  tree_size (lone i) d p = tree_size i d p
  tree_size (row b i) d p = grind (arith, flat_map-append, length-append, tree_size b d p, tree_size i d (p + length (written b)))
  tree_size (marked a k) d p = repeated_size k (meaning a) ∙ tree_size a d p
  tree_size (group t) d p = tree_size t (d + 1) (p + 1)
  tree_size (simple s) d p = refl
