-- Branches as rows of items, and expressions as branches with | between them, from left to right. Assumes nothing.
use Rattle.std.proofs.Common.{◌≡◌, ℕ, true, false, not, ◌||◌, eqb, ◌⊎◌, List, [], ◌∷◌, ◌++◌, sym, refl, ap, ◌∙◌, subst, inl, arith}
use Rattle.std.specs.List.{flat_map}
use Rattle.std.proofs.lemmas.Bool.Decides.{nat_tests}
use Rattle.syntax.specs.declared.mode.Mode.{Mode}
use Rattle.syntax.specs.declared.mode.Mode.TheVariants.{Bytes, Fields}
use Rattle.syntax.specs.Grammar.{plain, escaped, newline, Value, dot, unit, set, Tree, expression, branch, item, atom, only, or, lone, row, marked, group, simple, written_value, written_mark, written}
use Rattle.syntax.specs.Lexer.{starts}
use Rattle.syntax.specs.Tokens.{item_in}
use Rattle.syntax.specs.Parser.{Unmarked, Stops, Closes}
use Rattle.syntax.specs.Tree.{Joined, Chosen}
use Rattle.syntax.proofs.Meant.{means_lone, means_only, means_row, means_or}
use Rattle.syntax.proofs.Chains.{chained, chained_last, Chain}
use Rattle.syntax.proofs.Lexes.{plain_not}

-- the first byte of an item
abbrev pub Starter : ℕ → Type 0
Starter c = ((eqb c 42 || (eqb c 43 || eqb c 63)) ≡ false) × ((eqb c 124 || eqb c 41) ≡ false)

abbrev pub Begun : List ℕ → Type 0
Begun w = (c : ℕ) × (u : List ℕ) × (w ≡ c ∷ u) × Starter c

begun_more : (u v : List ℕ) → Begun u → Begun (u ++ v)
begun_more u v (c, t, e, s) = (c, t ++ v, ap (λ z. z ++ v) e, s)

unit_begun : (x : Value Bytes) → Begun (written_value Bytes x)
unit_begun (plain b p) = (b, [], refl, (rw (plain_not b 42 p refl, plain_not b 43 p refl, plain_not b 63 p refl), rw (plain_not b 124 p refl, plain_not b 41 p refl)))
unit_begun (escaped b p) = (92, b ∷ [], refl, (refl, refl))
unit_begun newline = (92, 110 ∷ [], refl, (refl, refl))

atom_begun : (m : Mode) (a : Tree m atom) → Begun (written a)
atom_begun m (group t) = (40, written t ++ (41 ∷ []), refl, (refl, refl))
atom_begun m (simple dot) = (46, [], refl, (refl, refl))
atom_begun Bytes (simple (unit a x)) = unit_begun x
atom_begun Fields (simple (unit a x)) = absurd a
atom_begun Bytes (simple (set n xs)) = (91, _, refl, (refl, refl))
atom_begun Fields (simple (set n xs)) = (60, _, refl, (refl, refl))

pub item_begun : {m : Mode} (i : Tree m item) → Begun (written i)
item_begun {m} (marked a k) = begun_more (written a) (written_mark k) (atom_begun m a)

stop_test : (b : ℕ) → (b ≡ 124) ⊎ (b ≡ 41) → (eqb b 124 || eqb b 41) ≡ true
stop_test b h = grind (arith, nat_tests)

stops_unmarked : (v : List ℕ) → Stops v → Unmarked v
stops_unmarked v h = grind arith

closes_stops : (v : List ℕ) → Closes v → Stops v
closes_stops v h = grind arith

-- tests of what stands there
pub item_there : (u v : List ℕ) → Begun u → item_in (u ++ v) ≡ true
item_there u v (c, t, k, (_, s)) = ap (λ z. item_in (z ++ v)) k ∙ ap not s

pub no_item : (v : List ℕ) → Stops v → item_in v ≡ false
no_item v h = grind (arith, stop_test)

pub no_bar : (v : List ℕ) → Closes v → starts 124 v ≡ false
no_bar v h = grind arith

module _ {m : Mode} where
  pub unrow : (b : Tree m branch) → (i : Tree m item) × (is : List (Tree m item)) × (b ≡ chained row (lone i) is)
  unrow (lone i) = (i, [], refl)
  unrow (row b i) = let (j, is, e) = unrow b in (j, is ++ (i ∷ []), ap (λ z. row z i) e ∙ sym (chained_last row (lone j) is i))

  pub unor : (t : Tree m expression) → (b : Tree m branch) × (bs : List (Tree m branch)) × (t ≡ chained or (only b) bs)
  unor (only b) = (b, [], refl)
  unor (or t b) = let (c, bs, e) = unor t in (c, bs ++ (b ∷ []), ap (λ z. or z b) e ∙ sym (chained_last or (only c) bs b))

  pub rows_unmarked : (is : List (Tree m item)) (v : List ℕ) → Stops v → Unmarked (flat_map (λ i. written i) is ++ v)
  rows_unmarked [] v h = stops_unmarked v h
  rows_unmarked (i ∷ is) v h = let (c, u, e, s) = item_begun i in subst Unmarked (sym (ap (λ z. (z ++ flat_map (λ i. written i) is) ++ v) e)) s.0

  pub ors_stops : (bs : List (Tree m branch)) (v : List ℕ) → Closes v → Stops (flat_map (λ b. 124 ∷ written b) bs ++ v)
  ors_stops [] v h = closes_stops v h
  ors_stops (b ∷ bs) v h = inl refl

-- the items of a branch
abbrev pub items : (m : Mode) → Chain m branch item
items m = record {
  first = λ i. lone i;
  next = λ b i. row b i;
  lead = [];
  first_written = λ i. refl;
  next_written = λ b i. refl;
  first_nesting = λ i. omega arith;
  next_nesting = λ b i. (omega arith, omega arith);
  parted = unrow;
  Ends = Stops;
  Parts = Unmarked;
  goes_on = item_in;
  parts_end = rows_unmarked;
  on = λ i v. item_there (written i) v (item_begun i);
  off = no_item;
  Grown = Joined;
  means_first = λ n i. means_lone;
  means_next = λ e x n b i. means_row;
}

-- the branches of an expression
abbrev pub branches : (m : Mode) → Chain m expression branch
branches m = record {
  first = λ b. only b;
  next = λ t b. or t b;
  lead = 124 ∷ [];
  first_written = λ b. refl;
  next_written = λ t b. refl;
  first_nesting = λ b. omega arith;
  next_nesting = λ t b. (omega arith, omega arith);
  parted = unor;
  Ends = Closes;
  Parts = Stops;
  goes_on = starts 124;
  parts_end = ors_stops;
  on = λ b v. refl;
  off = no_bar;
  Grown = Chosen;
  means_first = λ n b. means_only;
  means_next = λ e x n t b. means_or;
}
