-- A tree is determined by its bytes: fed its lexemes from left to right, it is built again. Assumes nothing.
use Rattle.std.proofs.Common.{◌≡◌, List, [], ◌∷◌, ◌++◌, sym, refl, ap, ◌∙◌, append_assoc, append-nil, rules, arith}
use Rattle.syntax.specs.declared.mode.Mode.{Mode}
use Rattle.syntax.specs.Grammar.{Mark, once, any, some_times, perhaps, dot, Level, expression, branch, item, Tree, only, or, lone, row, marked, group, simple, written}
use Rattle.syntax.specs.Grammar as grammar
use Rattle.syntax.specs.Tokens.{Lexeme, open_group, close_group, bar, mark, atom}
use Rattle.syntax.specs.Tree.{mark_of}
use Rattle.syntax.proofs.Sound.{Open, fresh, barred, Front, at, in_row, whole, grown, opened}
use Rattle.syntax.proofs.Walks.{mark_lexeme, lexemes, lexemes_spelled}
use Rattle.syntax.proofs.Decoded.{lexemes_same}

module _ (m : Mode) where
  -- before an item, behind an atom, behind a mark
  data Now : Type 0 where
    before : Front m → Now
    behind : Front m → Tree m grammar.atom → Now
    ended : Open m → Tree m branch → Now

  -- where the next item stands
  abbrev settled : Now → Front m
  settled (before f) = f
  settled (behind f a) = in_row (opened m f) (grown m f (marked a once))
  settled (ended o b) = in_row o b

  -- the expression so far; where an item is needed, any
  any_tree : Tree m expression
  any_tree = only (lone (marked (simple dot) once))

  abbrev so_far : Now → Tree m expression
  so_far (before f) = any_tree
  so_far (behind f a) = whole m (opened m f) (grown m f (marked a once))
  so_far (ended o b) = whole m o b

  abbrev mark_it : Mark → Now → Now
  mark_it k (before f) = before f
  mark_it k (behind f a) = ended (opened m f) (grown m f (marked a k))
  mark_it k (ended o b) = ended o b

  -- the tree that lexemes make, with the fronts of the groups that are open
  abbrev feed : List (Lexeme m) → Now → List (Front m) → Tree m expression
  feed [] n s = so_far n
  feed (open_group ∷ ks) n s = feed ks (before (at fresh)) (settled n ∷ s)
  feed (close_group ∷ ks) n [] = any_tree
  feed (close_group ∷ ks) n (f ∷ s) = feed ks (behind f (group (so_far n))) s
  feed (bar ∷ ks) n s = feed ks (before (at (barred (so_far n)))) s
  feed (mark k ∷ ks) n s = feed ks (mark_it (mark_of k) n) s
  feed (atom x ∷ ks) n s = feed ks (behind (settled n) (simple x)) s

  -- behind an item, a branch and an expression
  abbrev after_item : Front m → Tree m item → Now
  after_item f (marked a once) = behind f a
  after_item f (marked a any) = ended (opened m f) (grown m f (marked a any))
  after_item f (marked a some_times) = ended (opened m f) (grown m f (marked a some_times))
  after_item f (marked a perhaps) = ended (opened m f) (grown m f (marked a perhaps))

  abbrev after_branch : Open m → Tree m branch → Now
  after_branch o (lone i) = after_item (at o) i
  after_branch o (row b i) = after_item (in_row o b) i

  abbrev after : Tree m expression → Now
  after (only b) = after_branch fresh b
  after (or t b) = after_branch (barred t) b

  settled_item : (f : Front m) (i : Tree m item) → settled (after_item f i) ≡ in_row (opened m f) (grown m f i)
  settled_item f (marked a k) = search rules

  whole_item : (f : Front m) (i : Tree m item) → so_far (after_item f i) ≡ whole m (opened m f) (grown m f i)
  whole_item f (marked a k) = search rules

  settled_branch : (o : Open m) (b : Tree m branch) → settled (after_branch o b) ≡ in_row o b
  settled_branch o (lone i) = settled_item (at o) i
  settled_branch o (row b i) = settled_item (in_row o b) i

  whole_branch : (o : Open m) (b : Tree m branch) → so_far (after_branch o b) ≡ whole m o b
  whole_branch o (lone i) = whole_item (at o) i
  whole_branch o (row b i) = whole_item (in_row o b) i

  whole_tree : (t : Tree m expression) → so_far (after t) ≡ t
  whole_tree (only b) = whole_branch fresh b
  whole_tree (or t b) = whole_branch (barred t) b

  fed_mark : (k : Mark) (f : Front m) (a : Tree m grammar.atom) (ks : List (Lexeme m)) (s : List (Front m)) → feed (mark_lexeme k ++ ks) (behind f a) s ≡ feed ks (after_item f (marked a k)) s
  fed_mark k f a ks s = search rules

  -- what the lexemes of a tree lead to
  abbrev Fed : (l : Level) → Tree m l → Type 0
  Fed expression t = (ks : List (Lexeme m)) (s : List (Front m)) → feed (lexemes t ++ ks) (before (at fresh)) s ≡ feed ks (after t) s
  Fed branch b = (n : Now) (o : Open m) → settled n ≡ at o → (ks : List (Lexeme m)) (s : List (Front m)) → feed (lexemes b ++ ks) n s ≡ feed ks (after_branch o b) s
  Fed item i = (n : Now) (ks : List (Lexeme m)) (s : List (Front m)) → feed (lexemes i ++ ks) n s ≡ feed ks (after_item (settled n) i) s
  Fed grammar.atom a = (n : Now) (ks : List (Lexeme m)) (s : List (Front m)) → feed (lexemes a ++ ks) n s ≡ feed ks (behind (settled n) a) s

  fed : {l : Level} (t : Tree m l) → Fed l t
  fed (only b) = λ ks s. fed b (before (at fresh)) fresh refl ks s
  fed (or t b) = λ ks s. grind (arith, append_assoc, fed t (bar ∷ (lexemes b ++ ks)) s, whole_tree t, fed b (before (at (barred t))) (barred t) refl ks s)
  fed (lone i) = λ n o e ks s. fed i n ks s ∙ ap (λ f. feed ks (after_item f i) s) e
  fed (row b i) = λ n o e ks s. grind (arith, append_assoc, fed b n o e (lexemes i ++ ks) s, fed i (after_branch o b) ks s, settled_branch o b)
  fed (marked a k) = λ n ks s. grind (arith, append_assoc, fed a n (mark_lexeme k ++ ks) s, fed_mark k (settled n) a ks s)
  fed (group t) = λ n ks s. grind (arith, append_assoc, fed t (close_group ∷ ks) (settled n ∷ s), whole_tree t)
  fed (simple x) = λ n ks s. refl

  built_again : (t : Tree m expression) → feed (lexemes t) (before (at fresh)) [] ≡ t
  built_again t = ap (λ z. feed z (before (at fresh)) []) (sym (append-nil (lexemes t))) ∙ fed t [] [] ∙ whole_tree t

-- trees that are written alike are one
pub one_tree : (m : Mode) (t u : Tree m expression) → written t ≡ written u → t ≡ u
one_tree m t u e =
    sym (built_again m t)
    ∙ ap (λ z. feed m z (before (at fresh)) []) (lexemes_same m (lexemes t) (lexemes u) (lexemes_spelled t ∙ e ∙ sym (lexemes_spelled u)))
    ∙ built_again m u
