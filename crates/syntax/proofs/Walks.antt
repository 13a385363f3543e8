-- The walk over the tokens of an expression, and what is noted on it. Assumes nothing.
use Rattle.std.proofs.Common.{◌≡◌, ℕ, zero, suc, ◌+◌, ◌≤◌, Bool, true, false, cond, not, leb, ◌==◌, List, [], ◌∷◌, ◌++◌, length, drop, None, Option, sym, refl, ap, ◌∙◌, subst, append_assoc, append-nil, arith, length-append, rules}
use mathlib.Core.List.{nil≢cons}
use Rattle.std.specs.Bool.{then_some}
use Rattle.std.specs.List.{flat_map}
use Rattle.std.specs.Option.{option_or}
use Rattle.std.proofs.Math.Dec.{leb-suc-suc}
use Rattle.std.proofs.Math.Seq.{drop-nil}
use Rattle.std.proofs.lemmas.Grind.{flat_map-append}
use Rattle.std.proofs.lemmas.Bool.Decides.{nat_tests}
use Rattle.std.proofs.lemmas.Bool.{eq-eqb, eqb-true, false≢true}
use Rattle.regular.specs.Positions.{some_below}
use Rattle.syntax.specs.declared.mode.Mode.{Mode}
use Rattle.syntax.specs.declared.limits.TheConstants.{DEEPEST, MOST_POSITIONS}
use Rattle.syntax.specs.declared.lexer.Token.{Token}
use Rattle.syntax.specs.declared.lexer.Token.TheVariants.{Open, Close, Bar, Mark, Dot, Unit, Set}
use Rattle.syntax.specs.declared.tree.Mark as tree
use Rattle.syntax.specs.declared.tree.Mark.TheVariants.{Star, Plus, Query}
use Rattle.syntax.specs.declared.limits.Findings.{Findings}
use Rattle.syntax.specs.Grammar as grammar
use Rattle.syntax.specs.Grammar.{once, any, some_times, perhaps, Simple, dot, unit, set, Tree, Level, expression, only, or, lone, row, marked, group, simple, top, holds, written, written_mark, Part, group_at, simple_at, parts}
use Rattle.syntax.specs.Refusals as refusals
use Rattle.syntax.specs.Refusals.{first, too_deep, reversed_simple, position, spots, breach_of}
use Rattle.syntax.specs.Lexer.{Before, Ahead}
use Rattle.syntax.specs.Tokens.{Lexeme, open_group, close_group, bar, mark, atom, written_lexeme, Stands}
use Rattle.syntax.specs.declared.lexer.Lexer.{Lexer}
use Rattle.syntax.specs.Parser.{nesting}
use Rattle.syntax.specs.Limits.{Noted, part_of, depth_behind, or_ok, verdict_of, Checked}
use Rattle.syntax.proofs.Lexes.{lexeme_head}

first_append : (xs ys : List ℕ) → first (xs ++ ys) ≡ option_or (first xs) (first ys)
first_append xs ys = search rules

-- the lexemes of a tree, in written order
abbrev pub mark_lexeme : {m : Mode} → grammar.Mark → List (Lexeme m)
mark_lexeme once = []
mark_lexeme any = mark Star ∷ []
mark_lexeme some_times = mark Plus ∷ []
mark_lexeme perhaps = mark Query ∷ []

mark_spelled : (m : Mode) (k : grammar.Mark) → flat_map (written_lexeme m) (mark_lexeme k) ≡ written_mark k
mark_spelled m k = search rules

pub append_none : {A : Type 0} (xs ys : List A) → xs ++ ys ≡ [] → (xs ≡ []) × (ys ≡ [])
append_none [] ys e = (refl, e)
append_none (x ∷ xs) ys e = absurd (nil≢cons (sym e))

module _ {m : Mode} where
  abbrev pub lexemes : {l : Level} → Tree m l → List (Lexeme m)
  lexemes (only b) = lexemes b
  lexemes (or t b) = lexemes t ++ (bar ∷ lexemes b)
  lexemes (lone i) = lexemes i
  lexemes (row b i) = lexemes b ++ lexemes i
  lexemes (marked a k) = lexemes a ++ mark_lexeme k
  lexemes (group t) = open_group ∷ (lexemes t ++ (close_group ∷ []))
  lexemes (simple s) = atom s ∷ []

  abbrev spelled : List (Lexeme m) → List ℕ
  spelled = flat_map (written_lexeme m)

  pub lexemes_spelled : {l : Level} (t : Tree m l) → spelled (lexemes t) ≡ written t
  lexemes_spelled (only b) = lexemes_spelled b
  lexemes_spelled (or t b) = grind (arith, flat_map-append, lexemes_spelled t, lexemes_spelled b)
  lexemes_spelled (lone i) = lexemes_spelled i
  lexemes_spelled (row b i) = grind (arith, flat_map-append, lexemes_spelled b, lexemes_spelled i)
  lexemes_spelled (marked a k) = grind (arith, flat_map-append, lexemes_spelled a, mark_spelled m k)
  lexemes_spelled (group t) = grind (arith, flat_map-append, lexemes_spelled t)
  lexemes_spelled (simple s) = append-nil _

  -- the parts that lexemes begin, from the depth d and the place p on
  abbrev pub parts_from : List (Lexeme m) → ℕ → ℕ → List (Part m)
  parts_from [] d p = []
  parts_from (k ∷ ks) d p = part_of k d p ++ parts_from ks (depth_behind k d) (p + length (written_lexeme m k))

  mark_parts : (k : grammar.Mark) (ks : List (Lexeme m)) (d p : ℕ) → parts_from (mark_lexeme k ++ ks) d p ≡ parts_from ks d (p + length (written_mark k))
  mark_parts k ks d p = grind arith

  parts_are : {l : Level} (t : Tree m l) (ks : List (Lexeme m)) (d p : ℕ) → parts_from (lexemes t ++ ks) d p ≡ parts t d p ++ parts_from ks d (p + length (written t))
  parts_are (only b) ks d p = parts_are b ks d p
  parts_are (or t b) ks d p = grind (arith, append_assoc, length-append, parts_are t (bar ∷ (lexemes b ++ ks)) d p, parts_are b ks d (p + length (written t) + 1))
  parts_are (lone i) ks d p = parts_are i ks d p
  parts_are (row b i) ks d p = grind (arith, append_assoc, length-append, parts_are b (lexemes i ++ ks) d p, parts_are i ks d (p + length (written b)))
  parts_are (marked a k) ks d p = grind (arith, append_assoc, length-append, parts_are a (mark_lexeme k ++ ks) d p, mark_parts k ks d (p + length (written a)))
  parts_are (group t) ks d p = grind (arith, append_assoc, length-append, parts_are t (close_group ∷ ks) (d + 1) (p + 1))
  parts_are (simple s) ks d p = refl

  pub tree_parts : (t : Tree m expression) → parts t 0 0 ≡ parts_from (lexemes t) 0 0
  tree_parts t = sym (append-nil _) ∙ sym (ap (λ z. parts_from z 0 0) (sym (append-nil (lexemes t))) ∙ parts_are t [] 0 0)

  -- a tree with no group too deep is not nested deeper
  pub shallow : {l : Level} (t : Tree m l) (d p : ℕ) → d ≤ DEEPEST → flat_map too_deep (parts t d p) ≡ [] → nesting t + d ≤ DEEPEST
  shallow (only b) d p h e = shallow b d p h e
  shallow (or t b) d p h e = grind (arith, flat_map-append, append_none, shallow t d p h, shallow b d (p + length (written t) + 1) h)
  shallow (lone i) d p h e = shallow i d p h e
  shallow (row b i) d p h e = grind (arith, flat_map-append, append_none, shallow b d p h, shallow i d (p + length (written b)) h)
  shallow (marked a k) d p h e = shallow a d p h e
  shallow (group t) d p h e = grind (arith, nat_tests, shallow t (d + 1) (p + 1))
  shallow (simple s) d p h e = omega arith

-- lexemes by the kind of their tokens
abbrev kind : Token → ℕ
kind Open = 0
kind Close = 1
kind Bar = 2
kind (Mark k) = 2
kind Dot = 3
kind (Unit c) = 3
kind (Set n r) = 3

module _ {m : Mode} where
  abbrev kind_of : Lexeme m → ℕ
  kind_of open_group = 0
  kind_of close_group = 1
  kind_of bar = 2
  kind_of (mark k) = 2
  kind_of (atom s) = 3

  same_kind : (k : Lexeme m) (p : ℕ) (t : Token) → Stands m k p t → kind t ≡ kind_of k
  same_kind k p t h = grind arith

pub kind_rest : (t : Token) → (t ≡ Open → ⊥) → (t ≡ Close → ⊥) → (t ≡ Bar → ⊥) → ((k : tree.Mark) → t ≡ Mark k → ⊥) → kind t ≡ 3
kind_rest t a b c d = grind arith

module _ (m : Mode) (t : Token) (p : ℕ) (f : Findings) where
  -- what a token does to the findings
  abbrev pub Notes : Findings → Type 0
  Notes r = (k : Lexeme m) (done : List (Part m)) → Stands m k p t → Noted m f done → Noted m r (done ++ part_of k f.depth p) × (r.depth ≡ depth_behind k f.depth)

  pub notes_atom : (r : Findings) → kind t ≡ 3 → ((s : Simple m) (done : List (Part m)) → Stands m (atom s) p t → Noted m f done → Noted m r (done ++ (simple_at s p ∷ []))) → r.depth ≡ f.depth → Notes r
  notes_atom r is h d k done st n = go k (sym is ∙ same_kind k p t st) st
    where
      go : (k : Lexeme m) → 3 ≡ kind_of k → Stands m k p t → Noted m r (done ++ part_of k f.depth p) × (r.depth ≡ depth_behind k f.depth)
      go open_group e st = absurd (omega arith)
      go close_group e st = absurd (omega arith)
      go bar e st = absurd (omega arith)
      go (mark x) e st = absurd (omega arith)
      go (atom s) e st = (h s done st n, d)

-- one part more
module _ {m : Mode} (g : Part m → List ℕ) (done : List (Part m)) (x : Part m) where
  joined_one : flat_map g (done ++ (x ∷ [])) ≡ flat_map g done ++ g x
  joined_one = grind (arith, flat_map-append, append-nil)

  pub first_more : (a b : Option ℕ) → a ≡ first (flat_map g done) → b ≡ first (g x) → option_or a b ≡ first (flat_map g (done ++ (x ∷ [])))
  first_more a b p q = grind (arith, joined_one, first_append)

  pub first_same : (a : Option ℕ) → a ≡ first (flat_map g done) → g x ≡ [] → a ≡ first (flat_map g (done ++ (x ∷ [])))
  first_same a p e = grind (arith, joined_one, append-nil)

drop_more_one : (n : ℕ) (xs : List ℕ) (x : ℕ) → first (drop n (xs ++ (x ∷ []))) ≡ option_or (first (drop n xs)) (then_some (leb n (length xs)) x)
drop_more_one zero [] x = refl
drop_more_one zero (y ∷ xs) x = refl
drop_more_one (suc n) [] x = grind (arith, nat_tests, drop-nil)
drop_more_one (suc n) (y ∷ xs) x = drop_more_one n xs x ∙ ap (λ b. option_or (first (drop n xs)) (then_some b x)) (sym (leb-suc-suc n (length xs)))

-- what is noted of a group, and of a simple atom
not_first : (b : Bool) (p : ℕ) → then_some (not b) p ≡ first (cond b [] (p ∷ []))
not_first b p = search rules

module _ {m : Mode} (f r : Findings) (done : List (Part m)) (n : Noted m f done) (p : ℕ) where
  pub noted_simple : (s : Simple m) (x : Option ℕ) (y : Bool) → r.deep ≡ f.deep → x ≡ first (reversed_simple m s p) → y ≡ not (some_below (top m + 1) (holds m s)) → r.reversed ≡ option_or f.reversed x → r.empty ≡ option_or f.empty (then_some y p) → r.over ≡ option_or f.over (then_some (leb MOST_POSITIONS f.positions) p) → r.positions ≡ f.positions + 1 → Noted m r (done ++ (simple_at s p ∷ []))
  noted_simple s x y a u v b c e g =
      let z = simple_at s p in
      record {
        deep = first_same too_deep done z _ (a ∙ n.deep) refl;
        reversed = b ∙ first_more refusals.reversed done z _ _ n.reversed u;
        empty = c ∙ first_more refusals.empty_set done z _ _ n.empty (ap (λ t. then_some t p) v ∙ not_first (some_below (top m + 1) (holds m s)) p);
        over = grind (arith, n.over, n.positions, joined_one position done z, drop_more_one MOST_POSITIONS (flat_map position done) p);
        positions = grind (arith, n.positions, joined_one position done z, length-append);
      }

-- the walk over w: the lexemes before the lexer are noted, and the others stand there
pub record Walking (m : Mode) (t : Tree m expression) (f : Findings) (l : Lexer) : Type 0 where
  pub done : List (Part m)
  pub left : List (Lexeme m)
  pub before : Before m (flat_map (written_lexeme m) left) l
  pub noted : Noted m f done
  pub parts_are : parts t 0 0 ≡ done ++ parts_from left f.depth l.place

pub record Walk (start : Lexer) (f : Findings) (l : Lexer) : Type 0 where
  pub low : f.depth ≤ l.place
  pub few : f.positions ≤ l.place
  pub each : (m : Mode) (t : Tree m expression) → Before m (written t) start → start.place ≡ 0 → Walking m t f l

pub walk_start : (l : Lexer) (f : Findings) → f.depth ≡ 0 → f.positions ≡ 0 → f.deep ≡ None → f.reversed ≡ None → f.empty ≡ None → f.over ≡ None → Walk l f l
walk_start l f a b c d e g = record {
  low = omega arith;
  few = omega arith;
  each = λ m t h z. record {
    done = [];
    left = lexemes t;
    before = record { mode_is = h.mode_is; rest_is = h.rest_is ∙ sym (lexemes_spelled t) };
    noted = record { deep = c; reversed = d; empty = e; over = g; positions = b };
    parts_are = tree_parts t ∙ rw (a, z) refl;
  };
}

module _ (start : Lexer) (f : Findings) (l : Lexer) (h : Walk start f l) where
  module _ (some : (length l.rest.now == 0) ≡ false) where
    -- a lexeme is left
    next : {m : Mode} {t : Tree m expression} (G : Type 0) (s : Walking m t f l) → ((k : Lexeme m) (ks : List (Lexeme m)) → s.left ≡ k ∷ ks → G) → G
    next {m} G s g = go s.left refl
      where
        go : (left : List (Lexeme m)) → s.left ≡ left → G
        go [] e = absurd (false≢true (sym some ∙ eq-eqb (length l.rest.now) 0 (ap length (s.before.rest_is ∙ ap (flat_map (written_lexeme m)) e))))
        go (k ∷ ks) e = g k ks e

    pub walk_stuck : {A : Type 0} → ((m : Mode) (k : Lexeme m) (w : List ℕ) → Before m (written_lexeme m k ++ w) l → ⊥) → (m : Mode) (t : Tree m expression) → Before m (written t) start → start.place ≡ 0 → A
    walk_stuck none m t b z =
        let s = h.each m t b z in
        next _ s (λ k ks e. absurd (none m k _ (record { mode_is = s.before.mode_is; rest_is = s.before.rest_is ∙ ap (flat_map (written_lexeme m)) e })))

    pub walk_more : (t : Token) (new : Lexer) (mode : Mode) (p : ℕ) (r : Findings) → mode ≡ new.mode → p ≡ l.place → Ahead l new → ((m : Mode) (k : Lexeme m) (w : List ℕ) → Before m (written_lexeme m k ++ w) l → Stands m k l.place t × Before m w new) → Notes mode t p f r → (r.depth ≤ f.depth + 1) × (r.positions ≤ f.positions + 1) → Walk start r new
    walk_more t new mode p r is at ahead found notes (low, few) = record {
      low = omega (arith, h.low, ahead.kept.place_is, ahead.shorter);
      few = omega (arith, h.few, ahead.kept.place_is, ahead.shorter);
      each = λ m x b z.
          let s = h.each m x b z in
          next _ s (λ k ks e.
          let here : Before m (written_lexeme m k ++ flat_map (written_lexeme m) ks) l = record { mode_is = s.before.mode_is; rest_is = s.before.rest_is ∙ ap (flat_map (written_lexeme m)) e } in
          let (st, left) = found m k (flat_map (written_lexeme m) ks) here in
          let (n, d) = subst (λ p. Notes m t p f r) at (subst (λ m. Notes m t p f r) (is ∙ left.mode_is) notes) k s.done st s.noted in
          let place : new.place ≡ l.place + length (written_lexeme m k) = omega (arith, ahead.kept.place_is, ap length here.rest_is, ap length left.rest_is, length-append (written_lexeme m k) (flat_map (written_lexeme m) ks)) in
          record {
            done = s.done ++ part_of k f.depth l.place;
            left = ks;
            before = left;
            noted = n;
            parts_are = s.parts_are ∙ ap (λ z. s.done ++ parts_from z f.depth l.place) e ∙ sym (append_assoc s.done (part_of k f.depth l.place) _) ∙ ap (λ z. (s.done ++ part_of k f.depth l.place) ++ parts_from ks z (l.place + length (written_lexeme m k))) (sym d) ∙ ap (λ z. (s.done ++ part_of k f.depth l.place) ++ parts_from ks r.depth z) (sym place);
          });
    }

  all_noted : (length l.rest.now == 0) ≡ true → {m : Mode} (t : Tree m expression) → Walking m t f l → Noted m f (parts t 0 0)
  all_noted none {m} t s = go s.left refl
    where
      go : (left : List (Lexeme m)) → s.left ≡ left → Noted m f (parts t 0 0)
      go [] k = subst (Noted m f) (sym (s.parts_are ∙ ap (λ z. s.done ++ parts_from z f.depth l.place) k ∙ append-nil _)) s.noted
      go (x ∷ xs) k =
          let (b, u, i, _) = lexeme_head m x in
          let empty = eqb-true (length l.rest.now) 0 none in
          absurd (omega (arith, ap length (s.before.rest_is ∙ ap (flat_map (written_lexeme m)) k ∙ ap (λ z. z ++ flat_map (written_lexeme m) xs) i)))

  pub walk_end : (length l.rest.now == 0) ≡ true → (m : Mode) (t : Tree m expression) → Before m (written t) start → start.place ≡ 0 → Checked t (verdict_of f)
  walk_end none m t b z =
      let n = all_noted none t (h.each m t b z) in
      ap or_ok (
      ap (λ x. breach_of x f.reversed f.empty f.over) n.deep
      ∙ ap (λ x. breach_of (first (spots too_deep t)) x f.empty f.over) n.reversed
      ∙ ap (λ x. breach_of (first (spots too_deep t)) (first (spots refusals.reversed t)) x f.over) n.empty
      ∙ ap (λ x. breach_of (first (spots too_deep t)) (first (spots refusals.reversed t)) (first (spots refusals.empty_set t)) x) n.over)
