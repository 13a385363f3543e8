-- What the automaton reads to the end is a written expression. Assumes nothing.
use Rattle.std.proofs.Common.{◌≡◌, ℕ, zero, suc, Bool, true, false, cond, ◌||◌, eqb, ◌⊎◌, List, [], ◌∷◌, ◌++◌, Some, None, Option, sym, refl, ap, ◌∙◌, ⊎_elim, append_assoc, append-nil, arith}
use Rattle.std.proofs.lemmas.Bool.{eqb-true, or_cases, cond_both, false≢true}
use Rattle.syntax.specs.declared.mode.Mode.{Mode}
use Rattle.syntax.specs.declared.mode.Mode.TheVariants.{Bytes, Fields}
use Rattle.syntax.specs.declared.grammar.Form.{Form}
use Rattle.syntax.specs.declared.grammar.State.{State}
use Rattle.syntax.specs.declared.grammar.Form.TheVariants.{Need, Atom, Marked, Half, Opened, Member, MemberHalf, One, Dash, DashHalf, Two}
use Rattle.syntax.specs.declared.grammar.Begun.{Begun}
use Rattle.syntax.specs.declared.grammar.Begun.TheVariants.{Not, Part, Whole}
use Rattle.syntax.specs.Grammar.{plain, escaped, newline, pair, Value, single, range, Members, last, more, dot, unit, set, once, any, some_times, perhaps, Mark, Tree, expression, branch, item, atom, only, or, lone, row, marked, group, simple, special, digit, opening, closing, caret, written_value, written_member, written_members, written_mark, written}
use Rattle.syntax.specs.Grammar as syntax
use Rattle.syntax.specs.Automaton.{begins, ends, state, pick, start, finish, between, further, closed, sign, outside, step, onward, run, final}
use Rattle.syntax.proofs.Complete.{Place, before, behind_atom, behind_mark}

-- values from their bytes
part_not_whole : (t : Bool) → cond t Part Not ≡ Whole → ⊥
part_not_whole t e = grind arith

part_only : (t : Bool) → cond t Part Not ≡ Part → t ≡ true
part_only t e = grind arith

whole_value : (m : Mode) (b : ℕ) → begins m b ≡ Whole → (x : Value m) × (written_value m x ≡ b ∷ [])
whole_value Bytes b e = go (special b) refl e
  where
    go : (t : Bool) → special b ≡ t → cond t (cond (eqb b 92) Part Not) Whole ≡ Whole → (x : Value Bytes) × (written_value Bytes x ≡ b ∷ [])
    go true p e = absurd (part_not_whole (eqb b 92) e)
    go false p e = (plain b p, refl)
whole_value Fields b e = absurd (part_not_whole (digit b) e)

part_value : (m : Mode) (a b : ℕ) → begins m a ≡ Part → ends m b ≡ true → (x : Value m) × (written_value m x ≡ a ∷ b ∷ [])
part_value Bytes a b e h = go (special a) e
  where
    second : a ≡ 92 → (x : Value Bytes) × (written_value Bytes x ≡ a ∷ b ∷ [])
    second e =
        ⊎_elim
        (λ p. (escaped b p, ap (λ z. z ∷ b ∷ []) (sym e)))
        (λ p. (newline, let k = eqb-true b 110 p in cc))
        (or_cases (special b) (eqb b 110) h)

    go : (t : Bool) → cond t (cond (eqb a 92) Part Not) Whole ≡ Part → (x : Value Bytes) × (written_value Bytes x ≡ a ∷ b ∷ [])
    go true e = second (eqb-true a 92 (part_only (eqb a 92) e))
    go false e = absurd cc
part_value Fields a b e h = (pair a b (part_only (digit a) e) h, refl)

module _ (m : Mode) where
  -- where a branch may begin, and where an item may
  pub data Open : Type 0 where
    fresh : Open
    barred : Tree m expression → Open

  pub data Front : Type 0 where
    at : Open → Front
    in_row : Open → Tree m branch → Front

  abbrev shown : Open → List ℕ
  shown fresh = []
  shown (barred t) = written t ++ (124 ∷ [])

  abbrev shown_front : Front → List ℕ
  shown_front (at o) = shown o
  shown_front (in_row o b) = shown o ++ written b

  abbrev pub whole : Open → Tree m branch → Tree m expression
  whole fresh b = only b
  whole (barred t) b = or t b

  whole_shown : (o : Open) (b : Tree m branch) → written (whole o b) ≡ shown o ++ written b
  whole_shown fresh b = refl
  whole_shown (barred t) b = sym (append_assoc (written t) (124 ∷ []) (written b))

  abbrev pub grown : Front → Tree m item → Tree m branch
  grown (at o) i = lone i
  grown (in_row o b) i = row b i

  abbrev pub opened : Front → Open
  opened (at o) = o
  opened (in_row o b) = o

  grown_shown : (f : Front) (i : Tree m item) → shown (opened f) ++ written (grown f i) ≡ shown_front f ++ written i
  grown_shown (at o) i = refl
  grown_shown (in_row o b) i = sym (append_assoc (shown o) (written b) (written i))

  -- u can follow, within the same group: where an item is needed, behind a whole item, behind an atom
  abbrev Needs : List ℕ → Type 0
  Needs u = (f : Front) → (t : Tree m expression) × (written t ≡ shown_front f ++ u)

  abbrev Ends : List ℕ → Type 0
  Ends u = (o : Open) (b : Tree m branch) → (t : Tree m expression) × (written t ≡ (shown o ++ written b) ++ u)

  abbrev Atoms : List ℕ → Type 0
  Atoms u = (f : Front) (a : Tree m atom) → (t : Tree m expression) × (written t ≡ (shown_front f ++ written a) ++ u)

  ends_nil : Ends []
  ends_nil o b = (whole o b, whole_shown o b ∙ sym (append-nil _))

  ends_bar : (u : List ℕ) → Needs u → Ends (124 ∷ u)
  ends_bar u h o b =
      let (t, e) = h (at (barred (whole o b))) in
      (t, e ∙ append_assoc (written (whole o b)) (124 ∷ []) u ∙ ap (λ x. x ++ (124 ∷ u)) (whole_shown o b))

  ends_more : (u : List ℕ) → Needs u → Ends u
  ends_more u h o b = h (in_row o b)

  atoms_mark : (k : Mark) (u : List ℕ) → Ends u → Atoms (written_mark k ++ u)
  atoms_mark k u h f a =
      let (t, e) = h (opened f) (grown f (marked a k)) in
      (t, e ∙ ap (λ x. x ++ u) (grown_shown f (marked a k) ∙ sym (append_assoc (shown_front f) (written a) (written_mark k))) ∙ append_assoc (shown_front f ++ written a) (written_mark k) u)

  needs_atom : (a : Tree m atom) (u : List ℕ) → Atoms u → Needs (written a ++ u)
  needs_atom a u h f = let (t, e) = h f a in (t, e ∙ append_assoc (shown_front f) (written a) u)

  -- what can follow in each form outside sets
  abbrev Inner : Place → List ℕ → Type 0
  Inner before u = Needs u
  Inner behind_atom u = Atoms u
  Inner behind_mark u = Ends u

  inner_need : (f : Place) (u : List ℕ) → Needs u → Inner f u
  inner_need before u h = h
  inner_need behind_atom u h = atoms_mark once u (ends_more u h)
  inner_need behind_mark u h = ends_more u h

  -- the same, with d groups open
  abbrev Rest : Place → ℕ → List ℕ → Type 0
  Rest f zero w = Inner f w
  Rest f (suc d) w = (u : List ℕ) × (v : List ℕ) × (w ≡ u ++ (41 ∷ v)) × Inner f u × Rest behind_atom d v

  put : (p : List ℕ) (f g : Place) → ((u : List ℕ) → Inner f u → Inner g (p ++ u)) → (d : ℕ) (w : List ℕ) → Rest f d w → Rest g d (p ++ w)
  put p f g h zero w r = h w r
  put p f g h (suc d) w (u, v, e, i, r) = (p ++ u, v, ap (λ x. p ++ x) e ∙ sym (append_assoc p u (41 ∷ v)), h u i, r)

  put_atom : (f : Place) (a : Tree m atom) (d : ℕ) (w : List ℕ) → Rest behind_atom d w → Rest f d (written a ++ w)
  put_atom f a = put (written a) behind_atom f (λ u h. inner_need f _ (needs_atom a u h))

  put_group : (f : Place) (d : ℕ) (w : List ℕ) → Rest before (suc d) w → Rest f d (40 ∷ w)
  put_group f d w (u, v, e, h, r) =
      let (t, k) = h (at fresh) in
      rw (e, ← k, ← append_assoc (written t) (41 ∷ []) v) (put_atom f (group t) d v r)

  -- u is members and the closing bracket; so it is behind one value, behind a value and -, behind a member
  abbrev Listed : List ℕ → Type 0
  Listed u = (xs : Members m) × (u ≡ written_members m xs ++ (closing m ∷ []))

  abbrev Caret : List ℕ → Type 0
  Caret u = (n : Bool) × (xs : Members m) × (u ≡ caret n ++ (written_members m xs ++ (closing m ∷ [])))

  abbrev BehindOne : List ℕ → Type 0
  BehindOne u = (x : Value m) → Listed (written_value m x ++ u)

  abbrev BehindDash : List ℕ → Type 0
  BehindDash u = (x : Value m) → Listed (written_value m x ++ (45 ∷ u))

  abbrev BehindTwo : List ℕ → Type 0
  BehindTwo u = (k : syntax.Member m) → Listed (written_member m k ++ u)

  abbrev Inside : (List ℕ → Type 0) → ℕ → List ℕ → Type 0
  Inside P d w = (u : List ℕ) × (v : List ℕ) × (w ≡ u ++ v) × P u × Rest behind_atom d v

  abbrev Halved : (List ℕ → Type 0) → List ℕ → Type 0
  Halved S w = (b : ℕ) × (v : List ℕ) × (w ≡ b ∷ v) × (ends m b ≡ true) × S v

  -- what can follow in each form
  abbrev Follows : Form → ℕ → List ℕ → Type 0
  Follows Need d w = Rest before d w
  Follows Atom d w = Rest behind_atom d w
  Follows Marked d w = Rest behind_mark d w
  Follows Half d w = Halved (Rest behind_atom d) w
  Follows Opened d w = Inside Caret d w
  Follows Member d w = Inside Listed d w
  Follows MemberHalf d w = Halved (Inside BehindOne d) w
  Follows One d w = Inside BehindOne d w
  Follows Dash d w = Inside BehindDash d w
  Follows DashHalf d w = Halved (Inside BehindTwo d) w
  Follows Two d w = Inside BehindTwo d w

  -- R follows, if the state that a byte led to is followed by w
  abbrev Back : Type 0 → List ℕ → Option State → Type 0
  Back R w None = Unit {0}
  Back R w (Some s) = Follows s.form s.depth w → R

  back_map : {R S : Type 0} (w : List ℕ) (r : Option State) → (R → S) → Back R w r → Back S w r
  back_map w None h k = tt
  back_map w (Some s) h k = λ x. h (k x)

  module _ (d b : ℕ) (w : List ℕ) where
    start_back : (S R : List ℕ → Type 0) (h g : Form) → ((x : Value m) (v : List ℕ) → S v → R (written_value m x ++ v)) → (Follows g d w → S w) → (Follows h d w → Halved S w) → Back (R (b ∷ w)) w (start m b h g d)
    start_back S R h g law one two = go (begins m b) refl
      where
        go : (z : Begun) → begins m b ≡ z → Back (R (b ∷ w)) w (pick z None (Some (state h d)) (Some (state g d)))
        go Not e = tt
        go Part e = λ s. let (c, v, k, q, s) = two s in let (x, l) = part_value m b c e q in rw k (rw l at (law x v s))
        go Whole e = λ s. let (x, l) = whole_value m b e in rw l at (law x w (one s))

    finish_back : (S : List ℕ → Type 0) (g : Form) → (Follows g d w → S w) → Back (Halved S (b ∷ w)) w (finish m b g d)
    finish_back S g one = cond_both (ends m b) _ _ (Back (Halved S (b ∷ w)) w) (λ e s. (b, w, refl, e, one s)) (λ _. tt)

    inside : (P Q : List ℕ → Type 0) → ((x : Value m) (u : List ℕ) → Q u → P (written_value m x ++ u)) → (x : Value m) (v : List ℕ) → Inside Q d v → Inside P d (written_value m x ++ v)
    inside P Q law x v (u, t, e, q, r) = (written_value m x ++ u, t, ap (λ z. written_value m x ++ z) e ∙ sym (append_assoc (written_value m x) u t), law x u q, r)

module _ (d b : ℕ) (w : List ℕ) where
  between_back : (m : Mode) → Back m (Inside m (BehindTwo m) d (b ∷ w)) w (between m b d)
  between_back Bytes =
      start_back Bytes d b w (Inside Bytes (BehindOne Bytes) d) (Inside Bytes (BehindTwo Bytes) d) MemberHalf One
      (inside Bytes d b w (BehindTwo Bytes) (BehindOne Bytes) law) (λ s. s) (λ s. s)
    where
      law : (x : Value Bytes) (u : List ℕ) → BehindOne Bytes u → BehindTwo Bytes (written_value Bytes x ++ u)
      law x u h k = let (xs, e) = h x in (more k xs, ap (λ z. written_member Bytes k ++ z) e ∙ sym (append_assoc (written_member Bytes k) (written_members Bytes xs) (93 ∷ [])))
  between_back Fields =
      cond_both (eqb b 44) _ _ (Back Fields (Inside Fields (BehindTwo Fields) d (b ∷ w)) w)
      (λ p (u, v, e, (xs, k), r). (b ∷ u, v, ap (λ z. b ∷ z) e, λ j. (more j xs, listed j xs u k (eqb-true b 44 p)), r))
      (λ _. tt)
    where
      listed : (j : syntax.Member Fields) (xs : Members Fields) (u : List ℕ) → u ≡ written_members Fields xs ++ (62 ∷ []) → b ≡ 44 → written_member Fields j ++ (b ∷ u) ≡ written_members Fields (more j xs) ++ (62 ∷ [])
      listed j xs u k e = rw (e, k) (sym (append_assoc (written_member Fields j) (44 ∷ written_members Fields xs) (62 ∷ [])))

  module _ (m : Mode) where
    further_back : Back m (Inside m (BehindTwo m) d (b ∷ w)) w (further m b d)
    further_back =
        cond_both (eqb b (closing m)) _ _ (Back m (Inside m (BehindTwo m) d (b ∷ w)) w)
        (λ e r. (b ∷ [], w, refl, λ k. (last k, ap (λ z. written_member m k ++ (z ∷ [])) (eqb-true b (closing m) e)), r))
        (λ _. between_back m)

    -- a sign, outside sets
    module _ (f : Place) where
      abbrev R : Type 0
      R = Rest m f d (b ∷ w)

      sign_back : (close bar mark : Option State) → (b ≡ 41 → Back m R w close) → (b ≡ 124 → Back m R w bar) → ((k : Mark) → b ∷ [] ≡ written_mark k → Back m R w mark) → Back m R w (sign m b close bar mark d)
      sign_back close bar mark closes bars marks =
          cond_both (eqb b 40) _ _ (Back m R w) (λ p r. rw (eqb-true b 40 p) (put_group m f d w r)) (λ _.
          cond_both (eqb b 41) _ _ (Back m R w) (λ p. closes (eqb-true b 41 p)) (λ _.
          cond_both (eqb b 124) _ _ (Back m R w) (λ p. bars (eqb-true b 124 p)) (λ _.
          cond_both (eqb b 42 || (eqb b 43 || eqb b 63)) _ _ (Back m R w) (λ p. marked_by (or_cases (eqb b 42) _ p)) (λ _.
          cond_both (eqb b 46) _ _ (Back m R w) (λ p r. rw (eqb-true b 46 p) (put_atom m f (simple dot) d w r)) (λ _.
          cond_both (eqb b (opening m)) _ _ (Back m R w) opens (λ _. tt))))))
        where
          marked_by : (eqb b 42 ≡ true) ⊎ ((eqb b 43 || eqb b 63) ≡ true) → Back m R w mark
          marked_by = ⊎_elim
              (λ p. marks any (ap (λ z. z ∷ []) (eqb-true b 42 p)))
              (λ p. ⊎_elim
              (λ p. marks some_times (ap (λ z. z ∷ []) (eqb-true b 43 p)))
              (λ p. marks perhaps (ap (λ z. z ∷ []) (eqb-true b 63 p)))
              (or_cases (eqb b 43) (eqb b 63) p))

          opens : eqb b (opening m) ≡ true → Inside m (Caret m) d w → R
          opens p (u, v, e, (n, xs, k), r) = rw (e, k, eqb-true b (opening m) p) (put_atom m f (simple (set n xs)) d v r)

  abbrev Closes : Mode → Place → Option State → Type 0
  Closes m f s = Back m (Rest m f d (b ∷ w)) w s

  outside_back : (m : Mode) (f : Place) (close bar mark : Option State) → (b ≡ 41 → Closes m f close) → (b ≡ 124 → Closes m f bar) → ((k : Mark) → b ∷ [] ≡ written_mark k → Closes m f mark) → Closes m f (outside m b close bar mark d)
  outside_back Bytes f close bar mark closes bars marks = go (begins Bytes b) refl
    where
      go : (z : Begun) → begins Bytes b ≡ z → Closes Bytes f (pick z (sign Bytes b close bar mark d) (Some (state Half d)) (Some (state Atom d)))
      go Not e = sign_back Bytes f close bar mark closes bars marks
      go Part e = λ (c, v, k, q, r). let (x, l) = part_value Bytes b c e q in rw k (rw l at (put_atom Bytes f (simple (unit tt x)) d v r))
      go Whole e = λ r. let (x, l) = whole_value Bytes b e in rw l at (put_atom Bytes f (simple (unit tt x)) d w r)
  outside_back Fields f close bar mark closes bars marks = sign_back Fields f close bar mark closes bars marks

  closed_back : (m : Mode) (f : Place) (e : ℕ) → Inner m f [] → Back m (Rest m f e (41 ∷ w)) w (closed e)
  closed_back m f zero i = tt
  closed_back m f (suc e) i = λ r. ([], w, refl, i, r)

  back : (m : Mode) (f : Form) → Back m (Follows m f d (b ∷ w)) w (step m f d b)
  back m Need = outside_back m before _ _ _ (λ _. tt) (λ _. tt) (λ _ _. tt)
  back m Atom =
      outside_back m behind_atom _ _ _
      (λ e. rw e (closed_back m behind_atom d (atoms_mark m once [] (ends_nil m))))
      (λ e r. rw e (put m (124 ∷ []) before behind_atom (λ u h. atoms_mark m once _ (ends_bar m u h)) d w r))
      (λ k e r. let r = put m (written_mark k) behind_mark behind_atom (λ u. atoms_mark m k u) d w r in rw (← e) at r)
  back m Marked =
      outside_back m behind_mark _ _ _
      (λ e. rw e (closed_back m behind_mark d (ends_nil m)))
      (λ e r. rw e (put m (124 ∷ []) before behind_mark (λ u h. ends_bar m u h) d w r))
      (λ _ _. tt)
  back m Half = finish_back m d b w (Rest m behind_atom d) Atom (λ s. s)
  back m Opened =
      cond_both (eqb b 94) _ _ (Back m (Inside m (Caret m) d (b ∷ w)) w)
      (λ p (u, v, e, (xs, k), r). (b ∷ u, v, ap (λ z. b ∷ z) e, (true, xs, rw (eqb-true b 94 p, k)), r))
      (λ _. start_back m d b w (Inside m (BehindOne m) d) (Inside m (Caret m) d) MemberHalf One (inside m d b w (Caret m) (BehindOne m) (λ x u h. let (xs, e) = h x in (false, xs, e))) (λ s. s) (λ s. s))
  back m Member = start_back m d b w (Inside m (BehindOne m) d) (Inside m (Listed m) d) MemberHalf One (inside m d b w (Listed m) (BehindOne m) (λ x u h. h x)) (λ s. s) (λ s. s)
  back m MemberHalf = finish_back m d b w (Inside m (BehindOne m) d) One (λ s. s)
  back m One =
      cond_both (eqb b 45) _ _ (Back m (Inside m (BehindOne m) d (b ∷ w)) w)
      (λ p (u, v, e, h, r). (b ∷ u, v, ap (λ z. b ∷ z) e, λ x. rw (eqb-true b 45 p) (h x), r))
      (λ _. back_map m w (further m b d) (λ (u, v, e, h, r). (u, v, e, λ x. h (single x), r)) (further_back m))
  back m Dash = start_back m d b w (Inside m (BehindTwo m) d) (Inside m (BehindDash m) d) DashHalf Two (inside m d b w (BehindDash m) (BehindTwo m) (λ y u h x. rw append_assoc at (h (range x y)))) (λ s. s) (λ s. s)
  back m DashHalf = finish_back m d b w (Inside m (BehindTwo m) d) Two (λ s. s)
  back m Two = further_back m

-- the run came to an end where an expression may end
abbrev pub Good : Option State → Type 0
Good None = ⊥
Good (Some s) = final s.form s.depth ≡ true

module _ (m : Mode) where
  stopped : (f : Form) (d : ℕ) → final f d ≡ true → Follows m f d []
  stopped Atom d e = rw (eqb-true d 0 e) (atoms_mark m once [] (ends_nil m))
  stopped Marked d e = rw (eqb-true d 0 e) (ends_nil m)
  stopped Need d e = absurd (false≢true e)
  stopped Half d e = absurd (false≢true e)
  stopped Opened d e = absurd (false≢true e)
  stopped Member d e = absurd (false≢true e)
  stopped MemberHalf d e = absurd (false≢true e)
  stopped One d e = absurd (false≢true e)
  stopped Dash d e = absurd (false≢true e)
  stopped DashHalf d e = absurd (false≢true e)
  stopped Two d e = absurd (false≢true e)

  follows : (w : List ℕ) (f : Form) (d : ℕ) → Good (run m w f d) → Follows m f d w
  follows [] f d g = stopped f d g
  follows (b ∷ w) f d g = go (step m f d b) (follows w) (back d b w m f) g
    where
      go : (r : Option State) → ((f : Form) (d : ℕ) → Good (run m w f d) → Follows m f d w) → Back m (Follows m f d (b ∷ w)) w r → Good (onward r (run m w)) → Follows m f d (b ∷ w)
      go None ih k g = absurd g
      go (Some s) ih k g = k (ih s.form s.depth g)

  pub tree_of : (w : List ℕ) → Good (run m w Need 0) → (t : Tree m expression) × (written t ≡ w)
  tree_of w g = follows w Need 0 g (at fresh)
