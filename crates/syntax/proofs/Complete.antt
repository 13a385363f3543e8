-- The automaton reads every written expression. Assumes nothing.
use Rattle.std.proofs.Common.{◌≡◌, ℕ, suc, Bool, true, false, cond, eqb, List, [], ◌∷◌, ◌++◌, Some, None, Option, refl, ap, ◌∙◌, append_assoc, arith, rules}
use Rattle.std.proofs.lemmas.Bool.{ne_eqb}
use Rattle.syntax.specs.declared.mode.Mode.{Mode}
use Rattle.syntax.specs.declared.mode.Mode.TheVariants.{Bytes, Fields}
use Rattle.syntax.specs.declared.grammar.Form.{Form}
use Rattle.syntax.specs.declared.grammar.State.{State}
use Rattle.syntax.specs.declared.grammar.Form.TheVariants.{Need, Atom, Marked, Half, Opened, Member, MemberHalf, One, Dash, DashHalf, Two}
use Rattle.syntax.specs.declared.grammar.Begun.{Begun}
use Rattle.syntax.specs.declared.grammar.Begun.TheVariants.{Not, Part, Whole}
use Rattle.syntax.specs.Grammar.{plain, escaped, newline, pair, Value, single, range, Members, last, more, dot, unit, set, once, any, some_times, perhaps, Mark, Tree, Level, only, or, lone, row, marked, group, simple, closing, separator, written_value, written_member, written_members, written_simple, written_mark, written}
use Rattle.syntax.specs.Grammar as syntax
use Rattle.syntax.specs.Automaton.{begins, ends, state, pick, start, finish, step, onward, run}

-- outside sets: before an item, behind an atom, behind a mark
pub data Place : Type 0 where
  before behind_atom behind_mark : Place

abbrev pub form : Place → Form
form before = Need
form behind_atom = Atom
form behind_mark = Marked

abbrev pub behind : Bool → Place
behind false = behind_atom
behind true = behind_mark

-- a value is one byte or two
pub data Shape (m : Mode) (w : List ℕ) : Type 0 where
  whole : (b : ℕ) → begins m b ≡ Whole → w ≡ b ∷ [] → Shape m w
  halves : (a b : ℕ) → begins m a ≡ Part → ends m b ≡ true → w ≡ a ∷ b ∷ [] → Shape m w

pub shape : (m : Mode) (x : Value m) → Shape m (written_value m x)
shape Bytes (plain b p) = whole b (ap (λ t. cond t (cond (eqb b 92) Part Not) Whole) p) refl
shape Bytes (escaped b p) = halves 92 b refl (ap (λ t. mathlib.Core.Bool.◌||◌ t (eqb b 110)) p) refl
shape Bytes newline = halves 92 110 refl refl refl
shape Fields (pair a b p q) = halves a b (ap (λ t. cond t Part Not) p) q refl

pub not_not : {x : Begun} → x ≡ Part → x ≡ Not → ⊥
not_not {x} e f = cc

pub not_whole : {x : Begun} → x ≡ Whole → x ≡ Not → ⊥
not_whole {x} e f = cc

module _ (m : Mode) (d : ℕ) where
  pub went : (f : Form) (b : ℕ) {g : Form} {e : ℕ} (w : List ℕ) → step m f d b ≡ Some (state g e) → run m (b ∷ w) f d ≡ run m w g e
  went f b w e = ap (λ s. onward s (run m w)) e

  -- in the form f a value has to begin, or may
  abbrev Begin : Form → Form → Form → Type 0
  Begin f h g = (b : ℕ) → (begins m b ≡ Not → ⊥) → step m f d b ≡ start m b h g d

  value : (x : Value m) (f h g : Form) → Begin f h g → ((b : ℕ) → step m h d b ≡ finish m b g d) → (w : List ℕ) → run m (written_value m x ++ w) f d ≡ run m w g d
  value x f h g s t w = go (written_value m x) (shape m x)
    where
      go : (u : List ℕ) → Shape m u → run m (u ++ w) f d ≡ run m w g d
      go u (whole b p e) = rw e (went f b w (s b (not_whole p) ∙ ap (λ z. pick z None (Some (state h d)) (Some (state g d))) p))
      go u (halves a b p q e) =
          rw e (went f a (b ∷ w) (s a (not_not p) ∙ ap (λ z. pick z None (Some (state h d)) (Some (state g d))) p) ∙ went h b w (t b ∙ ap (λ z. cond z (Some (state g d)) None) q))

  values_differ : (k b : ℕ) → begins m k ≡ Not → (begins m b ≡ Not → ⊥) → eqb b k ≡ false
  values_differ k b p h = ne_eqb b k (λ e. h (ap (begins m) e ∙ p))

  -- in the forms where a member may begin
  abbrev Starts : Form → Type 0
  Starts f = Begin f MemberHalf One

module _ (d : ℕ) where
  opened_starts : (m : Mode) → Starts m d Opened
  opened_starts m b h = grind (arith, values_differ)

  two_starts : Starts Bytes d Two
  two_starts b h = ap (λ t. cond t (Some (state Atom d)) (start Bytes b MemberHalf One d)) (values_differ Bytes d 93 b refl h)

  one_starts : Starts Bytes d One
  one_starts b h = ap (λ t. cond t (Some (state Dash d)) (step Bytes Two d b)) (values_differ Bytes d 45 b refl h) ∙ two_starts b h

  member_starts : (m : Mode) → Starts m d Member
  member_starts m b h = refl

  abbrev after : {m : Mode} → syntax.Member m → Form
  after (single x) = One
  after (range x y) = Two

  member : (m : Mode) (k : syntax.Member m) (f : Form) → Starts m d f → (w : List ℕ) → run m (written_member m k ++ w) f d ≡ run m w (after k) d
  member m (single x) f s w = value m d x f MemberHalf One s (λ b. refl) w
  member m (range x y) f s w =
      rw append_assoc (value m d x f MemberHalf One s (λ b. refl) (45 ∷ (written_value m y ++ w)) ∙ value m d y Dash DashHalf Two dash (λ b. refl) w)
    where
      dash : Begin m d Dash DashHalf Two
      dash b h = refl

  close : (m : Mode) (k : syntax.Member m) (w : List ℕ) → run m (closing m ∷ w) (after k) d ≡ run m w Atom d
  close m k w = search rules

  members : (m : Mode) (xs : Members m) (f : Form) → Starts m d f → (w : List ℕ) → run m (written_members m xs ++ (closing m ∷ w)) f d ≡ run m w Atom d
  members m (last k) f s w = member m k f s (closing m ∷ w) ∙ close m k w
  members m (more k xs) f s w = rw append_assoc (member m k f s _ ∙ between m xs k (members m xs))
    where
      between : (m : Mode) (xs : Members m) (k : syntax.Member m) → ((f : Form) → Starts m d f → (w : List ℕ) → run m (written_members m xs ++ (closing m ∷ w)) f d ≡ run m w Atom d) → run m ((separator m ++ written_members m xs) ++ (closing m ∷ w)) (after k) d ≡ run m w Atom d
      between Bytes xs (single x) h = h One one_starts w
      between Bytes xs (range x y) h = h Two two_starts w
      between Fields xs (single x) h = h Member (member_starts Fields) w
      between Fields xs (range x y) h = h Member (member_starts Fields) w

  picked : (x : Option State) (b : ℕ) → (begins Bytes b ≡ Not → ⊥) → pick (begins Bytes b) x (Some (state Half d)) (Some (state Atom d)) ≡ start Bytes b Half Atom d
  picked x b h = grind arith

  unit_read : (x : Value Bytes) (f : Place) (w : List ℕ) → run Bytes (written_value Bytes x ++ w) (form f) d ≡ run Bytes w Atom d
  unit_read x f w = value Bytes d x (form f) Half Atom (begin f) (λ b. refl) w
    where
      begin : (f : Place) → Begin Bytes d (form f) Half Atom
      begin before b = picked _ b
      begin behind_atom b = picked _ b
      begin behind_mark b = picked _ b

  simple_read : (m : Mode) (s : syntax.Simple m) (f : Place) (w : List ℕ) → run m (written_simple m s ++ w) (form f) d ≡ run m w Atom d
  simple_read m dot f w = at_dot m f
    where
      at_dot : (m : Mode) (f : Place) → run m (46 ∷ w) (form f) d ≡ run m w Atom d
      at_dot m f = search rules
  simple_read m (unit a x) f w = lone m a x
    where
      lone : (m : Mode) → syntax.Alone m → (x : Value m) → run m (written_value m x ++ w) (form f) d ≡ run m w Atom d
      lone Bytes a x = unit_read x f w
      lone Fields a x = absurd a
  simple_read m (set n xs) f w = opens m _ f ∙ inner n
    where
      opens : (m : Mode) (u : List ℕ) (f : Place) → run m (syntax.opening m ∷ u) (form f) d ≡ run m u Opened d
      opens m u f = search rules

      inner : (n : Bool) → run m ((syntax.caret n ++ (written_members m xs ++ (closing m ∷ []))) ++ w) Opened d ≡ run m w Atom d
      inner true = went m d Opened 94 ((written_members m xs ++ (closing m ∷ [])) ++ w) refl ∙ rw (append_assoc (written_members m xs) (closing m ∷ []) w) (members m xs Member (member_starts m) w)
      inner false = rw (append_assoc (written_members m xs) (closing m ∷ []) w) (members m xs Opened (opened_starts m) w)

-- whether a mark stands at its end
abbrev pub ended : {m : Mode} {l : Level} → Tree m l → Bool
ended (only b) = ended b
ended (or t b) = ended b
ended (lone i) = ended i
ended (row b i) = ended i
ended (marked a once) = false
ended (marked a any) = true
ended (marked a some_times) = true
ended (marked a perhaps) = true
ended (group t) = false
ended (simple s) = false

-- the bytes that stand outside sets
module _ (d : ℕ) (w : List ℕ) where
  bar : (m : Mode) (x : Bool) → run m (124 ∷ w) (form (behind x)) d ≡ run m w Need d
  bar m x = grind arith

  open' : (m : Mode) (f : Place) → run m (40 ∷ w) (form f) d ≡ run m w Need (suc d)
  open' m f = grind arith

  close' : (m : Mode) (x : Bool) → run m (41 ∷ w) (form (behind x)) (suc d) ≡ run m w Atom d
  close' m x = search rules

  mark : (m : Mode) (a : Tree m syntax.atom) (k : Mark) → run m (written_mark k ++ w) Atom d ≡ run m w (form (behind (ended (marked a k)))) d
  mark m a k = search rules

atom_ended : {m : Mode} (a : Tree m syntax.atom) → ended a ≡ false
atom_ended (group t) = refl
atom_ended (simple s) = refl

pub reads : {m : Mode} {l : Level} (t : Tree m l) (f : Place) (d : ℕ) (w : List ℕ) → run m (written t ++ w) (form f) d ≡ run m w (form (behind (ended t))) d
reads (only b) f d w = reads b f d w
reads {m} (or t b) f d w = rw append_assoc (reads t f d _ ∙ (bar d _ m (ended t) ∙ reads b before d w))
reads (lone i) f d w = reads i f d w
reads (row b i) f d w = rw append_assoc (reads b f d _ ∙ reads i (behind (ended b)) d w)
reads {m} (marked a k) f d w = rw append_assoc (reads a f d _ ∙ (ap (λ x. run m (written_mark k ++ w) (form (behind x)) d) (atom_ended a) ∙ mark d w m a k))
reads {m} (group t) f d w = open' d _ m f ∙ rw append_assoc (reads t before (suc d) _ ∙ close' d w m (ended t))
reads {m} (simple s) f d w = simple_read d m s f w
