-- The reading of atoms and of items. Assumes nothing.
use Rattle.std.proofs.Common.{◌≡◌, ℕ, suc, ◌-◌, ◌<◌, ◌≤◌, Bool, true, false, ◌||◌, eqb, ◌⊎◌, List, [], ◌∷◌, ◌++◌, length, Some, None, option_map, Ok, Err, Option, Result, sym, refl, ap, ◌∙◌, subst, append_assoc, arith, IfNone, IfSome, MatchBool, MatchResult}
use mathlib.Core.Path.{fun_ext}
use Rattle.std.proofs.lemmas.Bool.{true≢false, false≢true, or_parts}
use Rattle.regular.specs.Language.{one}
use Rattle.syntax.specs.declared.mode.Mode.{Mode}
use Rattle.syntax.specs.declared.lexer.Lexer.{Lexer}
use Rattle.syntax.specs.declared.lexer.Token.{Token}
use Rattle.syntax.specs.declared.lexer.Token.TheVariants.{Open, Close, Bar, Mark, Dot, Unit, Set}
use Rattle.syntax.specs.declared.tree.Mark as tree
use Rattle.refusal.specs.declared.Fault.{Fault}
use Rattle.refusal.specs.declared.Fault.TheVariants.{Memory}
use Rattle.syntax.specs.declared.tree.Node.{Node}
use Rattle.syntax.specs.declared.tree.Node.TheVariants.{Atom}
use Rattle.syntax.specs.Grammar as grammar
use Rattle.syntax.specs.Grammar.{once, any, some_times, perhaps, Simple, dot, unit, set, Tree, expression, atom, item, marked, group, simple, written_mark, written, bare, letter}
use Rattle.syntax.specs.Lexer.{Before, Ate, Left, Took, front, starts}
use Rattle.syntax.specs.Tokens as tokens
use Rattle.syntax.specs.Tokens.{Lexeme, written_lexeme, Stands, Atomic, Table, mark_of_byte}
use Rattle.syntax.specs.Parser.{nesting, Means, Got, Unmarked, Closes}
use Rattle.syntax.specs.Tree.{mark_of, Grouped, Repeated}
use Rattle.syntax.specs.declared.tree.Atom as atoms
use Rattle.syntax.proofs.Tables.{single_exact}
use Rattle.syntax.proofs.Meant.{means_group, means_marked, once_repeated}
use Rattle.syntax.proofs.Chains.{Readable, before_same}
use Rattle.syntax.proofs.Steps.{eaten, left_before}

-- a simple atom's token is no sign
abbrev sign : Token → Bool
sign Open = true
sign Close = true
sign Bar = true
sign (Mark k) = true
sign Dot = false
sign (Unit c) = false
sign (Set n r) = false

simple_no_sign : (m : Mode) (s : Simple m) (p : ℕ) (t : Token) → Stands m (tokens.atom s) p t → sign t ≡ false
simple_no_sign m s p t h = grind arith

module _ {t : Token} where
  signs : (t ≡ Close) ⊎ ((t ≡ Bar) ⊎ ((k : tree.Mark) × (t ≡ Mark k))) → sign t ≡ true
  signs h = grind arith

  not_open : (t ≡ Close) ⊎ ((t ≡ Bar) ⊎ ((k : tree.Mark) × (t ≡ Mark k))) → t ≡ Open → ⊥
  not_open h o = grind arith

abbrev pub Atoms : (m : Mode) → Lexer → ℕ → Result Node Fault → Lexer → Type 0
Atoms m old left r new = (a : Tree m atom) (w : List ℕ) → Before m (written a ++ w) old → nesting a ≤ left → Got a w r new

abbrev pub Expressions : (m : Mode) → Lexer → ℕ → Result Node Fault → Lexer → Type 0
Expressions m = Readable m expression Closes

module _ (m : Mode) (old : Lexer) (left : ℕ) where
  -- no token stands there
  pub atom_none : (r : Result Node Fault) (new : Lexer) → ((m : Mode) (k : Lexeme m) (w : List ℕ) → Before m (written_lexeme m k ++ w) old → ⊥) → Atoms m old left r new
  atom_none r new none (group x) w b n = absurd (none m tokens.open_group _ b)
  atom_none r new none (simple s) w b n = absurd (none m (tokens.atom s) w b)

  -- the token t stands there, and the lexer is behind it at l
  module _ (t : Token) (l : Lexer) (found : (m : Mode) (k : Lexeme m) (w : List ℕ) → Before m (written_lexeme m k ++ w) old → Stands m k old.place t × Before m w l) where
    -- a group begins
    atom_group : (r : Result Node Fault) (new : Lexer) → t ≡ Open → ((x : Tree m expression) (w : List ℕ) → Before m (written x ++ (41 ∷ w)) l → suc (nesting x) ≤ left → Got (group x) w r new) → Atoms m old left r new
    atom_group r new is h (group x) w b n = h x w (before_same (append_assoc (written x) (41 ∷ []) w) (found m tokens.open_group _ b).1) n
    atom_group r new is h (simple s) w b n = absurd (true≢false (sym (ap sign is) ∙ simple_no_sign m s old.place t (found m (tokens.atom s) w b).0))

    pub atom_deep : t ≡ Open → left ≡ 0 → (f : Fault) (new : Lexer) → Atoms m old left (Err f) new
    atom_deep is z f new = atom_group (Err f) new is (λ x w b n. absurd (omega arith))

    pub atom_lost : t ≡ Open → (f : Fault) (new : Lexer) → Expressions m l (left - 1) (Err f) new → Atoms m old left (Err f) new
    atom_lost is f new h = atom_group (Err f) new is (λ x w b n. h x (41 ∷ w) b refl (omega arith))

    -- the lexer looks for the closing bracket at z
    module _ (is : t ≡ Open) (x : Node) (z new : Lexer) (h : Expressions m l (left - 1) (Ok x) z) where
      pub atom_closed : (r : Result Node Fault) {b : Bool} → b ≡ starts 41 z.rest.now → MatchBool b (Ate (41 ∷ []) z new) (new ≡ z) → MatchResult r (λ e. Grouped x e) (λ f. f ≡ Memory) → Atoms m old left r new
      atom_closed r value read g = atom_group r new is (λ y w b n.
          let (means, before) = h y (41 ∷ w) b refl (omega arith) in
          got r y w g means (eaten 41 value read before).1)
        where
          got : (r : Result Node Fault) (y : Tree m expression) (w : List ℕ) → MatchResult r (λ e. Grouped x e) (λ f. f ≡ Memory) → Means x y → Before m w new → Got (group y) w r new
          got (Ok e) y w g means before = (means_group g means, before)
          got (Err f) y w g means before = g

      pub atom_unclosed : (f : Fault) → false ≡ starts 41 z.rest.now → Atoms m old left (Err f) new
      atom_unclosed f stays = atom_group (Err f) new is (λ y w b n. absurd (false≢true (stays ∙ ap (starts 41) (h y (41 ∷ w) b refl (omega arith)).1.rest_is)))

    pub atom_simple : (t ≡ Open → ⊥) → (a : atoms.Atom) (mode : Mode) → mode ≡ l.mode → ((s : Simple mode) → Atomic mode s t → Table mode s a.codes) → length a.codes ≡ 256 → ((s : Simple mode) → Atomic mode s t → a.single ≡ bare mode s) → IfSome a.single (λ c. c < 256) → Atoms m old left (Ok (Atom a)) l
    atom_simple not a mode is h long k low (group x) w b n = absurd (not (found m tokens.open_group _ b).0)
    atom_simple not a mode is h long k low (simple s) w b n =
        let (st, before) = found m (tokens.atom s) w b in
        let same : mode ≡ m = is ∙ before.mode_is in
        let table : Table m s a.codes = subst (λ m. (s : Simple m) → Atomic m s t → Table m s a.codes) same h s (old.place, st) in
        let single : a.single ≡ bare m s = subst (λ m. (s : Simple m) → Atomic m s t → a.single ≡ bare m s) same k s (old.place, st) in
        (record { language_is = ap one (fun_ext table); spelling_is = ap letter single; exact_is = single_exact m s a.codes table long a.single single low }, before)

    pub atom_sign : (t ≡ Close) ⊎ ((t ≡ Bar) ⊎ ((k : tree.Mark) × (t ≡ Mark k))) → (f : Fault) (new : Lexer) → Atoms m old left (Err f) new
    atom_sign is f new (group x) w b n = let o = (found m tokens.open_group _ b).0 in absurd (not_open is o)
    atom_sign is f new (simple s) w b n = absurd (true≢false (sym (signs is) ∙ simple_no_sign m s old.place t (found m (tokens.atom s) w b).0))

  -- the mark behind an atom, if there is one
  abbrev mark_or_once : Option tree.Mark → grammar.Mark
  mark_or_once None = once
  mark_or_once (Some k) = mark_of k

  mark_read : (k : grammar.Mark) (w : List ℕ) (l new : Lexer) (r : Option tree.Mark) → Took r (front mark_of_byte l.rest.now) l new → IfNone r (new ≡ l) → Before m (written_mark k ++ w) l → Unmarked w → (k ≡ mark_or_once r) × Before m w new
  mark_read k w l new r took same b u = go k w u (subst (λ z. Took r (front mark_of_byte z) l new) b.rest_is took) b
    where
      stays : {w : List ℕ} → r ≡ None → Before m w l → (once ≡ mark_or_once r) × Before m w new
      stays {w} e b = (sym (ap mark_or_once e), subst (Before m w) (sym (subst (λ r. IfNone r (new ≡ l)) e same)) b)

      moves : {w : List ℕ} (j : tree.Mark) → (r ≡ Some j) × Left w l new → (mark_of j ≡ mark_or_once r) × Before m w new
      moves j (e, left) = (sym (ap mark_or_once e), left_before b left)

      go : (k : grammar.Mark) (w : List ℕ) → Unmarked w → Took r (front mark_of_byte (written_mark k ++ w)) l new → Before m (written_mark k ++ w) l → (k ≡ mark_or_once r) × Before m w new
      go once [] u took b = stays took b
      go once (c ∷ w) u took b =
          let h = or_parts (eqb c 42) (eqb c 43 || eqb c 63) u in
          let i = or_parts (eqb c 43) (eqb c 63) h.1 in
          let none : mark_of_byte c ≡ None = rw (h.0, i.0, i.1) refl in
          stays (subst (λ z. Took r (option_map (λ x. (x, w)) z) l new) none took) b
      go any w u took b = moves tree.TheVariants.Star took
      go some_times w u took b = moves tree.TheVariants.Plus took
      go perhaps w u took b = moves tree.TheVariants.Query took

  item_got : (l new : Lexer) (x : Node) (r : Option tree.Mark) (e : Result Node Fault) → Took r (front mark_of_byte l.rest.now) l new → IfNone r (new ≡ l) → Atoms m old left (Ok x) l → MatchResult e (λ n. Repeated (mark_or_once r) x n) (λ f. f ≡ Memory) → Readable m item Unmarked old left e new
  item_got l new x r e took same got g (marked a k) w b u n =
      let (means, before) = got a (written_mark k ++ w) (before_same (append_assoc (written a) (written_mark k) w) b) n in
      let (is, behind) = mark_read k w l new r took same before u in
      go e g means is behind
    where
      go : (e : Result Node Fault) → MatchResult e (λ n. Repeated (mark_or_once r) x n) (λ f. f ≡ Memory) → Means x a → k ≡ mark_or_once r → Before m w new → Got (marked a k) w e new
      go (Ok n) g means is behind = (subst (λ z. Means n (marked a z)) (sym is) (means_marked (mark_or_once r) g means), behind)
      go (Err f) g means is behind = g

  pub item_marked : (l new : Lexer) (x : Node) (k : tree.Mark) (e : Result Node Fault) → Took (Some k) (front mark_of_byte l.rest.now) l new → Atoms m old left (Ok x) l → MatchResult e (λ n. Repeated (mark_of k) x n) (λ f. f ≡ Memory) → Readable m item Unmarked old left e new
  item_marked l new x k e took got g = item_got l new x (Some k) e took tt got g

  pub item_once : (l new : Lexer) (x : Node) → Took None (front mark_of_byte l.rest.now) l new → new ≡ l → Atoms m old left (Ok x) l → Readable m item Unmarked old left (Ok x) new
  item_once l new x took same got = item_got l new x None (Ok x) took same got (once_repeated x)

  pub item_lost : (f : Fault) (l new : Lexer) → Atoms m old left (Err f) l → Readable m item Unmarked old left (Err f) new
  item_lost f l new got (marked a k) w b u n = got a (written_mark k ++ w) (before_same (append_assoc (written a) (written_mark k) w) b) n
