-- What an expression's bytes begin with is what the lexer finds. Assumes nothing.
use Rattle.std.proofs.Common.{◌≡◌, ℕ, ◌+◌, Bool, true, false, cond, eqb, List, [], ◌∷◌, ◌++◌, length, drop, Some, None, sym, refl, ap, ◌∙◌, append_assoc, append-nil, arith, length-append, rules}
use Rattle.std.proofs.lemmas.Bool.{ne_eqb}
use Rattle.syntax.specs.declared.mode.Mode.{Mode}
use Rattle.syntax.specs.declared.mode.Mode.TheVariants.{Bytes, Fields}
use Rattle.syntax.specs.declared.grammar.Begun.TheVariants.{Not}
use Rattle.syntax.specs.declared.members.Member as members
use Rattle.syntax.specs.Grammar.{plain, escaped, newline, pair, Value, Member, single, range, Members, last, more, special, digit, code, opening, closing, separator, caret, dot, unit, set, Alone, written_value, written_member, written_members}
use Rattle.syntax.specs.Automaton.{begins}
use Rattle.syntax.specs.Lexer.{value_of, until, starts}
use Rattle.syntax.specs.Members.{behind_separator, from_first, member_of, member_list, to_last}
use Rattle.syntax.specs.Tokens.{Lexeme, open_group, close_group, bar, mark, atom, sign_token, written_lexeme, Stands}
use Rattle.syntax.specs.declared.lexer.Token.{Token}
use Rattle.syntax.specs.declared.lexer.Token.TheVariants.{Open, Close, Bar, Mark, Dot, Unit, Set}
use Rattle.syntax.specs.declared.tree.Mark.TheVariants.{Star, Plus, Query}
use Rattle.syntax.proofs.Complete.{Shape, whole, halves, shape, not_not, not_whole}
use Rattle.syntax.proofs.Listing.{first_listed}

pub plain_not : (b k : ℕ) → special b ≡ false → special k ≡ true → eqb b k ≡ false
plain_not b k p q = grind arith

special_not : (b k : ℕ) → special b ≡ true → special k ≡ false → eqb b k ≡ false
special_not b k p q = grind arith

digit_not : (b k : ℕ) → digit b ≡ true → digit k ≡ false → eqb b k ≡ false
digit_not b k p q = grind arith

pub value_found : (m : Mode) (x : Value m) (v : List ℕ) → value_of m (written_value m x ++ v) ≡ Some (code m x, v)
value_found Bytes (plain b q) v = rw (plain_not b 92 q refl) refl
value_found Bytes (escaped b q) v = rw (special_not b 110 q refl) refl
value_found Bytes newline v = refl
value_found Fields (pair a b q r) v = rw (q, r) refl

-- bytes that a search for the closing bracket passes
abbrev Passes : ℕ → List ℕ → Type 0
Passes k u = (w : List ℕ) → until k false (u ++ w) ≡ length u + until k false w

passes_append : (k : ℕ) (u v : List ℕ) → Passes k u → Passes k v → Passes k (u ++ v)
passes_append k u v p q w = grind (arith, append_assoc, length-append, p (v ++ w), q w)

passes_one : (k b : ℕ) → eqb b k ≡ false → eqb b 92 ≡ false → Passes k (b ∷ [])
passes_one k b p q w = rw (p, q) (omega arith)

value_passes : (m : Mode) (x : Value m) → Passes (closing m) (written_value m x)
value_passes Bytes (plain b p) w = passes_one 93 b (plain_not b 93 p refl) (plain_not b 92 p refl) w
value_passes Bytes (escaped b p) w = omega arith
value_passes Bytes newline w = omega arith
value_passes Fields (pair a b p q) w =
    passes_append 62 (a ∷ []) (b ∷ []) (passes_one 62 a (digit_not a 62 p refl) (digit_not a 92 p refl)) (passes_one 62 b (digit_not b 62 q refl) (digit_not b 92 q refl)) w

dash_passes : (m : Mode) → Passes (closing m) (45 ∷ [])
dash_passes m w = grind arith

separator_passes : (m : Mode) → Passes (closing m) (separator m)
separator_passes m w = grind arith

member_passes : (m : Mode) (k : Member m) → Passes (closing m) (written_member m k)
member_passes m (single x) = value_passes m x
member_passes m (range x y) = passes_append (closing m) (written_value m x) (45 ∷ written_value m y) (value_passes m x) (passes_append (closing m) (45 ∷ []) (written_value m y) (dash_passes m) (value_passes m y))

members_pass : (m : Mode) (xs : Members m) → Passes (closing m) (written_members m xs)
members_pass m (last k) = member_passes m k
members_pass m (more k xs) = passes_append (closing m) (written_member m k) (separator m ++ written_members m xs) (member_passes m k) (passes_append (closing m) (separator m) (written_members m xs) (separator_passes m) (members_pass m xs))

at_closing : (m : Mode) (v : List ℕ) → until (closing m) false (closing m ∷ v) ≡ 0
at_closing m v = search rules

pub closing_found : (m : Mode) (xs : Members m) (v : List ℕ) → until (closing m) false (written_members m xs ++ (closing m ∷ v)) ≡ length (written_members m xs)
closing_found m xs v = members_pass m xs (closing m ∷ v) ∙ omega (arith, at_closing m v)

-- a value does not begin with a byte that begins none
value_head : (m : Mode) (x : Value m) → (b : ℕ) × (u : List ℕ) × (written_value m x ≡ b ∷ u) × (begins m b ≡ Not → ⊥)
value_head m x = go (shape m x)
  where
    go : Shape m (written_value m x) → (b : ℕ) × (u : List ℕ) × (written_value m x ≡ b ∷ u) × (begins m b ≡ Not → ⊥)
    go (whole b p e) = (b, [], e, not_whole p)
    go (halves a b p q e) = (a, b ∷ [], e, not_not p)

pub members_head : (m : Mode) (xs : Members m) → (b : ℕ) × (u : List ℕ) × (written_members m xs ≡ b ∷ u) × (begins m b ≡ Not → ⊥)
members_head m (last (single x)) = value_head m x
members_head m (last (range x y)) = let (b, u, e, h) = value_head m x in (b, u ++ (45 ∷ written_value m y), ap (λ z. z ++ (45 ∷ written_value m y)) e, h)
members_head m (more (single x) xs) = let (b, u, e, h) = value_head m x in (b, u ++ (separator m ++ written_members m xs), ap (λ z. z ++ (separator m ++ written_members m xs)) e, h)
members_head m (more (range x y) xs) = let (b, u, e, h) = value_head m x in (b, (u ++ (45 ∷ written_value m y)) ++ (separator m ++ written_members m xs), ap (λ z. (z ++ (45 ∷ written_value m y)) ++ (separator m ++ written_members m xs)) e, h)

-- members do not begin with a byte that begins no value
pub members_start : (m : Mode) (xs : Members m) (v : List ℕ) (b : ℕ) → begins m b ≡ Not → starts b (written_members m xs ++ v) ≡ false
members_start m xs v b n = let (c, u, e, h) = members_head m xs in rw e (ne_eqb c b (λ q. h (ap (begins m) q ∙ n)))

caret_not : (m : Mode) → begins m 94 ≡ Not
caret_not m = search rules

pub caret_found : (m : Mode) (n : Bool) (xs : Members m) (v : List ℕ) → starts 94 (caret n ++ (written_members m xs ++ v)) ≡ n
caret_found m n xs v = grind (arith, members_start, caret_not)

-- members from their bytes
module _ (m : Mode) where
  abbrev pub low : Member m → ℕ
  low (single x) = code m x
  low (range x y) = code m x

  abbrev pub high : Member m → ℕ
  high (single x) = code m x
  high (range x y) = code m y

  abbrev pub member_at : Member m → ℕ → members.Member
  member_at k p = record { first = low k; last = high k; place = p }

  -- the members at the place p
  abbrev pub members_at : Members m → ℕ → List members.Member
  members_at (last k) p = member_at k p ∷ []
  members_at (more k xs) p = member_at k p ∷ members_at xs (p + length (written_member m k) + length (separator m))

  member_found : (k : Member m) (p : ℕ) (v : List ℕ) → starts 45 v ≡ false → member_of m p (written_member m k ++ v) ≡ Some (member_at k p, behind_separator m v)
  member_found (single x) p v h = ap (from_first m p) (value_found m x v) ∙ ap (λ t. to_last m p (code m x) (cond t (value_of m (drop 1 v)) (Some (code m x, v)))) h
  member_found (range x y) p v h =
      ap (λ z. member_of m p z) (append_assoc (written_value m x) (45 ∷ written_value m y) v)
      ∙ ap (from_first m p) (value_found m x (45 ∷ (written_value m y ++ v)))
      ∙ ap (to_last m p (code m x)) (value_found m y v)

tail_no_dash : (m : Mode) (ys : Members m) → starts 45 (separator m ++ written_members m ys) ≡ false
tail_no_dash Bytes ys = ap (λ z. starts 45 z) (sym (append-nil (written_members Bytes ys))) ∙ members_start Bytes ys [] 45 refl
tail_no_dash Fields ys = refl

behind_found : (m : Mode) (ys : Members m) → behind_separator m (separator m ++ written_members m ys) ≡ written_members m ys
behind_found m ys = search rules

behind_nothing : (m : Mode) → behind_separator m [] ≡ []
behind_nothing m = search rules

pub members_found : (m : Mode) (xs : Members m) (p e : ℕ) → e ≡ p + length (written_members m xs) → member_list (length (written_members m xs)) m e (written_members m xs) ≡ members_at m xs p
members_found m (last k) p e f =
    let here : member_of m p (written_member m k) ≡ Some (member_at m k p, []) = ap (member_of m p) (sym (append-nil _)) ∙ member_found m k p [] refl ∙ ap (λ z. Some (member_at m k p, z)) (behind_nothing m) in
    first_listed m e (written_member m k) p _ f here
members_found m (more k xs) p e f =
    let here : member_of m p (written_members m (more k xs)) ≡ Some (member_at m k p, written_members m xs) = member_found m k p _ (tail_no_dash m xs) ∙ ap (λ z. Some (member_at m k p, z)) (behind_found m xs) in
    first_listed m e (written_members m (more k xs)) p _ f here
    ∙ ap (λ z. member_at m k p ∷ z) (members_found m xs (p + length (written_member m k) + length (separator m)) e (omega (arith, length-append (written_member m k) (separator m ++ written_members m xs), length-append (separator m) (written_members m xs))))

-- the lexeme of a sign; of another token any
abbrev pub sign_lexeme : (m : Mode) → Token → Lexeme m
sign_lexeme m Open = open_group
sign_lexeme m Close = close_group
sign_lexeme m Bar = bar
sign_lexeme m (Mark k) = mark k
sign_lexeme m Dot = atom dot
sign_lexeme m (Unit c) = atom dot
sign_lexeme m (Set n r) = atom dot

-- a lexeme by its first byte b, and the others u that it is written as
pub data Head (m : Mode) (b : ℕ) (u : List ℕ) : Lexeme m → Type 0 where
  sign_head : {k : Lexeme m} (t : Token) → sign_token b ≡ Some t → ((p : ℕ) → Stands m k p t) → u ≡ [] → k ≡ sign_lexeme m t → Head m b u k
  set_head : (n : Bool) (xs : Members m) → sign_token b ≡ None → b ≡ opening m → u ≡ caret n ++ (written_members m xs ++ (closing m ∷ [])) → Head m b u (atom (set n xs))
  unit_head : (a : Alone m) (x : Value m) → sign_token b ≡ None → (b ≡ opening m → ⊥) → Head m b u (atom (unit a x))

unit_first : (x : Value Bytes) → (b : ℕ) × (u : List ℕ) × (written_value Bytes x ≡ b ∷ u) × (sign_token b ≡ None) × (b ≡ 91 → ⊥)
unit_first (plain b p) =
    (b, [], refl, rw (plain_not b 40 p refl, plain_not b 41 p refl, plain_not b 124 p refl, plain_not b 42 p refl, plain_not b 43 p refl, plain_not b 63 p refl, plain_not b 46 p refl) refl, λ e. let z : true ≡ false = ap special (sym e) ∙ p in cc)
unit_first (escaped b p) = (92, b ∷ [], refl, refl, λ e. omega arith)
unit_first newline = (92, 110 ∷ [], refl, refl, λ e. omega arith)

opening_no_sign : (m : Mode) → sign_token (opening m) ≡ None
opening_no_sign m = search rules

pub lexeme_head : (m : Mode) (k : Lexeme m) → (b : ℕ) × (u : List ℕ) × (written_lexeme m k ≡ b ∷ u) × Head m b u k
lexeme_head m open_group = (40, [], refl, sign_head Open refl (λ p. refl) refl refl)
lexeme_head m close_group = (41, [], refl, sign_head Close refl (λ p. refl) refl refl)
lexeme_head m bar = (124, [], refl, sign_head Bar refl (λ p. refl) refl refl)
lexeme_head m (mark Star) = (42, [], refl, sign_head (Mark Star) refl (λ p. refl) refl refl)
lexeme_head m (mark Plus) = (43, [], refl, sign_head (Mark Plus) refl (λ p. refl) refl refl)
lexeme_head m (mark Query) = (63, [], refl, sign_head (Mark Query) refl (λ p. refl) refl refl)
lexeme_head m (atom dot) = (46, [], refl, sign_head Dot refl (λ p. refl) refl refl)
lexeme_head Bytes (atom (unit a x)) = let (b, u, e, s, n) = unit_first x in (b, u, e, unit_head a x s n)
lexeme_head Fields (atom (unit a x)) = absurd a
lexeme_head m (atom (set n xs)) = (opening m, _, refl, set_head n xs (opening_no_sign m) refl refl)
