-- What a set holds, from its members. Assumes nothing.
use Rattle.std.proofs.Common.{◌≡◌, ℕ, ◌+◌, Bool, true, false, cond, eqb, List, [], ◌∷◌, ◌++◌, length, find, option_map, Some, None, Option, sym, refl, ap, ◌∙◌, subst, append_assoc, append-nil, arith}
use Rattle.std.specs.List.{list_any}
use Rattle.std.proofs.Math.Bool.{or-false}
use Rattle.std.proofs.lemmas.Bool.{ne_eqb}
use Rattle.std.proofs.lemmas.Bool.Decides.{nat_tests}
use Rattle.syntax.specs.declared.mode.Mode.{Mode}
use Rattle.syntax.specs.declared.mode.Mode.TheVariants.{Bytes, Fields}
use Rattle.syntax.specs.declared.lexer.Lexer.{Lexer}
use Rattle.syntax.specs.declared.lexer.Token.TheVariants.{Dot, Unit, Set}
use Rattle.syntax.specs.declared.members.Member as members
use Rattle.syntax.specs.declared.members.Members as cursors
use Rattle.syntax.specs.Grammar.{Simple, dot, unit, set, Member, Members, single, range, last, more, caret, code, held, separator, in_member, in_members, bare_set, written_value, written_member, written_members}
use Rattle.syntax.specs.Refusals.{first, reversed_member, reversed_members}
use Rattle.syntax.specs.Lexer.{Before, sole, value_of}
use Rattle.syntax.specs.Members.{covers, runs_back, listed}
use Rattle.syntax.specs.Tokens.{Stands, atom}
use Rattle.syntax.proofs.Lexes.{member_at, members_at, members_found, value_found}

module _ (m : Mode) where
  -- the members that a set's token has
  pub listed_found : (xs : Members m) (s : cursors.Members) → Before m (written_members m xs) s.lexer → listed s ≡ members_at m xs s.lexer.place
  listed_found xs s h = rw (h.mode_is, h.rest_is) (members_found m xs s.lexer.place _ refl)

  member_covers : (k : Member m) (p c : ℕ) → covers (member_at m k p) c ≡ in_member m k c
  member_covers k p c = grind (arith, nat_tests)

  pub covers_found : (xs : Members m) (p c : ℕ) → list_any (λ k. covers k c) (members_at m xs p) ≡ in_members m xs c
  covers_found (last k) p c = grind (arith, or-false, member_covers k p c)
  covers_found (more k xs) p c = grind (arith, member_covers k p c, covers_found xs (p + length (written_member m k) + length (separator m)) c)

  abbrev pub place_of : Option members.Member → Option ℕ
  place_of = option_map (λ k. k.place)

  -- the first member that runs backwards is there or further on
  reversed_here : (k : Member m) (p : ℕ) (ks : List members.Member) (ps : List ℕ) → place_of (find runs_back ks) ≡ first ps → place_of (find runs_back (member_at m k p ∷ ks)) ≡ first (reversed_member m k p ++ ps)
  reversed_here k p ks ps h = grind (arith, nat_tests)

  pub reversed_found : (xs : Members m) (p : ℕ) → place_of (find runs_back (members_at m xs p)) ≡ first (reversed_members m xs p)
  reversed_found (last k) p = reversed_here k p [] [] refl ∙ ap first (append-nil _)
  reversed_found (more k xs) p = reversed_here k p (members_at m xs (p + length (written_member m k) + length (separator m))) _ (reversed_found xs _)

  -- what a simple atom holds whose token is a dot, or a unit
  pub of_dot : (s : Simple m) (p c : ℕ) → Stands m (atom s) p Dot → held m s c ≡ true
  of_dot dot p c e = refl
  of_dot (unit a x) p c e = absurd cc
  of_dot (set n xs) p c (q, e, h, l) = absurd cc

  pub of_unit : (s : Simple m) (p b c : ℕ) → Stands m (atom s) p (Unit b) → held m s c ≡ eqb b c
  of_unit dot p b c e = absurd cc
  of_unit (unit a x) p b c e = let same : code m x ≡ b = cc in ap (λ b. eqb b c) same
  of_unit (set n xs) p b c (q, e, h, l) = absurd cc

  -- a simple atom whose token is a set
  pub of_set : (n : Bool) (r : cursors.Members) (s : Simple m) (p : ℕ) (G : Simple m → Type 0) → Stands m (atom s) p (Set n r) → ((xs : Members m) → Before m (written_members m xs) r.lexer → r.lexer.place ≡ p + 1 + length (caret n) → G (set n xs)) → G s
  of_set n r dot p G e f = absurd cc
  of_set n r (unit a x) p G e f = absurd cc
  of_set n r (set o xs) p G (q, e, h, l) f =
      let same : n ≡ o = cc in
      let here : r ≡ q = cc in
      subst (λ o. G (set o xs)) same (f xs (subst (λ q. Before m (written_members m xs) q.lexer) (sym here) h) (ap (λ q. q.lexer.place) here ∙ l ∙ ap (λ o. p + 1 + length (caret o)) (sym same)))

-- a set of fields that is one value
not_sole : (c b : ℕ) (v : List ℕ) → sole (Some (c, b ∷ v)) ≡ None
not_sole c b v = ap (λ t. cond t (Some c) None) (ne_eqb (length (b ∷ v)) 0 (λ e. omega arith))

pub sole_found : (xs : Members Fields) → sole (value_of Fields (written_members Fields xs)) ≡ bare_set Fields false xs
sole_found (last (single x)) = ap (λ w. sole (value_of Fields w)) (sym (append-nil (written_value Fields x))) ∙ ap sole (value_found Fields x [])
sole_found (last (range x y)) = ap sole (value_found Fields x (45 ∷ written_value Fields y)) ∙ not_sole _ 45 _
sole_found (more (single x) xs) = ap sole (value_found Fields x (44 ∷ written_members Fields xs)) ∙ not_sole _ 44 _
sole_found (more (range x y) xs) = ap (λ w. sole (value_of Fields w)) (append_assoc (written_value Fields x) (45 ∷ written_value Fields y) (44 ∷ written_members Fields xs)) ∙ ap sole (value_found Fields x (45 ∷ (written_value Fields y ++ (44 ∷ written_members Fields xs)))) ∙ not_sole _ 45 _

pub fields_sole : (m : Mode) (n : Bool) (xs : Members m) (l : Lexer) (r : Option ℕ) → m ≡ Fields → n ≡ false → Before m (written_members m xs) l → r ≡ sole (value_of l.mode l.rest.now) → r ≡ bare_set m n xs
fields_sole Bytes n xs l r m k h e = absurd cc
fields_sole Fields n xs l r m k h e = e ∙ rw (h.mode_is, h.rest_is, k) (sole_found xs)
