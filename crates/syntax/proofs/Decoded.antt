-- Values, members and lexemes are determined by what is written. Assumes nothing.
use Rattle.std.proofs.Common.{◌≡◌, ℕ, Bool, true, false, List, [], ◌∷◌, ◌++◌, sym, refl, ap, ◌∙◌, subst, append_assoc, arith, rules}
use mathlib.Core.List.{nil≢cons}
use mathlib.Core.Bool.{Bool-set}
use Rattle.std.specs.List.{flat_map}
use Rattle.std.proofs.lemmas.List.{append_cancel_left}
use Rattle.regular.proofs.Words.{head_same, tail_same}
use Rattle.std.proofs.lemmas.Bool.{true≢false, false≢true}
use Rattle.syntax.specs.declared.mode.Mode.{Mode}
use Rattle.syntax.specs.declared.mode.Mode.TheVariants.{Bytes, Fields}
use Rattle.syntax.specs.Grammar.{plain, escaped, newline, pair, Value, Member, single, range, Members, last, more, Alone, unit, set, special, digit, closing, separator, caret, written_value, written_member, written_members}
use Rattle.syntax.specs.Lexer.{starts}
use Rattle.syntax.specs.Tokens.{Lexeme, atom, written_lexeme}
use Rattle.syntax.proofs.Options.{some_same, none_some}
use Rattle.syntax.proofs.Lexes.{Head, sign_lexeme, sign_head, set_head, unit_head, lexeme_head, members_start, caret_found}

heads : {b c : ℕ} {v w : List ℕ} → b ∷ v ≡ c ∷ w → (b ≡ c) × (v ≡ w)
heads e = (head_same e, tail_same e)

-- a test has one proof
plain_same : (b c : ℕ) (p : special b ≡ false) (q : special c ≡ false) → b ≡ c → plain b p ≡ plain c q
plain_same b c p q e = subst (λ c. (q : special c ≡ false) → plain b p ≡ plain c q) e (λ q. ap (plain b) (Bool-set _ _ p q)) q

escaped_same : (b c : ℕ) (p : special b ≡ true) (q : special c ≡ true) → b ≡ c → escaped b p ≡ escaped c q
escaped_same b c p q e = subst (λ c. (q : special c ≡ true) → escaped b p ≡ escaped c q) e (λ q. ap (escaped b) (Bool-set _ _ p q)) q

pair_same : (a b c d : ℕ) (p : digit a ≡ true) (q : digit b ≡ true) (r : digit c ≡ true) (s : digit d ≡ true) → a ≡ c → b ≡ d → pair a b p q ≡ pair c d r s
pair_same a b c d p q r s e f =
    subst (λ c. (r : digit c ≡ true) → pair a b p q ≡ pair c d r s) e
    (λ r. subst (λ d. (s : digit d ≡ true) → pair a b p q ≡ pair a d r s) f (λ s. ap (λ z. pair a b z q) (Bool-set _ _ p r) ∙ ap (pair a b r) (Bool-set _ _ q s)) s) r

plain_apart : {A : Type 0} (b : ℕ) → special b ≡ false → b ≡ 92 → A
plain_apart b p e = absurd (true≢false (sym (ap special e) ∙ p))

newline_apart : {A : Type 0} (b : ℕ) → special b ≡ true → b ≡ 110 → A
newline_apart b p e = absurd (false≢true (sym (ap special e) ∙ p))

value_same : (m : Mode) (x y : Value m) (v w : List ℕ) → written_value m x ++ v ≡ written_value m y ++ w → (x ≡ y) × (v ≡ w)
value_same Bytes (plain b p) (plain c q) v w e = let (h, t) = heads e in (plain_same b c p q h, t)
value_same Bytes (plain b p) (escaped c q) v w e = plain_apart b p (heads e).0
value_same Bytes (plain b p) newline v w e = plain_apart b p (heads e).0
value_same Bytes (escaped b p) (plain c q) v w e = plain_apart c q (sym (heads e).0)
value_same Bytes (escaped b p) (escaped c q) v w e = let (h, t) = heads (heads e).1 in (escaped_same b c p q h, t)
value_same Bytes (escaped b p) newline v w e = newline_apart b p (heads (heads e).1).0
value_same Bytes newline (plain c q) v w e = plain_apart c q (sym (heads e).0)
value_same Bytes newline (escaped c q) v w e = newline_apart c q (sym (heads (heads e).1).0)
value_same Bytes newline newline v w e = (refl, (heads (heads e).1).1)
value_same Fields (pair a b p q) (pair c d r s) v w e = let (h, t) = heads e in let (k, u) = heads t in (pair_same a b c d p q r s h k, u)

-- what stands behind a member is no -
abbrev NoDash : List ℕ → Type 0
NoDash w = starts 45 w ≡ false

closing_no_dash : (m : Mode) (v : List ℕ) → NoDash (closing m ∷ v)
closing_no_dash m v = search rules

more_no_dash : (m : Mode) (ys : Members m) (u : List ℕ) → NoDash ((separator m ++ written_members m ys) ++ u)
more_no_dash m ys u = grind (arith, members_start)

no_closing : (m : Mode) (ys : Members m) (u v : List ℕ) → closing m ∷ v ≡ (separator m ++ written_members m ys) ++ u → ⊥
no_closing Bytes ys u v e = true≢false (ap (starts 93) e ∙ members_start Bytes ys u 93 refl)
no_closing Fields ys u v e = omega (arith, (heads e).0)

module _ (m : Mode) where
  member_same : (k j : Member m) (v w : List ℕ) → NoDash v → NoDash w → written_member m k ++ v ≡ written_member m j ++ w → (k ≡ j) × (v ≡ w)
  member_same (single x) (single y) v w g h e = let (a, b) = value_same m x y v w e in (ap single a, b)
  member_same (single x) (range y z) v w g h e =
      let (_, b) = value_same m x y v (45 ∷ (written_value m z ++ w)) (e ∙ append_assoc (written_value m y) (45 ∷ written_value m z) w) in
      absurd (true≢false (sym (ap (starts 45) b) ∙ g))
  member_same (range x z) (single y) v w g h e =
      let (_, b) = value_same m y x w (45 ∷ (written_value m z ++ v)) (sym e ∙ append_assoc (written_value m x) (45 ∷ written_value m z) v) in
      absurd (true≢false (sym (ap (starts 45) b) ∙ h))
  member_same (range x z) (range y t) v w g h e =
      let (a, b) = value_same m x y (45 ∷ (written_value m z ++ v)) (45 ∷ (written_value m t ++ w)) (sym (append_assoc (written_value m x) (45 ∷ written_value m z) v) ∙ e ∙ append_assoc (written_value m y) (45 ∷ written_value m t) w) in
      let (c, d) = value_same m z t v w (heads b).1 in
      (ap (λ u. range u z) a ∙ ap (range y) c, d)

  members_same : (xs ys : Members m) (v w : List ℕ) → written_members m xs ++ (closing m ∷ v) ≡ written_members m ys ++ (closing m ∷ w) → (xs ≡ ys) × (v ≡ w)
  members_same (last k) (last j) v w e =
      let (a, b) = member_same k j (closing m ∷ v) (closing m ∷ w) (closing_no_dash m v) (closing_no_dash m w) e in
      (ap last a, (heads b).1)
  members_same (last k) (more j ys) v w e =
      let (_, b) = member_same k j (closing m ∷ v) _ (closing_no_dash m v) (more_no_dash m ys _) (e ∙ append_assoc (written_member m j) (separator m ++ written_members m ys) (closing m ∷ w)) in
      absurd (no_closing m ys _ v b)
  members_same (more k xs) (last j) v w e =
      let (_, b) = member_same j k (closing m ∷ w) _ (closing_no_dash m w) (more_no_dash m xs _) (sym e ∙ append_assoc (written_member m k) (separator m ++ written_members m xs) (closing m ∷ v)) in
      absurd (no_closing m xs _ w b)
  members_same (more k xs) (more j ys) v w e =
      let (a, b) = member_same k j _ _ (more_no_dash m xs _) (more_no_dash m ys _) (sym (append_assoc (written_member m k) (separator m ++ written_members m xs) (closing m ∷ v)) ∙ e ∙ append_assoc (written_member m j) (separator m ++ written_members m ys) (closing m ∷ w)) in
      let (c, d) = members_same xs ys v w (append_cancel_left (separator m) _ _ (sym (append_assoc (separator m) (written_members m xs) (closing m ∷ v)) ∙ b ∙ append_assoc (separator m) (written_members m ys) (closing m ∷ w))) in
      (ap (λ z. more z xs) a ∙ ap (more j) c, d)

  set_same : (n o : Bool) (xs ys : Members m) (v w : List ℕ) → caret n ++ (written_members m xs ++ (closing m ∷ v)) ≡ caret o ++ (written_members m ys ++ (closing m ∷ w)) → set n xs ≡ set o ys
  set_same n o xs ys v w e =
      let same : n ≡ o = sym (caret_found m n xs (closing m ∷ v)) ∙ ap (starts 94) e ∙ caret_found m o ys (closing m ∷ w) in
      let (a, _) = members_same xs ys v w (append_cancel_left (caret o) _ _ (ap (λ z. caret z ++ (written_members m xs ++ (closing m ∷ v))) (sym same) ∙ e)) in
      ap (λ z. set z xs) same ∙ ap (set o) a

  -- what is written behind the opening bracket
  inside : (n : Bool) (xs : Members m) (v : List ℕ) → (caret n ++ (written_members m xs ++ (closing m ∷ []))) ++ v ≡ caret n ++ (written_members m xs ++ (closing m ∷ v))
  inside n xs v = append_assoc (caret n) (written_members m xs ++ (closing m ∷ [])) v ∙ ap (λ z. caret n ++ z) (append_assoc (written_members m xs) (closing m ∷ []) v)

unit_same : (m : Mode) (a b : Alone m) (x y : Value m) → x ≡ y → unit a x ≡ unit b y
unit_same Bytes a b x y e = ap (unit tt) e
unit_same Fields a b x y e = absurd a

lexeme_same : (m : Mode) (k j : Lexeme m) (v w : List ℕ) → written_lexeme m k ++ v ≡ written_lexeme m j ++ w → k ≡ j
lexeme_same m k j v w e =
    let (b, u, f, h) = lexeme_head m k in
    let (c, t, g, i) = lexeme_head m j in
    let (same, others) = heads (sym (ap (λ z. z ++ v) f) ∙ e ∙ ap (λ z. z ++ w) g) in
    go k j u t (subst (λ z. Head m z u k) same h) i others e
  where
    go : {c : ℕ} (k j : Lexeme m) (u t : List ℕ) → Head m c u k → Head m c t j → u ++ v ≡ t ++ w → written_lexeme m k ++ v ≡ written_lexeme m j ++ w → k ≡ j
    go k j u t (sign_head r f _ _ x) (sign_head s g _ _ y) o e = x ∙ ap (sign_lexeme m) (some_same (sym f ∙ g)) ∙ sym y
    go k j u t (sign_head r f _ _ x) (set_head n xs g b _) o e = none_some (sym g ∙ f)
    go k j u t (sign_head r f _ _ x) (unit_head a y g b) o e = none_some (sym g ∙ f)
    go k j u t (set_head n xs f b _) (sign_head s g _ _ y) o e = none_some (sym f ∙ g)
    go k j u t (set_head n xs f b p) (set_head q ys g c r) o e = ap atom (set_same m n q xs ys v w (sym (ap (λ z. z ++ v) p ∙ inside m n xs v) ∙ o ∙ ap (λ z. z ++ w) r ∙ inside m q ys w))
    go k j u t (set_head n xs f b _) (unit_head a y g c) o e = absurd (c b)
    go k j u t (unit_head a x f b) (sign_head s g _ _ y) o e = none_some (sym f ∙ g)
    go k j u t (unit_head a x f b) (set_head q ys g c _) o e = absurd (b c)
    go k j u t (unit_head a x f b) (unit_head d y g c) o e = ap atom (unit_same m a d x y (value_same m x y v w e).0)

-- lexemes in a row are determined by what is written
pub lexemes_same : (m : Mode) (ks js : List (Lexeme m)) → flat_map (written_lexeme m) ks ≡ flat_map (written_lexeme m) js → ks ≡ js
lexemes_same m [] [] e = refl
lexemes_same m [] (j ∷ js) e = let (b, u, f, _) = lexeme_head m j in absurd (nil≢cons (e ∙ ap (λ z. z ++ flat_map (written_lexeme m) js) f))
lexemes_same m (k ∷ ks) [] e = let (b, u, f, _) = lexeme_head m k in absurd (nil≢cons (sym e ∙ ap (λ z. z ++ flat_map (written_lexeme m) ks) f))
lexemes_same m (k ∷ ks) (j ∷ js) e =
    let same = lexeme_same m k j (flat_map (written_lexeme m) ks) (flat_map (written_lexeme m) js) e in
    ap (λ z. z ∷ ks) same ∙ ap (λ z. j ∷ z) (lexemes_same m ks js (append_cancel_left (written_lexeme m j) _ _ (ap (λ z. written_lexeme m z ++ flat_map (written_lexeme m) ks) (sym same) ∙ e)))
