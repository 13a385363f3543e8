-- What a step of the lexer reads and leaves. Assumes nothing.
use Rattle.std.proofs.Common.{◌≡◌, ℕ, ◌+◌, Bool, true, false, List, [], ◌∷◌, ◌++◌, length, take, drop, Some, None, option_map, Option, Result, ok_or, IsOkAnd, sym, refl, ap, ◌∙◌, subst, append_assoc, arith, MatchBool, IsSomeAnd}
use Rattle.std.proofs.lemmas.List.{drop_at, take_at}
use Rattle.std.proofs.lemmas.Bool.{eq-eqb, true≢false, MatchBool-at_true, MatchBool-at_false}
use Rattle.regular.proofs.Words.{head_same, tail_same}
use Rattle.refusal.specs.declared.Fault.{Fault}
use Rattle.syntax.specs.declared.mode.Mode.{Mode}
use Rattle.syntax.specs.declared.lexer.Lexer.{Lexer}
use Rattle.syntax.specs.declared.lexer.Token.{Token}
use Rattle.syntax.specs.declared.lexer.Token.TheVariants.{Unit}
use Rattle.syntax.specs.Grammar.{Members, opening, closing, caret, written_members}
use Rattle.syntax.specs.Lexer.{Before, Left, Ate, Took, front, starts, until, value_of}
use Rattle.syntax.specs.Tokens.{Lexeme, IsSet, Stands, sign_token, written_lexeme}
use Rattle.syntax.proofs.Options.{none_some}
use Rattle.syntax.proofs.Lexes.{Head, sign_head, set_head, unit_head, lexeme_head, caret_found, closing_found, value_found}

pub left_before : {m : Mode} {u w : List ℕ} {old new : Lexer} → Before m u old → Left w old new → Before m w new
left_before h l = record { mode_is = l.kept.mode_is ∙ h.mode_is; rest_is = l.rest_is }

-- a byte that is looked for
module _ {m : Mode} {old new : Lexer} {r : Bool} (b : ℕ) (value : r ≡ starts b old.rest.now) (read : MatchBool r (Ate (b ∷ []) old new) (new ≡ old)) where
  pub eaten : {w : List ℕ} → Before m (b ∷ w) old → (r ≡ true) × Before m w new
  eaten {w} h =
      let is : r ≡ true = value ∙ ap (starts b) h.rest_is ∙ eq-eqb b b refl in
      let (kept, bytes) = MatchBool-at_true _ _ is read in
      (is, record { mode_is = kept.mode_is ∙ h.mode_is; rest_is = tail_same (sym bytes ∙ h.rest_is) })

  pub uneaten : {w : List ℕ} → starts b w ≡ false → Before m w old → (r ≡ false) × Before m w new
  uneaten s h =
      let is : r ≡ false = value ∙ ap (starts b) h.rest_is ∙ s in
      (is, subst (Before m _) (sym (MatchBool-at_false _ _ is read)) h)

-- the ^ of a set
pub caret_eaten : {m : Mode} (n : Bool) (xs : Members m) (v : List ℕ) {old new : Lexer} {r : Bool} → r ≡ starts 94 old.rest.now → MatchBool r (Ate (94 ∷ []) old new) (new ≡ old) → Before m (caret n ++ (written_members m xs ++ v)) old → (r ≡ n) × Before m (written_members m xs ++ v) new × (new.place ≡ old.place + length (caret n))
caret_eaten {m} true xs v {old} {new} value read h =
    let (is, before) = eaten 94 value read h in
    let (kept, bytes) = MatchBool-at_true _ _ is read in
    (is, before, omega (arith, kept.place_is, ap length bytes))
caret_eaten {m} false xs v {old} {new} value read h =
    let (is, before) = uneaten 94 value read (caret_found m false xs v) h in
    (is, before, ap (λ z. z.place) (MatchBool-at_false _ _ is read) ∙ omega arith)

-- its members, up to the closing bracket
pub members_split : {m : Mode} (xs : Members m) (v : List ℕ) {old new members : Lexer} {n : ℕ} → n ≡ until (closing old.mode) false old.rest.now → Before old.mode (take n old.rest.now) members → Left (drop n old.rest.now) old new → Before m (written_members m xs ++ (closing m ∷ v)) old → Before m (written_members m xs) members × Before m (closing m ∷ v) new
members_split {m} xs v {old} {new} {members} {n} e front back h =
    let long : n ≡ length (written_members m xs) = e ∙ rw (h.mode_is, h.rest_is) (closing_found m xs v) in (
      record { mode_is = front.mode_is ∙ h.mode_is; rest_is = front.rest_is ∙ rw (h.rest_is, long) (take_at (written_members m xs) (closing m ∷ v) _ refl) },
      record { mode_is = back.kept.mode_is ∙ h.mode_is; rest_is = back.rest_is ∙ rw (h.rest_is, long) (drop_at (written_members m xs) (closing m ∷ v) _ refl) },
    )

-- a token, by the first byte of its lexeme
module _ {m : Mode} {old : Lexer} (k : Lexeme m) (w : List ℕ) (h : Before m (written_lexeme m k ++ w) old) where
  -- each case of it, where b and then u are written
  by_head : (G : Type 0)
      → ((b : ℕ) (u : List ℕ) → old.rest.now ≡ b ∷ (u ++ w) → Head m b u k → G) → G
  by_head G f = let (b, u, e, i) = lexeme_head m k in f b u (h.rest_is ∙ ap (λ z. z ++ w) e) i

  -- what is found of a sign's byte, and of another
  front_is : (b : ℕ) (u : List ℕ) (o : Option Token) → old.rest.now ≡ b ∷ u → sign_token b ≡ o → front sign_token old.rest.now ≡ option_map (λ x. (x, u)) o
  front_is b u o e f = ap (front sign_token) e ∙ ap (option_map (λ x. (x, u))) f

  -- where no sign was found
  module _ (none : Took None (front sign_token old.rest.now) old old) where
    no_sign : {G : Type 0} (b : ℕ) (u : List ℕ) (t : Token) → old.rest.now ≡ b ∷ u → sign_token b ≡ Some t → G
    no_sign b u t e f = none_some (subst (λ z. Took None z old old) (front_is b u (Some t) e f) none).0

    -- the opening bracket stands there, and is read
    pub set_read : (inside new : Lexer) (r : Option Token) (c : ℕ) → c ≡ opening m → Ate (c ∷ []) old inside → ((n : Bool) (xs : Members m) (w : List ℕ) → Before m (caret n ++ (written_members m xs ++ (closing m ∷ w))) inside → IsSomeAnd r (λ t. IsSet m n xs (inside.place + length (caret n)) t × Before m w new)) → IsSomeAnd r (λ t. Stands m k old.place t × Before m w new)
    set_read inside new r c opens (kept, ate) found = by_head _ (λ b u e i. go k b u (sym e ∙ ate) i)
      where
        place : inside.place ≡ old.place + 1
        place = omega (arith, kept.place_is, ap length ate)

        go : (k : Lexeme m) (b : ℕ) (u : List ℕ) → b ∷ (u ++ w) ≡ c ∷ inside.rest.now → Head m b u k → IsSomeAnd r (λ t. Stands m k old.place t × Before m w new)
        go k b u e (sign_head t f _ _ _) = no_sign c inside.rest.now t ate (ap sign_token (sym (head_same e)) ∙ f)
        go k b u e (set_head n xs f is v) =
            subst (λ p. IsSomeAnd r (λ t. IsSet m n xs (p + length (caret n)) t × Before m w new)) place
            (found n xs w (record {
              mode_is = kept.mode_is ∙ h.mode_is;
              rest_is = sym (tail_same e) ∙ ap (λ z. z ++ w) v ∙ append_assoc (caret n) (written_members m xs ++ (closing m ∷ [])) w ∙ ap (λ z. caret n ++ z) (append_assoc (written_members m xs) (closing m ∷ []) w);
            }))
        go k b u e (unit_head a x f not) = absurd (not (head_same e ∙ opens))

    -- or it does not
    pub unit_read : (new : Lexer) (r : Option ℕ) (c : ℕ) → c ≡ opening m → starts c old.rest.now ≡ false → Took r (value_of m old.rest.now) old new → IsSomeAnd r (λ c. Stands m k old.place (Unit c) × Before m w new)
    unit_read new r c opens s took = by_head _ (λ b u e i. go k b u e i h.rest_is)
      where
        go : (k : Lexeme m) (b : ℕ) (u : List ℕ) → old.rest.now ≡ b ∷ (u ++ w) → Head m b u k → old.rest.now ≡ written_lexeme m k ++ w → IsSomeAnd r (λ c. Stands m k old.place (Unit c) × Before m w new)
        go k b u e (sign_head t f _ _ _) g = no_sign b _ t e f
        go k b u e (set_head n xs f is v) g = absurd (true≢false (sym (eq-eqb b c (is ∙ sym opens)) ∙ ap (starts c) (sym e) ∙ s))
        go k b u e (unit_head a x f not) g =
            let (same, left) = subst (λ z. Took r z old new) (ap (value_of m) g ∙ value_found m x w) took in
            rw same (refl, left_before h left)

-- the same, where l is the lexer at first, and no sign was read
pub set_found : {m : Mode} (k : Lexeme m) (w : List ℕ) {l old inside : Lexer} (new : Lexer) (r : Option Token) {t : Result Token Fault} (f : Fault) (c : ℕ) → t ≡ ok_or r f → old ≡ l → Took None (front sign_token l.rest.now) l old → c ≡ opening old.mode → MatchBool true (Ate (c ∷ []) old inside) (inside ≡ old) → ((m : Mode) (n : Bool) (xs : Members m) (w : List ℕ) → Before m (caret n ++ (written_members m xs ++ (closing m ∷ w))) inside → IsSomeAnd r (λ t. IsSet m n xs (inside.place + length (caret n)) t × Before m w new)) → Before m (written_lexeme m k ++ w) l → IsOkAnd t (λ t. Stands m k l.place t × Before m w new)
set_found {m} k w {l} {old} {inside} new r f c e same none opens ate found h =
    rw (e, ← same) (ok r (set_read k w (subst (Before m _) (sym same) h) (subst (λ l. Took None (front sign_token l.rest.now) l old) (sym same) none) inside new r c (opens ∙ ap (λ l. opening l.mode) same ∙ ap opening h.mode_is) ate (found m)))
  where
    ok : (r : Option Token) → IsSomeAnd r (λ t. Stands m k old.place t × Before m w new) → IsOkAnd (ok_or r f) (λ t. Stands m k old.place t × Before m w new)
    ok None h = absurd h
    ok (Some t) h = h

pub unit_found : {m : Mode} (k : Lexeme m) (w : List ℕ) {l old inside : Lexer} (new : Lexer) (r : Option ℕ) (c : ℕ) → old ≡ l → Took None (front sign_token l.rest.now) l old → c ≡ opening old.mode → false ≡ starts c old.rest.now → MatchBool false (Ate (c ∷ []) old inside) (inside ≡ old) → Took r (value_of inside.mode inside.rest.now) inside new → Before m (written_lexeme m k ++ w) l → IsSomeAnd r (λ c. Stands m k l.place (Unit c) × Before m w new)
unit_found {m} k w {l} {old} {inside} new r c same none opens value stays took h =
    let before = subst (Before m _) (sym same) h in
    subst (λ l. IsSomeAnd r (λ c. Stands m k l.place (Unit c) × Before m w new)) same
    (unit_read k w before (subst (λ l. Took None (front sign_token l.rest.now) l old) (sym same) none) new r c (opens ∙ ap opening before.mode_is) (sym value)
    (subst (λ m. Took r (value_of m old.rest.now) old new) before.mode_is (subst (λ l. Took r (value_of l.mode l.rest.now) l new) stays took)))
