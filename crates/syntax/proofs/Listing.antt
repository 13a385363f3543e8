-- The members of a set, from its bytes. Assumes nothing.
use Rattle.std.proofs.Common.{◌≡◌, ℕ, zero, suc, ◌+◌, ◌-◌, ◌*◌, ◌<◌, ◌≤◌, eqb, List, [], ◌∷◌, length, drop, Some, None, option_and_then, option_map, Option, refl, ap, ◌∙◌, subst, arith, MatchOption}
use Rattle.std.proofs.lemmas.Bool.{cond_both}
use Rattle.syntax.specs.declared.mode.Mode.{Mode}
use Rattle.syntax.specs.declared.mode.Mode.TheVariants.{Bytes, Fields}
use Rattle.syntax.specs.declared.members.Member as members
use Rattle.syntax.specs.declared.members.Members as cursors
use Rattle.syntax.specs.Grammar.{digit}
use Rattle.syntax.specs.Lexer.{Took, digit_of, value_of, starts}
use Rattle.syntax.specs.Members.{behind, behind_separator, to_last, from_first, member_of, followed, member_list, listed}

-- what is left behind a value or a member is shorter
abbrev Shorter : {A : Type 0} → List ℕ → Option (A × List ℕ) → Type 0
Shorter w None = Unit {0}
Shorter w (Some x) = length x.1 < length w

value_shorter : (m : Mode) (w : List ℕ) → Shorter w (value_of m w)
value_shorter Bytes [] = tt
value_shorter Bytes (b ∷ []) = cond_both (eqb b 92) _ _ (Shorter (b ∷ [])) (λ _. tt) (λ _. omega arith)
value_shorter Bytes (b ∷ c ∷ w) = cond_both (eqb b 92) _ _ (Shorter (b ∷ c ∷ w)) (λ _. omega arith) (λ _. omega arith)
value_shorter Fields [] = tt
value_shorter Fields (a ∷ []) = cond_both (digit a) _ _ (λ z. Shorter (a ∷ []) (option_and_then (λ x. option_map (λ y. (10 * x.0 + y.0, y.1)) (digit_of x.1)) z)) (λ _. tt) (λ _. tt)
value_shorter Fields (a ∷ b ∷ w) = cond_both (digit a) _ _ (λ z. Shorter (a ∷ b ∷ w) (option_and_then (λ x. option_map (λ y. (10 * x.0 + y.0, y.1)) (digit_of x.1)) z)) (λ _. cond_both (digit b) _ _ (λ z. Shorter (a ∷ b ∷ w) (option_map (λ y. (10 * (a - 48) + y.0, y.1)) z)) (λ _. omega arith) (λ _. tt)) (λ _. tt)

behind_short : (b : ℕ) (w : List ℕ) → length (behind b w) ≤ length w
behind_short b w = grind arith

separator_short : (m : Mode) (w : List ℕ) → length (behind_separator m w) ≤ length w
separator_short m w = grind (arith, behind_short 44 w)

-- what is left behind a first byte is no longer than the whole
tail_short : (w : List ℕ) → length (drop 1 w) ≤ length w
tail_short w = grind arith

module _ (m : Mode) (p : ℕ) where
  last_shorter : (w v : List ℕ) (low : ℕ) (r : Option (ℕ × List ℕ)) → Shorter v r → length v ≤ length w → Shorter w (to_last m p low r)
  last_shorter w v low None h l = tt
  last_shorter w v low (Some x) h l = omega (arith, separator_short m x.1)

  member_shorter : (w : List ℕ) → Shorter w (member_of m p w)
  member_shorter w = go (value_of m w) (value_shorter m w)
    where
      go : (r : Option (ℕ × List ℕ)) → Shorter w r → Shorter w (from_first m p r)
      go None h = tt
      go (Some x) h =
          cond_both (starts 45 x.1) _ _ (λ z. Shorter w (to_last m p x.0 z))
          (λ _. last_shorter w (drop 1 x.1) x.0 _ (value_shorter m (drop 1 x.1)) (omega (arith, tail_short x.1)))
          (λ _. omega (arith, separator_short m x.1))

module _ (m : Mode) (e : ℕ) where
  -- as many members as there are bytes are enough
  enough : (n k : ℕ) (w : List ℕ) → length w ≤ n → length w ≤ k → member_list n m e w ≡ member_list k m e w
  enough zero zero w l h = refl
  enough zero (suc k) (b ∷ w) l h = absurd (omega arith)
  enough (suc n) zero (b ∷ w) l h = absurd (omega arith)
  enough zero (suc k) [] l h = nothing m k
    where
      nothing : (m : Mode) (k : ℕ) → [] ≡ member_list (suc k) m e []
      nothing Bytes k = refl
      nothing Fields k = refl
  enough (suc n) zero [] l h = nothing m n
    where
      nothing : (m : Mode) (n : ℕ) → member_list (suc n) m e [] ≡ []
      nothing Bytes n = refl
      nothing Fields n = refl
  enough (suc n) (suc k) w l h = go (member_of m (e - length w) w) (member_shorter m (e - length w) w) (enough n k)
    where
      go : (r : Option (members.Member × List ℕ)) → Shorter w r → ((v : List ℕ) → length v ≤ n → length v ≤ k → member_list n m e v ≡ member_list k m e v) → followed r (member_list n m e) ≡ followed r (member_list k m e)
      go None s f = refl
      go (Some x) s f = ap (λ z. x.0 ∷ z) (f x.1 (omega arith) (omega arith))

  -- the members of bytes that begin with one, or with none
  pub first_listed : (w : List ℕ) (p : ℕ) (x : members.Member × List ℕ) → e ≡ p + length w → member_of m p w ≡ Some x → member_list (length w) m e w ≡ x.0 ∷ member_list (length x.1) m e x.1
  first_listed w p x f g =
      let place : e - length w ≡ p = omega arith in
      let shorter : Shorter w (Some x) = subst (Shorter w) g (member_shorter m p w) in
      enough (length w) (suc (length w)) w (omega arith) (omega arith)
      ∙ ap (λ z. followed (member_of m z w) (member_list (length w) m e)) place
      ∙ ap (λ z. followed z (member_list (length w) m e)) g
      ∙ ap (λ z. x.0 ∷ z) (enough (length w) (length x.1) x.1 (omega arith) (omega arith))

  none_listed : (w : List ℕ) (p : ℕ) → e ≡ p + length w → member_of m p w ≡ None → member_list (length w) m e w ≡ []
  none_listed w p f g =
      let place : e - length w ≡ p = omega arith in
      enough (length w) (suc (length w)) w (omega arith) (omega arith)
      ∙ ap (λ z. followed (member_of m z w) (member_list (length w) m e)) place
      ∙ ap (λ z. followed z (member_list (length w) m e)) g

-- a call of `next` gives the first of the members that are left, or none is left
pub next_listed : (s t : cursors.Members) (r : Option members.Member) → Took r (member_of s.lexer.mode s.lexer.place s.lexer.rest.now) s.lexer t.lexer → MatchOption r (listed s ≡ []) (λ k. listed s ≡ k ∷ listed t)
next_listed s t r h = go (member_of s.lexer.mode s.lexer.place s.lexer.rest.now) refl h
  where
    end : ℕ
    end = s.lexer.place + length s.lexer.rest.now

    go : (o : Option (members.Member × List ℕ)) → member_of s.lexer.mode s.lexer.place s.lexer.rest.now ≡ o → Took r o s.lexer t.lexer → MatchOption r (listed s ≡ []) (λ k. listed s ≡ k ∷ listed t)
    go None e h = rw h (none_listed s.lexer.mode end s.lexer.rest.now s.lexer.place refl e)
    go (Some x) e (h, l) =
        rw h (first_listed s.lexer.mode end s.lexer.rest.now s.lexer.place x refl e
        ∙ ap (λ z. x.0 ∷ z) (rw (l.kept.mode_is, l.kept.place_is, l.rest_is) refl))
