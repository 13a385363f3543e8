-- A tree that spells a word has that word alone. Assumes nothing.
use Rattle.std.proofs.Common.{◌≡◌, ℕ, Bool, true, false, cond, not, ◌&&◌, eqb, ltb, leb, ◌↔◌, List, [], ◌∷◌, ◌++◌, length, get_or, Some, None, Option, sym, refl, ap, ◌∙◌, ⊎_elim, arith}
use Rattle.std.proofs.lemmas.List.{get_or_past}
use Rattle.std.proofs.lemmas.Bool.{and_parts, both_ways, cases_Bool, cases_lt, eq-eqb, eqb-true, leb-true, ltb-true, ne_eqb}
use Rattle.regular.specs.Language.{Regex, one, join, Word}
use Rattle.regular.specs.Positions.{some_below}
use Rattle.syntax.specs.declared.tree.Node.{Node}
use Rattle.syntax.specs.declared.tree.Node.TheVariants.{Atom, Group', Join', Either', Marked'}
use Rattle.syntax.specs.Grammar.{letter, in_a_row}
use Rattle.syntax.specs.Tree.{language, spelling, only, only_if, exact}
use Rattle.syntax.proofs.Options.{some_same, none_some}
use Rattle.syntax.proofs.Tables.{some_below_is}

module _ (c : ℕ) (codes : List Bool) where
  abbrev differs : ℕ → Bool
  differs k = cond (get_or codes k false) (not (eqb c k)) (eqb c k)

  same : (a b : Bool) → cond a (not b) b ≡ false → a ≡ b
  same a b e = grind arith

  -- a table that holds one code and no other
  pub only_held : only c codes ≡ true → (k : ℕ) → get_or codes k false ≡ eqb c k
  unfolding only
  only_held e k =
      let (bounds, none) = and_parts (leb (length codes) 256 && ltb c 256) (not (some_below 256 differs)) e in
      let (long, low) = and_parts (leb (length codes) 256) (ltb c 256) bounds in
      let l = leb-true (length codes) 256 long in
      let h = ltb-true c 256 low in
      ⊎_elim
      (λ less. same (get_or codes k false) (eqb c k) (⊎_elim (λ t. absurd (both_ways (not (some_below 256 differs)) (ap not ((some_below_is differs 256).1 (k, less, t))) none)) (λ f. f) (cases_Bool (differs k))))
      (λ past. get_or_past codes k false (omega arith) ∙ sym (ne_eqb c k (λ z. omega arith)))
      (cases_lt k 256)

one_word : (s : ℕ → Bool) (c : ℕ) → ((k : ℕ) → s k ≡ eqb c k) → (v : List ℕ) → Word (one s) v ↔ (v ≡ c ∷ [])
one_word s c h v = (λ (k, e, t). e ∙ ap (λ z. z ∷ []) (sym (eqb-true c k (sym (h k) ∙ t))), λ e. (c, e, h c ∙ eq-eqb c c refl))

join_words : (a b : Regex) (x y : List ℕ) → ((v : List ℕ) → Word a v ↔ (v ≡ x)) → ((v : List ℕ) → Word b v ↔ (v ≡ y)) → (v : List ℕ) → Word (join a b) v ↔ (v ≡ x ++ y)
join_words a b x y g h v = (λ (s, t, e, p, q). e ∙ ap (λ z. z ++ t) ((g s).0 p) ∙ ap (λ z. x ++ z) ((h t).0 q), λ e. (x, y, e, (g x).1 refl, (h y).1 refl))

pub spelled_alone : (n : Node) (w : List ℕ) → exact n ≡ true → spelling n ≡ Some w → (v : List ℕ) → Word (language n) v ↔ (v ≡ w)
spelled_alone (Atom a) w x e v = go a.single x e
  where
    go : (o : Option ℕ) → only_if o a.codes ≡ true → letter o ≡ Some w → Word (language (Atom a)) v ↔ (v ≡ w)
    go None x e = none_some e
    go (Some c) x e = rw (← some_same e) (one_word (λ k. get_or a.codes k false) c (only_held c a.codes x) v)
spelled_alone (Join' p a q b) w x e v = go (spelling a) (spelling b) refl refl e (spelled_alone a) (spelled_alone b)
  where
    go : (o u : Option (List ℕ)) → spelling a ≡ o → spelling b ≡ u → in_a_row o u ≡ Some w → ((w : List ℕ) → exact a ≡ true → spelling a ≡ Some w → (v : List ℕ) → Word (language a) v ↔ (v ≡ w)) → ((w : List ℕ) → exact b ≡ true → spelling b ≡ Some w → (v : List ℕ) → Word (language b) v ↔ (v ≡ w)) → Word (join (language a) (language b)) v ↔ (v ≡ w)
    go None u f g e i j = none_some e
    go (Some s) None f g e i j = none_some e
    go (Some s) (Some t) f g e i j = let (y, z) = and_parts (exact a) (exact b) x in rw (← some_same e) (join_words (language a) (language b) s t (i s y f) (j t z g) v)
spelled_alone (Group' p a) w x e v = none_some e
spelled_alone (Either' p a q b) w x e v = none_some e
spelled_alone (Marked' k p a) w x e v = none_some e
