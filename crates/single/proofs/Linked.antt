-- Rows that gain a set, one position after another. Assumes nothing.
use Rattle.std.proofs.Common.{◌≡◌, ℕ, ◌<◌, Bool, true, false, cond, ◌||◌, eqb, List, [], ◌∷◌, ◌++◌, length, get_or, set, sym, refl, ap, ◌∙◌, subst, ⊎_elim, arith}
use Rattle.std.specs.List.{list_any}
use Rattle.std.proofs.Math.Bool.{or-false}
use Rattle.std.proofs.lemmas.Bool.{cases_eq, eq-eqb, ne_eqb}
use Rattle.std.proofs.lemmas.List.{length-set, get_or-set_same, get_or-set_other}
use Rattle.std.proofs.lemmas.List.Folds.{list_any-append}
use lib.Bits.{bit_or, or_self, or_zero_r}
use Rattle.positions.proofs.Unions.{or_assoc}

again : (x s : ℕ) (b : Bool) → bit_or (bit_or x (cond b s 0)) s ≡ bit_or x s
again x s true = or_assoc x s s ∙ ap (bit_or x) (or_self s)
again x s false = ap (λ z. bit_or z s) (or_zero_r x)

-- each row whose number is among ps has gained s
abbrev pub Linked : List ℕ → List ℕ → ℕ → List ℕ → Type 0
Linked old rows s ps = (k : ℕ) → k < length rows → get_or rows k 0 ≡ bit_or (get_or old k 0) (cond (list_any (λ p. eqb p k) ps) s 0)

module _ (old rows : List ℕ) (s : ℕ) (ps : List ℕ) (h : Linked old rows s ps) (p : ℕ) where
  among : (k : ℕ) → list_any (λ q. eqb q k) (ps ++ p ∷ []) ≡ (list_any (λ q. eqb q k) ps || eqb p k)
  among k = list_any-append (λ q. eqb q k) ps (p ∷ []) ∙ ap (λ x. list_any (λ q. eqb q k) ps || x) (or-false (eqb p k))

  pub linked_more : (x : ℕ) → x ≡ bit_or (get_or rows p 0) s → p < length rows → Linked old (set rows p x) s (ps ++ p ∷ [])
  linked_more x is l k lt = ⊎_elim (λ same. subst Row (sym same) here) other (cases_eq k p)
    where
      Row : ℕ → Type 0
      Row k = get_or (set rows p x) k 0 ≡ bit_or (get_or old k 0) (cond (list_any (λ q. eqb q k) (ps ++ p ∷ [])) s 0)

      here : Row p
      here = rw (get_or-set_same rows p x 0 l, among p, is, h p l, again (get_or old p 0) s) (grind (arith, eq-eqb p p refl))

      other : (k ≡ p → ⊥) → Row k
      other ne = rw (get_or-set_other rows p k x 0 ne, among k, h k (omega (arith, length-set rows p x))) (grind (arith, ne_eqb p k, or-false (list_any (λ q. eqb q k) ps)))
