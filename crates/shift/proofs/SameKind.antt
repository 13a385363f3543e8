-- The kinds of codes, as the tables tell them. Assumes nothing.
use Rattle.std.proofs.Common.{◌≡◌, ℕ, zero, suc, ◌+◌, ◌<◌, ◌≤◌, Bool, true, false, cond, not, ◌||◌, eqb, List, [], ◌∷◌, ◌++◌, length, get_or, take, sym, refl, ap, ◌∙◌, ap₂, ⊎_elim, append-nil, add-one, arith}
use mathlib.Core.Path.{fun_ext}
use Rattle.std.specs.List.{list_any}
use Rattle.std.proofs.lemmas.Grind.{get_or_default_zero}
use Rattle.std.proofs.lemmas.List.Folds.{list_any_more}
use Rattle.std.proofs.lemmas.Bool.{cases_lt, eq-eqb, eqb-true}
use Rattle.regular.specs.Language.{Regex}
use Rattle.regular.specs.Positions.{holds, size}
use Rattle.regular.specs.Sets.{bit, as_set, held_of}
use Rattle.regular.proofs.Ranges.{holds_in}
use Rattle.regular.proofs.Sets.{as_set_bit, length_held, held_at}
use Rattle.distance.specs.Kinds.{OneKind}
use Rattle.distance.specs.Found.{alike, first_alike, kinds}
use Rattle.distance.proofs.Alike.{alike_is, same_tests}

module _ (r : Regex) where
  module _ (few : size r ≤ 63) where
    -- codes are held by the same positions just if they are of one kind
    same_sets : (c d : ℕ) → c < 256 → d < 256 → eqb (get_or (held_of r) d 0) (get_or (held_of r) c 0) ≡ alike r d c
    same_sets c d k l =
        same_tests _ _
        (λ e. (alike_is r d c).1 (same_held (sym (held_at r d l) ∙ eqb-true _ _ e ∙ held_at r c k)))
        (λ a. eq-eqb _ _ (held_at r d l ∙ ap as_set (fun_ext ((alike_is r d c).0 a)) ∙ sym (held_at r c k)))
      where
        far : (q x : ℕ) → 64 ≤ q → holds r 0 q x ≡ true → ⊥
        far q x h t = omega (arith, holds_in r 0 q x t)

        same_held : as_set (λ q. holds r 0 q d) ≡ as_set (λ q. holds r 0 q c) → OneKind r d c
        same_held e q =
            ⊎_elim
            (λ h. sym (as_set_bit (λ q. holds r 0 q d) q h) ∙ ap (λ s. bit s q) e ∙ as_set_bit (λ q. holds r 0 q c) q h)
            (λ h. same_tests _ _ (λ t. absurd (far q d h t)) (λ t. absurd (far q c h t)))
            (cases_lt q 64)

    none_same : (c : ℕ) → c < 256 → (n : ℕ) → n ≤ c → not (list_any (λ s. eqb s (get_or (held_of r) c 0)) (take n (held_of r))) ≡ first_alike r c n
    none_same c k zero l = refl
    none_same c k (suc n) l =
        ap not (ap (λ m. list_any (λ s. eqb s (get_or (held_of r) c 0)) (take m (held_of r))) (sym (add-one n)) ∙ list_any_more (λ s. eqb s (get_or (held_of r) c 0)) (held_of r) n 0 (omega (arith, length_held r)))
        ∙ not_either (list_any (λ s. eqb s (get_or (held_of r) c 0)) (take n (held_of r))) (eqb (get_or (held_of r) n 0) (get_or (held_of r) c 0))
        ∙ ap₂ (λ a b. cond a false b) (same_sets c n k (omega arith)) (none_same c k n (omega arith))
      where
        not_either : (a b : Bool) → not (a || b) ≡ cond b false (not a)
        not_either true true = refl
        not_either true false = refl
        not_either false true = refl
        not_either false false = refl

    -- no code before c is held by the same positions, as the table that is read tells
    pub first_by : (table : List ℕ) (c s : ℕ) → table ≡ held_of r → c < 256 → s ≡ get_or table c s → not (list_any (λ x. eqb x s) (take c table)) ≡ first_alike r c c
    first_by table c s is k e =
        let f : s ≡ get_or (held_of r) c 0 = e ∙ get_or_default_zero table c s (omega (arith, ap length is, length_held r)) ∙ ap (λ t. get_or t c 0) is in
        ap₂ (λ t x. not (list_any (λ y. eqb y x) (take c t))) is f ∙ none_same c k c (omega arith)

  -- one code more
  module _ (xs : List ℕ) (n : ℕ) (inv : xs ≡ kinds r n) where
    pub kinds_yes : first_alike r n n ≡ true → xs ++ n ∷ [] ≡ kinds r (n + 1)
    kinds_yes e = rw (add-one, e, inv)

    pub kinds_no : first_alike r n n ≡ false → xs ≡ kinds r (n + 1)
    kinds_no e = rw (add-one, e, append-nil) inv
