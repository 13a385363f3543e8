-- The table of the codes that a simple atom holds. Assumes nothing.
use Rattle.std.proofs.Common.{◌≡◌, ℕ, zero, suc, ◌+◌, ◌-◌, ◌*◌, ◌<◌, ◌≤◌, Bool, true, false, cond, not, ◌&&◌, eqb, leb, ◌↔◌, ◌⊎◌, inl, inr, List, length, get_or, IfSome, Some, None, Option, sym, refl, ap, ◌∙◌, subst, ⊎_elim, arith, rules}
use Rattle.std.specs.Array.{IsFromFnResult, IsFromFnResultFrom}
use denote.Param.Members.{Mut}
use Rattle.std.specs.Fn.{Called}
use Rattle.std.specs.Cmp.{booleans_Decides}
use Rattle.std.specs.List.{IsAnyAnswer}
use Rattle.std.proofs.lemmas.List.{get_or_default, get_or_past}
use Rattle.std.proofs.lemmas.List.Elements.{contains_decides}
use Rattle.std.proofs.lemmas.Bool.{cases_lt, lt-leb, le-leb, lt-ltb, leb-true, and_parts}
use Rattle.std.proofs.lemmas.Bool.Decides.{Decides-below_or, nat_tests}
use Rattle.regular.specs.Positions.{some_below}
use Rattle.syntax.specs.declared.mode.Mode.{Mode}
use Rattle.syntax.specs.declared.mode.Mode.TheVariants.{Bytes, Fields}
use Rattle.syntax.specs.Grammar.{Simple, dot, unit, last, more, single, range, pair, top, code, digit, held, holds, bare}
use Rattle.syntax.specs.Grammar.{set as a_set}
use Rattle.syntax.specs.Tree.{only, only_if}
use Rattle.syntax.specs.Tokens.{Table}
use Rattle.syntax.proofs.Options.{some_same, none_some}

pub top_low : (m : Mode) → top m ≤ 255
top_low m = search rules

-- an atom that is written as a value and no more holds that value and no other
none_below : (n : ℕ) (f : ℕ → Bool) → ((k : ℕ) → f k ≡ false) → some_below n f ≡ false
none_below zero f h = refl
none_below (suc n) f h = grind (arith, none_below n f h)

within : (c t k : ℕ) → c ≤ t → (leb k t && eqb c k) ≡ eqb c k
within c t k l = grind (arith, nat_tests)

digit_low : (a : ℕ) → digit a ≡ true → a ≤ 57
digit_low a e = leb-true a 57 (and_parts (leb 48 a) (leb a 57) e).1

bare_held : (m : Mode) (s : Simple m) (c : ℕ) → bare m s ≡ Some c → c < 256 → (k : ℕ) → holds m s k ≡ eqb c k
bare_held m dot c e l k = none_some e
bare_held Bytes (unit a x) c e l k = let d : code Bytes x ≡ c = some_same e in rw d (within c 255 k (omega arith))
bare_held Fields (unit a x) c e l k = absurd a
bare_held Bytes (a_set n xs) c e l k = none_some e
bare_held Fields (a_set true xs) c e l k = none_some e
bare_held Fields (a_set false (last (single (pair a b p q)))) c e l k =
    let d : 10 * (a - 48) + (b - 48) ≡ c = some_same e in
    rw d (within c 99 k (omega (arith, digit_low a p, digit_low b q)))
bare_held Fields (a_set false (last (range x y))) c e l k = none_some e
bare_held Fields (a_set false (more x xs)) c e l k = none_some e

only_true : (c : ℕ) (codes : List Bool) → c < 256 → length codes ≡ 256 → ((k : ℕ) → get_or codes k false ≡ eqb c k) → only c codes ≡ true
unfolding only
only_true c codes l h e =
    rw (le-leb (length codes) 256 (omega arith), lt-ltb c 256 l) (ap not (none_below 256 (λ k. cond (get_or codes k false) (not (eqb c k)) (eqb c k)) (λ k. rw (e k) (never (eqb c k)))))
  where
    never : (b : Bool) → cond b (not b) b ≡ false
    never true = refl
    never false = refl

pub single_exact : (m : Mode) (s : Simple m) (codes : List Bool) → Table m s codes → length codes ≡ 256 → (o : Option ℕ) → o ≡ bare m s → IfSome o (λ c. c < 256) → only_if o codes ≡ true
single_exact m s codes h l None e b = refl
single_exact m s codes h l (Some c) e b = only_true c codes b l (λ k. h k ∙ bare_held m s c (sym e) b k)

pub some_below_is : (f : ℕ → Bool) (n : ℕ) → some_below n f ≡ true ↔ ((k : ℕ) × (k < n) × (f k ≡ true))
some_below_is f n = Decides-below_or f (λ k. f k ≡ true) (λ m. some_below m f) (λ k. (λ e. e, λ e. e)) refl (λ _. refl) n

same_or_later : (a k : ℕ) → a ≤ k → (a ≡ k) ⊎ (a < k)
same_or_later a k l = ⊎_elim inr (λ h. inl (omega arith)) (cases_lt a k)

same_test : (a b : Bool) → (a ≡ true → b ≡ true) → (b ≡ true → a ≡ true) → a ≡ b
same_test a b f g = search rules

-- a search of the table for a code that is held: no code above the largest is
pub any_held : (m : Mode) (s : Simple m) (codes : List Bool) (r : Bool) → Table m s codes → length codes ≡ 256 → IsAnyAnswer (λ y b. mathlib.Core.Bool.beq y true ≡ b) codes r → r ≡ some_below (top m + 1) (holds m s)
any_held m s codes r h l a =
    let found = contains_decides _ booleans_Decides codes true r a in
    let some = some_below_is (holds m s) (top m + 1) in
    same_test r _
    (λ e. let (k, _, is) = found.0 e in let b : holds m s k ≡ true = sym (h k) ∙ is false in let t = leb-true k (top m) (and_parts (leb k (top m)) (held m s k) b).0 in some.1 (k, omega arith, b))
    (λ e. let (k, t, b) = some.0 e in let in_table : k < length codes = omega (arith, top_low m) in found.1 (k, in_table, λ d. get_or_default codes k d false in_table ∙ h k ∙ b))

-- the table that is made by a call at each code
module _ {F : Type 0} {g : Mut F (ℕ × Unit {0}) Bool} {f : F} (m : Mode) (s : Simple m) (ys : List Bool) where
  made : ((x : ℕ) (y : Bool) (q : F) → x < 256 → Called g f (x, tt) y q → (q ≡ f) × (y ≡ holds m s x)) → (n i : ℕ) → i + n ≡ 256 → (p : F) → p ≡ f → IsFromFnResultFrom g p ys i n → (k : ℕ) → i ≤ k → k < i + n → get_or ys k false ≡ holds m s k
  made calls zero i e p same r k l h = absurd (omega arith)
  made calls (suc n) i e p same (q, y, at, called, others) k l h =
      let (stays, is) = calls i y q (omega arith) (subst (λ p. Called g p (i, tt) y q) same called) in
      ⊎_elim
      (λ here. ap (λ k. get_or ys k false) (sym here) ∙ at.1 false ∙ is ∙ ap (holds m s) here)
      (λ past. made calls n (i + 1) (omega arith) q stays others k (omega arith) (omega arith))
      (same_or_later i k l)

  pub table_made : IsFromFnResult g f ys 256 → ((x : ℕ) (y : Bool) (q : F) → x < 256 → Called g f (x, tt) y q → (q ≡ f) × (y ≡ holds m s x)) → Table m s ys
  table_made r calls c =
      ⊎_elim
      (λ less. made calls 256 0 refl f refl r.each c (omega arith) less)
      (λ past. get_or_past ys c false (omega (arith, r.long)) ∙ ap (λ z. z && held m s c) (sym (lt-leb c (top m) (omega (arith, top_low m)))))
      (cases_lt c 256)
