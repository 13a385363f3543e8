-- The distances as they are reckoned from a list. Assumes nothing.
use Rattle.std.proofs.Common.{◌≡◌, ℕ, ◌+◌, ◌-◌, ◌≤◌, Bool, true, false, cond, not, ◌&&◌, ◌||◌, eqb, ltb, List, [], ◌∷◌, length, take, min, is_some, Some, None, Option, sym, refl, ap, ◌∙◌, ap₂, arith}
use lib.Pointwise.{pointwise}
use Rattle.std.specs.Bool.{then_some}
use Rattle.std.specs.List.{list_any, filter_map, cons_option, fold, reduce}
use Rattle.std.proofs.lemmas.Bool.{eq-eqb, eqb-true}
use Rattle.std.proofs.lemmas.Bool.Decides.{nat_tests}
use Rattle.distance.specs.Extremes.{Distance, infinite, finite, lesser}
use Rattle.distance.proofs.Alike.{same_tests}
use Rattle.distance.specs.Found.{head_of, beyond, first_of, opens}
use Rattle.shift.specs.Led.{Led, words}
use Rattle.shift.specs.Excess.{excess_of}
use Rattle.shift.specs.Excess.{distance}

-- a head stands where the first symbols are equal to it
head_pointwise : (v w : List ℕ) → pointwise eqb (take (length v) w) v ≡ head_of v w
head_pointwise [] w = refl
head_pointwise (c ∷ v) [] = refl
head_pointwise (c ∷ v) (d ∷ w) = ap₂ ◌&&◌ (same_tests _ _ (λ t. eq-eqb c d (sym (eqb-true d c t))) (λ t. eq-eqb d c (sym (eqb-true c d t)))) (head_pointwise v w)

longer_test : (n a b : ℕ) → n + a ≡ b → not (eqb n 0) ≡ ltb a b
longer_test n a b e = grind (arith, nat_tests)

pub excess_none : (v w : List ℕ) → pointwise eqb (take (length v) w) v ≡ false → None ≡ excess_of v w
excess_none v w e = let h : head_of v w ≡ false = sym (head_pointwise v w) ∙ e in rw h refl

pub excess_some : (v w x : List ℕ) → pointwise eqb (take (length v) w) v ≡ true → length x + length v ≡ length w → then_some (not (eqb (length x) 0)) (length x) ≡ excess_of v w
excess_some v w x e long =
    let h : head_of v w ≡ true = sym (head_pointwise v w) ∙ e in
    let n : length x ≡ length w - length v = omega arith in
    rw h (ap₂ then_some (longer_test (length x) (length v) (length w) long) n)

distance_excess : (v w : List ℕ) → distance (excess_of v w) ≡ beyond v w
distance_excess v w = go (head_of v w && ltb (length v) (length w))
  where
    go : (b : Bool) → distance (then_some b (length w - length v)) ≡ cond b (finite (length w - length v)) infinite
    go true = refl
    go false = refl

pub opens_any : (k : ℕ) (v : List ℕ) (ts : List Led) → list_any (λ (t : Led). eqb (length t.codes) k && is_some (excess_of v t.codes)) ts ≡ opens k (words ts) v
opens_any k v [] = refl
opens_any k v (t ∷ ts) = ap₂ ◌||◌ (ap (λ b. eqb (length t.codes) k && b) (go (head_of v t.codes && ltb (length v) (length t.codes)))) (opens_any k v ts)
  where
    go : (b : Bool) → is_some (then_some b (length t.codes - length v)) ≡ b
    go true = refl
    go false = refl

-- a word as long as the longest of the tails, or longer, is a proper head of none of them
pub opens_none : (k : ℕ) (v : List ℕ) → k ≤ length v → (ws : List (List ℕ)) → opens k ws v ≡ false
opens_none k v l [] = refl
opens_none k v l (w ∷ ws) = grind (arith, nat_tests, opens_none k v l ws)

lesser_assoc : (a b c : Distance) → lesser a (lesser b c) ≡ lesser (lesser a b) c
lesser_assoc infinite b c = refl
lesser_assoc (finite m) infinite c = refl
lesser_assoc (finite m) (finite n) infinite = refl
lesser_assoc (finite m) (finite n) (finite o) = ap finite (omega arith)

module _ (v : List ℕ) where
  abbrev excesses : List Led → List ℕ
  excesses ts = filter_map (λ (t : Led). excess_of v t.codes) ts

  least_fold : (ts : List Led) (n : ℕ) → finite (fold min n (excesses ts)) ≡ lesser (finite n) (first_of (words ts) v)
  least_fold [] n = refl
  least_fold (t ∷ ts) n = go (excess_of v t.codes) (distance_excess v t.codes) (least_fold ts)
    where
      go : (o : Option ℕ) → distance o ≡ beyond v t.codes → ((m : ℕ) → finite (fold min m (excesses ts)) ≡ lesser (finite m) (first_of (words ts) v))
          → finite (fold min n (cons_option o (excesses ts))) ≡ lesser (finite n) (lesser (beyond v t.codes) (first_of (words ts) v))
      go None e rest = rest n ∙ ap (λ d. lesser (finite n) (lesser d (first_of (words ts) v))) e
      go (Some m) e rest = rest (min n m) ∙ sym (lesser_assoc (finite n) (finite m) (first_of (words ts) v)) ∙ ap (λ d. lesser (finite n) (lesser d (first_of (words ts) v))) e

  pub first_reduced : (ts : List Led) → distance (reduce min (excesses ts)) ≡ first_of (words ts) v
  first_reduced [] = refl
  first_reduced (t ∷ ts) = go (excess_of v t.codes) (distance_excess v t.codes) (first_reduced ts)
    where
      go : (o : Option ℕ) → distance o ≡ beyond v t.codes → distance (reduce min (excesses ts)) ≡ first_of (words ts) v → distance (reduce min (cons_option o (excesses ts))) ≡ lesser (beyond v t.codes) (first_of (words ts) v)
      go None e rest = rest ∙ ap (λ d. lesser d (first_of (words ts) v)) e
      go (Some m) e rest = least_fold ts m ∙ ap (λ d. lesser d (first_of (words ts) v)) e
