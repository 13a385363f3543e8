-- The lists of tails have each tail of kinds, once. Assumes nothing.
use Rattle.std.proofs.Common.{◌≡◌, ℕ, zero, suc, ◌<◌, ◌≤◌, Bool, true, cond, ◌⊎◌, ◌↔◌, List, [], ◌∷◌, ◌++◌, length, sym, refl, ap, ◌∙◌, subst, ap₂, inl, inr, ⊎_elim, append-nil, arith}
use Rattle.std.specs.List.{flat_map}
use mathlib.Core.Logic.Iff.{rfl as same}
use Rattle.regular.specs.Language.{Regex, Inhabited}
use Rattle.regular.specs.Positions.{tailed}
use Rattle.regular.proofs.Iff.{◌⨾◌, sum}
use Rattle.regular.proofs.Tails.{tails_tailed}
use Rattle.distance.specs.Extremes.{Distance, infinite, finite, lesser, LeastIfAny}
use Rattle.distance.specs.Kinds.{OneKind, SameKinds, Member, Apart, TailsOfKinds}
use Rattle.distance.specs.Found.{first_alike, kinds, longer, fronted, tails, tails_upto, least_of, when}
use Rattle.distance.proofs.Alike.{Bounded, OfKinds, first_is, like_elim, like_length, like_tailed, tailed_is, tailed_cons, chosen_tail}
use Rattle.distance.proofs.Least.{self_least, lesser_both, least_if_like}

pub mem_append : {A : Type 0} (w : A) (xs ys : List A) → Member w (xs ++ ys) ↔ (Member w xs ⊎ Member w ys)
mem_append w [] ys = (inr, ⊎_elim absurd (λ m. m))
mem_append w (x ∷ xs) ys = grind (arith, mem_append w xs ys)

-- what holds of some member: of the first, or of one behind it
pub some_member : {A : Type 0} (P : A → Type 0) (x : A) (xs : List A) → (P x ⊎ ((y : A) × Member y xs × P y)) ↔ ((y : A) × Member y (x ∷ xs) × P y)
some_member {A} P x xs = (⊎_elim (λ p. (x, inl refl, p)) (λ (y, m, p). (y, inr m, p)), from)
  where
    from : (y : A) × Member y (x ∷ xs) × P y → P x ⊎ ((y : A) × Member y xs × P y)
    from (y, inl e, p) = inl (subst P e p)
    from (y, inr m, p) = inr (y, m, p)

pub mem_joined : {A B : Type 0} (f : A → List B) (w : B) (xs : List A) → Member w (flat_map f xs) ↔ ((x : A) × Member x xs × Member w (f x))
mem_joined f w [] = (absurd, λ (x, m, _). absurd m)
mem_joined f w (x ∷ xs) = mem_append w (f x) (flat_map f xs) ⨾ sum same (mem_joined f w xs) ⨾ some_member (λ y. Member w (f y)) x xs

mem_cond : {A : Type 0} (b : Bool) (w x : A) → Member w (cond b (x ∷ []) []) ↔ ((b ≡ true) × (w ≡ x))
mem_cond b w x = grind arith

module _ (r : Regex) where
  pub tailed_nil : tailed r [] ≡ true
  tailed_nil = (tailed_is r []).1 (0, omega arith, refl)

  module _ (codes : ℕ) where
    pub mem_kinds : (n c : ℕ) → Member c (kinds r n) ↔ ((c < n) × (first_alike r c c ≡ true))
    mem_kinds zero c = (absurd, λ (l, _). absurd (omega arith))
    mem_kinds (suc n) c = grind (arith, mem_append c (kinds r n) (cond (first_alike r n n) (n ∷ []) []), mem_kinds n c, mem_cond (first_alike r n n) c n)

    mem_fronted : (v w : List ℕ) → Member w (fronted r codes v) ↔ ((c : ℕ) × ((c < codes) × (first_alike r c c ≡ true)) × ((tailed r (c ∷ v) ≡ true) × (w ≡ c ∷ v)))
    mem_fronted v w =
        mem_joined (longer r v) w (kinds r codes)
        ⨾ (λ (c, m, n). (c, (mem_kinds codes c).0 m, (mem_cond (tailed r (c ∷ v)) w (c ∷ v)).0 n), λ (c, m, n). (c, (mem_kinds codes c).1 m, (mem_cond (tailed r (c ∷ v)) w (c ∷ v)).1 n))

    tails_listed : (n : ℕ) (v : List ℕ) → Member v (tails r codes n) → (length v ≡ n) × (OfKinds r codes v × (tailed r v ≡ true))
    tails_listed zero v m = grind (arith, tailed_nil)
    tails_listed (suc n) v m =
        let (x, k, a) = (mem_joined (fronted r codes) v (tails r codes n)).0 m in
        let (c, (l, f), (t, e)) = (mem_fronted x v).0 a in
        let (long, (g, _)) = tails_listed n x k in
        rw e (ap suc long, (((l, f), g), t))

    tails_has : (n : ℕ) (v : List ℕ) → length v ≡ n → OfKinds r codes v → tailed r v ≡ true → Member v (tails r codes n)
    tails_has zero [] e h t = inl refl
    tails_has zero (c ∷ v) e h t = absurd (omega arith)
    tails_has (suc n) [] e h t = absurd (omega arith)
    tails_has (suc n) (c ∷ v) e ((l, f), h) t =
        (mem_joined (fronted r codes) (c ∷ v) (tails r codes n)).1 (v, tails_has n v (omega arith) h (tailed_cons r c v t).1, (mem_fronted v (c ∷ v)).1 (c, (l, f), (t, refl)))

    pub upto_listed : (n : ℕ) (v : List ℕ) → Member v (tails_upto r codes n) → (length v ≤ n) × (OfKinds r codes v × (tailed r v ≡ true))
    upto_listed zero v m = let (e, h) = tails_listed zero v m in (omega arith, h)
    upto_listed (suc n) v m = grind (arith, mem_append v (tails_upto r codes n) (tails r codes (suc n)), upto_listed n v, tails_listed (suc n) v)

    pub upto_has : (n : ℕ) (v : List ℕ) → length v ≤ n → OfKinds r codes v → tailed r v ≡ true → Member v (tails_upto r codes n)
    upto_has zero v l h t = tails_has zero v (omega arith) h t
    upto_has (suc n) v l h t = grind (arith, mem_append v (tails_upto r codes n) (tails r codes (suc n)), upto_has n v, tails_has (suc n) v)

-- no two of the list are equal
abbrev Distinct : {A : Type 0} → List A → Type 0
Distinct [] = Unit {0}
Distinct (x ∷ xs) = (Member x xs → ⊥) × Distinct xs

distinct_append : {A : Type 0} (xs ys : List A) → Distinct xs → Distinct ys → ((w : A) → Member w xs → Member w ys → ⊥) → Distinct (xs ++ ys)
distinct_append [] ys d e f = e
distinct_append (x ∷ xs) ys (n, d) e f =
    (λ m. ⊎_elim n (f x (inl refl)) ((mem_append x xs ys).0 m), distinct_append xs ys d e (λ w m. f w (inr m)))

distinct_joined : {A B : Type 0} (f : A → List B) (xs : List A) → Distinct xs → ((x : A) → Distinct (f x)) → ((x y : A) (w : B) → Member w (f x) → Member w (f y) → x ≡ y) → Distinct (flat_map f xs)
distinct_joined f [] d e g = tt
distinct_joined f (x ∷ xs) (n, d) e g =
    distinct_append (f x) (flat_map f xs) (e x) (distinct_joined f xs d e g)
    (λ w m k. let (y, l, o) = (mem_joined f w xs).0 k in n (subst (λ z. Member z xs) (sym (g x y w m o)) l))

distinct_cond : {A : Type 0} (b : Bool) (x : A) → Distinct (cond b (x ∷ []) [])
distinct_cond b x = grind arith

module _ (r : Regex) (codes : ℕ) where
  kinds_once : (n : ℕ) → Distinct (kinds r n)
  kinds_once zero = tt
  kinds_once (suc n) =
      distinct_append (kinds r n) _ (kinds_once n) (distinct_cond (first_alike r n n) n)
      (λ c m k. omega (arith, ((mem_kinds r codes n c).0 m).0, ((mem_cond (first_alike r n n) c n).0 k).1))

  fronted_once : (v : List ℕ) → Distinct (fronted r codes v)
  fronted_once v =
      distinct_joined (longer r v) (kinds r codes) (kinds_once codes) (λ c. distinct_cond (tailed r (c ∷ v)) (c ∷ v))
      (λ c d w m k. cc (((mem_cond (tailed r (c ∷ v)) w (c ∷ v)).0 m).1, ((mem_cond (tailed r (d ∷ v)) w (d ∷ v)).0 k).1))

  tails_once : (n : ℕ) → Distinct (tails r codes n)
  tails_once zero = (λ m. m, tt)
  tails_once (suc n) =
      distinct_joined (fronted r codes) (tails r codes n) (tails_once n) fronted_once
      (λ x y w m k. let (_, _, (_, e)) = (mem_fronted r codes x w).0 m in let (_, _, (_, f)) = (mem_fronted r codes y w).0 k in cc)

  upto_once : (n : ℕ) → Distinct (tails_upto r codes n)
  upto_once zero = (λ m. m, tt)
  upto_once (suc n) =
      distinct_append (tails_upto r codes n) (tails r codes (suc n)) (upto_once n) (tails_once (suc n))
      (λ w m k. omega (arith, (upto_listed r codes n w m).0, (tails_listed r codes (suc n) w k).0))

-- two words of least codes that are the same word of kinds are equal
module _ (r : Regex) (codes : ℕ) where
  least_same : (c d : ℕ) → first_alike r c c ≡ true → first_alike r d d ≡ true → OneKind r c d → c ≡ d
  least_same c d f g s =
      let no_less : c < d → ⊥ = λ l. (first_is r d d).0 g c l s in
      let no_more : d < c → ⊥ = λ l. (first_is r c c).0 f d l (λ q. sym (s q)) in
      omega arith

  word_same : (v w : List ℕ) → OfKinds r codes v → OfKinds r codes w → SameKinds r v w → v ≡ w
  word_same v w g h l = like_elim r (λ v w. OfKinds r codes v → OfKinds r codes w → v ≡ w) (λ _ _. refl) (λ c d v w s l e ((_, f), g) ((_, f'), h). ap₂ ◌∷◌ (least_same c d f f' s) (e g h)) v w l g h

  apart : (list : List (List ℕ)) → ((v : List ℕ) → Member v list → OfKinds r codes v) → Distinct list → Apart r list
  apart [] f d = tt
  apart (v ∷ vs) f (n, d) = (
    λ w m l. n (subst (λ (z : List ℕ). Member z vs) (sym (word_same v w (f v (inl refl)) (f w (inr m)) l)) m),
    apart vs (λ w m. f w (inr m)) d,
  )

  -- a tail no longer than n is like a listed one
  pub listed_as : Bounded r codes → (n : ℕ) (v : List ℕ) → tailed r v ≡ true → length v ≤ n → (w : List ℕ) × SameKinds r v w × OfKinds r codes w × Member w (tails_upto r codes n)
  listed_as B n v t l =
      let (w, like, c) = chosen_tail r codes B v [] (rw append-nil t) in
      (w, like, c, upto_has r codes n w (omega (arith, like_length r v w like)) c (cc (like_tailed r v w like)))

  -- the list has each tail, as a word of kinds, once
  pub tails_listed_once : Inhabited r → Bounded r codes → (n : ℕ) → TailsOfKinds r n (tails_upto r codes n)
  tails_listed_once h B n = record {
    tails = λ v m. let (l, (_, t)) = upto_listed r codes n v m in ((tails_tailed r h v).0 t, l);
    every = λ v t l. let (w, like, _, m) = listed_as B n v ((tails_tailed r h v).1 t) l in (w, m, like);
    once = apart (tails_upto r codes n) (λ v m. (upto_listed r codes n v m).1.0) (upto_once r codes n);
  }

pub when_is : (b : Bool) (d : Distance) (n : ℕ) → when b d ≡ finite n ↔ ((b ≡ true) × (d ≡ finite n))
when_is b d n = grind arith

-- the least over a list
pub least_of_is : (f : List ℕ → Distance) (ws : List (List ℕ)) → LeastIfAny (λ n. (w : List ℕ) × Member w ws × (f w ≡ finite n)) (least_of f ws)
least_of_is f [] = λ n (w, m, _). m
least_of_is f (x ∷ ws) =
    least_if_like _ _ (λ n. some_member (λ w. f w ≡ finite n) x ws) _ (lesser_both _ _ (f x) (least_of f ws) (self_least (f x)) (least_of_is f ws))

pub lesser_none : (d : Distance) → lesser d infinite ≡ d
lesser_none d = grind arith

lesser_assoc : (a b c : Distance) → lesser a (lesser b c) ≡ lesser (lesser a b) c
lesser_assoc a b c = grind arith

pub least_of_push : (f : List ℕ → Distance) (ws : List (List ℕ)) (w : List ℕ) → least_of f (ws ++ w ∷ []) ≡ lesser (least_of f ws) (f w)
least_of_push f [] w = lesser_none (f w)
least_of_push f (x ∷ ws) w = ap (lesser (f x)) (least_of_push f ws w) ∙ lesser_assoc (f x) (least_of f ws) (f w)
