-- Codes of one kind, and the words of kinds that stand for words. Assumes nothing.
use Rattle.std.proofs.Common.{◌≡◌, ℕ, zero, suc, ◌+◌, ◌<◌, ◌≤◌, Bool, true, false, cond, not, ◌&&◌, ◌↔◌, List, [], ◌∷◌, ◌++◌, length, sym, refl, ap, ◌∙◌, ap₂, ⊎_elim, arith}
use mathlib.Core.Path.{fun_ext}
use mathlib.Core.Logic.Iff.{rfl as same}
use Rattle.std.proofs.lemmas.Bool.Decides.{Decides-not, Decides-below_and, same_from_decides}
use Rattle.regular.specs.Language.{Regex, one, join, either, star, plus, maybe}
use Rattle.regular.specs.Positions.{size, holds, some_below, arrow, reached, tailed}
use Rattle.distance.specs.Kinds.{OneKind, SameKinds}
use Rattle.distance.specs.Found.{Within, alike_below, alike, first_alike}
use Rattle.regular.proofs.Iff.{◌⨾◌, and_true, or_true}
use Rattle.regular.proofs.Written.{holds_out}
use Rattle.distance.proofs.Least.{search_least}
use Rattle.regular.proofs.Reading.{some_below_is}

agree : (x y : Bool) → cond x y (cond y false true) ≡ true ↔ x ≡ y
agree x y = grind arith

-- every code that a position holds is below the bound
abbrev pub Bounded : Regex → ℕ → Type 0
Bounded r codes = (q c : ℕ) → holds r 0 q c ≡ true → c < codes

pub within_bounded : (codes : ℕ) (r : Regex) → Within codes r → (i q c : ℕ) → holds r i q c ≡ true → c < codes
within_bounded codes (one s) w i q c h = w c (and_true.0 h).1
within_bounded codes (join a b) (w, x) i q c h = ⊎_elim (within_bounded codes a w i q c) (within_bounded codes b x _ q c) (or_true.0 h)
within_bounded codes (either a b) (w, x) i q c h = ⊎_elim (within_bounded codes a w i q c) (within_bounded codes b x _ q c) (or_true.0 h)
within_bounded codes (star a) w i q c h = within_bounded codes a w i q c h
within_bounded codes (plus a) w i q c h = within_bounded codes a w i q c h
within_bounded codes (maybe a) w i q c h = within_bounded codes a w i q c h

-- every code of the word is below the bound and is the least of its kind
abbrev pub OfKinds : Regex → ℕ → List ℕ → Type 0
OfKinds r codes [] = Unit {0}
OfKinds r codes (c ∷ v) = ((c < codes) × (first_alike r c c ≡ true)) × OfKinds r codes v

-- two tests that are true together are equal
pub same_tests : (x y : Bool) → (x ≡ true → y ≡ true) → (y ≡ true → x ≡ true) → x ≡ y
same_tests x y f g = same_from_decides x y (f, g) same

module _ (r : Regex) where
  pub alike_is : (c d : ℕ) → alike r c d ≡ true ↔ OneKind r c d
  alike_is c d =
      Decides-below_and _ (λ n. holds r 0 (suc n) c ≡ holds r 0 (suc n) d) (alike_below r c d) (λ n. agree (holds r 0 (suc n) c) (holds r 0 (suc n) d)) refl (λ _. refl) (size r)
      ⨾ (go, λ f n _. f (suc n))
    where
      go : ((n : ℕ) → n < size r → holds r 0 (suc n) c ≡ holds r 0 (suc n) d) → (q : ℕ) → holds r 0 q c ≡ holds r 0 q d
      go f zero = grind (arith, holds_out r 0 0 c, holds_out r 0 0 d)
      go f (suc n) = grind (arith, f n, holds_out r 0 (suc n) c, holds_out r 0 (suc n) d)

  pub first_is : (c n : ℕ) → first_alike r c n ≡ true ↔ ((d : ℕ) → d < n → OneKind r d c → ⊥)
  first_is c n = Decides-below_and (λ d. not (alike r d c)) (λ d. OneKind r d c → ⊥) (first_alike r c) (λ d. Decides-not _ (alike_is d c)) refl (λ d. grind arith) n

  -- the code that stands for a kind
  pub stands : (c : ℕ) → (d : ℕ) × (d ≤ c) × OneKind r c d × (first_alike r d d ≡ true)
  stands c =
      let own = (alike_is c c).1 (λ q. refl) in
      let (d, (k, least)) = search_least (alike r c) c own in
      let s = (alike_is c d).0 k in
      (d, least c own, s, (first_is d d).1 (λ b below t. omega (arith, least b ((alike_is c b).1 (λ q. s q ∙ sym (t q))))))

  pub like_same : (v : List ℕ) → SameKinds r v v
  like_same [] = tt
  like_same (c ∷ v) = (λ q. refl, like_same v)

  -- by recursion over two words that are the same word of kinds
  pub like_elim : (P : List ℕ → List ℕ → Type 0) → P [] [] → ((c d : ℕ) (v w : List ℕ) → OneKind r c d → SameKinds r v w → P v w → P (c ∷ v) (d ∷ w)) → (v w : List ℕ) → SameKinds r v w → P v w
  like_elim P none more [] [] l = none
  like_elim P none more [] (d ∷ w) l = absurd l
  like_elim P none more (c ∷ v) [] l = absurd l
  like_elim P none more (c ∷ v) (d ∷ w) (s, l) = more c d v w s l (like_elim P none more v w l)

  pub like_back : (v w : List ℕ) → SameKinds r v w → SameKinds r w v
  like_back = like_elim (λ v w. SameKinds r w v) tt (λ c d v w s l k. (λ q. sym (s q), k))

  pub like_trans : (u v w : List ℕ) → SameKinds r u v → SameKinds r v w → SameKinds r u w
  like_trans [] [] w k l = l
  like_trans [] (d ∷ v) w k l = absurd k
  like_trans (c ∷ u) [] w k l = absurd k
  like_trans (c ∷ u) (d ∷ v) [] k l = absurd l
  like_trans (c ∷ u) (d ∷ v) (e ∷ w) (s, k) (t, l) = (λ q. s q ∙ t q, like_trans u v w k l)

  pub like_append : (v w x y : List ℕ) → SameKinds r v w → SameKinds r x y → SameKinds r (v ++ x) (w ++ y)
  like_append v w x y l k = like_elim (λ v w. SameKinds r (v ++ x) (w ++ y)) k (λ c d v w s l m. (s, m)) v w l

  pub like_length : (v w : List ℕ) → SameKinds r v w → length v ≡ length w
  like_length = like_elim (λ v w. length v ≡ length w) refl (λ c d v w s l e. ap suc e)

  pub like_split : (y f g : List ℕ) → SameKinds r (y ++ f) g → (z : List ℕ) × (x : List ℕ) × (g ≡ z ++ x) × SameKinds r f x
  like_split [] f g l = ([], g, refl, l)
  like_split (c ∷ y) f [] l = absurd l
  like_split (c ∷ y) f (d ∷ g) (s, l) = let (z, x, e, k) = like_split y f g l in (d ∷ z, x, ap (λ t. d ∷ t) e, k)

  pub like_reached : (v w : List ℕ) → SameKinds r v w → (q : ℕ) → reached r v q ≡ reached r w q
  like_reached = like_elim (λ v w. (q : ℕ) → reached r v q ≡ reached r w q) (λ q. refl)
      (λ c d v w s l e q. ap₂ ◌&&◌ (s q) (ap (some_below (size r + 1)) (fun_ext λ p. ap (λ b. b && arrow r p q) (e p))))

  pub tailed_is : (v : List ℕ) → tailed r v ≡ true ↔ ((q : ℕ) × (q < size r + 1) × (reached r v q ≡ true))
  unfolding tailed
  tailed_is v = some_below_is (size r + 1) (λ q. same)

  pub like_tailed : (v w : List ℕ) → SameKinds r v w → tailed r v ≡ tailed r w
  unfolding tailed
  like_tailed v w l = ap (some_below (size r + 1)) (fun_ext (like_reached v w l))

  -- every code stands for its kind, below the bound
  module _ (codes : ℕ) where
    pub chosen_append : (v w : List ℕ) → OfKinds r codes v → OfKinds r codes w → OfKinds r codes (v ++ w)
    chosen_append [] w h k = k
    chosen_append (c ∷ v) w (f, h) k = (f, chosen_append v w h k)

  -- a tail that is not empty: its first code is held, and the rest is a tail
  pub tailed_cons : (c : ℕ) (v : List ℕ) → tailed r (c ∷ v) ≡ true → ((q : ℕ) × (holds r 0 q c ≡ true)) × (tailed r v ≡ true)
  tailed_cons c v h =
      let (q, _, k) = (tailed_is (c ∷ v)).0 h in
      let (a, b) = and_true.0 k in
      let (p, l, e) = (some_below_is (size r + 1) (λ p. same)).0 b in
      ((q, a), (tailed_is v).1 (p, l, (and_true.0 e).0))

  pub tailed_end : (u v : List ℕ) → tailed r (u ++ v) ≡ true → tailed r v ≡ true
  tailed_end [] v h = h
  tailed_end (c ∷ u) v h = tailed_end u v (tailed_cons c (u ++ v) h).1

  -- the word of kinds of a tail
  module _ (codes : ℕ) (B : Bounded r codes) where
    pub chosen_tail : (v x : List ℕ) → tailed r (v ++ x) ≡ true → (w : List ℕ) × SameKinds r v w × OfKinds r codes w
    chosen_tail [] x h = ([], tt, tt)
    chosen_tail (c ∷ v) x h =
        let ((q, k), t) = tailed_cons c (v ++ x) h in
        let (d, le, s, f) = stands c in
        let (w, l, g) = chosen_tail v x t in
        (d ∷ w, (s, l), ((omega (arith, B q c k), f), g))
