-- Where every set holds some code, every position is reached by some word. Assumes nothing.
use Rattle.std.proofs.Common.{◌≡◌, ℕ, zero, suc, ◌+◌, ◌<◌, true, List, [], ◌∷◌, ◌++◌, sym, refl, inl, inr, ⊎_elim, append-nil, arith}
use Rattle.std.proofs.lemmas.Bool.{eq-eqb}
use Rattle.regular.specs.Language.{Regex, one, join, either, star, plus, maybe, none, Inhabited}
use Rattle.regular.specs.Positions.{size, holds, reached}
use Rattle.regular.proofs.Iff.{and_true, or_true}
use Rattle.regular.proofs.Ranges.{IsPosition, part}
use Rattle.regular.proofs.Rests.{Rest}
use Rattle.regular.proofs.Reading.{reached_is}
use Rattle.regular.proofs.Tails.{shortest_known}

-- every position holds some code
pub held : (r : Regex) → Inhabited r → (i q : ℕ) → IsPosition r i q → (c : ℕ) × (holds r i q c ≡ true)
held (one s) (c, h) i q l = (c, and_true.1 (eq-eqb q (i + 1) (omega arith), h))
held (join a b) (h, k) i q l = ⊎_elim (λ p. let (c, x) = held a h i q p in (c, or_true.1 (inl x))) (λ p. let (c, x) = held b k _ q p in (c, or_true.1 (inr x))) (part a b l)
held (either a b) (h, k) i q l = ⊎_elim (λ p. let (c, x) = held a h i q p in (c, or_true.1 (inl x))) (λ p. let (c, x) = held b k _ q p in (c, or_true.1 (inr x))) (part a b l)
held (star a) h i q l = held a h i q l
held (plus a) h i q l = held a h i q l
held (maybe a) h i q l = held a h i q l

-- something can stand behind every position
pub rest_some : (r : Regex) → Inhabited r → (i q : ℕ) → IsPosition r i q → (v : List ℕ) × Rest r i q v
rest_some (one s) h i q l = ([], (omega arith, refl))
rest_some (join a b) (h, k) i q l =
    ⊎_elim
    (λ p. let (v, x) = rest_some a h i q p in let (w, y, _) = (shortest_known b k).reached in (v ++ w, inl (v, w, refl, x, y)))
    (λ p. let (v, x) = rest_some b k _ q p in (v, inr x))
    (part a b l)
rest_some (either a b) (h, k) i q l = ⊎_elim (λ p. let (v, x) = rest_some a h i q p in (v, inl x)) (λ p. let (v, x) = rest_some b k _ q p in (v, inr x)) (part a b l)
rest_some (star a) h i q l = let (v, x) = rest_some a h i q l in (v, (v, [], sym (append-nil v), x, none refl))
rest_some (plus a) h i q l = let (v, x) = rest_some a h i q l in (v, (v, [], sym (append-nil v), x, none refl))
rest_some (maybe a) h i q l = rest_some a h i q l

-- some word leads to every position
pub led_to : (r : Regex) → Inhabited r → (q : ℕ) → q < size r + 1 → (v : List ℕ) × (reached r v q ≡ true)
led_to r h zero l = ([], refl)
led_to r h (suc p) l =
    let (c, x) = held r h 0 (suc p) (omega arith) in
    let (v, y) = rest_some r h 0 (suc p) (omega arith) in
    (c ∷ v, (reached_is r v c (suc p)).1 (x, y))
