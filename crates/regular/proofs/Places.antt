-- Parts of a text between two places. Assumes nothing.
use Rattle.std.proofs.Common.{◌≡◌, ℕ, suc, ◌+◌, ◌-◌, ◌<◌, ◌≤◌, List, [], ◌∷◌, ◌++◌, length, get_or, take, drop, sym, ap, ◌∙◌, arith, length-drop, take-append-drop, length-take}
use Rattle.std.proofs.lemmas.List.{drop_more, take-take, drop-drop}
use Rattle.std.proofs.lemmas.Slice.{between_is}
use Rattle.regular.specs.Matches.{between}

pub between_self : (t : List ℕ) (e : ℕ) → between t e e ≡ []
between_self t e = let h : e - e ≡ 0 = omega arith in rw h

pub between_cons : (t : List ℕ) (s e : ℕ) → s < e → e ≤ length t → between t s e ≡ get_or t s 0 ∷ between t (s + 1) e
between_cons t s e lt le =
    let h : e - s ≡ suc (e - (s + 1)) = omega arith in
    rw (h, drop_more t s 0 (omega arith))

-- one place further left
pub between_left : (t : List ℕ) (s e : ℕ) → 0 < s → s ≤ e → e ≤ length t → between t (s - 1) e ≡ get_or t (s - 1) 0 ∷ between t s e
between_left t s e pos le in_text =
    let h : s - 1 + 1 ≡ s = omega arith in
    rw h at (between_cons t (s - 1) e (omega arith) in_text)

pub length_between : (t : List ℕ) (s e : ℕ) → s ≤ e → e ≤ length t → length (between t s e) ≡ e - s
length_between t s e a b = simp (length-take, length-drop) (omega arith)

-- what stands up to a place, cut at an earlier one
pub take_between : (t : List ℕ) (n e : ℕ) → n ≤ e → take e t ≡ take n t ++ between t n e
take_between t n e a = sym (take-append-drop n (take e t)) ∙ rw (take-take n e t a, between_is t n e)

pub between_split : (t : List ℕ) (m n e : ℕ) → m ≤ n → n ≤ e → between t m e ≡ between t m n ++ between t n e
between_split t m n e a b =
    let h : e - m - (n - m) ≡ e - n = omega arith in
    let k : m + (n - m) ≡ n = omega arith in
    take_between (drop m t) (n - m) (e - m) (omega arith) ∙ rw (h, drop-drop (n - m) m t, k)

pub take_two : (t : List ℕ) (s p q : ℕ) → s ≤ p → p ≤ q → take q t ≡ take s t ++ (between t s p ++ between t p q)
take_two t s p q a b = take_between t s q (omega arith) ∙ ap (λ l. take s t ++ l) (between_split t s p q a b)
