-- The tails of a language that has one word: its ends, one of each length. Assumes nothing.
use Rattle.std.specs.Prelude.{◌≡◌, ℕ, zero, suc, ◌+◌, ◌-◌, ◌≤◌, ◌↔◌, List, [], ◌∷◌, ◌++◌, length, take, drop, refl}
use Rattle.std.proofs.Common.{sym, ◌∙◌, ap, subst, inl, inr, ⊎_elim, arith, length-append}
use Rattle.std.proofs.lemmas.List.Prefix.{end_rest}
use Rattle.std.proofs.lemmas.List.{take-append-drop, drop_more}
use Rattle.std.proofs.lemmas.Bool.{cases_lt}
use Rattle.regular.specs.Language.{Regex, Word, Tail, Shortest}
use Rattle.regular.proofs.Words.{head_same}
use Rattle.distance.specs.Kinds.{SameKinds, Member, Apart, TailsOfKinds}
use Rattle.distance.specs.Distances.{FullLength, Full, last}
use Rattle.distance.proofs.Alike.{like_same, like_length}
use Rattle.distance.proofs.Safe.{length_last}
use Rattle.plain_word.specs.Jumps.{Precedes}

module _ (r : Regex) (w : List ℕ) (alone : (v : List ℕ) → Word r v ↔ (v ≡ w)) where
  -- a tail is an end of the word
  pub tail_last : (v : List ℕ) → Tail r v → (v ≡ last (length v) w) × (length v ≤ length w)
  tail_last v (u, p) =
      let e = (alone (u ++ v)).0 p in
      (sym (end_rest w v u (sym e)), omega (arith, ap length e, length-append u v))

  pub last_tail : (j : ℕ) → Tail r (last j w)
  last_tail j = (take (length w - j) w, (alone (take (length w - j) w ++ last j w)).1 (take-append-drop (length w - j) w))

  pub shortest_word : Shortest r (length w)
  shortest_word = record { reached = (w, (alone w).1 refl, refl); least = λ v p. omega (arith, ap length ((alone v).0 p)) }

  -- the one full tail is the word
  pub full_word : Full r (length w) w
  full_word = record { tail = ([], (alone w).1 refl); long = refl }

  pub full_is : (f : List ℕ) → Full r (length w) f → f ≡ w
  full_is f F =
      let none : length w - length f ≡ 0 = omega (arith, F.long) in
      (tail_last f F.tail).0 ∙ ap (λ n. drop n w) none

  abbrev ends : ℕ → List (List ℕ)
  ends zero = last zero w ∷ []
  ends (suc n) = last (suc n) w ∷ ends n

  length_ends : (n : ℕ) → length (ends n) ≡ n + 1
  length_ends zero = refl
  length_ends (suc n) = omega (arith, length_ends n)

  ends_are : (n : ℕ) (v : List ℕ) → Member v (ends n) → (j : ℕ) × (j ≤ n) × (v ≡ last j w)
  ends_are zero v (inl e) = (0, omega arith, e)
  ends_are zero v (inr m) = absurd m
  ends_are (suc n) v (inl e) = (suc n, omega arith, e)
  ends_are (suc n) v (inr m) = let (j, l, e) = ends_are n v m in (j, omega arith, e)

  ends_have : (n j : ℕ) → j ≤ n → Member (last j w) (ends n)
  ends_have zero j l = let e : j ≡ 0 = omega arith in inl (ap (λ i. last i w) e)
  ends_have (suc n) j l =
      ⊎_elim
      (λ less. inr (ends_have n j (omega arith)))
      (λ more. let e : j ≡ suc n = omega arith in inl (ap (λ i. last i w) e))
      (cases_lt j (suc n))

  ends_apart : (n : ℕ) → n ≤ length w → Apart r (ends n)
  ends_apart zero l = (λ v m s. m, tt)
  ends_apart (suc n) l = (
    λ v m s.
        let (j, k, e) = ends_are n v m in
        omega (arith, like_length r (last (suc n) w) v s, ap length e, length_last (suc n) w l, length_last j w (omega arith)),
    ends_apart n (omega arith),
  )

  pub full_length : length w ≤ 63 → FullLength r (length w)
  full_length few = (
    length w,
    shortest_word,
    (
      (omega arith, (length w + 1, (ends (length w), listed, length_ends (length w)), omega arith)),
      λ i h. h.0,
    ),
  )
    where
      listed : TailsOfKinds r (length w) (ends (length w))
      listed = record {
        tails = λ v m. let (j, l, e) = ends_are (length w) v m in (subst (Tail r) (sym e) (last_tail j), omega (arith, ap length e, length_last j w l));
        every = λ v t l.
            let (e, k) = tail_last v t in
            (last (length v) w, ends_have (length w) (length v) k, subst (SameKinds r v) e (like_same r v));
        once = ends_apart (length w) (omega arith);
      }

  -- one symbol more before a tail
  module _ (c : ℕ) (v : List ℕ) (tail : Tail r v) where
    pub longer_tail : Precedes w (length v) c → Tail r (c ∷ v)
    longer_tail (l, is) =
        let (e, k) = tail_last v tail in
        let next : length w - 1 - length v + 1 ≡ length w - length v = omega arith in
        let cons : drop (length w - 1 - length v) w ≡ c ∷ v =
        drop_more w (length w - 1 - length v) 0 (omega arith)
        ∙ ap (λ x. x ∷ drop (length w - 1 - length v + 1) w) is ∙ ap (λ n. c ∷ drop n w) next ∙ ap (λ x. c ∷ x) (sym e) in
        (take (length w - 1 - length v) w, (alone _).1 (ap (λ x. take (length w - 1 - length v) w ++ x) (sym cons) ∙ take-append-drop (length w - 1 - length v) w))

    pub longer_is : Tail r (c ∷ v) → Precedes w (length v) c
    longer_is t =
        let (e, k) = tail_last (c ∷ v) t in
        let at : length w - length (c ∷ v) ≡ length w - 1 - length v = omega arith in
        (omega arith, sym (head_same (e ∙ ap (λ n. drop n w) at ∙ drop_more w (length w - 1 - length v) 0 (omega arith))))
