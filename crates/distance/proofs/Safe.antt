-- A jump by the distances passes no match, and each number that it is made of is one. Assumes nothing.
use Rattle.std.proofs.Common.{◌≡◌, ℕ, ◌-◌, ◌<◌, ◌≤◌, min, ◌⊎◌, List, [], ◌∷◌, ◌++◌, length, take, sym, refl, ap, ◌∙◌, subst, inl, inr, ⊎_elim, append_assoc, arith, length-append, length-drop}
use Rattle.std.proofs.lemmas.List.{take-append-drop}
use Rattle.std.proofs.lemmas.Bool.{cases_lt}
use Rattle.regular.specs.Language.{Regex, Word, Shortest}
use Rattle.regular.specs.Jumps.{NothingWithin}
use Rattle.regular.specs.Positions.{reached}
use Rattle.regular.proofs.Words.{tail_same}
use Rattle.distance.specs.Extremes.{lesser}
use Rattle.distance.specs.Distances.{FullLength, Full, Inside, Past, Lesser, SetJump, last}
use Rattle.distance.specs.Theorems.{JumpsSafe, Determined}
use Rattle.distance.proofs.Least.{finite_same, least_one, greatest_one, least_if_one, least_if_any, lesser_is, lesser_least}
use Rattle.distance.proofs.Counted.{count_one}

-- of two ends of a list, the shorter is an end of the longer
pub end_of_end : (a b c d : List ℕ) → a ++ b ≡ c ++ d → length d ≤ length b → (e : List ℕ) × (b ≡ e ++ d)
end_of_end [] b c d e l = (c, e)
end_of_end (x ∷ a) b [] d e l = absurd (omega (arith, ap length e, length-append a b))
end_of_end (x ∷ a) b (y ∷ c) d e l = end_of_end a b c d (tail_same e) l

pub last_split : (n : ℕ) (v : List ℕ) → v ≡ take (length v - n) v ++ last n v
last_split n v = sym (take-append-drop (length v - n) v)

pub length_last : (n : ℕ) (v : List ℕ) → n ≤ length v → length (last n v) ≡ n
length_last n v h = omega (arith, length-drop (length v - n) v)

module _ (r : Regex) (k : ℕ) where
  pub word_full : (w : List ℕ) → Word r w → k ≤ length w → Full r k (last k w)
  word_full w p h = record { tail = (take (length w - k) w, rw (← last_split k w) p); long = length_last k w h }

  -- where a full tail stands at the end of a text, w and x are inside it or past it
  pub near_end : (u w x y f : List ℕ) → Full r k f → u ++ (w ++ x) ≡ y ++ f → 1 ≤ length x → Inside r k w (length x) ⊎ Past r k w (length x)
  near_end u w x y f F e l =
      ⊎_elim
      (λ h. let (z, is) = end_of_end y f u (w ++ x) (sym e) (omega arith) in inl (l, (x, z, refl, rw (← is) F)))
      (λ h. let (z, is) = end_of_end u (w ++ x) y f e h in inr (l, (x, z, f, refl, is, F)))
      (cases_lt (length (w ++ x)) (length f))

-- where nothing goes on from an end of v by less than h, inside a full tail or past one, no match ends less than h behind v
module _ (r : Regex) (m k : ℕ) (S : Shortest r m) (le : k ≤ m) where
  pub far : (h : ℕ) (v t w : List ℕ) → v ≡ t ++ w → ((n : ℕ) → n < h → Inside r k w n ⊎ Past r k w n → ⊥) → NothingWithin r v h
  far h v t w is none u x l lt (y, f, e, word) =
      let text : (u ++ t) ++ (w ++ x) ≡ (y ++ take (length f - k) f) ++ last k f = simp append_assoc (simp append_assoc at (rw (is, last_split k f) at e)) in
      none (length x) lt (near_end r k (u ++ t) w x (y ++ take (length f - k) f) (last k f) (word_full r k f word (omega (arith, S.least f word))) text l)

  positive : (w : List ℕ) (h : ℕ) → Lesser r k w h → 1 ≤ h
  positive w h (d, e, D, E, is) = ⊎_elim (λ i. i.0) (λ p. p.0) (lesser_is _ _ d e h D E is)

  pub lesser_far : (h : ℕ) (v : List ℕ) → Lesser r k v h → (1 ≤ h) × NothingWithin r v h
  lesser_far h v L = (
    positive v h L,
    far h v [] v refl (λ n lt s.
        let (d, e, D, E, is) = L in
        let (j, jis, jl) = lesser_least _ _ d e n D E s in
        omega (arith, finite_same (sym jis ∙ is))),
  )

  pub set_far : (h : ℕ) (v : List ℕ) → SetJump r k (reached r v) h → (1 ≤ h) × NothingWithin r v h
  set_far h v ((q, leads, ((u, (a, _, way, _, _), L), least)), _) = (
    positive u h L,
    far h v (take (length v - min k a) v) w (last_split (min k a) v) (λ n lt s.
        least_if_any (Inside r k w) λ d D. least_if_any (Past r k w) λ e E.
        let (j, is, jl) = lesser_least _ _ d e n D E s in
        omega (arith, least j (w, (a, v, way, leads, refl), (d, e, D, E, is)))),
  )
    where
      w : List ℕ
      w = last (min k a) v

pub jumps_safe : JumpsSafe
jumps_safe = record {
  set = λ r h each v t. let (k, (m, S, D), J) = each v t in set_far r m k S D.0.0 (h v) v J;
  whole = λ r h each v t. let (k, (m, S, D), J) = each v t in lesser_far r m k S D.0.0 (h v) v J;
}

shortest_one : (r : Regex) (m n : ℕ) → Shortest r m → Shortest r n → m ≡ n
shortest_one r m n S T =
    let (v, p, a) = S.reached in
    let (w, q, b) = T.reached in
    omega (arith, S.least w q, T.least v p)

full_length_one : (r : Regex) (k k' : ℕ) → FullLength r k → FullLength r k' → k ≡ k'
full_length_one r k k' (m, S, D) (n, T, E) =
    let e = shortest_one r m n S T in
    omega (arith, D.1 k' (omega (arith, E.0.0), E.0.1), E.1 k (omega (arith, D.0.0), D.0.1))

lesser_one : (r : Regex) (k : ℕ) (v : List ℕ) (n n' : ℕ) → Lesser r k v n → Lesser r k v n' → n ≡ n'
lesser_one r k v n n' (d, e, D, E, is) (d', e', D', E', is') =
    let one = least_if_one _ d d' D D' in
    let two = least_if_one _ e e' E E' in
    finite_same (sym is ∙ (λ i. lesser (one i) (two i)) ∙ is')

pub determined : Determined
determined = record {
  count = count_one;
  depth = full_length_one;
  first = λ r k v. least_if_one _;
  second = λ r k v. least_if_one _;
  nearer = lesser_one;
  position = λ r k q. least_one;
  set = λ r k S. greatest_one;
  jump = λ r v h h' (k, F, J) (k', F', J'). greatest_one h h' J (subst (λ (n : ℕ). SetJump r n (reached r v) h') (full_length_one r k' k F' F) J');
  whole = λ r v h h' (k, F, J) (k', F', J'). lesser_one r k v h h' J (subst (λ (n : ℕ). Lesser r n v h') (full_length_one r k' k F' F) J');
}
