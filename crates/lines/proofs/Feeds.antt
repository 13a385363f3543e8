-- Bytes parted at the first of a byte, and at their first line feed. Assumes nothing.
use Rattle.std.proofs.Common.{◌≡◌, ℕ, suc, ◌+◌, ◌<◌, ◌≤◌, true, eqb, List, [], ◌∷◌, ◌++◌, length, get_or, take, drop, sym, refl, ap, ◌∙◌, arith, take-append-drop, length-take}
use Rattle.std.proofs.lemmas.List.{drop_more, get_or-take}
use Rattle.std.proofs.lemmas.Bool.{cond-false, cond_both, eqb-true, eq-eqb, ne_eqb}
use Rattle.lines.specs.Lines.{Lacks, Splits, line, behind}

-- the byte at k is the first b
pub splits_at : (b : ℕ) (bytes : List ℕ) (k : ℕ) → ((i : ℕ) → 0 ≤ i → i < k → eqb (get_or bytes i 0) b ≡ true → ⊥) → k < length bytes → eqb (get_or bytes k 0) b ≡ true
    → Splits b bytes (take k bytes) (drop (k + 1) bytes)
splits_at b bytes k none within is = record {
  whole = sym (take-append-drop k bytes) ∙ ap (λ l. take k bytes ++ l) (drop_more bytes k 0 within ∙ ap (λ c. c ∷ drop (k + 1) bytes) (eqb-true (get_or bytes k 0) b is));
  first = λ i less e.
      let short : length (take k bytes) ≤ k = omega (arith, length-take k bytes) in
      none i (omega arith) (omega arith) (eq-eqb (get_or bytes i 0) b (sym (get_or-take k bytes i 0 (omega arith)) ∙ e));
}

-- none is
pub lacks : (b : ℕ) (bytes : List ℕ) → ((i : ℕ) → 0 ≤ i → i < length bytes → eqb (get_or bytes i 0) b ≡ true → ⊥) → Lacks b bytes
lacks b bytes none i less e = none i (omega arith) less (eq-eqb (get_or bytes i 0) b e)

-- there is one way to part bytes so
pub parts_are : (b : ℕ) (f f' r r' : List ℕ) → Lacks b f → Lacks b f' → f ++ (b ∷ r) ≡ f' ++ (b ∷ r') → (f ≡ f') × (r ≡ r')
parts_are b [] [] r r' l l' e = (refl, cc)
parts_are b [] (y ∷ f') r r' l l' e = absurd (l' 0 (omega arith) cc)
parts_are b (x ∷ f) [] r r' l l' e = absurd (l 0 (omega arith) cc)
parts_are b (x ∷ f) (y ∷ f') r r' l l' e =
    let rests : f ++ (b ∷ r) ≡ f' ++ (b ∷ r') = cc in
    let firsts : x ≡ y = cc in
    let (fronts, ends) = parts_are b f f' r r' (λ i less. l (suc i) (omega arith)) (λ i less. l' (suc i) (omega arith)) rests in
    (cc, ends)

pub line_is : (f r : List ℕ) → Lacks 10 f → (f ≡ line (f ++ (10 ∷ r))) × (r ≡ behind (f ++ (10 ∷ r)))
line_is [] r l = (refl, refl)
line_is (x ∷ f) r l =
    let (front, rest) = line_is f r (λ i less. l (suc i) (omega arith)) in
    let other = ne_eqb x 10 (l 0 (omega arith)) in (
      ap (λ l. x ∷ l) front ∙ sym (cond-false (eqb x 10) [] (x ∷ line (f ++ (10 ∷ r))) other),
      rest ∙ sym (cond-false (eqb x 10) (f ++ (10 ∷ r)) (behind (f ++ (10 ∷ r))) other),
    )

pub line_whole : (bytes : List ℕ) → Lacks 10 bytes → (bytes ≡ line bytes) × (◌≡◌ {A = List ℕ} [] (behind bytes))
line_whole [] l = (refl, refl)
line_whole (x ∷ bs) l =
    let (front, rest) = line_whole bs (λ i less. l (suc i) (omega arith)) in
    let other = ne_eqb x 10 (l 0 (omega arith)) in (
      ap (λ l. x ∷ l) front ∙ sym (cond-false (eqb x 10) [] (x ∷ line bs) other),
      rest ∙ sym (cond-false (eqb x 10) bs (behind bs) other),
    )

-- behind a line that is not empty stand fewer bytes
pub behind_shorter : (bytes : List ℕ) → (line bytes ≡ [] → ⊥) → length (behind bytes) < length bytes
behind_shorter [] some = absurd (some refl)
behind_shorter (b ∷ bs) some = let ih = no_longer bs in cond_both (eqb b 10) bs (behind bs) (λ l. length l < suc (length bs)) (λ _. omega arith) (λ _. omega arith)
  where
    no_longer : (xs : List ℕ) → length (behind xs) ≤ length xs
    no_longer [] = omega arith
    no_longer (x ∷ xs) = let ih = no_longer xs in cond_both (eqb x 10) xs (behind xs) (λ l. length l ≤ suc (length xs)) (λ _. omega arith) (λ _. omega arith)

-- between two parts it stands
pub stands_between : (b : ℕ) (f r bytes : List ℕ) → bytes ≡ f ++ (b ∷ r) → Lacks b bytes → ⊥
stands_between b [] r [] is l = let e : 0 ≡ suc (length r) = ap length is in omega arith
stands_between b [] r (y ∷ bytes) is l = l 0 (omega arith) cc
stands_between b (x ∷ f) r [] is l = let e : 0 ≡ suc (length (f ++ (b ∷ r))) = ap length is in omega arith
stands_between b (x ∷ f) r (y ∷ bytes) is l =
    let rests : bytes ≡ f ++ (b ∷ r) = cc in
    let lacks : Lacks b bytes = λ i less. l (suc i) (omega arith) in
    stands_between b f r bytes rests lacks
