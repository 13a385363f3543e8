-- A header's entries, four bytes each, say what the label's entries say. Assumes nothing.
use Rattle.std.proofs.Common.{◌≡◌, ℕ, zero, suc, ◌+◌, ◌*◌, ◌<◌, ◌≤◌, false, true, leb, List, ◌∷◌, length, get_or, take, drop, set, sym, refl, ap, ◌∙◌, ⊎_elim, arith}
use Rattle.std.specs.Simd.{first_chunks}
use Rattle.std.proofs.lemmas.List.{get_or-take, drop-drop, drop-set-lt}
use Rattle.std.proofs.lemmas.Bool.{leb-true, leb-false, and_parts, and_cases}
use Rattle.label.specs.declared.Field.{Field}
use Rattle.label.specs.Labels.{count, header_end, field, entry, lies_within, Within, Sound}

length_chunks : (k : ℕ) (xs : List ℕ) → length (first_chunks 4 k xs) ≡ k
length_chunks zero xs = refl
length_chunks (suc k) xs = ap suc (length_chunks k (drop 4 xs))

pub take_chunks : (j k : ℕ) (xs : List ℕ) → j ≤ k → take j (first_chunks 4 k xs) ≡ first_chunks 4 j xs
take_chunks zero k xs le = refl
take_chunks (suc j) zero xs le = absurd (omega arith)
take_chunks (suc j) (suc k) xs le = ap (λ l. take 4 xs ∷ l) (take_chunks j k (drop 4 xs) (omega arith))

chunk_at : (k : ℕ) (xs : List ℕ) (i : ℕ) (d : List ℕ) → i < k → get_or (first_chunks 4 k xs) i d ≡ take 4 (drop (4 * i) xs)
chunk_at zero xs i d less = absurd (omega arith)
chunk_at (suc k) xs zero d less = refl
chunk_at (suc k) xs (suc i) d less =
    let further : 4 + 4 * i ≡ 4 * suc i = omega arith in
    chunk_at k (drop 4 xs) i d (omega arith) ∙ ap (take 4) (drop-drop (4 * i) 4 xs) ∙ ap (λ n. take 4 (drop n xs)) further

-- a field is told by four bytes
field_by : (bytes : List ℕ) → field (take 4 bytes) ≡ field bytes
field_by bytes = λ i. record {
  identifier = get_or-take 4 bytes 0 0 (omega arith) i;
  offset = 256 * get_or-take 4 bytes 2 0 (omega arith) i + get_or-take 4 bytes 3 0 (omega arith) i;
  length = get_or-take 4 bytes 1 0 (omega arith) i;
}

module _ (label : List ℕ) (entries : List (List ℕ)) (are : entries ≡ first_chunks 4 (count label) (drop 2 label)) where
  pub length_entries : length entries ≡ count label
  length_entries = ap length are ∙ length_chunks (count label) (drop 2 label)

  pub says : (i : ℕ) (d : List ℕ) → i < length entries → field (get_or entries i d) ≡ entry label i
  says i d less =
      let listed : i < count label = omega (arith, length_entries) in
      ap (λ l. field (get_or l i d)) are
      ∙ ap field (chunk_at (count label) (drop 2 label) i d listed)
      ∙ field_by (drop (4 * i) (drop 2 label))
      ∙ ap field (drop-drop (4 * i) 2 label)

-- the test of a field tells whether its part lies within
module _ (label : List ℕ) (f : Field) where
  pub not_within : lies_within f (header_end label) (length label) ≡ false → Within label f → ⊥
  not_within failed w =
      ⊎_elim
      (λ e. omega (arith, leb-false (header_end label) f.offset e, w.behind))
      (λ e. omega (arith, leb-false (f.offset + f.length) (length label) e, w.inside))
      (and_cases (leb (header_end label) f.offset) (leb (f.offset + f.length) (length label)) failed)

  pub is_sound : f.identifier ≤ 99 → lies_within f (header_end label) (length label) ≡ true → Sound label f
  is_sound known passed =
      let (a, b) = and_parts (leb (header_end label) f.offset) (leb (f.offset + f.length) (length label)) passed in
      record { known = known; within = record { behind = leb-true (header_end label) f.offset a; inside = leb-true (f.offset + f.length) (length label) b } }

-- writing the entry i leaves what stands behind it
pub rest_stays : (fields before : List Field) (i : ℕ) (f : Field) → drop i fields ≡ drop i before → drop (i + 1) (set fields i f) ≡ drop (i + 1) before
rest_stays fields before i f same = drop-set-lt (i + 1) fields i f (omega arith) ∙ sym (drop-drop 1 i fields) ∙ ap (drop 1) same ∙ drop-drop 1 i before
