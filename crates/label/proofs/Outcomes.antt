-- What comes of a label: it is refused in one way at most, and not at all if it is well formed and there is room. Assumes nothing.
use Rattle.std.proofs.Common.{◌≡◌, ℕ, zero, suc, ◌<◌, ◌≤◌, cond, eqb, ltb, List, length, get_or, drop, Ok, Err, sym, refl, ap, ◌∙◌, ⊎_elim, arith}
use Rattle.std.proofs.lemmas.Bool.{cases_order, lt-ltb, le-ltb, eq-eqb, ne_eqb}
use Rattle.refusal.specs.declared.Fault.{Fault}
use Rattle.refusal.specs.declared.Fault.TheVariants.{LabelTooShort, UnknownEdition, TooManyEntries, TooFewFields, UnknownIdentifier, PartOutside}
use Rattle.label.specs.declared.Field.{Field}
use Rattle.label.specs.Labels.{edition, count, place, header_end, entry, Sound, WellFormed}
use Rattle.label.specs.Reading.{Looked, Unsound, unknown, outside, Refused, short, other_edition, many, cut_off, narrow, unsound, Reads}

module _ (label : List ℕ) where
  -- of two first entries that are not sound, neither stands before the other
  same_entry : (i j : ℕ) → Looked label i → Looked label j → (Sound label (entry label i) → ⊥) → (Sound label (entry label j) → ⊥) → i ≡ j
  same_entry i j a b p q = ⊎_elim (λ same. same) (⊎_elim (λ less. absurd (p (b.sound i less))) (λ less. absurd (q (a.sound j less)))) (cases_order i j)

  over_unsound : (f : Field) → 99 < f.identifier → Sound label f → ⊥
  over_unsound f over s = omega arith

  one_unsound : {f g : Fault} → Unsound label f → Unsound label g → f ≡ g
  one_unsound (unknown i a over) (unknown j b over') = ap (λ n. UnknownIdentifier (place n)) (same_entry i j a b (over_unsound _ over) (over_unsound _ over'))
  one_unsound (unknown i a over) (outside j b known out) = absurd (omega (arith, ap (λ n. (entry label n).identifier) (same_entry i j a b (over_unsound _ over) (λ s. out s.within))))
  one_unsound (outside i a known out) (unknown j b over) = absurd (omega (arith, ap (λ n. (entry label n).identifier) (same_entry i j a b (λ s. out s.within) (over_unsound _ over))))
  one_unsound (outside i a known out) (outside j b known' out') = ap (λ n. PartOutside (place n)) (same_entry i j a b (λ s. out s.within) (λ s. out' s.within))

  not_unsound : {f : Fault} → WellFormed label → Unsound label f → ⊥
  not_unsound formed (unknown i looked over) = over_unsound _ over (formed.entries i looked.listed)
  not_unsound formed (outside i looked known out) = out (formed.entries i looked.listed).within

module _ (label : List ℕ) (room : ℕ) where
  not_refused : {f : Fault} → WellFormed label → count label ≤ room → Refused label room f → ⊥
  not_refused formed roomy (short less) = let h = formed.header in omega arith
  not_refused formed roomy (other_edition two other) = other formed.header.third
  not_refused formed roomy (many two third more) = let h = formed.header in omega arith
  not_refused formed roomy (cut_off two third few less) = let h = formed.header in omega arith
  not_refused formed roomy (narrow header less) = omega arith
  not_refused formed roomy (unsound header r why) = not_unsound label formed why

  -- how many tests a label passes before it is refused
  abbrev passed : ℕ
  passed =
      cond (ltb (length label) 2) 0
      (cond (eqb (edition label) 3)
      (cond (ltb 32 (count label)) 2
      (cond (ltb (length label) (header_end label)) 3
      (cond (ltb room (count label)) 4 5))) 1)

  -- what is told by that
  abbrev At : ℕ → Fault → Type 0
  At zero f = f ≡ LabelTooShort (length label)
  At (suc zero) f = f ≡ UnknownEdition
  At (suc (suc zero)) f = f ≡ TooManyEntries
  At (suc (suc (suc zero))) f = f ≡ LabelTooShort (length label)
  At (suc (suc (suc (suc zero)))) f = f ≡ TooFewFields
  At (suc (suc (suc (suc (suc n))))) f = Unsound label f

  one_at : {f g : Fault} (n : ℕ) → At n f → At n g → f ≡ g
  one_at zero p q = p ∙ sym q
  one_at (suc zero) p q = p ∙ sym q
  one_at (suc (suc zero)) p q = p ∙ sym q
  one_at (suc (suc (suc zero))) p q = p ∙ sym q
  one_at (suc (suc (suc (suc zero)))) p q = p ∙ sym q
  one_at (suc (suc (suc (suc (suc n))))) p q = one_unsound label p q

  told : {f : Fault} → Refused label room f → At passed f
  told (short less) = rw (lt-ltb (length label) 2 less) refl
  told (other_edition two other) = rw (le-ltb (length label) 2 two, ne_eqb (edition label) 3 other) refl
  told (many two third more) = rw (le-ltb (length label) 2 two, eq-eqb (edition label) 3 third, lt-ltb 32 (count label) more) refl
  told (cut_off two third few less) = rw (le-ltb (length label) 2 two, eq-eqb (edition label) 3 third, le-ltb 32 (count label) few, lt-ltb (length label) (header_end label) less) refl
  told (narrow header less) = rw (le-ltb (length label) 2 header.begun, eq-eqb (edition label) 3 header.third, le-ltb 32 (count label) header.few, le-ltb (length label) (header_end label) header.whole, lt-ltb room (count label) less) refl
  told (unsound header r why) = rw (le-ltb (length label) 2 header.begun, eq-eqb (edition label) 3 header.third, le-ltb 32 (count label) header.few, le-ltb (length label) (header_end label) header.whole, le-ltb room (count label) r) why

  one_refusal : {f g : Fault} → Refused label room f → Refused label room g → f ≡ g
  one_refusal p q = one_at passed (told p) (told q)

module _ (label : List ℕ) (before : List Field) where
  pub reads_refused : {f : Fault} → Refused label (length before) f → Reads label before before (Err f)
  reads_refused why = record {
    result = record { why = why; same = refl };
    accepts = λ formed roomy. absurd (not_refused label (length before) formed roomy why);
    refuses = λ g other. ap Err (one_refusal label (length before) why other);
  }

  module _ (after : List Field) (n : ℕ) (formed : WellFormed label) (room : count label ≤ length before) (counted : n ≡ count label)
      (fields : (i : ℕ) (d : Field) → i < count label → get_or after i d ≡ entry label i) (rest : drop (count label) after ≡ drop (count label) before) where
    pub reads_filled : Reads label before after (Ok n)
    reads_filled = record {
      result = record {
        formed = formed;
        room = room;
        counted = counted;
        fields = λ i d less. fields i d (omega arith);
        known = λ i d less. let h : i < count label = omega arith in rw (fields i d h) (formed.entries i h).known;
        rest = rw counted rest;
      };
      accepts = λ _ _. refl;
      refuses = λ f why. absurd (not_refused label (length before) formed room why);
    }
