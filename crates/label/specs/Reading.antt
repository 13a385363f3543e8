-- What reading a label gives: the fields, or the first refusal that applies. Assumes nothing.
use Rattle.std.specs.Prelude.{◌≡◌, ℕ, ◌<◌, ◌≤◌, true, List, length, drop, is_ok, Err, Result, MatchResult, ◌≢◌, slice_index_or}
use Rattle.refusal.specs.declared.Fault.{Fault}
use Rattle.refusal.specs.declared.Fault.TheVariants.{LabelTooShort, UnknownEdition, TooManyEntries, TooFewFields, UnknownIdentifier, PartOutside}
use Rattle.label.specs.declared.Field.{Field}
use Rattle.label.specs.Labels.{edition, count, place, header_end, entry, Within, Sound, Headed, WellFormed}

-- the entry i is looked at, since all before it are sound
pub record Looked (label : List ℕ) (i : ℕ) : Type 0 where
  pub listed : i < count label
  pub sound : (k : ℕ) → k < i → Sound label (entry label k)

-- the first entry that is not sound, by its own place
pub data Unsound (label : List ℕ) : Fault → Type 0 where
  unknown : (i : ℕ) → Looked label i → 99 < (entry label i).identifier → Unsound label (UnknownIdentifier (place i))
  outside : (i : ℕ) → Looked label i → (entry label i).identifier ≤ 99 → (Within label (entry label i) → ⊥) → Unsound label (PartOutside (place i))

-- why a label is refused where the field list has room for so many fields; each refusal stands aside for those above it
pub data Refused (label : List ℕ) (room : ℕ) : Fault → Type 0 where
  short : length label < 2 → Refused label room (LabelTooShort (length label))
  other_edition : 2 ≤ length label → (edition label ≢ 3) → Refused label room UnknownEdition
  many : 2 ≤ length label → edition label ≡ 3 → 32 < count label → Refused label room TooManyEntries
  cut_off : 2 ≤ length label → edition label ≡ 3 → count label ≤ 32 → length label < header_end label → Refused label room (LabelTooShort (length label))
  narrow : Headed label → room < count label → Refused label room TooFewFields
  unsound : {f : Fault} → Headed label → count label ≤ room → Unsound label f → Refused label room f

-- the field list after a label was accepted: field i is entry i, and what stands behind the last stays
pub record Filled (label : List ℕ) (before after : List Field) (n : ℕ) : Type 0 where
  pub formed : WellFormed label
  pub room : count label ≤ length before
  pub counted : n ≡ count label
  pub fields : (i : ℕ) (d : Field) → i < n → slice_index_or after i d ≡ entry label i
  pub known : (i : ℕ) (d : Field) → i < n → (slice_index_or after i d).identifier ≤ 99
  pub rest : drop n after ≡ drop n before

-- a label that is refused leaves the list as it was
pub record Kept (label : List ℕ) (before after : List Field) (f : Fault) : Type 0 where
  pub why : Refused label (length before) f
  pub same : after ≡ before

-- accepted exactly when it is well formed and there is room, and else refused exactly as above
pub record Reads (label : List ℕ) (before after : List Field) (r : Result ℕ Fault) : Type 0 where
  pub result : MatchResult r (Filled label before after) (Kept label before after)
  pub accepts : WellFormed label → count label ≤ length before → is_ok r ≡ true
  pub refuses : (f : Fault) → Refused label (length before) f → r ≡ Err f
