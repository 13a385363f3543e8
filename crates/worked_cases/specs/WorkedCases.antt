-- The worked cases: what the definitions come to on small expressions, texts and labels. Assumes nothing.
use Rattle.std.specs.Prelude.{◌≡◌, ℕ, ◌+◌, ◌≤◌, List, [], ◌∷◌, length, take, drop, Some, None, nat_eq}
use Rattle.refusal.specs.Refusals.{number, place}
use Rattle.refusal.specs.declared.Fault.{Fault}
use Rattle.regular.specs.Language.{Regex, one, join, star, plus, Tail}
use Rattle.regular.specs.Matches.{Exactly}
use Rattle.syntax.specs.declared.mode.Mode.{Mode}
use Rattle.syntax.specs.declared.mode.Mode.TheVariants.{Bytes, Fields}
use Rattle.syntax.specs.Grammar.{Tree, expression, meaning}
use Rattle.syntax.specs.Refusals.{breach}
use Rattle.syntax.specs.Reading.{Written, Refusal}
use Rattle.distance.specs.Distances.{PositionJumps, Jump}
use Rattle.search.specs.Reckoning.{begun, reckoned, numbers_by}
use Rattle.search.specs.declared.numbers.Call.TheVariants.{Run}
use Rattle.label.specs.declared.Field.{Field}
use Rattle.label.specs.Labels.{count, entry, WellFormed}
use Rattle.label.specs.Reading.{Refused}

abbrev pub letter : ℕ → Regex
letter c = one (nat_eq c)

-- the bytes are read as r: a tree of the grammar is written so, breaks no limit and means r
pub record ReadAs (m : Mode) (bytes : List ℕ) (r : Regex) : Type 0 where
  pub tree : Tree m expression
  pub is_written : Written m bytes tree
  pub breaks_no_limit : breach tree ≡ None
  pub means_it : meaning tree ≡ r

-- the bytes are refused, by the number n at the place p
pub record RefusedBy (m : Mode) (bytes : List ℕ) (n p : ℕ) : Type 0 where
  pub fault : Fault
  pub due : Refusal m bytes fault
  pub by_number : number fault ≡ Some n
  pub at_place : place fault ≡ Some p

-- an engine that shifts by h shifts by the defined jumps
abbrev pub Defined : Regex → (List ℕ → ℕ) → Type 0
Defined r h = (v : List ℕ) → Tail r v → Jump r v (h v)

-- the matches are these, over all end places; and where the table has room for them, an engine that shifts by h runs over the whole
-- text in so many walks and reads: one run, allowed as many steps as there are end places, leads from the opening to these five numbers
pub record Searched (r : Regex) (text : List ℕ) (h : List ℕ → ℕ) (matches : List (ℕ × ℕ)) (walks reads : ℕ) : Type 0 where
  pub every_match : Exactly r text 0 (length text + 1) matches
  pub numbers : (room : ℕ) → length matches ≤ room
      → numbers_by r text room (λ _. h) (reckoned r text room (λ _. h) (Run 0 (length text + 1) ∷ []) (begun 0))
      ≡ record { from = 0; next = length text + 1; filled = length matches; walks = walks; reads = reads }

-- .. whichever engine shifts by the defined jumps; and there are such shifts
pub record SearchedByJumps (r : Regex) (text : List ℕ) (matches : List (ℕ × ℕ)) (walks reads : ℕ) : Type 0 where
  pub defined : (h : List ℕ → ℕ) × Defined r h
  pub by_any : (h : List ℕ → ℕ) → Defined r h → Searched r text h matches walks reads

-- the bytes of a field's part
abbrev pub part : List ℕ → Field → List ℕ
part label f = take f.length (drop f.offset label)

-- the label is well formed and has one field, with these bytes
pub record OneField (label : List ℕ) (f : Field) (bytes : List ℕ) : Type 0 where
  pub well_formed : WellFormed label
  pub one : count label ≡ 1
  pub field : entry label 0 ≡ f
  pub its_bytes : part label f ≡ bytes

-- the label is refused, by the number n at the place p, with any field list that has room for its fields
pub record LabelRefusedBy (label : List ℕ) (n p : ℕ) : Type 0 where
  pub fault : Fault
  pub due : (room : ℕ) → count label ≤ room → Refused label room fault
  pub by_number : number fault ≡ Some n
  pub at_place : place fault ≡ Some p

-- `ab+c`, `aba` and `a*` for bytes, `<01><10>` for fields
abbrev pub abc : Regex
abc = join (join (letter 97) (plus (letter 98))) (letter 99)

abbrev pub aba : Regex
aba = join (join (letter 97) (letter 98)) (letter 97)

abbrev pub any_a : Regex
any_a = star (letter 97)

abbrev pub one_ten : Regex
one_ten = join (letter 1) (letter 10)

abbrev pub xabbcabc : List ℕ
xabbcabc = 120 ∷ 97 ∷ 98 ∷ 98 ∷ 99 ∷ 97 ∷ 98 ∷ 99 ∷ []

abbrev pub ababa : List ℕ
ababa = 97 ∷ 98 ∷ 97 ∷ 98 ∷ 97 ∷ []

-- a label of edition 3 with one entry: identifier 10, length 2, and the offset
abbrev pub label_with : ℕ → List ℕ
label_with offset = 3 ∷ 1 ∷ 10 ∷ 2 ∷ 0 ∷ offset ∷ 76 ∷ 55 ∷ []

pub record WorkedCases : Type 0 where
  -- `ab+c`: t is 1 at the start and 3 at every position; searched on `xabbcabc`
  pub abc_is_read : ReadAs Bytes (97 ∷ 98 ∷ 43 ∷ 99 ∷ []) abc
  pub abc_has_jumps : PositionJumps abc (1 ∷ 3 ∷ 3 ∷ 3 ∷ [])
  pub abc_is_searched : SearchedByJumps abc xabbcabc ((1, 5) ∷ (5, 8) ∷ []) 7 13
  -- `aba`: t is 1 at the start and 2 elsewhere; searched on `ababa`, by these jumps and in single steps
  pub aba_is_read : ReadAs Bytes (97 ∷ 98 ∷ 97 ∷ []) aba
  pub aba_has_jumps : PositionJumps aba (1 ∷ 2 ∷ 2 ∷ 2 ∷ [])
  pub aba_is_searched : SearchedByJumps aba ababa ((0, 3) ∷ (2, 5) ∷ []) 4 8
  pub aba_in_single_steps : Searched aba ababa (λ _. 1) ((0, 3) ∷ (2, 5) ∷ []) 6 10
  -- `a*` on the empty text and on `a`
  pub any_a_is_read : ReadAs Bytes (97 ∷ 42 ∷ []) any_a
  pub any_a_in_nothing : Exactly any_a [] 0 1 ((0, 0) ∷ [])
  pub any_a_in_a : Exactly any_a (97 ∷ []) 0 2 ((0, 0) ∷ (1, 1) ∷ (0, 1) ∷ [])
  -- the empty expression in either mode, `a**`, `(ab` and `[b-a]` for bytes, `<^00-99>` for fields
  pub nothing_is_refused : (m : Mode) → RefusedBy m [] 2 0
  pub second_star_is_refused : RefusedBy Bytes (97 ∷ 42 ∷ 42 ∷ []) 2 2
  pub open_group_is_refused : RefusedBy Bytes (40 ∷ 97 ∷ 98 ∷ []) 2 3
  pub backward_range_is_refused : RefusedBy Bytes (91 ∷ 98 ∷ 45 ∷ 97 ∷ 93 ∷ []) 4 1
  pub empty_set_is_refused : RefusedBy Fields (60 ∷ 94 ∷ 48 ∷ 48 ∷ 45 ∷ 57 ∷ 57 ∷ 62 ∷ []) 5 0
  -- `<01><10>`: t is 1 at the start and 2 elsewhere; searched on the identifiers 1, 10, 17, 1, 10
  pub one_ten_is_read : ReadAs Fields (60 ∷ 48 ∷ 49 ∷ 62 ∷ 60 ∷ 49 ∷ 48 ∷ 62 ∷ []) one_ten
  pub one_ten_has_jumps : PositionJumps one_ten (1 ∷ 2 ∷ 2 ∷ [])
  pub one_ten_is_searched : SearchedByJumps one_ten (1 ∷ 10 ∷ 17 ∷ 1 ∷ 10 ∷ []) ((0, 2) ∷ (3, 5) ∷ []) 5 7
  -- the bytes 3 1 10 2 0 6 76 55, and the same with offset 7 in place of 6
  pub label_has_one_field : OneField (label_with 6) (record { identifier = 10; offset = 6; length = 2 }) (76 ∷ 55 ∷ [])
  pub part_outside_is_refused : LabelRefusedBy (label_with 7) 15 2
