-- What a label is: its edition, its count of entries, the entries, and when all of it is well formed. Assumes nothing.
use Rattle.std.specs.Prelude.{◌≡◌, ℕ, ◌+◌, ◌*◌, ◌<◌, ◌≤◌, Bool, ◌&&◌, List, length, drop, nat_le, slice_index}
use Rattle.label.specs.declared.Field.{Field}

abbrev pub edition : List ℕ → ℕ
edition label = slice_index label 0

abbrev pub count : List ℕ → ℕ
count label = slice_index label 1

-- where the entry i stands; the header ends where an entry behind the last would stand
abbrev pub place : ℕ → ℕ
place i = 2 + 4 * i

abbrev pub header_end : List ℕ → ℕ
header_end label = place (count label)

-- four bytes of an entry: the identifier, the length of the part, and its offset from the label's start, high byte first
abbrev pub field : List ℕ → Field
field bytes = record { identifier = slice_index bytes 0; offset = 256 * slice_index bytes 2 + slice_index bytes 3; length = slice_index bytes 1 }

abbrev pub entry : List ℕ → ℕ → Field
entry label i = field (drop (place i) label)

-- the field's part starts at or after the header's end and ends at or before the label's
abbrev pub lies_within : Field → ℕ → ℕ → Bool
lies_within f start end = nat_le start f.offset && nat_le (f.offset + f.length) end

pub record Within (label : List ℕ) (f : Field) : Type 0 where
  pub behind : header_end label ≤ f.offset
  pub inside : f.offset + f.length ≤ length label

pub record Sound (label : List ℕ) (f : Field) : Type 0 where
  pub known : f.identifier ≤ 99
  pub within : Within label f

-- the header is whole
pub record Headed (label : List ℕ) : Type 0 where
  pub begun : 2 ≤ length label
  pub third : edition label ≡ 3
  pub few : count label ≤ 32
  pub whole : header_end label ≤ length label

pub record WellFormed (label : List ℕ) : Type 0 where
  pub header : Headed label
  pub entries : (i : ℕ) → i < count label → Sound label (entry label i)
