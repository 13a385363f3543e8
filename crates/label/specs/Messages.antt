-- How a field is printed. Assumes nothing.
use Rattle.std.specs.Prelude.{ℕ, List, ◌++◌, codes, decimal}
use Rattle.label.specs.declared.Field.{Field}

abbrev pub field_text : Field → List ℕ
field_text f = decimal f.identifier ++ codes " " ++ decimal f.offset ++ codes " " ++ decimal f.length
