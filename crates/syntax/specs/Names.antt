-- What a mode is called. Assumes nothing.
use Rattle.std.specs.Prelude.{ℕ, List, codes}
use Rattle.syntax.specs.declared.mode.Mode.{Mode}
use Rattle.syntax.specs.declared.mode.Mode.TheVariants.{Bytes, Fields}

abbrev pub name : Mode → List ℕ
name Bytes = codes "byte"
name Fields = codes "field"
