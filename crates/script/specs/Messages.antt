-- How it is printed that a script is not taken. Assumes nothing.
use Rattle.std.specs.Prelude.{ℕ, List, ◌++◌, codes, decimal}
use Rattle.script.specs.declared.scripts.Misread.{Misread}
use Rattle.script.specs.declared.scripts.Misread.TheVariants.{Line, Memory}

abbrev pub misread_text : Misread → List ℕ
misread_text (Line number) = codes "bad line " ++ decimal number
misread_text Memory = codes "out of memory"
