-- The tokens that an expression is cut into, and what each is cut from. Assumes nothing.
use Rattle.std.specs.Prelude.{◌≡◌, ℕ, ◌+◌, Bool, false, cond, not, ◌||◌, List, [], ◌∷◌, length, Some, None, Option, ◌==◌, slice_index_or}
use Rattle.syntax.specs.declared.mode.Mode.{Mode}
use Rattle.syntax.specs.declared.lexer.Token.{Token}
use Rattle.syntax.specs.declared.lexer.Token.TheVariants.{Open, Close, Bar, Mark, Dot, Unit, Set}
use Rattle.syntax.specs.declared.members.Members as members
use Rattle.syntax.specs.declared.tree.Mark as tree
use Rattle.syntax.specs.declared.tree.Mark.TheVariants.{Star, Plus, Query}
use Rattle.syntax.specs.Grammar.{Members, Simple, dot, unit, set, caret, code, holds, written_members, written_simple, written_mark}
use Rattle.syntax.specs.Lexer.{Before}
use Rattle.syntax.specs.Tree.{mark_of}

-- the mark that a byte is
abbrev pub mark_of_byte : ℕ → Option tree.Mark
mark_of_byte b = cond (b == 42) (Some Star) (cond (b == 43) (Some Plus) (cond (b == 63) (Some Query) None))

-- the tokens that are no value and no set
abbrev pub sign_token : ℕ → Option Token
sign_token b =
    cond (b == 40) (Some Open)
    (cond (b == 41) (Some Close)
    (cond (b == 124) (Some Bar)
    (cond (b == 42) (Some (Mark Star))
    (cond (b == 43) (Some (Mark Plus))
    (cond (b == 63) (Some (Mark Query))
    (cond (b == 46) (Some Dot) None))))))

-- an item begins
abbrev pub item_in : List ℕ → Bool
item_in [] = false
item_in (b ∷ w) = not (b == 124 || b == 41)

-- what a token is cut from
pub data Lexeme (m : Mode) : Type 0 where
  open_group close_group bar : Lexeme m
  mark : tree.Mark → Lexeme m
  atom : Simple m → Lexeme m

abbrev pub written_lexeme : (m : Mode) → Lexeme m → List ℕ
written_lexeme m open_group = 40 ∷ []
written_lexeme m close_group = 41 ∷ []
written_lexeme m bar = 124 ∷ []
written_lexeme m (mark k) = written_mark (mark_of k)
written_lexeme m (atom s) = written_simple m s

-- the token t is a set whose members stand at the place p
abbrev pub IsSet : (m : Mode) → Bool → Members m → ℕ → Token → Type 0
IsSet m n xs p t = (r : members.Members) × (t ≡ Set n r) × Before m (written_members m xs) r.lexer × (r.lexer.place ≡ p)

-- the token t is the lexeme at the place p
abbrev pub Stands : (m : Mode) → Lexeme m → ℕ → Token → Type 0
Stands m open_group p t = t ≡ Open
Stands m close_group p t = t ≡ Close
Stands m bar p t = t ≡ Bar
Stands m (mark k) p t = t ≡ Mark k
Stands m (atom dot) p t = t ≡ Dot
Stands m (atom (unit a x)) p t = t ≡ Unit (code m x)
Stands m (atom (set n xs)) p t = IsSet m n xs (p + 1 + length (caret n)) t

-- the token t is the simple atom s
abbrev pub Atomic : (m : Mode) → Simple m → Token → Type 0
Atomic m s t = (p : ℕ) × Stands m (atom s) p t

-- a code is held if it is named, or where all others are held instead if it is not
abbrev pub turned : Bool → Bool → Bool
turned others named = cond others (not named) named

abbrev pub Table : (m : Mode) → Simple m → List Bool → Type 0
Table m s table = (c : ℕ) → slice_index_or table c false ≡ holds m s c
