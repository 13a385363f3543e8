-- What the lexer finds at the front of the bytes, and what it leaves. Assumes nothing.
use Rattle.std.specs.Prelude.{◌≡◌, ℕ, suc, ◌+◌, ◌-◌, ◌*◌, ◌<◌, Bool, false, cond, not, ◌&&◌, List, [], ◌∷◌, ◌++◌, length, Some, None, Option, ◌==◌, option_and_then, option_map}
use Rattle.syntax.specs.declared.mode.Mode.{Mode}
use Rattle.syntax.specs.declared.mode.Mode.TheVariants.{Bytes, Fields}
use Rattle.syntax.specs.declared.lexer.Lexer.{Lexer}
use Rattle.syntax.specs.Grammar.{digit}

-- the lexer l is for the mode m, and the bytes w are left
pub record Before (m : Mode) (w : List ℕ) (l : Lexer) : Type 0 where
  pub mode_is : l.mode ≡ m
  pub rest_is : l.rest.now ≡ w

-- the lexer old went on to new
pub record Kept (old new : Lexer) : Type 0 where
  pub mode_is : new.mode ≡ old.mode
  pub place_is : new.place + length new.rest.now ≡ old.place + length old.rest.now

-- and read some byte
pub record Ahead (old new : Lexer) : Type 0 where
  pub kept : Kept old new
  pub shorter : length new.rest.now < length old.rest.now

-- and w is left
pub record Left (w : List ℕ) (old new : Lexer) : Type 0 where
  pub kept : Kept old new
  pub rest_is : new.rest.now ≡ w

-- the bytes u were read
abbrev pub Ate : List ℕ → Lexer → Lexer → Type 0
Ate u old new = Kept old new × (old.rest.now ≡ u ++ new.rest.now)

-- r is what the bytes begin with, and the others are left
abbrev pub Took : {A : Type 0} → Option A → Option (A × List ℕ) → Lexer → Lexer → Type 0
Took r None old new = r ≡ None
Took r (Some x) old new = (r ≡ Some x.0) × Left x.1 old new

abbrev pub starts : ℕ → List ℕ → Bool
starts b [] = false
starts b (c ∷ w) = c == b

-- what bytes begin with, and the bytes behind it: the code of a unit, a digit, two digits, and a value
abbrev pub escaped_of : List ℕ → Option (ℕ × List ℕ)
escaped_of [] = None
escaped_of (b ∷ w) = Some (cond (b == 110) 10 b, w)

abbrev pub unit_of : List ℕ → Option (ℕ × List ℕ)
unit_of [] = None
unit_of (b ∷ w) = cond (b == 92) (escaped_of w) (Some (b, w))

abbrev pub digit_of : List ℕ → Option (ℕ × List ℕ)
digit_of [] = None
digit_of (b ∷ w) = cond (digit b) (Some (b - 48, w)) None

abbrev pub pair_of : List ℕ → Option (ℕ × List ℕ)
pair_of w = option_and_then (λ x. option_map (λ y. (10 * x.0 + y.0, y.1)) (digit_of x.1)) (digit_of w)

abbrev pub value_of : Mode → List ℕ → Option (ℕ × List ℕ)
value_of Bytes w = unit_of w
value_of Fields w = pair_of w

-- what f finds of the first byte
abbrev pub front : {A : Type 0} → (ℕ → Option A) → List ℕ → Option (A × List ℕ)
front f [] = None
front f (b ∷ w) = option_map (λ x. (x, w)) (f b)

-- how many bytes stand before the closing bracket k, the first behind a \ or not
abbrev pub until : ℕ → Bool → List ℕ → ℕ
until k e [] = 0
until k e (b ∷ w) = cond (not e && b == k) 0 (suc (until k (not e && b == 92) w))

-- what was read, if nothing is left
abbrev pub sole : Option (ℕ × List ℕ) → Option ℕ
sole None = None
sole (Some x) = cond (length x.1 == 0) (Some x.0) None
