-- Where an expression of the grammar breaks a limit, and how far bytes that are none can be read. Assumes nothing.
use Rattle.std.specs.Prelude.{◌≡◌, ℕ, ◌+◌, ◌<◌, ◌≤◌, cond, List, [], ◌∷◌, ◌++◌, length, take, drop, Some, None, Option, ◌≢◌, nat_lt}
use Rattle.std.specs.List.{flat_map}
use Rattle.regular.specs.Positions.{some_below}
use Rattle.refusal.specs.declared.Fault.{Fault}
use Rattle.refusal.specs.declared.Fault.TheVariants.{TooDeep, ReversedRange, EmptySet, TooManyPositions}
use Rattle.syntax.specs.declared.mode.Mode.{Mode}
use Rattle.syntax.specs.Grammar.{Member, single, range, Members, last, more, Simple, dot, unit, set, Tree, expression, Part, group_at, simple_at, code, top, separator, caret, written_member, written, holds, parts}

-- a head that some expression begins with
abbrev pub Begins : Mode → List ℕ → Type 0
Begins m head = (t : Tree m expression) × (rest : List ℕ) × (written t ≡ head ++ rest)

-- not in the grammar, and p is the length of the longest head that begins some expression
pub record OutsideGrammar (m : Mode) (bytes : List ℕ) (p : ℕ) : Type 0 where
  pub no_tree : (t : Tree m expression) → written t ≢ bytes
  pub within : p ≤ length bytes
  pub begins : Begins m (take p bytes)
  pub longest : (q : ℕ) → p < q → q ≤ length bytes → Begins m (take q bytes) → ⊥

-- the first of them, if any
abbrev pub first : List ℕ → Option ℕ
first [] = None
first (p ∷ ps) = Some p

-- the spots of each kind of refusal: groups that are too deep, ranges with the second end below the first,
-- simple atoms that hold nothing, and all simple atoms
abbrev pub too_deep : {m : Mode} → Part m → List ℕ
too_deep (group_at d p) = cond (nat_lt 16 d) (p ∷ []) []
too_deep (simple_at s p) = []

abbrev pub reversed_member : (m : Mode) → Member m → ℕ → List ℕ
reversed_member m (single x) p = []
reversed_member m (range x y) p = cond (nat_lt (code m y) (code m x)) (p ∷ []) []

abbrev pub reversed_members : (m : Mode) → Members m → ℕ → List ℕ
reversed_members m (last x) p = reversed_member m x p
reversed_members m (more x xs) p = reversed_member m x p ++ reversed_members m xs (p + length (written_member m x) + length (separator m))

abbrev pub reversed_simple : (m : Mode) → Simple m → ℕ → List ℕ
reversed_simple m dot p = []
reversed_simple m (unit a x) p = []
reversed_simple m (set n xs) p = reversed_members m xs (p + 1 + length (caret n))

abbrev pub reversed : {m : Mode} → Part m → List ℕ
reversed (group_at d p) = []
reversed {m} (simple_at s p) = reversed_simple m s p

abbrev pub empty_set : {m : Mode} → Part m → List ℕ
empty_set (group_at d p) = []
empty_set {m} (simple_at s p) = cond (some_below (top m + 1) (holds m s)) [] (p ∷ [])

abbrev pub position : {m : Mode} → Part m → List ℕ
position (group_at d p) = []
position (simple_at s p) = p ∷ []

abbrev pub spots : {m : Mode} → (Part m → List ℕ) → Tree m expression → List ℕ
spots f t = flat_map f (parts t 0 0)

-- a fault at the spot, if there is one, and else what comes later
abbrev pub at_spot : (ℕ → Fault) → Option ℕ → Option Fault → Option Fault
at_spot fault None later = later
at_spot fault (Some p) later = Some (fault p)

-- the first limit that is broken, from the first spot of each kind
abbrev pub breach_of : Option ℕ → Option ℕ → Option ℕ → Option ℕ → Option Fault
breach_of deep backwards empty over = at_spot TooDeep deep (at_spot ReversedRange backwards (at_spot EmptySet empty (at_spot TooManyPositions over None)))

-- the first limit that an expression breaks, and where: the position behind the most that there may be is one too many
abbrev pub breach : {m : Mode} → Tree m expression → Option Fault
breach t = breach_of (first (spots too_deep t)) (first (spots reversed t)) (first (spots empty_set t)) (first (drop 63 (spots position t)))
