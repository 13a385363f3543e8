-- The grammar as trees: the bytes that a tree is written as, the expression that it stands for, the word that it
-- spells, and where its groups and simple atoms stand. Assumes nothing.
use Rattle.std.specs.Prelude.{◌≡◌, ℕ, ◌+◌, ◌-◌, ◌*◌, Bool, true, false, cond, not, ◌&&◌, ◌||◌, List, [], ◌∷◌, ◌++◌, length, Some, None, Option, ◌==◌, nat_le}
use Rattle.regular.specs.Language.{Regex, one, join, either, star, plus, maybe}
use Rattle.syntax.specs.declared.mode.Mode.{Mode}
use Rattle.syntax.specs.declared.mode.Mode.TheVariants.{Bytes, Fields}

abbrev pub among : List ℕ → ℕ → Bool
among [] b = false
among (x ∷ xs) b = x == b || among xs b

-- ( ) [ ] < > | * + ? . \ ^ -
abbrev pub special : ℕ → Bool
special = among (40 ∷ 41 ∷ 91 ∷ 93 ∷ 60 ∷ 62 ∷ 124 ∷ 42 ∷ 43 ∷ 63 ∷ 46 ∷ 92 ∷ 94 ∷ 45 ∷ [])

abbrev pub digit : ℕ → Bool
digit b = nat_le 48 b && nat_le b 57

-- a unit is a plain byte, or \ and a special byte, or \n
pub data ByteUnit : Type 0 where
  plain : (b : ℕ) → special b ≡ false → ByteUnit
  escaped : (b : ℕ) → special b ≡ true → ByteUnit
  newline : ByteUnit

-- two decimal digits
pub data TwoDigits : Type 0 where
  pair : (a b : ℕ) → digit a ≡ true → digit b ≡ true → TwoDigits

-- what stands for one code: a unit for bytes, two digits for fields
abbrev pub Value : Mode → Type 0
Value Bytes = ByteUnit
Value Fields = TwoDigits

abbrev pub written_value : (m : Mode) → Value m → List ℕ
written_value Bytes (plain b p) = b ∷ []
written_value Bytes (escaped b p) = 92 ∷ b ∷ []
written_value Bytes newline = 92 ∷ 110 ∷ []
written_value Fields (pair a b p q) = a ∷ b ∷ []

abbrev pub code : (m : Mode) → Value m → ℕ
code Bytes (plain b p) = b
code Bytes (escaped b p) = b
code Bytes newline = 10
code Fields (pair a b p q) = 10 * (a - 48) + (b - 48)

-- the largest code
abbrev pub top : Mode → ℕ
top Bytes = 255
top Fields = 99

-- what a set is written between, and what stands between its members
abbrev pub opening : Mode → ℕ
opening Bytes = 91
opening Fields = 60

abbrev pub closing : Mode → ℕ
closing Bytes = 93
closing Fields = 62

abbrev pub separator : Mode → List ℕ
separator Bytes = []
separator Fields = 44 ∷ []

pub data Member (m : Mode) : Type 0 where
  single : Value m → Member m
  range : Value m → Value m → Member m

pub data Members (m : Mode) : Type 0 where
  last : Member m → Members m
  more : Member m → Members m → Members m

-- only a unit may stand as an atom by itself
abbrev pub Alone : Mode → Type 0
Alone Bytes = Unit {0}
Alone Fields = ⊥

-- a simple atom; the Bool says whether a set has its ^
pub data Simple (m : Mode) : Type 0 where
  dot : Simple m
  unit : Alone m → Value m → Simple m
  set : Bool → Members m → Simple m

pub data Mark : Type 0 where
  once any some_times perhaps : Mark

-- an expression is branches with | between them, a branch is items in a row, an item is an atom and at most one mark
pub data Level : Type 0 where
  expression branch item atom : Level

pub data Tree (m : Mode) : Level → Type 0 where
  only : Tree m branch → Tree m expression
  or : Tree m expression → Tree m branch → Tree m expression
  lone : Tree m item → Tree m branch
  row : Tree m branch → Tree m item → Tree m branch
  marked : Tree m atom → Mark → Tree m item
  group : Tree m expression → Tree m atom
  simple : Simple m → Tree m atom

abbrev pub written_member : (m : Mode) → Member m → List ℕ
written_member m (single x) = written_value m x
written_member m (range x y) = written_value m x ++ (45 ∷ written_value m y)

abbrev pub written_members : (m : Mode) → Members m → List ℕ
written_members m (last x) = written_member m x
written_members m (more x xs) = written_member m x ++ (separator m ++ written_members m xs)

abbrev pub caret : Bool → List ℕ
caret n = cond n (94 ∷ []) []

abbrev pub written_simple : (m : Mode) → Simple m → List ℕ
written_simple m dot = 46 ∷ []
written_simple m (unit a x) = written_value m x
written_simple m (set n xs) = opening m ∷ (caret n ++ (written_members m xs ++ (closing m ∷ [])))

abbrev pub written_mark : Mark → List ℕ
written_mark once = []
written_mark any = 42 ∷ []
written_mark some_times = 43 ∷ []
written_mark perhaps = 63 ∷ []

abbrev pub written : {m : Mode} {l : Level} → Tree m l → List ℕ
written (only b) = written b
written (or t b) = written t ++ (124 ∷ written b)
written (lone i) = written i
written (row b i) = written b ++ written i
written (marked a k) = written a ++ written_mark k
written (group t) = 40 ∷ (written t ++ (41 ∷ []))
written {m} (simple s) = written_simple m s

-- the codes that a simple atom holds
abbrev pub in_member : (m : Mode) → Member m → ℕ → Bool
in_member m (single x) c = code m x == c
in_member m (range x y) c = nat_le (code m x) c && nat_le c (code m y)

abbrev pub in_members : (m : Mode) → Members m → ℕ → Bool
in_members m (last x) c = in_member m x c
in_members m (more x xs) c = in_member m x c || in_members m xs c

abbrev pub held : (m : Mode) → Simple m → ℕ → Bool
held m dot c = true
held m (unit a x) c = code m x == c
held m (set n xs) c = cond n (not (in_members m xs c)) (in_members m xs c)

abbrev pub holds : (m : Mode) → Simple m → ℕ → Bool
holds m s c = nat_le c (top m) && held m s c

abbrev pub repeated : Mark → Regex → Regex
repeated once r = r
repeated any r = star r
repeated some_times r = plus r
repeated perhaps r = maybe r

-- what it stands for
abbrev pub meaning : {m : Mode} {l : Level} → Tree m l → Regex
meaning (only b) = meaning b
meaning (or t b) = either (meaning t) (meaning b)
meaning (lone i) = meaning i
meaning (row b i) = join (meaning b) (meaning i)
meaning (marked a k) = repeated k (meaning a)
meaning (group t) = meaning t
meaning {m} (simple s) = one (holds m s)

-- the value that a simple atom is, where it is written as a value and no more: a unit by itself, or two digits in < >
abbrev pub bare_set : (m : Mode) → Bool → Members m → Option ℕ
bare_set Bytes n xs = None
bare_set Fields true xs = None
bare_set Fields false (last (single x)) = Some (code Fields x)
bare_set Fields false (last (range x y)) = None
bare_set Fields false (more x xs) = None

abbrev pub bare : (m : Mode) → Simple m → Option ℕ
bare m dot = None
bare m (unit a x) = Some (code m x)
bare m (set n xs) = bare_set m n xs

-- a word of one code, and one word behind another, where there are such
abbrev pub letter : Option ℕ → Option (List ℕ)
letter None = None
letter (Some c) = Some (c ∷ [])

abbrev pub in_a_row : Option (List ℕ) → Option (List ℕ) → Option (List ℕ)
in_a_row None v = None
in_a_row (Some u) None = None
in_a_row (Some u) (Some v) = Some (u ++ v)

abbrev pub unless_marked : Mark → Option (List ℕ) → Option (List ℕ)
unless_marked once w = w
unless_marked any w = None
unless_marked some_times w = None
unless_marked perhaps w = None

-- the word that an expression spells, if it is written as values in a row and has no group, mark or bar
abbrev pub spelled : {m : Mode} {l : Level} → Tree m l → Option (List ℕ)
spelled (only b) = spelled b
spelled (or t b) = None
spelled (lone i) = spelled i
spelled (row b i) = in_a_row (spelled b) (spelled i)
spelled (marked a k) = unless_marked k (spelled a)
spelled (group t) = None
spelled {m} (simple s) = letter (bare m s)

-- the groups, each with its depth, and the simple atoms, each with its place, in written order;
-- the tree stands d deep, from the place p on
pub data Part (m : Mode) : Type 0 where
  group_at : (depth place : ℕ) → Part m
  simple_at : Simple m → (place : ℕ) → Part m

abbrev pub parts : {m : Mode} {l : Level} → Tree m l → ℕ → ℕ → List (Part m)
parts (only b) d p = parts b d p
parts (or t b) d p = parts t d p ++ parts b d (p + length (written t) + 1)
parts (lone i) d p = parts i d p
parts (row b i) d p = parts b d p ++ parts i d (p + length (written b))
parts (marked a k) d p = parts a d p
parts (group t) d p = group_at (d + 1) p ∷ parts t (d + 1) (p + 1)
parts (simple s) d p = simple_at s p ∷ []
