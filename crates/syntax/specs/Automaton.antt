-- Reading an expression byte by byte, with a count of the groups that are open. Assumes nothing.
use Rattle.std.specs.Prelude.{ℕ, zero, suc, Bool, false, cond, ◌||◌, List, [], ◌∷◌, Some, None, Option, ◌==◌}
use Rattle.syntax.specs.declared.mode.Mode.{Mode}
use Rattle.syntax.specs.declared.mode.Mode.TheVariants.{Bytes, Fields}
use Rattle.syntax.specs.declared.grammar.Form.{Form}
use Rattle.syntax.specs.declared.grammar.State.{State}
use Rattle.syntax.specs.declared.grammar.Form.TheVariants.{Need, Atom, Marked, Half, Opened, Member, MemberHalf, One, Dash, DashHalf, Two}
use Rattle.syntax.specs.declared.grammar.Begun.{Begun}
use Rattle.syntax.specs.declared.grammar.Begun.TheVariants.{Not, Part, Whole}
use Rattle.syntax.specs.Grammar.{special, digit, opening, closing}

-- a value of one byte, the first byte of two, or neither
abbrev pub begins : Mode → ℕ → Begun
begins Bytes b = cond (special b) (cond (b == 92) Part Not) Whole
begins Fields b = cond (digit b) Part Not

-- the second byte of two
abbrev pub ends : Mode → ℕ → Bool
ends Bytes b = special b || b == 110
ends Fields b = digit b

abbrev pub state : Form → ℕ → State
state f d = record { form = f; depth = d }

abbrev pub pick : {A : Type 0} → Begun → A → A → A → A
pick Not x y z = x
pick Part x y z = y
pick Whole x y z = z

-- a value has to begin
abbrev pub start : Mode → ℕ → Form → Form → ℕ → Option State
start m b half whole d = pick (begins m b) None (Some (state half d)) (Some (state whole d))

abbrev pub finish : Mode → ℕ → Form → ℕ → Option State
finish m b whole d = cond (ends m b) (Some (state whole d)) None

abbrev pub between : Mode → ℕ → ℕ → Option State
between Bytes b d = start Bytes b MemberHalf One d
between Fields b d = cond (b == 44) (Some (state Member d)) None

abbrev pub further : Mode → ℕ → ℕ → Option State
further m b d = cond (b == closing m) (Some (state Atom d)) (between m b d)

-- behind `)`: one group fewer is open, if one is
abbrev pub closed : ℕ → Option State
closed zero = None
closed (suc d) = Some (state Atom d)

-- where `)`, `|` and a mark lead to, if they may stand behind the form
abbrev pub closes : Form → ℕ → Option State
closes Atom d = closed d
closes Marked d = closed d
closes f d = None

abbrev pub bars : Form → ℕ → Option State
bars Atom d = Some (state Need d)
bars Marked d = Some (state Need d)
bars f d = None

abbrev pub marks : Form → ℕ → Option State
marks Atom d = Some (state Marked d)
marks f d = None

-- outside sets: what a byte does that is no unit, after an atom, a mark or neither
abbrev pub sign : Mode → ℕ → Option State → Option State → Option State → ℕ → Option State
sign m b close bar mark d =
    cond (b == 40) (Some (state Need (suc d)))
    (cond (b == 41) close
    (cond (b == 124) bar
    (cond (b == 42 || (b == 43 || b == 63)) mark
    (cond (b == 46) (Some (state Atom d))
    (cond (b == opening m) (Some (state Opened d)) None)))))

abbrev pub outside : Mode → ℕ → Option State → Option State → Option State → ℕ → Option State
outside Bytes b close bar mark d = pick (begins Bytes b) (sign Bytes b close bar mark d) (Some (state Half d)) (Some (state Atom d))
outside Fields b close bar mark d = sign Fields b close bar mark d

abbrev pub step : Mode → Form → ℕ → ℕ → Option State
step m Need d b = outside m b None None None d
step m Atom d b = outside m b (closed d) (Some (state Need d)) (Some (state Marked d)) d
step m Marked d b = outside m b (closed d) (Some (state Need d)) None d
step m Half d b = finish m b Atom d
step m Opened d b = cond (b == 94) (Some (state Member d)) (start m b MemberHalf One d)
step m Member d b = start m b MemberHalf One d
step m MemberHalf d b = finish m b One d
step m One d b = cond (b == 45) (Some (state Dash d)) (further m b d)
step m Dash d b = start m b DashHalf Two d
step m DashHalf d b = finish m b Two d
step m Two d b = further m b d

abbrev pub onward : Option State → (Form → ℕ → Option State) → Option State
onward None k = None
onward (Some s) k = k s.form s.depth

abbrev pub run : Mode → List ℕ → Form → ℕ → Option State
run m [] f d = Some (state f d)
run m (b ∷ bs) f d = onward (step m f d b) (run m bs)

-- an expression may end there
abbrev pub final : Form → ℕ → Bool
final Atom d = d == 0
final Marked d = d == 0
final f d = false
