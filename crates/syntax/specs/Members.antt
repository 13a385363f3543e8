-- The members of a set, read from its bytes. Assumes nothing.
use Rattle.std.specs.Prelude.{ℕ, zero, suc, ◌+◌, ◌-◌, Bool, cond, ◌&&◌, List, [], ◌∷◌, length, drop, Some, None, Option, nat_le, nat_lt}
use Rattle.syntax.specs.declared.mode.Mode.{Mode}
use Rattle.syntax.specs.declared.mode.Mode.TheVariants.{Bytes, Fields}
use Rattle.syntax.specs.declared.members.Member.{Member}
use Rattle.syntax.specs.declared.members.Members.{Members}
use Rattle.syntax.specs.Lexer.{starts, value_of}

abbrev pub covers : Member → ℕ → Bool
covers k c = nat_le k.first c && nat_le c k.last

abbrev pub runs_back : Member → Bool
runs_back k = nat_lt k.last k.first

-- w without the byte b at its front
abbrev pub behind : ℕ → List ℕ → List ℕ
behind b w = cond (starts b w) (drop 1 w) w

-- what stands behind a member
abbrev pub behind_separator : Mode → List ℕ → List ℕ
behind_separator Bytes w = w
behind_separator Fields w = behind 44 w

-- the member at the place p that bytes begin with, and the bytes behind it and what separates it from another
abbrev pub to_last : Mode → ℕ → ℕ → Option (ℕ × List ℕ) → Option (Member × List ℕ)
to_last m p low None = None
to_last m p low (Some x) = Some (record { first = low; last = x.0; place = p }, behind_separator m x.1)

abbrev pub from_first : Mode → ℕ → Option (ℕ × List ℕ) → Option (Member × List ℕ)
from_first m p None = None
from_first m p (Some x) = to_last m p x.0 (cond (starts 45 x.1) (value_of m (drop 1 x.1)) (Some x))

abbrev pub member_of : Mode → ℕ → List ℕ → Option (Member × List ℕ)
member_of m p w = from_first m p (value_of m w)

-- a member, and those that the bytes behind it are
abbrev pub followed : Option (Member × List ℕ) → (List ℕ → List Member) → List Member
followed None others = []
followed (Some x) others = x.0 ∷ others x.1

-- the members, at most n, that the bytes w are, which end at the place e
abbrev pub member_list : ℕ → Mode → ℕ → List ℕ → List Member
member_list zero m e w = []
member_list (suc n) m e w = followed (member_of m (e - length w) w) (member_list n m e)

abbrev pub listed : Members → List Member
listed s = member_list (length s.lexer.rest.now) s.lexer.mode (s.lexer.place + length s.lexer.rest.now) s.lexer.rest.now
