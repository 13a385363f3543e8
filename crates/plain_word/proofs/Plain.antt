-- The word that a tree spells: its letters are counted, its ends are the tails, and its least moves the jumps. Assumes nothing.
use Rattle.std.proofs.Common.{◌≡◌, ℕ, ◌+◌, ◌<◌, ◌≤◌, true, ◌↔◌, List, ◌∷◌, length, get_or, Some, None, Option, sym, refl, ap, subst, arith, length-append}
use Rattle.std.specs.Option.{MatchOption}
use Rattle.regular.specs.Language.{Regex, one, join, either, star, plus, maybe, Word, Tail}
use Rattle.regular.specs.Jumps.{Skips}
use Rattle.regular.specs.Positions.{size}
use Rattle.syntax.specs.declared.tree.Node.{Node}
use Rattle.syntax.specs.declared.tree.Node.TheVariants.{Atom, Group', Join', Either', Marked'}
use Rattle.syntax.specs.Grammar.{letter, in_a_row}
use Rattle.syntax.specs.Tree.{language, spelling, exact}
use Rattle.syntax.proofs.Options.{some_same, none_some}
use Rattle.syntax.proofs.Spelled.{spelled_alone}
use Rattle.distance.specs.Distances.{WholeJump}
use Rattle.distance.proofs.Safe.{jumps_safe}
use Rattle.plain_word.specs.Jumps.{Precedes, LeastMove}
use Rattle.plain_word.specs.Theorems.{EndsAreTails, MovesAreJumps}
use Rattle.plain_word.proofs.Ends.{tail_last, last_tail, full_is, longer_tail, longer_is}
use Rattle.plain_word.proofs.Aligned.{least_agrees}

size_some : (r : Regex) → 1 ≤ size r
size_some (one s) = omega arith
size_some (join a b) = omega (arith, size_some a)
size_some (either a b) = omega (arith, size_some a)
size_some (star a) = size_some a
size_some (plus a) = size_some a
size_some (maybe a) = size_some a

-- a letter for each position
spelled_long : (n : Node) (w : List ℕ) → spelling n ≡ Some w → length w ≡ size (language n)
spelled_long (Atom a) w e = go a.single e
  where
    go : (o : Option ℕ) → letter o ≡ Some w → length w ≡ 1
    go None e = none_some e
    go (Some c) e = ap length (sym (some_same e))
spelled_long (Join' p a q b) w e = go (spelling a) (spelling b) e (spelled_long a) (spelled_long b)
  where
    go : (o u : Option (List ℕ)) → in_a_row o u ≡ Some w → ((x : List ℕ) → o ≡ Some x → length x ≡ size (language a)) → ((x : List ℕ) → u ≡ Some x → length x ≡ size (language b)) → length w ≡ size (language a) + size (language b)
    go None u e f g = none_some e
    go (Some s) None e f g = none_some e
    go (Some s) (Some t) e f g = omega (arith, ap length (some_same e), length-append s t, f s refl, g t refl)
spelled_long (Group' p a) w e = none_some e
spelled_long (Either' p a q b) w e = none_some e
spelled_long (Marked' k p a) w e = none_some e

pub ends_tails : EndsAreTails
ends_tails n w x e v =
    let alone = spelled_alone n w x e in (
      λ t. let (is, l) = tail_last (language n) w alone v t in (l, is),
      λ (l, is). subst (Tail (language n)) (sym is) (last_tail (language n) w alone (length v)),
    )

pub moves_jump : MovesAreJumps
moves_jump n w few x e j h le L =
    let long = spelled_long n w e in
    let some = size_some (language n) in
    least_agrees (language n) w (spelled_alone n w x e) j le (omega arith) (omega arith) h L

-- over the tree of an expression that spells a word
module _ (n : Node) (w : List ℕ) (x : exact n ≡ true) (e : spelling n ≡ Some w) where
  pub alone : (v : List ℕ) → Word (language n) v ↔ (v ≡ w)
  alone = spelled_alone n w x e

  -- the counts that an engine of the word has as its states
  module _ (v : List ℕ) (tail : Tail (language n) v) where
    pub counted : length v < length w + 1
    counted = omega (arith, (tail_last (language n) w alone v tail).1)

    pub final_is : (length v ≡ length w) ↔ Word (language n) v
    final_is = (λ same. (alone v).1 (full_is (language n) w alone v (record { tail = tail; long = same })), λ p. ap length ((alone v).0 p))

    pub advance_is : (c : ℕ) (o : Option ℕ)
        → MatchOption o (Precedes w (length v) c → ⊥) (λ s. Precedes w (length v) c × (s ≡ length v + 1)) → MatchOption o (Tail (language n) (c ∷ v) → ⊥) (λ s. Tail (language n) (c ∷ v) × (s ≡ length (c ∷ v)))
    advance_is c None none = λ t. none (longer_is (language n) w alone c v tail t)
    advance_is c (Some s) (p, is) = (longer_tail (language n) w alone c v tail p, omega arith)

  module _ (few : size (language n) ≤ 63) where
    pub long_enough : (1 ≤ length w) × (length w ≤ 63)
    long_enough = let l = spelled_long n w e in let s = size_some (language n) in (omega arith, omega arith)

    -- with a least move for each count
    module _ (jumps : List ℕ) (count : length jumps ≡ length w + 1) (least : (j : ℕ) → j < length jumps → LeastMove w j (get_or jumps j 0)) where
      pub jump_is : (v : List ℕ) → Tail (language n) v → WholeJump (language n) v (get_or jumps (length v) 0)
      jump_is v tail =
          let (is, l) = tail_last (language n) w alone v tail in
          subst (λ (z : List ℕ). WholeJump (language n) z (get_or jumps (length v) 0)) (sym is) (moves_jump n w few x e (length v) (get_or jumps (length v) 0) l (least (length v) (omega arith)))

      pub skips : Skips (language n) (λ v. get_or jumps (length v) 0)
      skips = jumps_safe.whole (language n) (λ v. get_or jumps (length v) 0) jump_is
