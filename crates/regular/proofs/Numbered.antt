-- The words of positions say what the positions' functions say. Assumes nothing.
use Rattle.std.proofs.Common.{◌≡◌, ℕ, ◌+◌, Bool, true, ◌↔◌, List, [], ◌∷◌, refl, subst, zero-add, arith}
use mathlib.Core.Logic.Iff.{symm as flip}
use Rattle.std.proofs.lemmas.Bool.{eq-eqb, eqb-true}
use Rattle.regular.specs.Language.{Regex, one, join, either, star, plus, maybe, Word, Tail, Inhabited}
use Rattle.regular.specs.Positions.{size, nullable, holds, begins, ends, before}
use Rattle.regular.specs.Numbered.{numbered, CanBegin, CanEnd, CanPrecede, PositionsMeanWords}
use Rattle.regular.proofs.Iff.{◌⨾◌}
use Rattle.regular.proofs.Ranges.{begins_in, before_in}
use Rattle.regular.proofs.Written.{length_sets, holds_written, holds_out}
use Rattle.regular.proofs.Rests.{Rest, From, Among, word_nil, rest_nil, rest_in, word_cons, rest_cons}
use Rattle.regular.proofs.Tails.{tail_cons}
use Rattle.regular.proofs.Reachable.{held, rest_some}

inhabited : (r : Regex) (i : ℕ) → Inhabited (numbered r i)
inhabited (one s) i = (i + 1, eq-eqb (i + 1) (i + 1) refl)
inhabited (join a b) i = (inhabited a i, inhabited b _)
inhabited (either a b) i = (inhabited a i, inhabited b _)
inhabited (star a) i = inhabited a i
inhabited (plus a) i = inhabited a i
inhabited (maybe a) i = inhabited a i

-- nothing but `holds` looks at the sets, and a position holds its own number ..
record Same (r : Regex) (i : ℕ) : Type 0 where
  count : size (numbered r i) ≡ size r
  empty : nullable (numbered r i) ≡ nullable r
  begin : (q : ℕ) → begins (numbered r i) i q ≡ begins r i q
  end : (q : ℕ) → ends (numbered r i) i q ≡ ends r i q
  precede : (q p : ℕ) → before (numbered r i) i q p ≡ before r i q p
  own : (q c : ℕ) → holds (numbered r i) i q c ≡ true → q ≡ c

same : (r : Regex) (i : ℕ) → Same r i
same (one s) i = grind (arith, eqb-true)
same (join a b) i = grind (arith, same a i, same b (i + size a))
same (either a b) i = grind (arith, same a i, same b (i + size a))
same (star a) i = grind (arith, same a i)
same (plus a) i = grind (arith, same a i)
same (maybe a) i = grind (arith, same a i)

module _ (r : Regex) where
  abbrev n : Regex
  n = numbered r 0

  abbrev full : Inhabited n
  full = inhabited r 0

  -- .. and is the only one that does
  from_own : (p q : ℕ) (v : List ℕ) → From n 0 p q v ↔ ((p ≡ q) × Rest n 0 p v)
  from_own p q v = (
    λ (h, k). ((same r 0).own p q h, k),
    λ (e, k). let (c, h) = held n full 0 p (rest_in n 0 p v k) in (cc ((same r 0).own p c h), k),
  )

  among_own : {S : ℕ → Bool} (q : ℕ) (v : List ℕ) → Among S n 0 q v ↔ ((S q ≡ true) × Rest n 0 q v)
  among_own {S} q v = (
    λ (p, (s, k)). let (e, l) = (from_own p q v).0 k in subst (λ z. (S z ≡ true) × Rest n 0 z v) e (s, l),
    λ (s, k). (q, (s, (from_own q q v).1 (refl, k))),
  )

  word_own : (q : ℕ) (v : List ℕ) → Word n (q ∷ v) ↔ ((begins n 0 q ≡ true) × Rest n 0 q v)
  word_own q v = word_cons n 0 q v ⨾ among_own q v

  rest_own : (q p : ℕ) (v : List ℕ) → Rest n 0 q (p ∷ v) ↔ ((before n 0 q p ≡ true) × Rest n 0 p v)
  rest_own q p v = rest_cons n 0 q p v ⨾ among_own p v

  tail_own : (q : ℕ) (v : List ℕ) → Tail n (q ∷ v) ↔ Rest n 0 q v
  tail_own q v = tail_cons n full q v ⨾ (λ (p, k). let (e, l) = (from_own p q v).0 k in subst (λ z. Rest n 0 z v) e l, λ k. (q, (from_own q q v).1 (refl, k)))

  begin_own : (q : ℕ) → begins n 0 q ≡ true ↔ CanBegin r q
  begin_own q = (λ b. let (v, k) = rest_some n full 0 q (begins_in n 0 q b) in (v, (word_own q v).1 (b, k)), λ (v, w). ((word_own q v).0 w).0)

  end_own : (q : ℕ) → ends n 0 q ≡ true ↔ CanEnd r q
  end_own q = rest_nil n 0 q ⨾ flip (tail_own q [])

  precede_own : (q p : ℕ) → before n 0 q p ≡ true ↔ CanPrecede r q p
  precede_own q p = (
    λ b. let (v, k) = rest_some n full 0 p (before_in n 0 q p b) in let (u, w) = (tail_own q (p ∷ v)).1 ((rest_own q p v).1 (b, k)) in (u, v, w),
    λ (u, v, w). ((rest_own q p v).0 ((tail_own q (p ∷ v)).0 (u, w))).0,
  )

pub every_position_means_words : PositionsMeanWords
every_position_means_words r = record {
  count = length_sets r;
  hold = λ k c. rw zero-add at (holds_written r 0 c k);
  start = λ c. holds_out r 0 0 c (λ h. omega arith);
  begin = λ q. rw (← (same r 0).begin q) (begin_own r q);
  end = λ q. rw (← (same r 0).end q) (end_own r q);
  precede = λ q p. rw (← (same r 0).precede q p) (precede_own r q p);
  empty = word_nil r;
}
