-- What a walk that writes keeps, and what it leaves of the table. Assumes nothing.
use Rattle.std.proofs.Common.{◌≡◌, ℕ, suc, ◌+◌, ◌-◌, ◌<◌, ◌≤◌, Bool, true, false, MatchBool, List, [], ◌∷◌, ◌++◌, length, take, drop, set, sym, refl, ap, ◌∙◌, append_assoc, append-nil, arith, length-append, length-drop, take-append-drop}
use borrow.Rule.Slice.PartMut.{put_mid}
use Rattle.std.proofs.lemmas.List.{take_more_set, drop-set-lt, drop-drop, drop_all, take_at, drop_at, take_rest, length-take-le}
use Rattle.std.proofs.lemmas.Bool.{cond-true, cond-false}
use Rattle.regular.specs.Language.{Regex}
use Rattle.regular.specs.Positions.{accepted}
use Rattle.regular.specs.Matches.{between, starting, ending}
use Rattle.engine.specs.Answers.{TellsWord}
use Rattle.search.proofs.Leftward.{On, tells}

-- what is equal past a place is equal past each later one
pub drop_on : {X : Type 0} (a b : ℕ) (xs ys : List X) → a ≤ b → drop a xs ≡ drop a ys → drop b xs ≡ drop b ys
drop_on a b xs ys le e =
    let h : b ≡ a + (b - a) = omega arith in
    ap (λ n. drop n xs) h ∙ sym (drop-drop (b - a) a xs) ∙ ap (drop (b - a)) e ∙ drop-drop (b - a) a ys ∙ ap (λ n. drop n ys) (sym h)

module _ (r : Regex) (t : List ℕ) (p : ℕ) (old : List (ℕ × ℕ)) where
  -- the matches that start at n or later are written, and free is the next entry
  pub record Put (n free : ℕ) (room : List (ℕ × ℕ)) : Type 0 where
    pub front : take free room ++ starting r t p n ≡ ending r t p
    pub rest : drop free room ≡ drop free old
    pub fits : free + length (starting r t p n) ≡ length (ending r t p)

  pub put_start : Put (suc p) 0 old
  put_start = record { front = refl; rest = refl; fits = omega arith }

  -- a turn writes the match that starts at `at`, if the engine tells that there is one
  module _ (n at free : ℕ) (room : List (ℕ × ℕ)) (put : Put n free room) (next : n ≡ suc at) {Z : Type 0} (after : List ℕ → Z) (state : Z) (on : On r t p after at state) (enough : length (ending r t p) ≤ length old) where
    found : accepted r (between t at p) ≡ true → starting r t p n ≡ (at, p) ∷ starting r t p at
    found is = ap (starting r t p) next ∙ cond-true (accepted r (between t at p)) ((at, p) ∷ starting r t p at) (starting r t p at) is

    room_for : accepted r (between t at p) ≡ true → free < length old
    room_for is = let fits = put.fits in let long = ap length (found is) in omega arith

    pub put_room : (b : Bool) → TellsWord r after state b → b ≡ true → free < length old
    put_room b told is = room_for (sym (tells r t p after at state on b told) ∙ is)

    put_by : (b : Bool) → b ≡ accepted r (between t at p) → length room ≡ length old → (free' : ℕ) (room' : List (ℕ × ℕ))
        → MatchBool b ((free' ≡ free + 1) × (room' ≡ set room free (at, p))) ((free' ≡ free) × (room' ≡ room)) → Put at free' room'
    put_by true is long free' room' (e, f) =
        let lt = room_for (sym is) in
        let fits = put.fits in
        let fewer = ap length (found (sym is)) in
        record {
          front =
              (λ i. take (e i) (f i) ++ starting r t p at)
              ∙ ap (λ l. l ++ starting r t p at) (take_more_set room free (at, p) (omega arith))
              ∙ append_assoc (take free room) ((at, p) ∷ []) (starting r t p at)
              ∙ ap (λ l. take free room ++ l) (sym (found (sym is)))
              ∙ put.front;
          rest = (λ i. drop (e i) (f i)) ∙ drop-set-lt (free + 1) room free (at, p) (omega arith) ∙ drop_on free (free + 1) room old (omega arith) put.rest ∙ ap (λ m. drop m old) (sym e);
          fits = omega arith;
        }
    put_by false is long free' room' (e, f) =
        let none = ap (starting r t p) next ∙ cond-false (accepted r (between t at p)) ((at, p) ∷ starting r t p at) (starting r t p at) (sym is) in
        record {
          front = (λ i. take (e i) (f i) ++ starting r t p at) ∙ ap (λ l. take free room ++ l) (sym none) ∙ put.front;
          rest = (λ i. drop (e i) (f i)) ∙ put.rest ∙ ap (λ m. drop m old) (sym e);
          fits = ap (λ m. m + length (starting r t p at)) e ∙ ap (λ l. free + length l) (sym none) ∙ put.fits;
        }

    pub put_turn : (b : Bool) → TellsWord r after state b → length room ≡ length old → (free' : ℕ) (room' : List (ℕ × ℕ))
        → MatchBool b ((free' ≡ free + 1) × (room' ≡ set room free (at, p))) ((free' ≡ free) × (room' ≡ room)) → Put at free' room'
    put_turn b told = put_by b (tells r t p after at state on b told)

  pub put_end : (n free : ℕ) (room : List (ℕ × ℕ)) → Put n free room → starting r t p n ≡ [] → room ≡ ending r t p ++ drop (length (ending r t p)) old
  put_end n free room put none =
      let nil = ap length none in
      let fits = put.fits in
      let same : free ≡ length (ending r t p) = omega arith in
      sym (take-append-drop free room)
      ∙ ap (λ l. l ++ drop free room) (sym (append-nil (take free room)) ∙ ap (λ l. take free room ++ l) (sym none) ∙ put.front)
      ∙ ap (λ l. ending r t p ++ l) (put.rest ∙ ap (λ n. drop n old) same)

-- a part of the table from `filled` on is lent, and comes back with new entries at its front
module _ (filled count : ℕ) (table new part : List (ℕ × ℕ)) (le : filled ≤ length table) (long : count ≡ length new) (is : part ≡ new ++ drop (length new) (take (length table - filled) (drop filled table))) where
  whole : put_mid filled (length table - filled) table part ≡ (take filled table ++ new) ++ drop (filled + count) table
  whole =
      ap (λ l. take filled table ++ (part ++ l)) (drop_all (length table - filled) (drop filled table) (simp length-drop (omega arith)))
      ∙ ap (λ l. take filled table ++ l) (append-nil part ∙ is ∙ ap (λ l. new ++ drop (length new) l) (take_rest table filled) ∙ ap (λ l. new ++ l) (drop-drop (length new) filled table ∙ ap (λ n. drop (filled + n) table) (sym long)))
      ∙ sym (append_assoc (take filled table) new (drop (filled + count) table))

  size : length (take filled table ++ new) ≡ filled + count
  size = length-append (take filled table) new ∙ (let a = length-take-le filled table le in omega arith)

  pub lent_front : take (filled + count) (put_mid filled (length table - filled) table part) ≡ take filled table ++ new
  lent_front = ap (take (filled + count)) whole ∙ take_at (take filled table ++ new) (drop (filled + count) table) (filled + count) size

  pub lent_rest : drop (filled + count) (put_mid filled (length table - filled) table part) ≡ drop (filled + count) table
  lent_rest = ap (drop (filled + count)) whole ∙ drop_at (take filled table ++ new) (drop (filled + count) table) (filled + count) size
