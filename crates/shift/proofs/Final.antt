-- The numbers that are reckoned from the pieces are those of the expression's positions. Assumes nothing.
use Rattle.std.proofs.Common.{◌≡◌, ℕ, zero, suc, ◌+◌, ◌-◌, ◌<◌, ◌≤◌, min, max, Bool, true, false, cond, ◌&&◌, ◌||◌, eqb, ltb, ◌⊎◌, ◌↔◌, List, [], ◌∷◌, ◌++◌, map, length, get_or, take, vec_items, sym, refl, ap, ◌∙◌, subst, ap₂, inl, inr, ⊎_elim, arith, length-append}
use Rattle.std.specs.List.{fold, filter, range_with_len}
use Rattle.std.proofs.lemmas.List.{take_more}
use Rattle.std.proofs.lemmas.List.FromFn.{length-map-range_with_len, get_or-map-range_with_len}
use Rattle.std.proofs.lemmas.Bool.{cases_lt, eq-eqb, eqb-true, cases_Bool, or_cases, or_left, or_right, and_parts, and_from}
use Rattle.regular.specs.Language.{Regex, Shortest, Inhabited, shortest}
use Rattle.regular.specs.Positions.{size, arrow, reached}
use Rattle.regular.specs.Sets.{bit, followed, as_set, arrows_of, held_of}
use Rattle.regular.proofs.Bits.{bit_of_or, followed_bits}
use Rattle.regular.proofs.Reachable.{led_to}
use Rattle.regular.proofs.Reading.{both_below, reached_in}
use Rattle.regular.proofs.Sets.{as_set_bit, length_row, get_or_row, length_held}
use Rattle.regular.proofs.Tails.{shortest_known}
use Rattle.positions.specs.Closure.{spread, Closed}
use Rattle.distance.specs.Extremes.{Distance, infinite, finite, lesser, LeastIfAny}
use Rattle.distance.specs.Kinds.{Member}
use Rattle.distance.specs.Distances.{Depth, PositionJump, PositionJumps}
use Rattle.distance.specs.Found.{Within, when, least_of, first_of, second_of, head_of, opens, way_of, upto, walk, Onward, tails}
use Rattle.distance.proofs.Alike.{Bounded, within_bounded}
use Rattle.distance.proofs.Counted.{count_one}
use Rattle.distance.proofs.Least.{finite_same, self_least, lesser_both, least_if_like}
use Rattle.distance.proofs.Listed.{tails_listed_once, upto_listed}
use Rattle.distance.proofs.Exact.{PieceJump, opens_is, pieces_listed, listed_there}
use Rattle.shift.specs.Led.{Led, all_codes, led, words, listed}
use Rattle.shift.specs.Listed.{ListedFor, all_words, full_words}
use Rattle.shift.specs.Weighed.{Weighs, EachWeighed, WeighedFor, short_of, jump_of}
use Rattle.shift.specs.declared.pieces.Piece.{Piece}
use Rattle.shift.specs.declared.pieces.Pieces.{Pieces}
use Rattle.shift.specs.declared.tails.Tails.{Tails}
use Rattle.shift.proofs.Longer.{words_led}

-- one tail more is weighed
module _ (arrows : List ℕ) (ws fs : List (List ℕ)) (k : ℕ) where
  each_push : (ts : List Led) (ps : List Piece) (t : Led) (p : Piece) → EachWeighed arrows ws fs k ts ps → Weighs arrows ws fs k t p → EachWeighed arrows ws fs k (ts ++ t ∷ []) (ps ++ p ∷ [])
  each_push [] [] t p e w = (w, tt)
  each_push [] (q ∷ ps) t p e w = absurd e
  each_push (s ∷ ts) [] t p e w = absurd e
  each_push (s ∷ ts) (q ∷ ps) t p (h, e) w = (h, each_push ts ps t p e w)

  pub each_more : (ts : List Led) (ps qs : List Piece) (i : ℕ) (t : Led) (p : Piece) → t ≡ get_or ts i t → i < length ts → EachWeighed arrows ws fs k (take i ts) ps → Weighs arrows ws fs k t p → qs ≡ ps ++ p ∷ []
      → EachWeighed arrows ws fs k (take (i + 1) ts) qs
  each_more ts ps qs i t p at l e w is =
      subst (λ (xs : List Led). EachWeighed arrows ws fs k xs qs) (sym (take_more ts i t l ∙ ap (λ x. take i ts ++ x ∷ []) (sym at)))
      (subst (λ (xs : List Piece). EachWeighed arrows ws fs k (take i ts ++ t ∷ []) xs) (sym is) (each_push (take i ts) ps t p e w))

-- the least of some numbers
least_num : List ℕ → Distance
least_num [] = infinite
least_num (n ∷ ns) = lesser (finite n) (least_num ns)

upto_min : (m n : ℕ) (d : Distance) → upto (min m n) d ≡ upto m (lesser (finite n) d)
upto_min m n infinite = refl
upto_min m n (finite i) = omega arith

fold_upto : (m : ℕ) (ns : List ℕ) → fold min m ns ≡ upto m (least_num ns)
unfolding least_num
fold_upto m [] = refl
fold_upto m (n ∷ ns) = fold_upto (min m n) ns ∙ upto_min m n (least_num ns)

pub fold_most : (m : ℕ) (ns : List ℕ) → fold min m ns ≤ m
fold_most m [] = omega arith
fold_most m (n ∷ ns) = omega (arith, fold_most (min m n) ns)

least_num_is : (ns : List ℕ) → LeastIfAny (λ n. Member n ns) (least_num ns)
unfolding least_num
least_num_is [] = λ n m. m
least_num_is (x ∷ ns) =
    least_if_like (λ n. (finite x ≡ finite n) ⊎ Member n ns) (λ n. Member n (x ∷ ns))
    (λ n. (⊎_elim (λ e. inl (sym (finite_same e))) inr, ⊎_elim (λ e. inl (ap finite (sym e))) inr))
    (lesser (finite x) (least_num ns))
    (lesser_both (λ n. finite x ≡ finite n) (λ n. Member n ns) (finite x) (least_num ns) (self_least (finite x)) (least_num_is ns))

lesser_number : (d : Distance) (n : ℕ) → (j : ℕ) × (lesser d (finite n) ≡ finite j) × (j ≤ n)
lesser_number infinite n = (n, refl, omega arith)
lesser_number (finite m) n = (min m n, refl, omega arith)

second_most : (k : ℕ) (ws : List (List ℕ)) (v : List ℕ) → second_of k ws v ≤ max k 1
second_most k ws [] = omega arith
second_most k ws (c ∷ v) = go (opens k ws (c ∷ v)) (second_most k ws v)
  where
    go : (b : Bool) → second_of k ws v ≤ max k 1 → cond b (k - length (c ∷ v)) (second_of k ws v) ≤ max k 1
    go true h = omega arith
    go false h = h

-- the second distance asks for those of the depth alone
opens_append : (k : ℕ) (xs ys : List (List ℕ)) (v : List ℕ) → opens k (xs ++ ys) v ≡ opens k xs v || opens k ys v
opens_append k [] ys v = refl
opens_append k (x ∷ xs) ys v =
    ap (λ b. (eqb (length x) k && (head_of v x && ltb (length v) (length x))) || b) (opens_append k xs ys v) ∙ or_assoc (eqb (length x) k && (head_of v x && ltb (length v) (length x))) (opens k xs v) (opens k ys v)
  where
    or_assoc : (a b c : Bool) → a || (b || c) ≡ (a || b) || c
    or_assoc true b c = refl
    or_assoc false b c = refl

opens_full : (r : Regex) (n : ℕ) (v : List ℕ) → opens n (tails r (all_codes r) n) v ≡ opens n (listed r n) v
opens_full r zero v = refl
opens_full r (suc n) v =
    sym (opens_append (suc n) (listed r n) (tails r (all_codes r) (suc n)) v
    ∙ ap (λ b. b || opens (suc n) (tails r (all_codes r) (suc n)) v)
    (⊎_elim
    (λ t. let (w, m, (long, _)) = (opens_is (suc n) (listed r n) v).0 t in absurd (omega (arith, (upto_listed r (all_codes r) n w m).0)))
    (λ f. f)
    (cases_Bool (opens (suc n) (listed r n) v))))

second_full : (r : Regex) (n : ℕ) (v : List ℕ) → second_of n (tails r (all_codes r) n) v ≡ second_of n (listed r n) v
second_full r n [] = refl
second_full r n (c ∷ v) = ap₂ (λ b x. cond b (n - length (c ∷ v)) x) (opens_full r n (c ∷ v)) (second_full r n v)

module _ (r : Regex) (few : size r ≤ 63) where
  abbrev arrows : List ℕ
  arrows = arrows_of r

  count : length arrows ≡ size r + 1
  count = length_row (size r + 1) (λ p. as_set (arrow r p))

  arrow_bit : (o q : ℕ) → o < length arrows → q < 64 → bit (get_or arrows o 0) q ≡ arrow r o q
  arrow_bit o q l k = ap (λ x. bit x q) (get_or_row (size r + 1) (λ p. as_set (arrow r p)) o (omega (arith, count))) ∙ as_set_bit (arrow r o) q k

  -- what can be come to from where the word w leads
  module _ (w : List ℕ) (R : ℕ) (C : Closed arrows (as_set (reached r w)) R) where
    abbrev s : ℕ
    s = as_set (reached r w)

    abbrev From : ℕ → Type 0
    From q = (p : ℕ) × (p < size r + 1) × ((reached r w p ≡ true) × Onward r p q)

    spread_from : (n q : ℕ) → q < 64 → bit (spread arrows s n) q ≡ true → From q
    spread_from zero q l h = let k = sym (as_set_bit (reached r w) q l) ∙ h in (q, reached_in r w q k, (k, (0, eq-eqb q q refl)))
    spread_from (suc n) q l h =
        ⊎_elim
        (spread_from n q l)
        (λ k.
        let (o, below, (x, y)) = (both_below (length arrows) (bit (spread arrows s n)) (λ o. bit (get_or arrows o 0) q)).0 (sym (followed_bits arrows (spread arrows s n) q (length arrows)) ∙ k) in
        let (p, pl, (reach, (j, path))) = spread_from n o (omega (arith, count)) x in
        (p, pl, (reach, (suc j, (both_below (size r + 1) (walk r j p) (λ o. arrow r o q)).1 (o, omega (arith, count), (path, sym (arrow_bit o q below l) ∙ y))))))
        (or_cases (bit (spread arrows s n) q) (bit (followed arrows (spread arrows s n) (length arrows)) q) (sym (bit_of_or (spread arrows s n) (followed arrows (spread arrows s n) (length arrows)) q) ∙ h))

    spread_has : (n q : ℕ) → bit s q ≡ true → bit (spread arrows s n) q ≡ true
    spread_has zero q h = h
    spread_has (suc n) q h = bit_of_or (spread arrows s n) _ q ∙ or_left _ _ (spread_has n q h)

    closed_on : (o q : ℕ) → o < size r + 1 → q < 64 → bit R o ≡ true → arrow r o q ≡ true → bit R q ≡ true
    closed_on o q l k x a =
        let within : o < length arrows = omega (arith, count) in
        let f : bit (followed arrows R (length arrows)) q ≡ true =
        followed_bits arrows R q (length arrows) ∙ (both_below (length arrows) (bit R) (λ p. bit (get_or arrows p 0) q)).1 (o, within, (x, arrow_bit o q within k ∙ a)) in
        ap (λ z. bit z q) (sym C.closed) ∙ bit_of_or R (followed arrows R (length arrows)) q ∙ or_right (bit R q) _ f

    walk_on : (j p q : ℕ) → q < 64 → bit R p ≡ true → walk r j p q ≡ true → bit R q ≡ true
    walk_on zero p q l x h = ap (bit R) (eqb-true q p h) ∙ x
    walk_on (suc j) p q l x h =
        let (o, below, (path, a)) = (both_below (size r + 1) (walk r j p) (λ o. arrow r o q)).0 h in
        closed_on o q below l (walk_on j p o (omega (arith, count)) x path) a

    onward_is : (q : ℕ) → q < 64 → bit R q ≡ true ↔ From q
    onward_is q l = (
      λ h. let (n, e) = C.spread in spread_from n q l (ap (λ z. bit z q) (sym e) ∙ h),
      λ (p, pl, (reach, (j, path))).
          let (n, e) = C.spread in
          walk_on j p q l (ap (λ z. bit z p) e ∙ spread_has n p (as_set_bit (reached r w) p (omega (arith, count)) ∙ reach)) path,
    )

  -- the pieces of the tails vs that count for q
  module _ (ws fs : List (List ℕ)) (k q : ℕ) (ql : q < size r + 1) where
    q64 : q < 64
    q64 = omega arith

    abbrev Each : List (List ℕ) → List Piece → Type 0
    Each vs ps = EachWeighed arrows ws fs k (map (led r) vs) ps

    abbrev Of : List ℕ → Piece → Type 0
    Of v p = Weighs arrows ws fs k (led r v) p

    abbrev spans : List Piece → List ℕ
    spans ps = map (λ (p : Piece). p.span) (filter (λ (p : Piece). bit p.positions q) ps)

    abbrev ways : List (List ℕ) → Distance
    ways vs = least_of (λ w. when (reached r w q) (finite (length w))) vs

    short_same : (vs : List (List ℕ)) (ps : List Piece) → Each vs ps → (n : ℕ) → fold min n (spans ps) ≡ upto n (ways vs)
    short_same [] [] e n = refl
    short_same [] (p ∷ ps) e n = absurd e
    short_same (v ∷ vs) [] e n = absurd e
    short_same (v ∷ vs) (p ∷ ps) (W, e) n = go (bit p.positions q) (ap (λ x. bit x q) W.positions ∙ as_set_bit (reached r v) q q64) (short_same vs ps e)
      where
        go : (b : Bool) → b ≡ reached r v q → ((n : ℕ) → fold min n (spans ps) ≡ upto n (ways vs))
            → fold min n (map (λ (p : Piece). p.span) (cond b (p ∷ filter (λ (p : Piece). bit p.positions q) ps) (filter (λ (p : Piece). bit p.positions q) ps))) ≡ upto n (lesser (when (reached r v q) (finite (length v))) (ways vs))
        go true is rest = rest (min n p.span) ∙ upto_min n p.span (ways vs) ∙ ap₂ (λ b x. upto n (lesser (when b (finite x)) (ways vs))) is W.span
        go false is rest = rest n ∙ ap (λ b. upto n (lesser (when b (finite (length v))) (ways vs))) is

    module _ (short : ℕ) where
      abbrev counts : Piece → Bool
      counts p = eqb p.span short && bit p.onward q

      abbrev numbers : List Piece → List ℕ
      numbers ps = map (λ (p : Piece). p.nearest) (filter counts ps)

      abbrev OfWord : List (List ℕ) → ℕ → Type 0
      OfWord vs n = (v : List ℕ) × Member v vs × ((p : Piece) × Of v p × ((counts p ≡ true) × (p.nearest ≡ n)))

      to_word : (vs : List (List ℕ)) (ps : List Piece) (n : ℕ) → Each vs ps → Member n (numbers ps) → OfWord vs n
      to_word [] [] n e m = absurd m
      to_word [] (p ∷ ps) n e m = absurd e
      to_word (v ∷ vs) [] n e m = absurd e
      to_word (v ∷ vs) (p ∷ ps) n (W, e) m = go (counts p) refl m (to_word vs ps n e)
        where
          go : (b : Bool) → counts p ≡ b → Member n (map (λ (p : Piece). p.nearest) (cond b (p ∷ filter counts ps) (filter counts ps))) → (Member n (numbers ps) → OfWord vs n) → OfWord (v ∷ vs) n
          go true t (inl is) rest = (v, inl refl, (p, W, (t, sym is)))
          go true t (inr m) rest = let (x, mem, P) = rest m in (x, inr mem, P)
          go false t m rest = let (x, mem, P) = rest m in (x, inr mem, P)

      from_word : (vs : List (List ℕ)) (ps : List Piece) (v : List ℕ) → Each vs ps → Member v vs → ((p : Piece) → Of v p → counts p ≡ true) → (p : Piece) × Of v p × Member p.nearest (numbers ps)
      from_word [] ps v e m f = absurd m
      from_word (w ∷ vs) [] v e m f = absurd e
      from_word (w ∷ vs) (p ∷ ps) v (W, e) (inl is) f =
          let Wv : Of v p = subst (λ (x : List ℕ). Of x p) (sym is) W in
          (p, Wv, subst (λ b. Member p.nearest (map (λ (p : Piece). p.nearest) (cond b (p ∷ filter counts ps) (filter counts ps)))) (sym (f p Wv)) (inl refl))
      from_word (w ∷ vs) (p ∷ ps) v (W, e) (inr m) f = let (x, P, n) = from_word vs ps v e m f in (x, P, go (counts p) x.nearest n)
        where
          go : (b : Bool) (n : ℕ) → Member n (numbers ps) → Member n (map (λ (p : Piece). p.nearest) (cond b (p ∷ filter counts ps) (filter counts ps)))
          go true n m = inr m
          go false n m = m

  abbrev codes : ℕ
  codes = length (held_of r)

  module _ (h : Inhabited r) (W : Bounded r codes) (m k : ℕ) (S : Shortest r m) (le : k ≤ m) (ps : List Piece)
      (each : EachWeighed arrows (listed r k) (tails r codes k) k (map (led r) (listed r k)) ps) (q : ℕ) (ql : q < size r + 1) where
    abbrev found : List (List ℕ)
    found = listed r k

    abbrev fulls : List (List ℕ)
    fulls = tails r codes k

    nearest_is : (v : List ℕ) (p : Piece) → Weighs arrows found fulls k (led r v) p → finite p.nearest ≡ lesser (first_of found v) (finite (second_of k found v))
    nearest_is v p P = P.nearest ∙ ap (λ n. lesser (first_of found v) (finite n)) (second_full r k v)

    abbrev short : ℕ
    short = short_of k ps q

    short_is : short ≡ upto k (way_of r found q)
    short_is = short_same found fulls k q ql found ps each k

    abbrev ns : List ℕ
    ns = numbers found fulls k q ql short ps

    to_piece : (n : ℕ) → Member n ns → PieceJump r k q n
    to_piece n mem =
        let (v, vm, (p, P, (t, e))) = to_word found fulls k q ql short found ps n each mem in
        let (a, b) = and_parts (eqb p.span short) (bit p.onward q) t in
        (pieces_listed r h codes W m k S le q n).0
        (v, (vm, (sym P.span ∙ eqb-true p.span short a ∙ short_is, (onward_is v p.onward P.onward q (omega arith)).0 b)), sym (nearest_is v p P) ∙ ap finite e)

    from_piece : (n : ℕ) → PieceJump r k q n → Member n ns
    from_piece n J =
        let (v, (vm, (long, on)), is) = (pieces_listed r h codes W m k S le q n).1 J in
        let (p, P, mem) = from_word found fulls k q ql short found ps v each vm (λ p P. and_from _ _ (eq-eqb p.span short (P.span ∙ long ∙ sym short_is)) ((onward_is v p.onward P.onward q (omega arith)).1 on)) in
        subst (λ i. Member i ns) (finite_same (nearest_is v p P ∙ is)) mem

    pub jump_right : PositionJump r k q (jump_of k ps q)
    jump_right =
        subst (λ (x : ℕ). PositionJump r k q x) (sym (fold_upto (max k 1) ns))
        (go (least_num ns) (least_if_like (λ n. Member n ns) (PieceJump r k q) (λ n. (to_piece n, from_piece n)) (least_num ns) (least_num_is ns)))
      where
        go : (d : Distance) → LeastIfAny (PieceJump r k q) d → PositionJump r k q (upto (max k 1) d)
        go d D =
            let (v, leads) = led_to r h q ql in
            let (w, L) = listed_there r h codes W m k S le q v leads in
            let (j, e, jl) = lesser_number (first_of found w) (second_of k found w) in
            at_least d D j ((pieces_listed r h codes W m k S le q j).0 (w, L, e)) (omega (arith, second_most k found w))
          where
            at_least : (d : Distance) → LeastIfAny (PieceJump r k q) d → (j : ℕ) → PieceJump r k q j → j ≤ max k 1 → PositionJump r k q (upto (max k 1) d)
            at_least infinite D j J l = absurd (D j J)
            at_least (finite t) D j J l = let e : min (max k 1) t ≡ t = omega (arith, D.1 j J) in subst (λ (x : ℕ). PositionJump r k q x) (sym e) D

listed_upto : (r : Regex) (i n : ℕ) → length (listed r i) ≤ length (listed r (i + n))
listed_upto r i zero = let e : i + 0 ≡ i = omega arith in omega (arith, ap (λ j. length (listed r j)) e)
listed_upto r i (suc n) =
    let e : i + suc n ≡ suc (i + n) = omega arith in
    omega (arith, listed_upto r i n, ap (λ j. length (listed r j)) e, length-append (listed r (i + n)) (tails r (length (held_of r)) (suc (i + n))))

module _ (r : Regex) (few : size r ≤ 63) (h : Inhabited r) (W : Within 256 r) (t : Tails) (L : ListedFor r t) where
  abbrev k : ℕ
  k = t.depth

  bounded : Bounded r (length (held_of r))
  bounded = subst (Bounded r) (sym (length_held r)) (within_bounded 256 r W 0)

  -- the depth is the greatest length for which the tails are few enough
  depth_right : Depth r (shortest r) k
  depth_right = (
    (L.most, (length (listed r k), (listed r k, tails_listed_once r (length (held_of r)) h bounded k, refl), L.few)),
    λ i (l, (count, T, s)). ⊎_elim
        (λ more.
        let e : (k + 1) + (i - (k + 1)) ≡ i = omega arith in
        let same = count_one r i count (length (listed r i)) T (listed r i, tails_listed_once r (length (held_of r)) h bounded i, refl) in
        absurd (omega (arith, L.full (omega arith), listed_upto r (k + 1) (i - (k + 1)), ap (λ j. length (listed r j)) e)))
        (λ less. less)
        (cases_lt k i),
  )

  pub all_right : (read : List ℕ) (p : Pieces) (n : ℕ) (out : List ℕ) → read ≡ arrows_of r → WeighedFor read t p → n ≡ length read
      → out ≡ map (jump_of p.depth (vec_items p.list)) (range_with_len 0 n) → PositionJumps r out
  all_right read p n out is P long e =
      let ps = vec_items p.list in
      let total : n ≡ size r + 1 = long ∙ ap length is ∙ count r few in
      let fulls : full_words t ≡ tails r (all_codes r) k = ap words L.full_ones ∙ words_led r (tails r (all_codes r) k) in
      let each : EachWeighed (arrows_of r) (listed r k) (tails r (all_codes r) k) k (map (led r) (listed r k)) ps =
      subst (λ (fs : List (List ℕ)). EachWeighed (arrows_of r) (listed r k) fs k (map (led r) (listed r k)) ps) fulls
      (subst (λ (ws : List (List ℕ)). EachWeighed (arrows_of r) ws (full_words t) k (map (led r) (listed r k)) ps) (words_led r (listed r k))
      (subst (λ (ts : List Led). EachWeighed (arrows_of r) (words ts) (full_words t) k ts ps) L.list (subst (λ (a : List ℕ). EachWeighed a (all_words t) (full_words t) k (vec_items t.list) ps) is P.each))) in
      record {
        depth = k;
        full = (shortest r, shortest_known r h, depth_right);
        count = ap length e ∙ length-map-range_with_len (jump_of p.depth ps) 0 n ∙ total;
        each = λ q l.
            let at : get_or out q 0 ≡ jump_of k ps q =
            ap (λ z. get_or z q 0) e ∙ get_or-map-range_with_len (jump_of p.depth ps) 0 n q q 0 (omega arith) (omega arith) ∙ ap (λ d. jump_of d ps q) P.depth in
            subst (λ (x : ℕ). PositionJump r k q x) (sym at) (jump_right r few h bounded (shortest r) k (shortest_known r h) L.most ps each q l);
      }
