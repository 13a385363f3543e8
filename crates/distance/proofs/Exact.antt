-- The numbers reckoned from the list of tails are the distances. Assumes nothing.
use Rattle.std.proofs.Common.{◌≡◌, ℕ, ◌+◌, ◌-◌, ◌<◌, ◌≤◌, min, max, Bool, true, false, cond, ◌&&◌, ◌||◌, eqb, ltb, ◌↔◌, List, [], ◌∷◌, ◌++◌, length, take, replicate, sym, refl, ap, ◌∙◌, subst, ap₂, append_assoc, append-nil, arith, length-append}
use mathlib.Core.Logic.Iff.{and as pair}
use mathlib.Core.Logic.Iff.{rfl as same}
use lib.ListN.{length-replicate}
use mathlib.Core.List.{nil≢cons}
use Rattle.std.proofs.Math.Bool.{or-false, or_assoc}
use Rattle.std.proofs.lemmas.Bool.{both_ways, false≢true}
use Rattle.std.proofs.lemmas.Bool.Decides.{Decides-eqb, Decides-ltb, Decides-and, Decides-or}
use Rattle.std.proofs.lemmas.List.Prefix.{end_rest}
use Rattle.regular.specs.Language.{Regex, Tail, Shortest, Inhabited}
use Rattle.regular.specs.Positions.{size, reached}
use Rattle.regular.proofs.Iff.{◌⨾◌}
use Rattle.regular.proofs.Words.{head_same, tail_same}
use Rattle.regular.proofs.Reading.{reached_in}
use Rattle.regular.proofs.Tails.{tails_tailed, tails_of_tails}
use Rattle.distance.specs.Extremes.{Least, Distance, infinite, finite, lesser, LeastIfAny}
use Rattle.distance.specs.Kinds.{SameKinds, Member}
use Rattle.distance.specs.Distances.{Full, Inside, Past, First, Second, Lesser, Leads, Way, last, Piece}
use Rattle.distance.specs.Found.{head_of, when, beyond, first_of, opens, second_of, way_of, upto, Onward, tails_upto}
use Rattle.distance.proofs.Alike.{Bounded, OfKinds, tailed_is, like_same, like_back, like_append, like_length, like_split, like_reached, like_tailed, chosen_append, tailed_end, chosen_tail}
use Rattle.distance.proofs.Least.{finite_same, least_if_one, least_if_like}
use Rattle.distance.proofs.Listed.{some_member, upto_listed, upto_has, listed_as, when_is, least_of_is}
use Rattle.distance.proofs.Onward.{onward, onward_word, way_there}
use Rattle.distance.proofs.Safe.{end_of_end, last_split, length_last, word_full}

-- n is the number of some piece of q
abbrev pub PieceJump : Regex → ℕ → ℕ → ℕ → Type 0
PieceJump r k q n = (w : List ℕ) × Piece r k q w × Lesser r k w n

pub head_of_is : (v w : List ℕ) → head_of v w ≡ true ↔ ((x : List ℕ) × (w ≡ v ++ x))
head_of_is [] w = (λ _. (w, refl), λ _. refl)
head_of_is (c ∷ v) [] = (λ e. absurd (false≢true e), λ (x, e). absurd (nil≢cons e))
head_of_is (c ∷ v) (d ∷ w) =
    Decides-and _ _ (Decides-eqb c d) (head_of_is v w)
    ⨾ (λ (e, (x, k)). (x, rw (e, k)), λ (x, e). (sym (head_same e), (x, tail_same e)))

-- v is a proper head of w
abbrev pub Proper : List ℕ → List ℕ → Type 0
Proper v w = (x : List ℕ) × (1 ≤ length x) × (w ≡ v ++ x)

pub proper_is : (v w : List ℕ) → head_of v w && ltb (length v) (length w) ≡ true ↔ Proper v w
proper_is v w =
    Decides-and _ _ (head_of_is v w) (Decides-ltb (length v) (length w))
    ⨾ (λ ((x, e), l). (x, omega (arith, ap length e, length-append v x), e), λ (x, l, e). ((x, e), omega (arith, ap length e, length-append v x)))

pub beyond_is : (v w : List ℕ) (n : ℕ) → beyond v w ≡ finite n ↔ ((1 ≤ n) × ((x : List ℕ) × (length x ≡ n) × (w ≡ v ++ x)))
beyond_is v w n =
    when_is _ _ n
    ⨾ pair (proper_is v w) same
    ⨾ (
      λ ((x, l, e), is). let long : length x ≡ n = omega (arith, finite_same is, ap length e, length-append v x) in (omega arith, (x, long, e)),
      λ (l, (x, long, e)). ((x, omega arith, e), ap finite (omega (arith, ap length e, length-append v x))),
    )

pub opens_is : (k : ℕ) (ws : List (List ℕ)) (v : List ℕ) → opens k ws v ≡ true ↔ ((w : List ℕ) × Member w ws × ((length w ≡ k) × Proper v w))
opens_is k [] v = (λ e. absurd (false≢true e), λ (w, m, _). absurd m)
opens_is k (y ∷ ws) v =
    Decides-or _ _ (Decides-and _ _ (Decides-eqb (length y) k) (proper_is v y)) (opens_is k ws v)
    ⨾ some_member (λ w. (length w ≡ k) × Proper v w) y ws

module _ (r : Regex) (h : Inhabited r) (codes : ℕ) (B : Bounded r codes) (m k : ℕ) (S : Shortest r m) (le : k ≤ m) where
  abbrev found : List (List ℕ)
  found = tails_upto r codes k

  -- a tail no longer than a full one is an end of a full one
  extend : (v : List ℕ) → Tail r v → length v ≤ k → (y : List ℕ) × Full r k (y ++ v)
  extend v (u, p) l =
      let F = word_full r k (u ++ v) p (omega (arith, S.least (u ++ v) p)) in
      let (e, is) = end_of_end _ (last k (u ++ v)) u v (sym (last_split k (u ++ v))) (omega (arith, F.long)) in
      (e, rw is at F)

  full_like : (v w : List ℕ) → SameKinds r v w → Full r k v → Full r k w
  full_like v w l F = record {
    tail = (tails_tailed r h w).0 (sym (like_tailed r v w l) ∙ (tails_tailed r h v).1 F.tail);
    long = sym (like_length r v w l) ∙ F.long;
  }

  -- a tail that begins with kinds is like a listed one
  listed_like : (v x : List ℕ) → OfKinds r codes v → Tail r (v ++ x) → length (v ++ x) ≤ k → (y : List ℕ) × (length y ≡ length x) × Member (v ++ y) found
  listed_like v x g t l =
      let is = (tails_tailed r h (v ++ x)).1 t in
      let (y, like, c) = chosen_tail r codes B x [] (rw append-nil (tailed_end r v x is)) in
      let both = like_append r v v x y (like_same r v) like in
      (y, sym (like_length r x y like), upto_has r codes k (v ++ y) (omega (arith, like_length r (v ++ x) (v ++ y) both)) (chosen_append r codes v y g c) (sym (like_tailed r _ _ both) ∙ is))

  listed_tail : (w : List ℕ) → Member w found → Tail r w
  listed_tail w m = (tails_tailed r h w).0 (upto_listed r codes k w m).1.1

  pub first_exact : (v : List ℕ) → OfKinds r codes v → First r k v (first_of found v)
  first_exact v g =
      least_if_like (λ n. (w : List ℕ) × Member w found × (beyond v w ≡ finite n)) _
      (λ n. (
        λ (w, m, e).
            let (l, (x, long, is)) = (beyond_is v w n).0 e in
            let (y, F) = extend w (listed_tail w m) (upto_listed r codes k w m).0 in
            (l, (x, y, long, subst (λ (z : List ℕ). Full r k (y ++ z)) is F)),
        λ (l, (x, y, long, F)).
            let (z, len, m) = listed_like v x g (tails_of_tails.suffix r y (v ++ x) F.tail) (omega (arith, F.long, length-append y (v ++ x))) in
            (v ++ z, m, (beyond_is v (v ++ z) n).1 (l, (z, omega arith, refl))),
      ))
      (first_of found v) (least_of_is (beyond v) found)

  -- far enough on, any full tail stands at the end
  past_any : (v : List ℕ) (n : ℕ) → 1 ≤ n → k ≤ n → Past r k v n
  past_any v n l more =
      let (y, F) = extend [] (tails_of_tails.empty r h) (omega arith) in
      let f = y ++ [] in
      let pad : List ℕ = replicate (n - k) 0 in
      (l, (pad ++ f, v ++ pad, f, omega (arith, length-append pad f, length-replicate {A = ℕ} (n - k) 0, F.long), sym (append_assoc v pad f), F))

  past_long : (v : List ℕ) (n : ℕ) → Past r k v n → (1 ≤ n) × (k ≤ length v + n)
  past_long v n (l, (x, y, w, long, e, F)) = (l, omega (arith, ap length e, length-append v x, length-append y w, F.long))

  pub second_exact : (v : List ℕ) → OfKinds r codes v → Second r k v (finite (second_of k found v))
  second_exact [] g = (past_any [] (max 1 k) (omega arith) (omega arith), λ n p. omega (arith, past_long [] n p))
  second_exact (c ∷ v) g = go (second_exact v g.1) (opens k found (c ∷ v)) refl
    where
      past_more : (n : ℕ) → Past r k v n → Past r k (c ∷ v) n
      past_more n (l, (x, y, w, long, e, F)) = (l, (x, c ∷ y, w, long, ap (λ z. c ∷ z) e, F))

      past_less : opens k found (c ∷ v) ≡ false → (n : ℕ) → Past r k (c ∷ v) n → Past r k v n
      past_less no_one n (l, (x, [], w, long, e, F)) =
          let t : Full r k (c ∷ v ++ x) = rw e F in
          let (z, len, m) = listed_like (c ∷ v) x g t.tail (omega (arith, t.long)) in
          absurd (both_ways (opens k found (c ∷ v)) no_one ((opens_is k found (c ∷ v)).1 (c ∷ v ++ z, m, (omega (arith, t.long, length-append v x, length-append v z), (z, omega arith, refl)))))
      past_less no_one n (l, (x, d ∷ y, w, long, e, F)) = (l, (x, y, w, long, tail_same e, F))

      go : Least (Past r k v) (second_of k found v) → (b : Bool) → opens k found (c ∷ v) ≡ b → Least (Past r k (c ∷ v)) (cond b (k - length (c ∷ v)) (second_of k found v))
      go ih true e =
          let (w, m, (long, (x, l, is))) = (opens_is k found (c ∷ v)).0 e in (
            (omega (arith, ap length is, length-append v x), (x, [], w, omega (arith, ap length is, length-append v x), sym is, record { tail = listed_tail w m; long = long })),
            λ n p. omega (arith, past_long (c ∷ v) n p),
          )
      go (p, least) false e = (past_more _ p, λ n q. least n (past_less e n q))

  inside_like : (v w : List ℕ) → SameKinds r v w → (n : ℕ) → Inside r k v n → Inside r k w n
  inside_like v w L n (l, (x, y, long, F)) =
      (l, (x, y, long, full_like _ _ (like_append r y y (v ++ x) (w ++ x) (like_same r y) (like_append r v w x x L (like_same r x))) F))

  past_like : (v w : List ℕ) → SameKinds r v w → (n : ℕ) → Past r k v n → Past r k w n
  past_like v w L n (l, (x, y, f, long, e, F)) =
      let (z, g, is, M) = like_split r y f (w ++ x) (subst (λ (t : List ℕ). SameKinds r t (w ++ x)) e (like_append r v w x x L (like_same r x))) in
      (l, (x, z, g, long, is, full_like f g M F))

  module _ (q : ℕ) where
    abbrev Shorter : ℕ → Type 0
    Shorter n = (w : List ℕ) × Member w found × (when (reached r w q) (finite (length w)) ≡ finite n)

    abbrev short : ℕ
    short = upto k (way_of r found q)

    -- a word that leads to q and is no longer than a full tail is like a listed one
    way_listed : (v : List ℕ) → Leads r v q → length v ≤ k → Shorter (length v)
    way_listed v s l =
        let (w, like, _, m) = listed_as r codes B k v ((tailed_is r v).1 (q, reached_in r v q s, s)) l in
        (w, m, (when_is _ _ (length v)).1 (cc (like_reached r v w like q), ap finite (sym (like_length r v w like))))

    way_exact : (a : ℕ) → Way r q a → min k a ≡ short
    way_exact a ((v, s, long), least) = go (way_of r found q) (least_of_is (λ w. when (reached r w q) (finite (length w))) found)
      where
        go : (d : Distance) → LeastIfAny Shorter d → min k a ≡ upto k d
        go infinite none = grind (arith, none (length v), way_listed v s)
        go (finite n) ((w, m, e), f) =
            let (t, is) = (when_is (reached r w q) (finite (length w)) n).0 e in
            grind (arith, finite_same is, least (length w) (w, t, refl), (upto_listed r codes k w m).0, f (length v), way_listed v s)

    -- w is of the length that q keeps, and some way on from it comes to q
    abbrev pub Listed : List ℕ → Type 0
    Listed w = Member w found × ((length w ≡ short) × ((p : ℕ) × (p < size r + 1) × ((reached r w p ≡ true) × Onward r p q)))

    abbrev pub value : List ℕ → Distance
    value w = lesser (first_of found w) (finite (second_of k found w))

    listed_piece : (w : List ℕ) → Listed w → Piece r k q w
    listed_piece w (m, (long, (p, _, (s, (j, path))))) =
        let (u, leads, _) = onward_word r w h j p q s path in
        let (a, way) = way_there r h q (u ++ w) leads in
        (a, u ++ w, way, leads, sym (end_rest (u ++ w) w u refl) ∙ ap (λ z. last z (u ++ w)) (long ∙ sym (way_exact a way)))

    -- a piece is like a listed one
    piece_listed : (w : List ℕ) → Piece r k q w → (x : List ℕ) × SameKinds r w x × OfKinds r codes x × Listed x
    piece_listed w (a, v, way, leads, e) =
        let long : length w ≡ min k a = ap length e ∙ length_last (min k a) v (omega (arith, way.1 (length v) (v, leads, refl))) in
        let u : List ℕ = take (length v - min k a) v in
        let cut : v ≡ u ++ w = last_split (min k a) v ∙ ap (λ z. u ++ z) (sym e) in
        let (p, s, path) = onward r w u q (subst (λ (z : List ℕ). reached r z q ≡ true) cut leads) in
        let (x, like, c, m) = listed_as r codes B k w ((tailed_is r w).1 (p, reached_in r w p s, s)) (omega arith) in
        let len = like_length r w x like in
        (x, like, c, (m, (omega (arith, way_exact a way), (p, reached_in r w p s, (cc (like_reached r w x like p), (length u, path))))))

    lesser_like : (w x : List ℕ) (n : ℕ) → SameKinds r w x → OfKinds r codes x → Lesser r k w n → value x ≡ finite n
    lesser_like w x n like c (d, e, D, E, is) =
        let back = like_back r w x like in
        let one = least_if_one (Inside r k x) _ d (first_exact x c) (least_if_like (Inside r k w) _ (λ i. (inside_like w x like i, inside_like x w back i)) d D) in
        let two = least_if_one (Past r k x) _ e (second_exact x c) (least_if_like (Past r k w) _ (λ i. (past_like w x like i, past_like x w back i)) e E) in
        ap₂ lesser one two ∙ is

    -- t of q is found on the list
    pub pieces_listed : (n : ℕ) → ((w : List ℕ) × Listed w × (value w ≡ finite n)) ↔ PieceJump r k q n
    pieces_listed n = (
      λ (w, L, e). let c = (upto_listed r codes k w L.0).1.0 in (w, listed_piece w L, (first_of found w, finite (second_of k found w), first_exact w c, second_exact w c, e)),
      λ (w, P, V). let (x, like, c, L) = piece_listed w P in (x, L, lesser_like w x n like c V),
    )

    -- where some word leads to q, some piece is listed
    pub listed_there : (v : List ℕ) → Leads r v q → (w : List ℕ) × Listed w
    listed_there v leads =
        let (a, way) = way_there r h q v leads in
        let (x, _, _, L) = piece_listed (last (min k a) v) (a, v, way, leads, refl) in
        (x, L)

pub opens_push : (k : ℕ) (ws : List (List ℕ)) (w v : List ℕ) → opens k (ws ++ w ∷ []) v ≡ opens k ws v || (eqb (length w) k && (head_of v w && ltb (length v) (length w)))
opens_push k [] w v = or-false _
opens_push k (x ∷ ws) w v = rw (opens_push k ws w v, or_assoc)
