-- The second distances of the first tails, one after another.
use Rattle.std.proofs.Common.{◌≡◌, ℕ, ◌+◌, ◌<◌, List, [], ◌∷◌, ◌++◌, length, take, map, vec_items, get_or, sym, ap, ap₂, ◌∙◌, arith, length-append}
use Rattle.std.proofs.lemmas.List.{get_or-map, get_or-take, length-map, take_more, map-append}
use Rattle.distance.specs.Found.{second_of}
use Rattle.shift.specs.Led.{Led}
use Rattle.shift.specs.Listed.{Seconds, all_words, full_words}
use Rattle.shift.specs.declared.tails.Tails.{Tails}

module _ (t : Tails) where
  abbrev second : List ℕ → ℕ
  second v = second_of t.depth (full_words t) v

  pub second_at : (ss : List ℕ) → Seconds t ss → (i : ℕ) (x : Led) → i < length ss → i < length (vec_items t.list) → get_or ss i 0 ≡ second (get_or (vec_items t.list) i x).codes
  second_at ss known i x in_ss in_list =
      let ws = all_words t in
      let long : length ss ≡ length (take (length ss) ws) = ap length known ∙ length-map (take (length ss) ws) second in
      ap (λ s. get_or s i 0) known
      ∙ get_or-map second (take (length ss) ws) i x.codes 0 (omega (arith, long))
      ∙ ap second (get_or-take (length ss) ws i x.codes in_ss ∙ get_or-map (λ (u : Led). u.codes) (vec_items t.list) i x x.codes in_list)

  pub second_more : (ss ss' : List ℕ) → Seconds t ss → (x : Led) → length ss < length (vec_items t.list) → ss' ≡ ss ++ (second (get_or (vec_items t.list) (length ss) x).codes ∷ []) → Seconds t ss'
  second_more ss ss' known x more e =
      let ws = all_words t in
      let n : length ss' ≡ length ss + 1 = omega (arith, ap length e, length-append ss (second (get_or (vec_items t.list) (length ss) x).codes ∷ [])) in
      let here = length ss in
      let one : get_or ws here x.codes ≡ (get_or (vec_items t.list) here x).codes = get_or-map (λ (u : Led). u.codes) (vec_items t.list) here x x.codes more in
      let taken : take (here + 1) ws ≡ take here ws ++ (get_or ws here x.codes ∷ []) = take_more ws here x.codes (omega (arith, length-map (vec_items t.list) (λ (u : Led). u.codes))) in
      e ∙ ap₂ (λ a b. a ++ (second b ∷ [])) known (sym one)
      ∙ sym (map-append second (take here ws) (get_or ws here x.codes ∷ []))
      ∙ ap (map second) (sym taken)
      ∙ ap (λ m. map second (take m ws)) (sym n)
