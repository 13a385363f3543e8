-- The tails that are one code longer. Assumes nothing.
use Rattle.std.proofs.Common.{◌≡◌, ℕ, ◌+◌, ◌-◌, ◌<◌, ◌≤◌, true, false, cond, List, [], ◌∷◌, ◌++◌, map, length, get_or, take, drop, sym, refl, ap, ◌∙◌, append_assoc, append-nil, add-one, arith, length-append, length-drop}
use Rattle.std.specs.List.{flat_map}
use Rattle.std.proofs.lemmas.List.{take_all, take_more, map-append, get_or-map, take-append-drop, length-map, flat_map_more}
use Rattle.std.proofs.lemmas.Grind.{flat_map-append}
use Rattle.regular.specs.Language.{Regex}
use Rattle.regular.specs.Positions.{size, reached, tailed}
use Rattle.regular.specs.Sets.{as_set}
use Rattle.regular.proofs.Reading.{reached_in}
use Rattle.regular.proofs.Sets.{empty_set, some_set}
use Rattle.distance.specs.Found.{longer, fronted, tails}
use Rattle.shift.specs.Led.{Led, led, words, AllLed, all_codes, listed, longer_by_one}

-- words that are led are theirs again
pub words_led : (r : Regex) (ws : List (List ℕ)) → words (map (led r) ws) ≡ ws
words_led r [] = refl
words_led r (w ∷ ws) = ap (λ xs. w ∷ xs) (words_led r ws)

pub all_led : (r : Regex) (ts : List Led) (ws : List (List ℕ)) → ts ≡ map (led r) ws → AllLed r ts
all_led r ts ws e = e ∙ ap (map (led r)) (sym (words_led r ws) ∙ sym (ap words e))

pub led_at : (r : Regex) (ts : List Led) → AllLed r ts → (i : ℕ) (x : Led) → x ≡ get_or ts i x → i < length ts → x ≡ led r x.codes
led_at r ts all i x at l =
    at ∙ ap (λ t. get_or t i x) all
    ∙ get_or-map (led r) (words ts) i x.codes x (omega (arith, length-map ts (λ (t : Led). t.codes)))
    ∙ ap (led r) (get_or-map (λ (t : Led). t.codes) ts i x x.codes l ∙ ap (λ (t : Led). t.codes) (sym at))

-- one more code before the word v
module _ (r : Regex) (few : size r ≤ 63) (v ks : List ℕ) (i : ℕ) (l : i < length ks) (xs ys : List Led) (inv : xs ≡ ys ++ map (led r) (flat_map (longer r v) (take i ks))) where
  abbrev c : ℕ
  c = get_or ks i 0

  step : xs ++ map (led r) (longer r v c) ≡ ys ++ map (led r) (flat_map (longer r v) (take (i + 1) ks))
  step =
      ap (λ z. z ++ map (led r) (longer r v c)) inv ∙ append_assoc ys (map (led r) (flat_map (longer r v) (take i ks))) (map (led r) (longer r v c))
      ∙ ap (λ z. ys ++ z) (sym (map-append (led r) (flat_map (longer r v) (take i ks)) (longer r v c))
      ∙ ap (map (led r)) (flat_map_more (longer r v) [] (take i ks) c ∙ ap (flat_map (longer r v)) (sym (take_more ks i 0 l))))

  pub code_yes : (as_set (reached r (c ∷ v)) ≡ 0 → ⊥) → xs ++ led r (c ∷ v) ∷ [] ≡ ys ++ map (led r) (flat_map (longer r v) (take (i + 1) ks))
  unfolding tailed
  code_yes some =
      let t : tailed r (c ∷ v) ≡ true = some_set (size r + 1) (omega arith) (reached r (c ∷ v)) (reached_in r (c ∷ v)) some in
      ap (λ b. xs ++ map (led r) (cond b ((c ∷ v) ∷ []) [])) (sym t) ∙ step

  pub code_no : as_set (reached r (c ∷ v)) ≡ 0 → xs ≡ ys ++ map (led r) (flat_map (longer r v) (take (i + 1) ks))
  unfolding tailed
  code_no none =
      let t : tailed r (c ∷ v) ≡ false = empty_set (size r + 1) (omega arith) (reached r (c ∷ v)) (reached_in r (c ∷ v)) none in
      sym (append-nil xs) ∙ ap (λ b. xs ++ map (led r) (cond b ((c ∷ v) ∷ []) [])) (sym t) ∙ step

-- one more word
module _ (r : Regex) (ts : List Led) (i : ℕ) (x : Led) (at : x ≡ get_or ts i x) (l : i < length ts) where
  more : take (i + 1) ts ≡ take i ts ++ x ∷ []
  more = take_more ts i x l ∙ ap (λ t. take i ts ++ t ∷ []) (sym at)

  pub word_more : (xs ys : List Led) → xs ≡ map (led r) (longer_by_one r (words (take i ts))) → ys ≡ xs ++ map (led r) (fronted r (all_codes r) x.codes)
      → ys ≡ map (led r) (longer_by_one r (words (take (i + 1) ts)))
  word_more xs ys e f =
      f ∙ ap (λ z. z ++ map (led r) (fronted r (all_codes r) x.codes)) e
      ∙ sym (map-append (led r) (longer_by_one r (words (take i ts))) (fronted r (all_codes r) x.codes))
      ∙ ap (map (led r)) (flat_map_more (fronted r (all_codes r)) [] (words (take i ts)) x.codes
      ∙ ap (longer_by_one r) (sym (map-append (λ (t : Led). t.codes) (take i ts) (x ∷ [])) ∙ ap words (sym more)))

  pub word_most : length (longer_by_one r (words (take (i + 1) ts))) ≤ length (longer_by_one r (words ts))
  word_most =
      let split = ap (λ z. longer_by_one r (words z)) (sym (take-append-drop (i + 1) ts)) ∙ ap (longer_by_one r) (map-append (λ (t : Led). t.codes) (take (i + 1) ts) (drop (i + 1) ts))
      ∙ flat_map-append (fronted r (all_codes r)) (words (take (i + 1) ts)) (words (drop (i + 1) ts)) in
      omega (arith, ap length split, length-append (longer_by_one r (words (take (i + 1) ts))) (longer_by_one r (words (drop (i + 1) ts))))

-- the tails of the next length
module _ (r : Regex) (n start : ℕ) (list read level : List Led) (is : read ≡ list)
    (at : level ≡ take (length read - start) (drop start read)) (here : drop start list ≡ map (led r) (tails r (all_codes r) n)) where
  level_is : level ≡ map (led r) (tails r (all_codes r) n)
  level_is = at ∙ take_all (length read - start) (drop start read) (omega (arith, length-drop start read)) ∙ ap (drop start) is ∙ here

  pub level_led : AllLed r level
  level_led = all_led r level (tails r (all_codes r) n) level_is

  pub next_words : longer_by_one r (words level) ≡ tails r (all_codes r) (n + 1)
  next_words = rw add-one (ap (longer_by_one r) (ap words level_is ∙ words_led r (tails r (all_codes r) n)))

pub listed_more : (r : Regex) (n : ℕ) → listed r (n + 1) ≡ listed r n ++ tails r (all_codes r) (n + 1)
listed_more r n = rw add-one refl
