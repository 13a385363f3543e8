-- The automaton accepts what is in the grammar, and lives on the heads of expressions. Assumes nothing.
use Rattle.std.proofs.Common.{◌≡◌, ℕ, zero, suc, ◌+◌, ◌<◌, ◌≤◌, Bool, true, false, cond, ◌||◌, eqb, List, [], ◌∷◌, ◌++◌, length, get_or, take, drop, Some, None, Option, IfSome, sym, refl, ap, ◌∙◌, subst, append_assoc, append-nil, arith, take-append-drop}
use Rattle.std.proofs.lemmas.List.{take-take, take_more, take_all}
use Rattle.std.proofs.lemmas.Bool.{false≢true}
use Rattle.syntax.specs.declared.mode.Mode.{Mode}
use Rattle.syntax.specs.declared.mode.Mode.TheVariants.{Bytes, Fields}
use Rattle.syntax.specs.declared.grammar.Form.{Form}
use Rattle.syntax.specs.declared.grammar.State.{State}
use Rattle.syntax.specs.declared.grammar.Form.TheVariants.{Need, Atom, Marked, Half, Opened, Member, MemberHalf, One, Dash, DashHalf, Two}
use Rattle.syntax.specs.Grammar.{Tree, expression, written, opening}
use Rattle.syntax.specs.Refusals.{Begins, OutsideGrammar}
use Rattle.syntax.specs.declared.grammar.Begun.{Begun}
use Rattle.syntax.specs.declared.grammar.Begun.TheVariants.{Not, Part, Whole}
use Rattle.syntax.specs.Automaton.{begins, ends, state, pick, start, finish, further, closed, sign, outside, step, onward, run, final}
use Rattle.syntax.proofs.Complete.{before, behind, form, ended, reads}
use Rattle.syntax.proofs.Sound.{Good, tree_of}

-- bytes that lead to the end from each form, with no group open
abbrev value : Mode → List ℕ → List ℕ
value Bytes w = 97 ∷ w
value Fields w = 48 ∷ 48 ∷ w

abbrev half : Mode → List ℕ → List ℕ
half Bytes w = 110 ∷ w
half Fields w = 48 ∷ w

abbrev close : Mode → List ℕ → List ℕ
close Bytes w = 93 ∷ w
close Fields w = 62 ∷ w

abbrev closers : ℕ → List ℕ
closers zero = []
closers (suc d) = 41 ∷ closers d

abbrev ending : Mode → Form → List ℕ → List ℕ
ending m Need w = 46 ∷ w
ending m Atom w = w
ending m Marked w = w
ending m Half w = half m w
ending m Opened w = value m (close m w)
ending m Member w = value m (close m w)
ending m MemberHalf w = half m (close m w)
ending m One w = close m w
ending m Dash w = value m (close m w)
ending m DashHalf w = half m (close m w)
ending m Two w = close m w

-- behind an atom or a mark the groups may be closed
closes : (m : Mode) (x : Bool) (d : ℕ) → Good (run m (closers d) (form (behind x)) d)
closes m x zero = grind arith
closes m x (suc d) = grind (arith, closes m false d)

ends_well : (m : Mode) (f : Form) (d : ℕ) → Good (run m (ending m f (closers d)) f d)
ends_well m f d = grind (arith, closes m false d, closes m true d)

module _ (m : Mode) where
  pub run_append : (u v : List ℕ) (f : Form) (d : ℕ) → run m (u ++ v) f d ≡ onward (run m u f d) (run m v)
  run_append [] v f d = refl
  run_append (b ∷ u) v f d = go (step m f d b) (run_append u v)
    where
      go : (r : Option State) → ((f : Form) (d : ℕ) → run m (u ++ v) f d ≡ onward (run m u f d) (run m v)) → onward r (run m (u ++ v)) ≡ onward (onward r (run m u)) (run m v)
      go None h = refl
      go (Some s) h = h s.form s.depth

  -- the run over the bytes from the start
  abbrev pub reached : List ℕ → Option State
  reached w = run m w Need 0

  pub live_begins : (w : List ℕ) (f : Form) (d : ℕ) → reached w ≡ Some (state f d) → Begins m w
  live_begins w f d e =
      let u = ending m f (closers d) in
      let k : reached (w ++ u) ≡ run m u f d = run_append w u Need 0 ∙ ap (λ r. onward r (run m u)) e in
      let (t, l) = tree_of m (w ++ u) (subst Good (sym k) (ends_well m f d)) in
      (t, u, l)

  pub tree_reached : (t : Tree m expression) → reached (written t) ≡ Some (state (form (behind (ended t))) 0)
  tree_reached t = ap (λ w. reached w) (sym (append-nil (written t))) ∙ reads t before 0 []

  pub dead : (u v : List ℕ) → reached u ≡ None → Begins m (u ++ v) → ⊥
  dead u v e (t, r, k) =
      let none : reached (written t) ≡ None = ap (λ w. reached w) (k ∙ append_assoc u v r) ∙ run_append u (v ++ r) Need 0 ∙ ap (λ s. onward s (run m (v ++ r))) e in
      let some = tree_reached t in
      let z : ◌≡◌ {A = ℕ} 0 1 = cc in
      omega arith

  -- the automaton stops at p
  pub stuck : (w : List ℕ) (p : ℕ) (f : Form) (d : ℕ) → p < length w → reached (take p w) ≡ Some (state f d) → step m f d (get_or w p 0) ≡ None → OutsideGrammar m w p
  stuck w p f d l e s = record {
    no_tree = λ t k. dead (take (p + 1) w) (drop (p + 1) w) next (t, [], k ∙ sym (take-append-drop (p + 1) w) ∙ sym (append-nil _));
    within = omega arith;
    begins = live_begins (take p w) f d e;
    longest = λ q lt le (t, r, k). dead (take (p + 1) w) (drop (p + 1) (take q w)) next (t, r, k ∙ ap (λ z. z ++ r) (sym (take-append-drop (p + 1) (take q w)) ∙ ap (λ z. z ++ drop (p + 1) (take q w)) (take-take (p + 1) q w (omega arith))));
  }
    where
      next : reached (take (p + 1) w) ≡ None
      next = ap (λ z. reached z) (take_more w p 0 l) ∙ run_append (take p w) (get_or w p 0 ∷ []) Need 0 ∙ ap (λ z. onward z (run m (get_or w p 0 ∷ []))) e ∙ ap (λ z. onward z (run m [])) s

  final_tree : (t : Tree m expression) → Good (reached (written t))
  final_tree t = subst Good (sym (tree_reached t)) (go (ended t))
    where
      go : (x : Bool) → final (form (behind x)) 0 ≡ true
      go true = refl
      go false = refl

  -- or comes to the end where no expression may end
  pub unfinished : (w : List ℕ) (f : Form) (d : ℕ) → reached w ≡ Some (state f d) → final f d ≡ false → OutsideGrammar m w (length w)
  unfinished w f d e n = record {
    no_tree = λ t k. let g = subst (λ z. Good (reached z)) k (final_tree t) in false≢true (sym n ∙ subst Good e g);
    within = omega arith;
    begins = live_begins (take (length w) w) f d (ap (λ z. reached z) (take_all (length w) w (omega arith)) ∙ e);
    longest = λ q lt le _. omega arith;
  }

  pub accepted : (w : List ℕ) (f : Form) (d : ℕ) → reached w ≡ Some (state f d) → final f d ≡ true → (t : Tree m expression) × (written t ≡ w)
  accepted w f d e k = tree_of m w (subst Good (sym e) k)

-- a byte opens one group at most
module _ (d : ℕ) where
  abbrev Low : Option State → Type 0
  Low r = IfSome r (λ s. s.depth ≤ d + 1)

  low_pick : (z : Begun) (x y w : Option State) → Low x → Low y → Low w → Low (pick z x y w)
  low_pick Not x y w p q r = p
  low_pick Part x y w p q r = q
  low_pick Whole x y w p q r = r

  low_cond : (t : Bool) (x y : Option State) → Low x → Low y → Low (cond t x y)
  low_cond true x y p q = p
  low_cond false x y p q = q

  low : (f : Form) → Low (Some (state f d))
  low f = omega arith

  low_start : (m : Mode) (b : ℕ) (h g : Form) → Low (start m b h g d)
  low_start m b h g = low_pick (begins m b) _ _ _ tt (low h) (low g)

  low_finish : (m : Mode) (b : ℕ) (g : Form) → Low (finish m b g d)
  low_finish m b g = low_cond (ends m b) _ _ (low g) tt

  low_further : (m : Mode) (b : ℕ) → Low (further m b d)
  low_further Bytes b = low_cond (eqb b 93) _ _ (low Atom) (low_start Bytes b MemberHalf One)
  low_further Fields b = low_cond (eqb b 62) _ _ (low Atom) (low_cond (eqb b 44) _ _ (low Member) tt)

  low_sign : (m : Mode) (b : ℕ) (x y z : Option State) → Low x → Low y → Low z → Low (sign m b x y z d)
  low_sign m b x y z p q r =
      low_cond (eqb b 40) _ _ (omega arith) (low_cond (eqb b 41) _ _ p (low_cond (eqb b 124) _ _ q (low_cond (eqb b 42 || (eqb b 43 || eqb b 63)) _ _ r (low_cond (eqb b 46) _ _ (low Atom) (low_cond (eqb b (opening m)) _ _ (low Opened) tt)))))

  low_outside : (m : Mode) (b : ℕ) (x y z : Option State) → Low x → Low y → Low z → Low (outside m b x y z d)
  low_outside Bytes b x y z p q r = low_pick (begins Bytes b) _ _ _ (low_sign Bytes b x y z p q r) (low Half) (low Atom)
  low_outside Fields b x y z p q r = low_sign Fields b x y z p q r

low_closed : (d : ℕ) → Low d (closed d)
low_closed zero = tt
low_closed (suc d) = omega arith

low_step : (m : Mode) (f : Form) (d b : ℕ) → Low d (step m f d b)
low_step m Need d b = low_outside d m b _ _ _ tt tt tt
low_step m Atom d b = low_outside d m b _ _ _ (low_closed d) (low d Need) (low d Marked)
low_step m Marked d b = low_outside d m b _ _ _ (low_closed d) (low d Need) tt
low_step m Half d b = low_finish d m b Atom
low_step m Opened d b = low_cond d (eqb b 94) _ _ (low d Member) (low_start d m b MemberHalf One)
low_step m Member d b = low_start d m b MemberHalf One
low_step m MemberHalf d b = low_finish d m b One
low_step m One d b = low_cond d (eqb b 45) _ _ (low d Dash) (low_further d m b)
low_step m Dash d b = low_start d m b DashHalf Two
low_step m DashHalf d b = low_finish d m b Two
low_step m Two d b = low_further d m b

-- the state of the loop, before the byte at p
pub record Reading (m : Mode) (w : List ℕ) (f : Form) (d p : ℕ) : Type 0 where
  pub low : d ≤ p
  pub so_far : reached m (take p w) ≡ Some (state f d)

pub one_more : (m : Mode) (w : List ℕ) (f g : Form) (d e p : ℕ) → Reading m w f d p → p < length w → Some (state g e) ≡ step m f d (get_or w p 0) → Reading m w g e (p + 1)
one_more m w f g d e p h l s = record {
  low = let k = subst (Low d) (sym s) (low_step m f d (get_or w p 0)) in omega (arith, h.low, k);
  so_far = ap (λ z. reached m z) (take_more w p 0 l) ∙ run_append m (take p w) (get_or w p 0 ∷ []) Need 0 ∙ ap (λ z. onward z (run m (get_or w p 0 ∷ []))) h.so_far ∙ ap (λ z. onward z (run m [])) (sym s);
}

module _ (m : Mode) (w : List ℕ) (f : Form) (d p : ℕ) (h : Reading m w f d p) (l : length w ≤ p) where
  all_read : reached m w ≡ Some (state f d)
  all_read = ap (λ z. reached m z) (sym (take_all p w l)) ∙ h.so_far

  pub read_whole : true ≡ final f d → (t : Tree m expression) × (written t ≡ w)
  read_whole e = accepted m w f d all_read (sym e)

  pub read_short : false ≡ final f d → OutsideGrammar m w (length w)
  read_short e = unfinished m w f d all_read (sym e)
