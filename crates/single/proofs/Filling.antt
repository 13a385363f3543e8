-- What the parts of an expression add to its tables, put together. Assumes nothing.
use Rattle.std.proofs.Common.{◌≡◌, ℕ, zero, suc, ◌+◌, ◌<◌, ◌≤◌, Bool, true, false, cond, ◌&&◌, ◌||◌, eqb, List, length, get_or, set, replicate, sym, refl, ap, ◌∙◌, subst, ap₂, arith}
use Rattle.std.proofs.Math.Bool.{or-false}
use mathlib.Core.Bool.{or_comm, and_comm, or_assoc as or_three}
use lib.Bits.{bit_or, or_zero_l, or_zero_r}
use Rattle.std.proofs.lemmas.List.{ext_get_or, length-set, length-replicate, get_or-replicate, get_or-set_same, get_or-set_other}
use Rattle.std.proofs.lemmas.Bool.{ne_eqb}
use Rattle.regular.specs.Language.{Regex, one, join, either}
use Rattle.regular.specs.Positions.{size, nullable, holds, begins, ends, before, arrow, final}
use Rattle.regular.specs.Sets.{bit, as_set, arrows_of, held_of}
use Rattle.regular.proofs.Ranges.{begins_in}
use Rattle.regular.proofs.Sets.{as_set_bit, length_row, get_or_row, length_held, held_at}
use Rattle.positions.proofs.Unions.{or_assoc, same_set, union_set, union_when, empty_set, set_when}
use Rattle.syntax.specs.declared.tree.Mark as tree
use Rattle.syntax.specs.declared.tree.Mark.TheVariants.{Star, Plus, Query}
use Rattle.syntax.specs.Grammar.{repeated}
use Rattle.syntax.specs.Tree.{mark_of}
use Rattle.expression.specs.declared.outline.Outline.{Outline}
use Rattle.expression.specs.Outlines.{Outlines}
use Rattle.single.specs.Gains.{Gains, Filled}

pub no_from_not : (b : Bool) → (b ≡ true → ⊥) → b ≡ false
no_from_not true h = absurd (h refl)
no_from_not false h = refl

-- rows by what they gain
gains_none : (n : ℕ) (rows : List ℕ) → Gains n rows rows (λ p q. false)
gains_none n rows p l = sym (ap (bit_or (get_or rows p 0)) (sym empty_set) ∙ or_zero_r (get_or rows p 0))

gains_then : (n m : ℕ) (xs ys zs : List ℕ) (f g : ℕ → ℕ → Bool) → m ≡ n → Gains n xs ys f → Gains m ys zs g → Gains n xs zs (λ p q. f p q || g p q)
gains_then n m xs ys zs f g same h k p l =
    k p (omega arith) ∙ ap (λ x. bit_or x (as_set (g p))) (h p l) ∙ or_assoc (get_or xs p 0) (as_set (f p)) (as_set (g p)) ∙ ap (bit_or (get_or xs p 0)) (union_set (f p) (g p))

abbrev pub Links : List ℕ → List ℕ → ℕ → ℕ → Type 0
Links rows rows' from s = (p : ℕ) → p < length rows → get_or rows' p 0 ≡ bit_or (get_or rows p 0) (cond (bit from p) s 0)

gains_links : (rows rows' : List ℕ) (from s : ℕ) (f g : ℕ → Bool) → length rows ≤ 64 → from ≡ as_set f → s ≡ as_set g → Links rows rows' from s → Gains (length rows) rows rows' (λ p q. g q && f p)
gains_links rows rows' from s f g few a b h p l =
    h p l ∙ ap (bit_or (get_or rows p 0)) (ap₂ (λ x y. cond x y 0) (ap (λ s. bit s p) a ∙ as_set_bit f p (omega arith)) b ∙ set_when (f p) g)

pub filled_one : (s : ℕ → Bool) (at : ℕ) (rows codes codes' : List ℕ) (o : Outline) → Outlines (one s) at o → length codes' ≡ 256
    → ((c : ℕ) → c < 256 → get_or codes' c 0 ≡ bit_or (get_or codes c 0) (cond (s c) o.firsts 0)) → Filled (one s) at rows rows codes codes' o
filled_one s at rows codes codes' o out long h = record {
  outline = out;
  arrows = gains_none (length rows) rows;
  long = long;
  held = λ c l. h c l ∙ ap (bit_or (get_or codes c 0)) (ap (λ x. cond (s c) x 0) out.firsts ∙ set_when (s c) (begins (one s) at));
}

module _ (a b : Regex) (at : ℕ) (rows rows₁ rows₂ codes codes₁ codes₂ : List ℕ) (x y : Outline) (long : length rows₁ ≡ length rows)
    (left : Filled a at rows rows₁ codes codes₁ x) (right : Filled b x.end rows₁ rows₂ codes₁ codes₂ y) where
  there : Filled b (at + size a) rows₁ rows₂ codes₁ codes₂ y
  there = subst (λ n. Filled b n rows₁ rows₂ codes₁ codes₂ y) left.outline.end right

  -- what two parts add before they are linked
  both : Gains (length rows) rows rows₂ (λ p q. before a at q p || before b (at + size a) q p)
  both = gains_then (length rows) (length rows₁) rows rows₁ rows₂ (λ p q. before a at q p) (λ p q. before b (at + size a) q p) long left.arrows there.arrows

  each_holds : Gains 256 codes codes₂ (λ c q. holds a at q c || holds b (at + size a) q c)
  each_holds = gains_then 256 256 codes codes₁ codes₂ (λ c q. holds a at q c) (λ c q. holds b (at + size a) q c) refl left.held there.held

  pub filled_either : (o : Outline) → Outlines (either a b) at o → Filled (either a b) at rows rows₂ codes codes₂ o
  filled_either o out = record { outline = out; arrows = both; long = right.long; held = each_holds }

  pub filled_join : (o : Outline) (rows₃ : List ℕ) → length rows₂ ≡ length rows → length rows ≤ 64 → Links rows₂ rows₃ y.firsts x.lasts → Outlines (join a b) at o → Filled (join a b) at rows rows₃ codes codes₂ o
  filled_join o rows₃ same few linked out = record {
    outline = out;
    arrows = λ p l.
        gains_then (length rows) (length rows₂) rows rows₂ rows₃ (λ p q. before a at q p || before b (at + size a) q p) (λ p q. ends a at q && begins b (at + size a) p) same both
        (gains_links rows₂ rows₃ y.firsts x.lasts (begins b (at + size a)) (ends a at) (omega arith) there.outline.firsts left.outline.lasts linked) p l
        ∙ ap (bit_or (get_or rows p 0)) (same_set _ (λ q. before (join a b) at q p) (λ q. turn (before a at q p) (before b (at + size a) q p) (ends a at q && begins b (at + size a) p)));
    long = right.long;
    held = each_holds;
  }
    where
      turn : (x y z : Bool) → (x || y) || z ≡ x || (z || y)
      turn x y z = or_three x y z ∙ ap (λ w. x || w) (or_comm y z)

module _ (a : Regex) (at : ℕ) (rows rows₁ codes codes₁ : List ℕ) (x : Outline) (inner : Filled a at rows rows₁ codes codes₁ x)
    (rows₂ : List ℕ) (same : length rows₁ ≡ length rows) (few : length rows ≤ 64) (o : Outline) where
  looped : Links rows₁ rows₂ x.firsts x.lasts → Gains (length rows) rows rows₂ (λ p q. before a at q p || (ends a at q && begins a at p))
  looped linked =
      gains_then (length rows) (length rows₁) rows rows₁ rows₂ (λ p q. before a at q p) (λ p q. ends a at q && begins a at p) same inner.arrows
      (gains_links rows₁ rows₂ x.firsts x.lasts (begins a at) (ends a at) (omega arith) inner.outline.firsts inner.outline.lasts linked)

  -- what may be repeated is linked with itself
  pub filled_marked : (k : tree.Mark) → (k ≡ Query → rows₂ ≡ rows₁) → ((k ≡ Query → ⊥) → Links rows₁ rows₂ x.firsts x.lasts)
      → Outlines (repeated (mark_of k) a) at o → Filled (repeated (mark_of k) a) at rows rows₂ codes codes₁ o
  filled_marked Star _ linked out = record { outline = out; arrows = looped (linked (λ e. cc)); long = inner.long; held = inner.held }
  filled_marked Plus _ linked out = record { outline = out; arrows = looped (linked (λ e. cc)); long = inner.long; held = inner.held }
  filled_marked Query still _ out = record { outline = out; arrows = subst (λ r. Gains (length rows) rows r (λ p q. before a at q p)) (sym (still refl)) inner.arrows; long = inner.long; held = inner.held }

-- .. and for the whole of it
or_zero : (x y : ℕ) → x ≡ 0 → bit_or x y ≡ y
or_zero x y e = ap (λ z. bit_or z y) e ∙ or_zero_l y

module _ (r : Regex) where
  pub arrows_made : (rows rows' : List ℕ) (lasts : ℕ) → rows ≡ replicate (size r + 1) 0 → length rows' ≡ length rows → Gains (length rows) rows rows' (λ p q. before r 0 q p) → lasts ≡ as_set (ends r 0) → set rows' 0 lasts ≡ arrows_of r
  arrows_made rows rows' lasts zeros long gains is =
      ext_get_or 0 (set rows' 0 lasts) (arrows_of r) (length-set rows' 0 lasts ∙ same ∙ sym (length_row (size r + 1) (λ p. as_set (arrow r p)))) (λ i lt. each i (omega (arith, lt, length-set rows' 0 lasts, same)) ∙ sym (get_or_row (size r + 1) (λ p. as_set (arrow r p)) i (omega (arith, lt, length-set rows' 0 lasts, same))))
    where
      same : length rows' ≡ size r + 1
      same = long ∙ ap length zeros ∙ length-replicate {A = ℕ} (size r + 1) 0

      each : (i : ℕ) → i < size r + 1 → get_or (set rows' 0 lasts) i 0 ≡ as_set (arrow r i)
      each zero lt = get_or-set_same rows' 0 lasts 0 (omega (arith, same)) ∙ is
      each (suc p) lt =
          get_or-set_other rows' 0 (suc p) lasts 0 (λ e. omega arith) ∙ gains (suc p) (omega (arith, same, long))
          ∙ or_zero (get_or rows (suc p) 0) _ (ap (λ l. get_or l (suc p) 0) zeros ∙ get_or-replicate (size r + 1) (suc p) 0 0 lt)

  pub held_made : (codes codes' : List ℕ) → codes ≡ replicate 256 0 → length codes' ≡ 256 → Gains 256 codes codes' (λ c q. holds r 0 q c) → codes' ≡ held_of r
  held_made codes codes' zeros long gains =
      ext_get_or 0 codes' (held_of r) (long ∙ sym (length_held r))
      (λ c lt. gains c (omega (arith, long)) ∙ or_zero (get_or codes c 0) _ (ap (λ l. get_or l c 0) zeros ∙ get_or-replicate 256 c 0 0 (omega (arith, long))) ∙ sym (held_at r c (omega (arith, long))))

  pub finals_made : (o : Outline) → Outlines r 0 o → cond o.nullable (bit_or o.firsts (as_set (λ q. eqb q 0))) o.firsts ≡ as_set (final r)
  finals_made o out =
      ap₂ (λ b x. cond b (bit_or x (as_set (λ q. eqb q 0))) x) out.empty out.firsts
      ∙ union_when (nullable r) (begins r 0) (λ q. eqb q 0) ∙ same_set _ (final r) each
    where
      each : (q : ℕ) → begins r 0 q || (nullable r && eqb q 0) ≡ final r q
      each zero = ap (λ x. x || (nullable r && true)) (no_from_not (begins r 0 0) (λ h. let k = begins_in r 0 0 h in omega arith)) ∙ and_comm (nullable r) true
      each (suc p) = ap (λ x. begins r 0 (suc p) || (nullable r && x)) (ne_eqb (suc p) 0 (λ e. omega arith)) ∙ ap (λ x. begins r 0 (suc p) || x) (and_comm (nullable r) false) ∙ or-false (begins r 0 (suc p))
