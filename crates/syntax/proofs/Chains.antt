-- Parts that are read one behind another, as the items of a branch or the branches of an expression. Assumes nothing.
use Rattle.std.proofs.Common.{◌≡◌, ℕ, ◌≤◌, Bool, true, false, List, [], ◌∷◌, ◌++◌, Ok, Err, Result, sym, refl, ap, ◌∙◌, subst, append_assoc, append-nil, arith}
use Rattle.std.specs.List.{flat_map}
use Rattle.std.proofs.lemmas.Bool.{true≢false}
use Rattle.refusal.specs.declared.Fault.{Fault}
use Rattle.refusal.specs.declared.Fault.TheVariants.{Memory}
use Rattle.syntax.specs.declared.mode.Mode.{Mode}
use Rattle.syntax.specs.declared.lexer.Lexer.{Lexer}
use Rattle.syntax.specs.declared.tree.Node.{Node}
use Rattle.syntax.specs.Grammar.{Level, Tree, written}
use Rattle.syntax.specs.Lexer.{Before}
use Rattle.syntax.specs.Parser.{nesting, Means, Got}

-- what the reading of a tree gives, where After holds of what follows it
abbrev pub Readable : (m : Mode) (l : Level) → (List ℕ → Type 0) → Lexer → ℕ → Result Node Fault → Lexer → Type 0
Readable m l After old left r new = (t : Tree m l) (v : List ℕ) → Before m (written t ++ v) old → After v → nesting t ≤ left → Got t v r new

pub before_same : {m : Mode} {v w : List ℕ} {l : Lexer} → v ≡ w → Before m v l → Before m w l
before_same e h = record { mode_is = h.mode_is; rest_is = h.rest_is ∙ e }

abbrev pub chained : {A B : Type 0} → (A → B → A) → A → List B → A
chained f a [] = a
chained f a (b ∷ bs) = chained f (f a b) bs

pub chained_last : {A B : Type 0} (f : A → B → A) (a : A) (bs : List B) (b : B) → chained f a (bs ++ (b ∷ [])) ≡ f (chained f a bs) b
chained_last f a [] b = refl
chained_last f a (c ∷ bs) b = chained_last f (f a c) bs b

-- a whole is a first part and further ones, each led by the same bytes
pub record Chain (m : Mode) (big small : Level) : Type 1 where
  pub first : Tree m small → Tree m big
  pub next : Tree m big → Tree m small → Tree m big
  pub lead : List ℕ
  pub first_written : (s : Tree m small) → written (first s) ≡ written s
  pub next_written : (t : Tree m big) (s : Tree m small) → written (next t s) ≡ written t ++ (lead ++ written s)
  pub first_nesting : (s : Tree m small) → nesting s ≤ nesting (first s)
  pub next_nesting : (t : Tree m big) (s : Tree m small) → (nesting t ≤ nesting (next t s)) × (nesting s ≤ nesting (next t s))
  pub parted : (t : Tree m big) → (s : Tree m small) × (ss : List (Tree m small)) × (t ≡ chained next (first s) ss)
  -- what may follow a whole and a part, and the test whether a further part follows
  pub Ends : List ℕ → Type 0
  pub Parts : List ℕ → Type 0
  pub goes_on : List ℕ → Bool
  pub parts_end : (ss : List (Tree m small)) (v : List ℕ) → Ends v → Parts (flat_map (λ s. lead ++ written s) ss ++ v)
  pub on : (s : Tree m small) (v : List ℕ) → goes_on ((lead ++ written s) ++ v) ≡ true
  pub off : (v : List ℕ) → Ends v → goes_on v ≡ false
  -- how a tree that was read grows by a part
  pub Grown : Node → Node → Node → Type 0
  pub means_first : (n : Node) (s : Tree m small) → Means n s → Means n (first s)
  pub means_next : (e x n : Node) (t : Tree m big) (s : Tree m small) → Grown e x n → Means e t → Means x s → Means n (next t s)

-- a whole that is being read: some parts are read, and the others are left
pub record Ongoing (m : Mode) (big small : Level) (k : Chain m big small) (t : Tree m big) (v : List ℕ) (e : Node) (l : Lexer) : Type 0 where
  pub done : Tree m big
  pub parts : List (Tree m small)
  pub is : t ≡ chained k.next done parts
  pub means : Means e done
  pub before : Before m (flat_map (λ s. k.lead ++ written s) parts ++ v) l

module _ (m : Mode) (big small : Level) (k : Chain m big small) where
  abbrev shown : Tree m small → List ℕ
  shown s = k.lead ++ written s

  chained_written : (t : Tree m big) (ss : List (Tree m small)) → written (chained k.next t ss) ≡ written t ++ flat_map shown ss
  chained_written t [] = sym (append-nil _)
  chained_written t (s ∷ ss) = grind (arith, append_assoc, chained_written (k.next t s) ss, k.next_written t s)

  chained_nesting : (t : Tree m big) (ss : List (Tree m small)) → nesting t ≤ nesting (chained k.next t ss)
  chained_nesting t [] = omega arith
  chained_nesting t (s ∷ ss) = omega (arith, chained_nesting (k.next t s) ss, (k.next_nesting t s).0)

  -- the state of the loop over the parts
  abbrev pub Reading : Lexer → ℕ → Node → Lexer → Type 0
  Reading old left e l = (t : Tree m big) (v : List ℕ) → Before m (written t ++ v) old → k.Ends v → nesting t ≤ left → Ongoing m big small k t v e l

  module _ (old : Lexer) (left : ℕ) where
    first_got : (r : Result Node Fault) (new : Lexer) → Readable m small k.Parts old left r new → (t : Tree m big) (v : List ℕ) → Before m (written t ++ v) old → k.Ends v → nesting t ≤ left → let (x, xs, _) = k.parted t in Got x (flat_map shown xs ++ v) r new
    first_got r new h t v b s n =
        let (x, xs, l) = k.parted t in
        h x (flat_map shown xs ++ v)
        (before_same (ap (λ z. z ++ v) (ap written l ∙ chained_written (k.first x) xs ∙ ap (λ z. z ++ flat_map shown xs) (k.first_written x)) ∙ append_assoc (written x) (flat_map shown xs) v) b)
        (k.parts_end xs v s) (omega (arith, ap nesting l, chained_nesting (k.first x) xs, k.first_nesting x))

    -- the first part is read, or there is no memory
    pub start : (e : Node) (new : Lexer) → Readable m small k.Parts old left (Ok e) new → Reading old left e new
    start e new h t v b s n =
        let (x, xs, l) = k.parted t in
        let (means, before) = first_got (Ok e) new h t v b s n in
        record { done = k.first x; parts = xs; is = l; means = k.means_first e x means; before = before }

    pub lost : (f : Fault) (new : Lexer) → Readable m small k.Parts old left (Err f) new → Readable m big k.Ends old left (Err f) new
    lost f new h t v b s n = first_got (Err f) new h t v b s n

    module _ (e : Node) (l : Lexer) (inv : Reading old left e l) where
      no_part : {A : Type 0} (t : Tree m big) (v : List ℕ) → k.Ends v → true ≡ k.goes_on l.rest.now → (r : Ongoing m big small k t v e l) → r.parts ≡ [] → A
      no_part t v s on r p = absurd (true≢false (on ∙ ap k.goes_on (r.before.rest_is ∙ ap (λ u. flat_map shown u ++ v) p) ∙ k.off v s))

      module _ (on : true ≡ k.goes_on l.rest.now) (at : Lexer) (led : (u : List ℕ) → Before m (k.lead ++ u) l → Before m u at) where
        -- what the reading of the next part gives
        next_got : (t : Tree m big) (v : List ℕ) (r : Ongoing m big small k t v e l) (s : Tree m small) (ss : List (Tree m small)) → r.parts ≡ s ∷ ss → k.Ends v → nesting t ≤ left → (x : Result Node Fault) (new : Lexer) → Readable m small k.Parts at left x new → Got s (flat_map shown ss ++ v) x new
        next_got t v r s ss p f n x new h =
            h s (flat_map shown ss ++ v)
            (led _ (before_same (ap (λ u. flat_map shown u ++ v) p ∙ append_assoc (shown s) (flat_map shown ss) v ∙ append_assoc k.lead (written s) (flat_map shown ss ++ v)) r.before))
            (k.parts_end ss v f) (omega (arith, ap nesting (r.is ∙ ap (chained k.next r.done) p), chained_nesting (k.next r.done s) ss, (k.next_nesting r.done s).1))

        -- one part more
        pub more : (x f : Node) (new : Lexer) → Readable m small k.Parts at left (Ok x) new → k.Grown e x f → Reading old left f new
        more x f new h g t v b s n = go (inv t v b s n) (inv t v b s n).parts refl
          where
            go : (r : Ongoing m big small k t v e l) (ss : List (Tree m small)) → r.parts ≡ ss → Ongoing m big small k t v f new
            go r [] p = no_part t v s on r p
            go r (c ∷ cs) p =
                let (means, before) = next_got t v r c cs p s n (Ok x) new h in
                record { done = k.next r.done c; parts = cs; is = r.is ∙ ap (chained k.next r.done) p; means = k.means_next e x f r.done c g r.means means; before = before }

        pub memory : (f : Fault) (new : Lexer) → Readable m small k.Parts at left (Err f) new → Readable m big k.Ends old left (Err f) new
        memory f new h t v b s n = go (inv t v b s n) (inv t v b s n).parts refl
          where
            go : (r : Ongoing m big small k t v e l) (ss : List (Tree m small)) → r.parts ≡ ss → f ≡ Memory
            go r [] p = no_part t v s on r p
            go r (c ∷ cs) p = next_got t v r c cs p s n (Err f) new h

      -- no part is left
      pub end : false ≡ k.goes_on l.rest.now → (at : Lexer) → at ≡ l → Readable m big k.Ends old left (Ok e) at
      end off at same t v b s n = go (inv t v b s n) (inv t v b s n).parts refl
        where
          go : (r : Ongoing m big small k t v e l) (ss : List (Tree m small)) → r.parts ≡ ss → Got t v (Ok e) at
          go r [] p =
              (subst (Means e) (sym (r.is ∙ ap (chained k.next r.done) p)) r.means, subst (Before m v) (sym same) (before_same (ap (λ u. flat_map shown u ++ v) p) r.before))
          go r (c ∷ cs) p = absurd (true≢false (sym (ap k.goes_on (r.before.rest_is ∙ ap (λ u. flat_map shown u ++ v) p ∙ append_assoc (shown c) (flat_map shown cs) v) ∙ k.on c (flat_map shown cs ++ v)) ∙ sym off))
