-- What the engines of one expression are made from, and what the list theorem gives for them. Assumes nothing.
use Rattle.std.proofs.Common.{◌≡◌, ℕ, zero, suc, Bool, true, List, [], ◌∷◌, length, get_or, Ok, Err, vec_items, Result, MatchResult, sym, refl, ap, ◌∙◌, subst, ◌⊎◌, inl, inr, ⊎_elim, map-id}
use Rattle.std.proofs.lemmas.Bool.{both_ways}
use Rattle.std.proofs.lemmas.Result.{MatchResult-weaker}
use Rattle.refusal.specs.declared.Fault.{Fault}
use Rattle.refusal.specs.declared.Fault.TheVariants.{Memory}
use Rattle.regular.specs.Language.{Regex, Tail}
use Rattle.syntax.specs.Grammar.{meaning}
use Rattle.syntax.specs.Reading.{Accepted}
use Rattle.syntax.specs.Tree.{language}
use Rattle.syntax.specs.declared.mode.Mode.{Mode}
use Rattle.syntax.specs.declared.tree.Node.{Node}
use Rattle.syntax.proofs.Unique.{one_tree}
use Rattle.either.specs.Either.{either}
use Rattle.either.specs.declared.Either.{Either}
use Rattle.either.specs.declared.Either.TheVariants.{Left, Right}
use Rattle.expression.specs.declared.expression.Expression.{Expression}
use Rattle.distance.specs.Distances.{Jump, WholeJump}
use Rattle.single.specs.declared.single.SingleStep.{SingleStep}
use Rattle.tabled.specs.declared.tabled.Tabled.{Tabled}
use Rattle.tabled.specs.Jumps.{greatest_of}
use Rattle.tabled.specs.Exact as tabled_exact
use Rattle.word.specs.declared.word.Word.{Word}
use Rattle.word.specs.Exact as word_exact
use Rattle.plain_word.proofs.Plain.{ends_tails}
use Rattle.search.specs.ListTheorem.{ListTheorem}
use Rattle.search.specs.Performing.{named, Performs}
use Rattle.search.specs.declared.numbers.Call.{Call}
use Rattle.search.specs.declared.numbers.Outcome.{Outcome}
use Rattle.making.specs.Engines.{asks_word, SingleOf, TabledOf, WordOf, LastOf, Unread, NoWord, BuiltBy, built, unread}
use Rattle.making.specs.Outcomes.{Makes}

module _ (bytes : List ℕ) (n : Node) (a : Accepted Mode.Bytes bytes n) where
  tabled_made : (e : Tabled) → tabled_exact.JumpsExactly n e → TabledOf bytes e
  tabled_made e made = record {
    accepted = subst (Accepted Mode.Bytes bytes) (sym made.same_tree) a;
    exact = subst (λ (m : Node). (v : List ℕ) → Tail (language m) v → Jump (language m) v (greatest_of (language m) (vec_items e.jumps) v)) (sym made.same_tree) made.exact;
  }

  word_jump : (e : Word) → word_exact.JumpsExactly n e → (v : List ℕ) → Tail (language n) v → WholeJump (language n) v (get_or (vec_items e.jumps) (length v) 0)
  word_jump e made v tail =
      let (short, is) = (ends_tails n e.letters a.values_are_exact made.letters v).0 tail in
      subst (λ u. WholeJump (language n) u (get_or (vec_items e.jumps) (length v) 0)) (sym is) (made.exact (length v) short)

  word_made : (e : Word) → word_exact.JumpsExactly n e → WordOf bytes e
  word_made e made = record {
    accepted = subst (Accepted Mode.Bytes bytes) (sym made.same_tree) a;
    exact = subst (λ (m : Node). (v : List ℕ) → Tail (language m) v → WholeJump (language m) v (get_or (vec_items e.jumps) (length v) 0)) (sym made.same_tree) (word_jump e made);
  }

  -- the bytes have one meaning
  same_language : (m : Node) → Accepted Mode.Bytes bytes m → language m ≡ language n
  same_language m b = b.means_it ∙ ap meaning (one_tree Mode.Bytes b.tree a.tree (b.is_written.as_bytes ∙ sym a.is_written.as_bytes)) ∙ sym a.means_it

-- what the makers of the three engines give for the bytes
module _ (bytes : List ℕ) where
  pub single_built : {makes : Expression → Result SingleStep Fault → Type 0} → ((x : Expression) (r : Result SingleStep Fault) → makes x r → MatchResult r (λ e. e.expression.tree ≡ x.tree) (λ f. f ≡ Memory))
      → (r : Result SingleStep Fault) → BuiltBy bytes makes r → MatchResult r (SingleOf bytes) (Unread bytes)
  single_built gives r (built x a m) = MatchResult-weaker r (gives x r m) (λ e same. subst (Accepted Mode.Bytes bytes) (sym same) a) (λ f is. inr is)
  single_built gives r (unread f is why) = rw is why

  pub tabled_built : {makes : Expression → Result Tabled Fault → Type 0} → ((x : Expression) (r : Result Tabled Fault) → makes x r → MatchResult r (tabled_exact.JumpsExactly x.tree) (λ f. f ≡ Memory))
      → (r : Result Tabled Fault) → BuiltBy bytes makes r → MatchResult r (TabledOf bytes) (Unread bytes)
  tabled_built gives r (built x a m) = MatchResult-weaker r (gives x r m) (λ e made. tabled_made bytes x.tree a e made) (λ f is. inr is)
  tabled_built gives r (unread f is why) = rw is why

  pub word_built : {makes : Expression → Result Word Fault → Type 0} → ((x : Expression) (r : Result Word Fault) → makes x r → word_exact.MadeFor x.tree r)
      → (r : Result Word Fault) → BuiltBy bytes makes r → MatchResult r (WordOf bytes) (λ f. Unread bytes f ⊎ NoWord bytes f)
  word_built gives r (built x a m) =
      MatchResult-weaker r (gives x r m) (λ e made. word_made bytes x.tree a e made)
      (λ f. ⊎_elim (λ (is, none). inr (record { fault_is = is; tree = x.tree; accepted = a; spells_none = none })) (λ (is, _). inl (inr is)))
  word_built gives r (unread f is why) = rw is (inl why)

abbrev AnyEngine : Type 0
AnyEngine = Either SingleStep (Either Tabled Word)

abbrev language_of : AnyEngine → Regex
language_of e = either (λ s. language s.expression.tree) (λ x. either (λ t. language t.single.expression.tree) (λ w. language w.expression.tree) x) e

abbrev shift_of : AnyEngine → List ℕ → ℕ
shift_of e v = either {T = List ℕ → ℕ} (λ s v. 1) (λ x v. either {T = List ℕ → ℕ} (λ t v. greatest_of (language t.single.expression.tree) (vec_items t.jumps) v) (λ w v. get_or (vec_items w.jumps) (length v) 0) x v) e v

module _ (bytes : List ℕ) (s : SingleStep) (t : Tabled) (a : SingleOf bytes s) (b : TabledOf bytes t) where
  abbrev meant : Regex
  meant = language s.expression.tree

  abbrev row : List AnyEngine
  row = Left s ∷ Right (Left t) ∷ []

  last_language : (asked : Bool) (e : AnyEngine) → LastOf bytes asked e → language_of e ≡ meant
  last_language asked (Left e) (_, is) = same_language bytes s.expression.tree a e.expression.tree is
  last_language asked (Right (Left e)) is = absurd is
  last_language asked (Right (Right e)) is = same_language bytes s.expression.tree a e.expression.tree is.accepted

  all_languages : (asked : Bool) (e : AnyEngine) → LastOf bytes asked e → (i : ℕ) → language_of (named row e i) ≡ meant
  all_languages asked e is zero = refl
  all_languages asked e is (suc zero) = same_language bytes s.expression.tree a t.single.expression.tree b.accepted
  all_languages asked e is (suc (suc i)) = last_language asked e is

  tabled_jumps : (v : List ℕ) → Tail meant v → Jump meant v (shift_of (Right (Left t)) v)
  tabled_jumps = subst (λ (r : Regex). (v : List ℕ) → Tail r v → Jump r v (shift_of (Right (Left t)) v)) (same_language bytes s.expression.tree a t.single.expression.tree b.accepted) b.exact

  word_jumps : (asked : Bool) (e : AnyEngine) → LastOf bytes asked e → asked ≡ true → (v : List ℕ) → Tail meant v → WholeJump meant v (shift_of e v)
  word_jumps asked (Left e) (not_asked, _) yet = absurd (both_ways asked not_asked yet)
  word_jumps asked (Right (Left e)) is yet = absurd is
  word_jumps asked (Right (Right e)) is yet = subst (λ (r : Regex). (v : List ℕ) → Tail r v → WholeJump r v (shift_of (Right (Right e)) v)) (same_language bytes s.expression.tree a e.expression.tree is.accepted) is.exact

  pub handed : (text : List ℕ) (e : AnyEngine) (calls : List Call) (table table' : List (ℕ × ℕ)) → LastOf bytes (asks_word calls) e → (result : Result Outcome Fault) → Performs (λ b. b) language_of shift_of text row e calls table table' result → Makes bytes text calls table table' result
  handed text e calls table table' is (Ok o) p = record {
    tree = s.expression.tree;
    accepted = a;
    shifts = λ i. shift_of (named row e i);
    single = λ v. refl;
    tabled = tabled_jumps;
    word = word_jumps (asks_word calls) e is;
    theorem =
        subst (λ l. ListTheorem meant l (λ i. shift_of (named row e i)) calls table table' o.numbers (vec_items o.answers)) (map-id text)
        (p.theorem meant (all_languages (asks_word calls) e is));
  }
  handed text e calls table table' is (Err f) p = record { why = ⊎_elim (λ (long, is). inr (inr (is, long))) (λ (_, is). inl (inr is)) p.why; kept = p.kept }
