-- What holds of a search that is set aside, over each call. Assumes nothing.
use Rattle.std.proofs.Common.{◌≡◌, ℕ, zero, suc, ◌+◌, ◌-◌, ◌<◌, ◌≤◌, true, false, ◌||◌, List, [], ◌++◌, length, take, drop, sym, refl, ap, ◌∙◌, subst, subst₂, Ok, Err, Result, MatchResult, ⊎_elim, arith, take-append-drop}
use Rattle.std.specs.Prelude.{⊤}
use Rattle.std.proofs.lemmas.Bool.{cases_Bool, or_parts, or_cases, both_ways, lt-ltb, le-ltb}
use Rattle.regular.specs.Language.{Regex, Inhabited}
use Rattle.regular.specs.Jumps.{Skips}
use Rattle.regular.specs.Matches.{listed, Exactly}
use Rattle.regular.proofs.Endings.{listed_exactly, exactly_one, listed_on}
use Rattle.refusal.specs.declared.Fault.{Fault}
use Rattle.refusal.specs.declared.Fault.TheVariants.{BeyondText}
use Rattle.search.specs.Rules.{finished, crowded, why}
use Rattle.search.specs.Calls.{fresh, stepped, held, ran, Added, Stepped, Held, RanBy}
use Rattle.search.specs.Reckoning.{Reckoned, filled_by, due, granted_all, called}
use Rattle.search.specs.ListTheorem.{SetAside}
use Rattle.search.specs.Performing.{plain, named, CalledBy}
use Rattle.search.specs.declared.numbers.Answer.{Answer}
use Rattle.search.specs.declared.numbers.Call.{Call}
use Rattle.search.specs.declared.numbers.Numbers.{Numbers}
use Rattle.search.specs.declared.numbers.Stop.{Stop}
use Rattle.search.proofs.Moving.{Kept, kept_fresh, kept_step, kept_ran, forward, listed_step, ran_from, ran_on}
use Rattle.search.proofs.Running.{added_none}

abbrev Aside : Regex → List ℕ → Numbers → List (ℕ × ℕ) → Type 0
Aside r t k table = SetAside r t k (take k.filled table)

-- being set aside is being kept, with the list of the matches in between
module _ (r : Regex) (t : List ℕ) (k : Numbers) (xs : List (ℕ × ℕ)) where
  aside_list : SetAside r t k xs → xs ≡ listed r t k.from (k.next - k.from)
  aside_list aside = exactly_one r t k.from k.next xs (listed r t k.from (k.next - k.from)) aside.exact (listed_exactly r t k.from k.next aside.ordered aside.inside)

  pub aside_kept : SetAside r t k xs → Kept r t k
  aside_kept aside = record {
    order = aside.ordered;
    within = aside.inside;
    full = aside.counted ∙ ap length (aside_list aside);
    most = aside.walks_most;
    least = aside.walks_least;
  }

  kept_aside : Kept r t k → xs ≡ listed r t k.from (k.next - k.from) → SetAside r t k xs
  kept_aside kept is = record {
    ordered = kept.order;
    inside = kept.within;
    exact = subst (Exactly r t k.from k.next) (sym is) (listed_exactly r t k.from k.next kept.order kept.within);
    counted = kept.full ∙ ap length (sym is);
    walks_most = kept.most;
    walks_least = kept.least;
  }

module _ (r : Regex) (t : List ℕ) where
  pub fresh_aside : (p : ℕ) → p ≤ length t + 1 → SetAside r t (fresh p) []
  fresh_aside p le = let none : p - p ≡ 0 = omega arith in kept_aside r t (fresh p) [] (kept_fresh r t p le) (ap (listed r t p) (sym none))

  -- the part that is filled grows
  grown : (k k' : Numbers) (table table' : List (ℕ × ℕ)) → Kept r t k' → k'.from ≡ k.from → k.next ≤ k'.next → Added k k' (listed r t k.next (k'.next - k.next)) table table' → Aside r t k table → Aside r t k' table'
  grown k k' table table' kept' same on added aside =
      kept_aside r t k' (take k'.filled table') kept'
      (added.front
      ∙ ap (λ l. l ++ listed r t k.next (k'.next - k.next)) (aside_list r t k (take k.filled table) aside)
      ∙ listed_on r t k.from k.next k'.next aside.ordered on
      ∙ ap (λ f. listed r t f (k'.next - f)) (sym same))

  module _ (i : Inhabited r) (h : List ℕ → ℕ) (skips : Skips r h) (k k' : Numbers) (table table' : List (ℕ × ℕ)) (aside : Aside r t k table) where
    kept : Kept r t k
    kept = aside_kept r t k (take k.filled table) aside

    -- what a step adds is what is listed between its place and the next one
    step_added : (n : ℕ) → Stepped r h t k k' table table' n → Added k k' (listed r t k.next (k'.next - k.next)) table table'
    step_added n by = subst (λ l. Added k k' l table table') (sym (ap (λ (x : Numbers). listed r t k.next (x.next - k.next)) by.after ∙ listed_step r i h skips t k.next by.going)) by.added

    step_aside : (n : ℕ) → Stepped r h t k k' table table' n → Aside r t k' table'
    step_aside n by =
        let on = forward r i h skips t k.next by.going in
        let far = ap (λ (x : Numbers). x.next) by.after in
        grown k k' table table' (subst (Kept r t) (sym by.after) (kept_step r i h skips t k kept by.going)) (ap (λ (x : Numbers). x.from) by.after) (omega arith) (step_added n by) aside

    run_aside : (b n : ℕ) (stop : Stop) → RanBy r h t k k' table table' b n stop → Aside r t k' table'
    run_aside b n stop by =
        let on = ran_on r i h skips t (length table) b k in
        let far = ap (λ (x : Numbers). x.next) by.after in
        grown k k' table table' (subst (Kept r t) (sym by.after) (kept_ran r i h skips t (length table) b k kept)) (ap (λ (x : Numbers). x.from) by.after ∙ ran_from r i h skips t (length table) b k) (omega arith) by.added aside

-- each call, as it is reckoned
module _ (r : Regex) (t : List ℕ) (shifts : ℕ → List ℕ → ℕ) where
  module _ (size : ℕ) (k : Numbers) (kept : Kept r t k) where
    same_due : held r t size k ≡ due r t size shifts (plain k)
    same_due = ap (λ n. finished t k.next || crowded r t (size - n) k.next) kept.full

  plain_ran : (i : Inhabited r) (size e : ℕ) → Skips r (shifts e) → (b : ℕ) (k : Numbers) → Kept r t k → plain (ran r t size (shifts e) b k) ≡ granted_all r t size shifts e b (plain k)
  plain_ran i size e skips zero k _ = refl
  plain_ran i size e skips (suc b) k keeps =
      let same = same_due size k keeps in
      ⊎_elim
      (λ f. let due_too : due r t size shifts (plain k) ≡ true = sym same ∙ f in rw (f, due_too) refl)
      (λ f. let due_no : due r t size shifts (plain k) ≡ false = sym same ∙ f in rw (f, due_no) (plain_ran i size e skips b (stepped r t (shifts e) k) (kept_step r i (shifts e) skips t k keeps (or_parts (finished t k.next) (crowded r t (size - k.filled) k.next) f).0)))
      (cases_Bool (held r t size k))

  module _ (k k' : Numbers) (table table' : List (ℕ × ℕ)) (aside : Aside r t k table) where
    full : k.filled ≡ filled_by r t (length table) shifts (plain k)
    full = (aside_kept r t k (take k.filled table) aside).full

    -- the table, by what is added to it
    table_by : Aside r t k' table' → Added k k' (listed r t k.next (k'.next - k.next)) table table' → (z : Reckoned) → plain k' ≡ z
        → table' ≡ (take (filled_by r t (length table) shifts (plain k)) table ++ listed r t k.next (z.next - k.next)) ++ drop (filled_by r t (length table) shifts z) table
    table_by aside' added z is =
        let full' = (aside_kept r t k' (take k'.filled table') aside').full in
        let at_k' : table' ≡ (take (filled_by r t (length table) shifts (plain k)) table ++ listed r t k.next (k'.next - k.next)) ++ drop (filled_by r t (length table) shifts (plain k')) table =
        sym (take-append-drop k'.filled table')
        ∙ ap (λ l. l ++ drop k'.filled table') added.front
        ∙ ap (λ l. (take k.filled table ++ listed r t k.next (k'.next - k.next)) ++ l) added.rest
        ∙ (λ j. (take (full j) table ++ listed r t k.next (k'.next - k.next)) ++ drop (full' j) table) in
        at_k' ∙ ap (λ z. (take (filled_by r t (length table) shifts (plain k)) table ++ listed r t k.next (z.next - k.next)) ++ drop (filled_by r t (length table) shifts z) table) is

    call_stepped : (e n : ℕ) → Inhabited r → Skips r (shifts e) → Stepped r (shifts e) t k k' table table' n → CalledBy r t shifts (Call.Step e) k k' table table' (Answer.Wrote n)
    call_stepped e n i skips by =
        let fitting : crowded r t (length table - filled_by r t (length table) shifts (plain k)) k.next ≡ false = ap (λ f. crowded r t (length table - f) k.next) (sym full) ∙ by.fitting in
        let after : plain k' ≡ called r t (length table) shifts (Call.Step e) (plain k) = rw (by.going, fitting) (ap plain by.after) in
        let aside' = step_aside r t i (shifts e) skips k k' table table' aside n by in
        record {
          says = rw (by.going, fitting) (ap Answer.Wrote by.count);
          after = after;
          aside = aside';
          leaves = table_by aside' (step_added r t i (shifts e) skips k k' table table' aside n by) (called r t (length table) shifts (Call.Step e) (plain k)) after;
        }

    call_held : (e : ℕ) (x : Fault) → Held r (shifts e) t k k' table table' x → CalledBy r t shifts (Call.Step e) k k' table table' (Answer.Refused x)
    call_held e x by =
        let is_due : due r t (length table) shifts (plain k) ≡ true = sym (same_due (length table) k (aside_kept r t k (take k.filled table) aside)) ∙ by.due in
        let after : plain k' ≡ called r t (length table) shifts (Call.Step e) (plain k) = rw is_due (ap plain by.same) in
        let aside' : Aside r t k' table' = subst₂ (Aside r t) (sym by.same) (sym by.kept) aside in
        let added = subst₂ (λ z x. Added k z (listed r t k.next (z.next - k.next)) table x) (sym by.same) (sym by.kept) (added_none r t k table) in
        record {
          says =
              ⊎_elim
              (λ f. rw f (ap Answer.Refused (by.fault_is ∙ rw f refl)))
              (λ f.
              let crowd : crowded r t (length table - filled_by r t (length table) shifts (plain k)) k.next ≡ true = ⊎_elim (λ g. absurd (both_ways (finished t k.next) f g)) (λ g. g) (or_cases (finished t k.next) (crowded r t (length table - filled_by r t (length table) shifts (plain k)) k.next) is_due) in
              rw (f, crowd) (ap Answer.Refused (by.fault_is ∙ rw f refl)))
              (cases_Bool (finished t k.next));
          after = after;
          aside = aside';
          leaves = table_by aside' added (called r t (length table) shifts (Call.Step e) (plain k)) after;
        }

    call_ran : (e b n : ℕ) (stop : Stop) → Inhabited r → Skips r (shifts e) → RanBy r (shifts e) t k k' table table' b n stop → CalledBy r t shifts (Call.Run e b) k k' table table' (Answer.Ran n stop)
    call_ran e b n stop i skips by =
        let z : Reckoned = granted_all r t (length table) shifts e b (plain k) in
        let after : plain k' ≡ z = ap plain by.after ∙ plain_ran i (length table) e skips b k (aside_kept r t k (take k.filled table) aside) in
        let steps : n ≡ z.walks - k.walks = by.steps ∙ ap (λ (x : Reckoned). x.walks - k.walks) after in
        let stop_is : stop ≡ why t b z.next (z.walks - k.walks) = by.stop_is ∙ (λ j. why t b (after j).next (steps j)) in
        let aside' = run_aside r t i (shifts e) skips k k' table table' aside b n stop by in
        record {
          says = λ j. Answer.Ran (steps j) (stop_is j);
          after = after;
          aside = aside';
          leaves = table_by aside' by.added z after;
        }

    pub call_cleared : (n : ℕ) → n ≡ k.filled → k' ≡ fresh k.next → table' ≡ table → CalledBy r t shifts Call.Clear k k' table table' (Answer.Cleared n)
    call_cleared n count after kept = record {
      says = ap Answer.Cleared (count ∙ full);
      after = ap plain after;
      aside = subst (λ z. Aside r t z table') (sym after) (fresh_aside r t k.next aside.inside);
      leaves = kept;
    }

    pub call_moved : (p n : ℕ) → length t ≡ n → table' ≡ table → (z : Result ⊤ Fault) (a : Answer) → MatchResult z (λ _. (p ≤ n) × (k' ≡ fresh p)) (λ f. (n < p) × (f ≡ BeyondText p) × (k' ≡ k)) → MatchResult z (λ _. a ≡ Answer.Moved) (λ f. a ≡ Answer.Refused f) → CalledBy r t shifts (Call.Move p) k k' table table' a
    call_moved p n long kept (Ok u) a (le, after) is =
        let inside = le-ltb (length t) p (omega arith) in
        record {
          says = rw inside is;
          after = rw inside (ap plain after);
          aside = subst (λ z. Aside r t z table') (sym after) (fresh_aside r t p (omega arith));
          leaves = kept;
        }
    call_moved p n long kept (Err f) a (lt, fault, same) is =
        let past = lt-ltb (length t) p (omega arith) in
        record {
          says = rw past (is ∙ ap Answer.Refused fault);
          after = rw past (ap plain same);
          aside = subst₂ (Aside r t) (sym same) (sym kept) aside;
          leaves = kept;
        }

-- a step or a run, with the engine that its number names
module _ (r : Regex) (t : List ℕ) {E : Type 0} (expression : E → Regex) (shift : E → List ℕ → ℕ) (inhabited : (x : E) → Inhabited (expression x)) (skips : (x : E) → Skips (expression x) (shift x))
    (engines : List E) (spare : E) (all : (i : ℕ) → expression (named engines spare i) ≡ r) (k k' : Numbers) (table table' : List (ℕ × ℕ)) (aside : Aside r t k table) (e : ℕ) (x : E) (picked : x ≡ named engines spare e)
  where
    abbrev pub shifts : ℕ → List ℕ → ℕ
    shifts i = shift (named engines spare i)

    same : expression x ≡ r
    same = ap expression picked ∙ all e

    far : shift x ≡ shifts e
    far = ap shift picked

    pub call_step : (z : Result ℕ Fault) (a : Answer) → MatchResult z (Stepped (expression x) (shift x) t k k' table table') (Held (expression x) (shift x) t k k' table table') → MatchResult z (λ n. a ≡ Answer.Wrote n) (λ f. a ≡ Answer.Refused f) → CalledBy r t shifts (Call.Step e) k k' table table' a
    call_step (Ok n) a by is =
        subst (CalledBy r t shifts (Call.Step e) k k' table table') (sym is)
        (call_stepped r t shifts k k' table table' aside e n (subst Inhabited same (inhabited x)) (subst₂ Skips same far (skips x)) (subst₂ (λ q h. Stepped q h t k k' table table' n) same far by))
    call_step (Err f) a by is =
        subst (CalledBy r t shifts (Call.Step e) k k' table table') (sym is) (call_held r t shifts k k' table table' aside e f (subst₂ (λ q h. Held q h t k k' table table' f) same far by))

    pub call_run : (b n : ℕ) (stop : Stop) → RanBy (expression x) (shift x) t k k' table table' b n stop → CalledBy r t shifts (Call.Run e b) k k' table table' (Answer.Ran n stop)
    call_run b n stop by = call_ran r t shifts k k' table table' aside e b n stop (subst Inhabited same (inhabited x)) (subst₂ Skips same far (skips x)) (subst₂ (λ q h. RanBy q h t k k' table table' b n stop) same far by)
