-- How the list grows, run by run and clear by clear, until it is whole. Assumes nothing.
use Rattle.std.proofs.Common.{◌≡◌, ℕ, zero, suc, ◌+◌, ◌-◌, ◌*◌, ◌^◌, ◌<◌, ◌≤◌, Bool, true, false, cond, eqb, List, [], ◌++◌, length, take, vec_items, sym, refl, ap, ◌∙◌, subst, subst₂, ⊎_elim, arith, length-take}
use denote.Enum.Bare.{sameb}
use Rattle.std.proofs.lemmas.Bool.{cond_both, cond-false, ltb-true, ltb-false, or_parts, or_cases, false≢true}
use Rattle.refusal.specs.declared.Fault.{Fault}
use Rattle.refusal.specs.declared.Fault.TheVariants.{NoRoom}
use Rattle.regular.specs.Language.{Regex, Inhabited}
use Rattle.regular.specs.Jumps.{Skips}
use Rattle.regular.specs.Matches.{ending, listed, Exactly}
use Rattle.regular.proofs.Endings.{listed_on, listed_exactly}
use Rattle.search.specs.Rules.{finished, crowded, onward, reading}
use Rattle.search.specs.Calls.{fresh, stepped, held, ran, Stepped, Held, RanBy}
use Rattle.search.specs.declared.numbers.Numbers.{Numbers}
use Rattle.search.specs.contracts.numbers.Stop.{the_type}
use Rattle.search.specs.declared.numbers.Stop.{Stop}
use Rattle.search.proofs.Moving.{Kept, kept_fresh, kept_step, kept_ran, ran_from, ran_on, forward, listed_step}
use Rattle.finder.specs.declared.Listing.{Listing}
use Rattle.finder.specs.Listing.{Goes, here, on, TakenOver, Whole, NotListed, narrow}

module _ (r : Regex) (h : List ℕ → ℕ) (t : List ℕ) where
  -- steps that the rules count are steps that lead on
  goes_step : (p w n : ℕ) (k : Numbers) → finished t k.next ≡ false → Goes r h t p k.next (w + k.walks) (n + k.reads) → Goes r h t p (stepped r t h k).next (w + (stepped r t h k).walks) (n + (stepped r t h k).reads)
  goes_step p w n k going goes =
      let walks : (w + k.walks) + 1 ≡ w + (k.walks + 1) = omega arith in
      let reads : (n + k.reads) + reading r t k.next ≡ n + (k.reads + reading r t k.next) = omega arith in
      subst₂ (Goes r h t p (onward r t h k.next)) walks reads (on goes (ltb-false (length t) k.next going))

  goes_ran : (size b p w n : ℕ) (k : Numbers) → Goes r h t p k.next (w + k.walks) (n + k.reads) → Goes r h t p (ran r t size h b k).next (w + (ran r t size h b k).walks) (n + (ran r t size h b k).reads)
  goes_ran size zero p w n k goes = goes
  goes_ran size (suc b) p w n k goes =
      cond_both (held r t size k) k (ran r t size h b (stepped r t h k)) (λ x. Goes r h t p x.next (w + x.walks) (n + x.reads))
      (λ _. goes)
      (λ f. goes_ran size b p w n (stepped r t h k) (goes_step p w n k (or_parts (finished t k.next) (crowded r t (size - k.filled) k.next) f).0 goes))

  -- what was taken over, and what stands in the table, are the matches up to next
  pub record Going (k : Numbers) (table found : List (ℕ × ℕ)) (walks reads : ℕ) : Type 0 where
    pub kept : Kept r t k
    pub front : take k.filled table ≡ listed r t k.from (k.next - k.from)
    pub taken : found ≡ listed r t 0 k.from
    pub went : Goes r h t 0 k.next (walks + k.walks) (reads + k.reads)
    pub few : walks ≤ 2 ^ 32 * k.next
    pub some : reads ≤ 2 ^ 32 * k.next

  pub going_start : (table : List (ℕ × ℕ)) → Going (fresh 0) table [] 0 0
  going_start table = record { kept = kept_fresh r t 0 (omega arith); front = refl; taken = refl; went = here; few = omega arith; some = omega arith }

  pub filled_within : {k : Numbers} {table found : List (ℕ × ℕ)} {w n : ℕ} → Going k table found w n → k.filled ≤ length table
  filled_within {k} {table} going = omega (arith, going.kept.full, ap length going.front, length-take k.filled table)

  module _ {k : Numbers} {table found : List (ℕ × ℕ)} {w n : ℕ} (going : Going k table found w n) where
    -- with the table taken over, the matches up to next are found
    pub all_taken : found ++ take k.filled table ≡ listed r t 0 k.next
    all_taken =
        let z : k.from - 0 ≡ k.from = omega arith in
        let y : k.next - 0 ≡ k.next = omega arith in
        ap (λ l. l ++ take k.filled table) (going.taken ∙ ap (listed r t 0) (sym z))
        ∙ ap (λ l. listed r t 0 (k.from - 0) ++ l) going.front
        ∙ listed_on r t 0 k.from k.next (omega arith) going.kept.order
        ∙ ap (listed r t 0) y

    module _ (i : Inhabited r) (skips : Skips r h) where
      pub going_run : {k' : Numbers} {table' : List (ℕ × ℕ)} {budget done : ℕ} {stop : Stop} → RanBy r h t k k' table table' budget done stop → Going k' table' found w n
      going_run {k'} {table'} {budget} by =
          let size = length table in
          let from = ap (λ x. x.from) by.after ∙ ran_from r i h skips t size budget k in
          let far : k.next ≤ k'.next = omega (arith, ap (λ x. x.next) by.after, ran_on r i h skips t size budget k) in
          record {
            kept = subst (Kept r t) (sym by.after) (kept_ran r i h skips t size budget k going.kept);
            front =
                by.added.front
                ∙ ap (λ l. l ++ listed r t k.next (k'.next - k.next)) going.front
                ∙ listed_on r t k.from k.next k'.next going.kept.order far
                ∙ ap (λ f. listed r t f (k'.next - f)) (sym from);
            taken = going.taken ∙ ap (listed r t 0) (sym from);
            went = subst (λ x. Goes r h t 0 x.next (w + x.walks) (n + x.reads)) (sym by.after) (goes_ran size budget 0 w n k going.went);
            few = omega (arith, going.few);
            some = omega (arith, going.some);
          }

      -- taken over, cleared, and one step on
      pub going_on : {k' : Numbers} {table' : List (ℕ × ℕ)} {count : ℕ} → k.walks < 2 ^ 32 → k.reads < 2 ^ 32 → Stepped r h t (fresh k.next) k' table table' count → Going k' table' (found ++ take k.filled table) (w + k.walks) (n + k.reads)
      going_on {k'} {table'} few some by =
          let next = ap (λ x. x.next) by.after in
          let from = ap (λ x. x.from) by.after in
          let far = forward r i h skips t k.next by.going in
          let more : k.next < k'.next = omega (arith, next, far.0) in
          let walks : (w + k.walks) + 0 ≡ w + k.walks = omega arith in
          let reads : (n + k.reads) + 0 ≡ n + k.reads = omega arith in
          let went : Goes r h t 0 k.next ((w + k.walks) + 0) ((n + k.reads) + 0) = subst₂ (Goes r h t 0 k.next) (sym walks) (sym reads) going.went in
          record {
            kept = subst (Kept r t) (sym by.after) (kept_step r i h skips t (fresh k.next) (kept_fresh r t k.next going.kept.within) by.going);
            front = by.added.front ∙ sym (listed_step r i h skips t k.next by.going) ∙ ap (λ x. listed r t x.from (x.next - x.from)) (sym by.after);
            taken = all_taken ∙ ap (listed r t 0) (sym from);
            went = subst (λ x. Goes r h t 0 x.next ((w + k.walks) + x.walks) ((n + k.reads) + x.reads)) (sym by.after) (goes_step 0 (w + k.walks) (n + k.reads) (fresh k.next) by.going went);
            few = omega (arith, going.few);
            some = omega (arith, going.some);
          }

    module _ (done : finished t k.next ≡ true) where
      at_end : k.next ≡ length t + 1
      at_end = omega (arith, ltb-true (length t) k.next done, going.kept.within)

      pub whole_list : Exactly r t 0 (length t + 1) (found ++ take k.filled table)
      whole_list =
          let z : (length t + 1) - 0 ≡ length t + 1 = omega arith in
          subst (Exactly r t 0 (length t + 1)) (ap (listed r t 0) z ∙ sym (all_taken ∙ ap (listed r t 0) at_end)) (listed_exactly r t 0 (length t + 1) (omega arith) (omega arith))

      pub whole_way : Goes r h t 0 (length t + 1) (w + k.walks) (n + k.reads)
      whole_way = subst (λ q. Goes r h t 0 q (w + k.walks) (n + k.reads)) at_end going.went

  -- a step into an empty table is refused only for want of room
  pub refused_narrow : (p : ℕ) {k' : Numbers} {table table' : List (ℕ × ℕ)} {f : Fault} → finished t p ≡ false → Held r h t (fresh p) k' table table' f → NotListed r h t (length table) f
  refused_narrow p {k'} {table} going by =
      let count = length (ending r t p) in
      let is : _ ≡ NoRoom p count = by.fault_is ∙ cond-false (finished t p) _ _ going in
      subst (NotListed r h t (length table)) (sym is) (narrow p (ltb-false (length t) p going)
      (⊎_elim (λ e. absurd (false≢true (sym going ∙ e))) (λ e. omega (arith, ltb-true (length table - 0) count e)) (or_cases (finished t p) (crowded r t (length table - 0) p) by.due)))

-- why a run ended tells whether the text is done
tells_finished : (f e : Bool) → sameb the_type (cond f Stop.Finished (cond e Stop.Budget Stop.Room)) Stop.Finished ≡ f
tells_finished true e = refl
tells_finished false true = refl
tells_finished false false = refl

module _ (r : Regex) (h : List ℕ → ℕ) (t : List ℕ) where
  -- a run led from k to j, and what it found is still to be taken over
  pub record Turned (k j : Numbers) (table found : List (ℕ × ℕ)) (walks reads : ℕ) (stop : Stop) : Type 0 where
    pub going : Going r h t j table found walks reads
    pub far : k.next ≤ j.next
    pub ends : sameb the_type stop Stop.Finished ≡ finished t j.next

  pub turned : Inhabited r → Skips r h → {t' : List ℕ} → t' ≡ t → {k k' j : Numbers} {table table' found : List (ℕ × ℕ)} {w n budget done : ℕ} {stop : Stop} → j ≡ k' → Going r h t k table found w n → RanBy r h t' k k' table table' budget done stop → Turned k j table' found w n stop
  turned i skips {t'} same {k} {k'} {j} {table} {table'} {found} {w} {n} {budget} {done} {stop} read going ran_by =
      let by = subst (λ x. RanBy r h x k k' table table' budget done stop) same ran_by in
      record {
        going = subst (λ x. Going r h t x table' found w n) (sym read) (going_run r h t going i skips by);
        far = omega (arith, ap (λ x. x.next) read, ap (λ x. x.next) by.after, ran_on r i h skips t (length table) budget k);
        ends =
            ap (λ x. sameb the_type x Stop.Finished) by.stop_is
            ∙ tells_finished (finished t k'.next) (eqb done budget)
            ∙ ap (λ x. finished t x.next) (sym read);
      }

  -- a step into the cleared table is refused only for want of room
  pub refused_step : {k j : Numbers} {table found : List (ℕ × ℕ)} {w n : ℕ} {stop : Stop} → Turned k j table found w n stop → (b : Bool) → b ≡ sameb the_type stop Stop.Finished → b ≡ false
      → {t' : List ℕ} {l l' : Numbers} {table' : List (ℕ × ℕ)} {f : Fault} (size : ℕ) → length table ≡ size → t' ≡ t → l ≡ fresh j.next → Held r h t' l l' table table' f → NotListed r h t size f
  refused_step {k} {j} {table} turn b eq other {t'} {l} {l'} {table'} {f} size long same cleared refused =
      subst (λ m. NotListed r h t m f) long (refused_narrow r h t j.next (sym (eq ∙ turn.ends) ∙ other) (subst₂ (λ x y. Held r h x y l' table table' f) same cleared refused))

  -- the part of the table that is filled is taken over; then the listing is whole, or the table is cleared and one step made
  module _ {k j : Numbers} {table : List (ℕ × ℕ)} {before after : Listing} {stop : Stop} (turn : Turned k j table (vec_items before.matches) before.walks before.reads stop) (b : Bool) (eq : b ≡ sameb the_type stop Stop.Finished) (over : TakenOver j table before after) where
    pub all_found : b ≡ true → Whole r h t after
    all_found is =
        let done = sym (eq ∙ turn.ends) ∙ is in
        record {
          every = subst (Exactly r t 0 (length t + 1)) (sym over.matches) (whole_list r h t turn.going done);
          took = subst₂ (Goes r h t 0 (length t + 1)) (sym over.walks) (sym over.reads) (whole_way r h t turn.going done);
        }

    pub stepped_on : {t' : List ℕ} {l l' : Numbers} {table' : List (ℕ × ℕ)} {count : ℕ} → Inhabited r → Skips r h → t' ≡ t → l ≡ fresh j.next → j.walks < 2 ^ 32 → j.reads < 2 ^ 32 → Stepped r h t' l l' table table' count
        → Going r h t l' table' (vec_items after.matches) after.walks after.reads × (k.next < l'.next) × (l'.next ≤ length t + 1)
    stepped_on {t'} {l} {l'} {table'} {count} i skips same cleared few some step =
        let by = subst₂ (λ x y. Stepped r h x y l' table table' count) same cleared step in
        let on = forward r i h skips t j.next by.going in
        let next = ap (λ x. x.next) by.after in (
          subst (λ x. Going r h t l' table' x after.walks after.reads) (sym over.matches) (subst₂ (Going r h t l' table' (vec_items before.matches ++ take j.filled table)) (sym over.walks) (sym over.reads) (going_on r h t turn.going i skips few some by)),
          omega (arith, turn.far, on.0, next),
          omega (arith, on.1, next),
        )
