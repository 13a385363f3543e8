-- What a run keeps from step to step. Assumes nothing.
use Rattle.std.proofs.Common.{◌≡◌, ℕ, zero, suc, ◌+◌, ◌-◌, ◌<◌, ◌≤◌, true, false, List, ◌++◌, length, take, sym, refl, ap, ◌∙◌, subst, subst₂, append_assoc, append-nil, arith}
use Rattle.std.proofs.lemmas.Bool.{eq-eqb, ne_eqb}
use Rattle.regular.specs.Language.{Regex, Inhabited}
use Rattle.regular.specs.Jumps.{Skips}
use Rattle.regular.specs.Matches.{ending, listed}
use Rattle.regular.proofs.Endings.{listed_on}
use Rattle.refusal.specs.declared.Fault.{Fault}
use Rattle.search.specs.Rules.{finished, crowded, why}
use Rattle.search.specs.Calls.{stepped, held, ran, Added, Stepped, Held, RanBy}
use Rattle.search.specs.declared.numbers.Numbers.{Numbers}
use Rattle.search.specs.declared.numbers.Stop.{Stop}
use Rattle.search.proofs.Moving.{forward, listed_step}
use Rattle.search.proofs.Writing.{drop_on}

-- done steps of the budget lead from the numbers at the start to k, and what is left of the budget leads on as the whole does
pub record Runs (r : Regex) (h : List ℕ → ℕ) (t : List ℕ) (start : Numbers) (old : List (ℕ × ℕ)) (budget done : ℕ) (k : Numbers) (table : List (ℕ × ℕ)) : Type 0 where
  pub within : done ≤ budget
  pub left : ran r t (length old) h (budget - done) k ≡ ran r t (length old) h budget start
  pub walked : k.walks ≡ start.walks + done
  pub order : start.next ≤ k.next
  pub more : start.filled ≤ k.filled
  pub added : Added start k (listed r t start.next (k.next - start.next)) old table

-- no step adds nothing
pub added_none : (r : Regex) (t : List ℕ) (k : Numbers) (table : List (ℕ × ℕ)) → Added k k (listed r t k.next (k.next - k.next)) table table
added_none r t k table =
    let none : k.next - k.next ≡ 0 = omega arith in
    record { front = sym (append-nil (take k.filled table)) ∙ ap (λ n. take k.filled table ++ listed r t k.next n) (sym none); rest = refl }

module _ (r : Regex) (h : List ℕ → ℕ) (t : List ℕ) (start : Numbers) (old : List (ℕ × ℕ)) (budget : ℕ) where
  pub runs_start : Runs r h t start old budget 0 start old
  runs_start =
      let same : budget - 0 ≡ budget = omega arith in
      record {
        within = omega arith;
        left = ap (λ b. ran r t (length old) h b start) same;
        walked = omega arith;
        order = omega arith;
        more = omega arith;
        added = added_none r t start old;
      }

  ran_more : (b : ℕ) (k : Numbers) → 0 < b → finished t k.next ≡ false → crowded r t (length old - k.filled) k.next ≡ false → ran r t (length old) h (b - 1) (stepped r t h k) ≡ ran r t (length old) h b k
  ran_more zero k pos f c = absurd (omega arith)
  ran_more (suc b) k pos f c =
      let e : suc b - 1 ≡ b = omega arith in
      rw (f, c) (ap (λ n. ran r t (length old) h n (stepped r t h k)) e)

  ran_stop : (b : ℕ) (k : Numbers) → held r t (length old) k ≡ true → ran r t (length old) h b k ≡ k
  ran_stop zero k f = refl
  ran_stop (suc b) k f = rw f refl

  module _ (i : Inhabited r) (skips : Skips r h) (done : ℕ) (k : Numbers) (table : List (ℕ × ℕ)) (runs : Runs r h t start old budget done k table) (lt : done < budget) (long : length table ≡ length old) where
    on_by : (table' : List (ℕ × ℕ)) → finished t k.next ≡ false → crowded r t (length old - k.filled) k.next ≡ false → Added k (stepped r t h k) (ending r t k.next) table table' → Runs r h t start old budget (done + 1) (stepped r t h k) table'
    on_by table' going fitting added =
        let on = forward r i h skips t k.next going in
        let order = runs.order in
        let more = runs.more in
        let walked = runs.walked in
        let next : ℕ = (stepped r t h k).next in
        let less : budget - (done + 1) ≡ budget - done - 1 = omega arith in
        record {
          within = omega arith;
          left = ap (λ n. ran r t (length old) h n (stepped r t h k)) less ∙ ran_more (budget - done) k (omega arith) going fitting ∙ runs.left;
          walked = omega arith;
          order = omega arith;
          more = omega arith;
          added = record {
            front =
                added.front
                ∙ ap (λ l. l ++ ending r t k.next) runs.added.front
                ∙ append_assoc (take start.filled old) (listed r t start.next (k.next - start.next)) (ending r t k.next)
                ∙ ap (λ l. take start.filled old ++ (listed r t start.next (k.next - start.next) ++ l)) (sym (listed_step r i h skips t k.next going))
                ∙ ap (λ l. take start.filled old ++ l) (listed_on r t start.next k.next next order (omega arith));
            rest = added.rest ∙ drop_on k.filled (stepped r t h k).filled table old (omega arith) runs.added.rest;
          };
        }

    pub runs_more : (k' : Numbers) (table' : List (ℕ × ℕ)) (n : ℕ) → Stepped r h t k k' table table' n → Runs r h t start old budget (done + 1) k' table'
    runs_more k' table' n by =
        let fitting : crowded r t (length old - k.filled) k.next ≡ false = subst (λ n. crowded r t (n - k.filled) k.next ≡ false) long by.fitting in
        subst (λ x. Runs r h t start old budget (done + 1) x table') (sym by.after) (on_by table' by.going fitting (subst (λ x. Added k x (ending r t k.next) table table') by.after by.added))

  -- the run ends where every place is looked at, the budget is done, or a step is refused for want of room
  module _ (done : ℕ) (k : Numbers) (table : List (ℕ × ℕ)) (runs : Runs r h t start old budget done k table) where
    ran_by : (stop : Stop) → ran r t (length old) h (budget - done) k ≡ k → stop ≡ why t budget k.next done → RanBy r h t start k old table budget done stop
    ran_by stop over is = let walked = runs.walked in record { after = sym over ∙ runs.left; steps = omega arith; stop_is = is; added = runs.added }

    pub ends_finished : finished t k.next ≡ true → RanBy r h t start k old table budget done Stop.Finished
    ends_finished f = ran_by Stop.Finished (ran_stop (budget - done) k (rw f refl)) (rw f refl)

    pub ends_budget : finished t k.next ≡ false → done ≡ budget → RanBy r h t start k old table budget done Stop.Budget
    ends_budget f e =
        let over : budget - done ≡ 0 = omega arith in
        ran_by Stop.Budget (ap (λ n. ran r t (length old) h n k) over) (rw (f, eq-eqb done budget e) refl)

    pub ends_room : finished t k.next ≡ false → (done ≡ budget → ⊥) → length table ≡ length old → (k' : Numbers) (table' : List (ℕ × ℕ)) (fault : Fault) → Held r h t k k' table table' fault → RanBy r h t start k' old table' budget done Stop.Room
    ends_room f e long k' table' fault by =
        let as_was = ran_by Stop.Room (ran_stop (budget - done) k (subst (λ n. held r t n k ≡ true) long by.due)) (rw (f, ne_eqb done budget e) refl) in
        subst₂ (λ x y. RanBy r h t start x old y budget done Stop.Room) (sym by.same) (sym by.kept) as_was
