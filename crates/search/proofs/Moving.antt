-- How the numbers of a search move, by the law of its engine. Assumes nothing.
use Rattle.std.proofs.Common.{◌≡◌, ℕ, zero, suc, ◌+◌, ◌-◌, ◌*◌, ◌<◌, ◌≤◌, min, max, true, false, List, length, sym, refl, ap, ◌∙◌, add-mul, arith, length-append}
use Rattle.std.proofs.lemmas.Bool.{cond_both, ltb-false, or_parts}
use Rattle.regular.specs.Language.{Regex, Inhabited, Shortest}
use Rattle.regular.specs.Jumps.{Skips}
use Rattle.regular.specs.Matches.{ending, listed, longest}
use Rattle.regular.proofs.Endings.{listed_on, listed_one}
use Rattle.regular.proofs.Longest.{longest_tail}
use Rattle.regular.proofs.Jumps.{jumps_bounded, nothing_between}
use Rattle.refusal.specs.declared.Fault.TheVariants.{Finished, NoRoom}
use Rattle.search.specs.Rules.{finished, crowded, onward, reading}
use Rattle.search.specs.Calls.{fresh, stepped, held, ran, Held}
use Rattle.search.specs.declared.numbers.Numbers.{Numbers}

-- the numbers that a step sets are those that the rules give
pub stepped_is : (r : Regex) (t : List ℕ) (h : List ℕ → ℕ) (k : Numbers) (next jump count reads n : ℕ) → length t ≡ n → next ≡ min (k.next + jump) (n + 1) → jump ≡ h (longest r t k.next) → count ≡ length (ending r t k.next) → reads ≡ reading r t k.next → let k' : Numbers = record { from = k.from; next = next; filled = k.filled + count; walks = k.walks + 1; reads = k.reads + reads } in k' ≡ stepped r t h k
stepped_is r t h k next jump count reads n long is far counted read =
    let on : next ≡ onward r t h k.next = omega arith in
    λ i. record { from = k.from; next = on i; filled = k.filled + counted i; walks = k.walks + 1; reads = k.reads + read i }

-- a step is refused where all places are looked at, or else where the room is too small
module _ (r : Regex) (h : List ℕ → ℕ) (t : List ℕ) (k : Numbers) (table : List (ℕ × ℕ)) where
  pub held_finished : finished t k.next ≡ true → Held r h t k k table table (Finished k.next)
  held_finished f = record { due = rw f refl; fault_is = rw f refl; same = refl; kept = refl }

  pub held_crowded : (count : ℕ) → finished t k.next ≡ false → count ≡ length (ending r t k.next) → crowded r t (length table - k.filled) k.next ≡ true → Held r h t k k table table (NoRoom k.next count)
  held_crowded count f is full = record { due = rw (f, full) refl; fault_is = rw f (ap (NoRoom k.next) is); same = refl; kept = refl }

-- what the numbers of a search keep
pub record Kept (r : Regex) (t : List ℕ) (k : Numbers) : Type 0 where
  pub order : k.from ≤ k.next
  pub within : k.next ≤ length t + 1
  pub full : k.filled ≡ length (listed r t k.from (k.next - k.from))
  pub most : k.walks ≤ k.next - k.from
  pub least : (m : ℕ) → Shortest r m → k.next - k.from ≤ k.walks * max 1 m

pub kept_fresh : (r : Regex) (t : List ℕ) (p : ℕ) → p ≤ length t + 1 → Kept r t (fresh p)
kept_fresh r t p le =
    let z : p - p ≡ 0 = omega arith in
    record { order = omega arith; within = le; full = sym (ap (λ n. length (listed r t p n)) z); most = omega arith; least = λ m s. omega arith }

module _ (r : Regex) (i : Inhabited r) (h : List ℕ → ℕ) (skips : Skips r h) (t : List ℕ) where
  -- a step goes on, and not past length + 1
  pub forward : (next : ℕ) → finished t next ≡ false → (next < onward r t h next) × (onward r t h next ≤ length t + 1)
  forward next f =
      let le = ltb-false (length t) next f in
      let pos = (skips (longest r t next) (longest_tail r t next i)).0 in
      (omega arith, omega arith)

  -- between the place of a step and the next one nothing ends but at the former
  pub listed_step : (next : ℕ) → finished t next ≡ false → listed r t next (onward r t h next - next) ≡ ending r t next
  listed_step next f =
      let on = forward next f in
      let e : onward r t h next - next ≡ (onward r t h next - next - 1) + 1 = omega arith in
      ap (listed r t next) e ∙ listed_one r t next (onward r t h next - next - 1) (λ q a b. nothing_between r i h skips t next q a (omega arith) (omega arith))

  pub kept_step : (k : Numbers) → Kept r t k → finished t k.next ≡ false → Kept r t (stepped r t h k)
  kept_step k kept f =
      let on = forward k.next f in
      let order = kept.order in
      let most = kept.most in
      let next : ℕ = onward r t h k.next in
      record {
        order = omega arith;
        within = on.1;
        full =
            ap (λ n. n + length (ending r t k.next)) kept.full
            ∙ ap (λ l. length (listed r t k.from (k.next - k.from)) + length l) (sym (listed_step k.next f))
            ∙ sym (length-append (listed r t k.from (k.next - k.from)) (listed r t k.next (next - k.next)))
            ∙ ap length (listed_on r t k.from k.next next order (omega arith));
        most = omega arith;
        least = λ m s.
            let far = jumps_bounded r h skips (longest r t k.next) (longest_tail r t k.next i) m s in
            let so_far = kept.least m s in
            omega (arith, add-mul k.walks 1 (max 1 m));
      }

  pub kept_ran : (size b : ℕ) (k : Numbers) → Kept r t k → Kept r t (ran r t size h b k)
  kept_ran size zero k kept = kept
  kept_ran size (suc b) k kept =
      cond_both (held r t size k) k (ran r t size h b (stepped r t h k)) (Kept r t)
      (λ f. kept)
      (λ f. kept_ran size b (stepped r t h k) (kept_step k kept (or_parts (finished t k.next) (crowded r t (size - k.filled) k.next) f).0))

  pub ran_from : (size b : ℕ) (k : Numbers) → (ran r t size h b k).from ≡ k.from
  ran_from size zero k = refl
  ran_from size (suc b) k = cond_both (held r t size k) k (ran r t size h b (stepped r t h k)) (λ x. x.from ≡ k.from) (λ f. refl) (λ f. ran_from size b (stepped r t h k))

  pub ran_on : (size b : ℕ) (k : Numbers) → k.next ≤ (ran r t size h b k).next
  ran_on size zero k = omega arith
  ran_on size (suc b) k =
      cond_both (held r t size k) k (ran r t size h b (stepped r t h k)) (λ x. k.next ≤ x.next) (λ f. omega arith)
      (λ f. omega (arith, forward k.next (or_parts (finished t k.next) (crowded r t (size - k.filled) k.next) f).0, ran_on size b (stepped r t h k)))
