-- A row of calls, one after the other. Assumes nothing.
use Rattle.std.proofs.Common.{◌≡◌, ℕ, ◌+◌, ◌<◌, ◌≤◌, List, [], ◌∷◌, ◌++◌, length, get_or, take, drop, sym, ap, ◌∙◌, subst, append_assoc, append-nil, arith}
use Rattle.std.proofs.lemmas.List.{drop_more, drop_all}
use Rattle.regular.specs.Language.{Regex}
use Rattle.regular.specs.Matches.{Exactly}
use Rattle.regular.proofs.Endings.{exactly_one}
use Rattle.search.specs.Calls.{fresh}
use Rattle.search.specs.Reckoning.{begun, called, told, left, reckoned, all_told, all_left, numbers_by}
use Rattle.search.specs.ListTheorem.{SetAside, ListTheorem}
use Rattle.search.specs.Performing.{plain, CalledBy}
use Rattle.search.specs.declared.numbers.Answer.{Answer}
use Rattle.search.specs.declared.numbers.Call.{Call}
use Rattle.search.specs.declared.numbers.Numbers.{Numbers}
use Rattle.search.proofs.Asides.{aside_kept, fresh_aside}

module _ (r : Regex) (t : List ℕ) (shifts : ℕ → List ℕ → ℕ) (calls : List Call) (size : ℕ) (before : List (ℕ × ℕ)) where
  -- i calls are made, and those that are left lead on as all of them do
  pub record Made (i : ℕ) (k : Numbers) (table : List (ℕ × ℕ)) (answers : List Answer) : Type 0 where
    pub reckons : reckoned r t size shifts (drop i calls) (plain k) ≡ reckoned r t size shifts calls (begun 0)
    pub aside : SetAside r t k (take k.filled table)
    pub says : answers ++ all_told r t size shifts (drop i calls) (plain k) ≡ all_told r t size shifts calls (begun 0)
    pub leaves : all_left r t size shifts (drop i calls) (plain k) table ≡ all_left r t size shifts calls (begun 0) before

  pub made_none : (k : Numbers) (answers : List Answer) → k ≡ fresh 0 → answers ≡ [] → Made 0 k before answers
  made_none k answers is none = record {
    reckons = ap (λ z. reckoned r t size shifts calls (plain z)) is;
    aside = subst (λ z. SetAside r t z (take z.filled before)) (sym is) (fresh_aside r t 0 (omega arith));
    says = ap (λ l. l ++ all_told r t size shifts calls (plain k)) none ∙ ap (λ z. all_told r t size shifts calls (plain z)) is;
    leaves = ap (λ z. all_left r t size shifts calls (plain z) before) is;
  }

  pub made_more : (i : ℕ) (k k' : Numbers) (table table' : List (ℕ × ℕ)) (answers answers' : List Answer) (x : Call) (a : Answer) → Made i k table answers → length table ≡ size → i < length calls → x ≡ get_or calls i x → CalledBy r t shifts x k k' table table' a → answers' ≡ answers ++ (a ∷ []) → Made (i + 1) k' table' answers'
  made_more i k k' table table' answers answers' x a made long lt is by more =
      let rest : drop i calls ≡ x ∷ drop (i + 1) calls = drop_more calls i x lt ∙ ap (λ y. y ∷ drop (i + 1) calls) (sym is) in
      let after : plain k' ≡ called r t size shifts x (plain k) = by.after ∙ ap (λ n. called r t n shifts x (plain k)) long in
      let says : a ≡ told r t size shifts x (plain k) = by.says ∙ ap (λ n. told r t n shifts x (plain k)) long in
      let leaves : table' ≡ left r t size shifts x (plain k) table = by.leaves ∙ ap (λ n. left r t n shifts x (plain k) table) long in
      record {
        reckons = ap (reckoned r t size shifts (drop (i + 1) calls)) after ∙ ap (λ l. reckoned r t size shifts l (plain k)) (sym rest) ∙ made.reckons;
        aside = by.aside;
        says =
            ap (λ l. l ++ all_told r t size shifts (drop (i + 1) calls) (plain k')) more
            ∙ append_assoc answers (a ∷ []) (all_told r t size shifts (drop (i + 1) calls) (plain k'))
            ∙ (λ j. answers ++ (says j ∷ all_told r t size shifts (drop (i + 1) calls) (after j)))
            ∙ ap (λ l. answers ++ all_told r t size shifts l (plain k)) (sym rest)
            ∙ made.says;
        leaves =
            (λ j. all_left r t size shifts (drop (i + 1) calls) (after j) (leaves j))
            ∙ ap (λ l. all_left r t size shifts l (plain k) table) (sym rest)
            ∙ made.leaves;
      }

-- all calls are made
pub made_all : (r : Regex) (t : List ℕ) (shifts : ℕ → List ℕ → ℕ) (calls : List Call) (before after : List (ℕ × ℕ)) (i : ℕ) (k : Numbers) (answers : List Answer) → Made r t shifts calls (length before) before i k after answers → length calls ≤ i → ListTheorem r t shifts calls before after k answers
made_all r t shifts calls before after i k answers made over =
    let size = length before in
    let none : drop i calls ≡ [] = drop_all i calls over in
    let full = (aside_kept r t k (take k.filled after) made.aside).full in
    let whole : k ≡ numbers_by r t size shifts (plain k) = λ j. record { from = k.from; next = k.next; filled = full j; walks = k.walks; reads = k.reads } in
    record {
      answered = sym (append-nil answers) ∙ ap (λ l. answers ++ all_told r t size shifts l (plain k)) (sym none) ∙ made.says;
      numbers = whole ∙ ap (numbers_by r t size shifts) (ap (λ l. reckoned r t size shifts l (plain k)) (sym none) ∙ made.reckons);
      aside = made.aside;
      alike = λ k' other aside from next.
          exactly_one r t k.from k.next other (take k.filled after) (subst (λ n. Exactly r t k.from n other) next (subst (λ f. Exactly r t f k'.next other) from aside.exact)) made.aside.exact;
      table = ap (λ l. all_left r t size shifts l (plain k) after) (sym none) ∙ made.leaves;
    }
