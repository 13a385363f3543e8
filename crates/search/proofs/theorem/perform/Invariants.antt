use Rattle.std.proofs.Common.{◌≡◌, ℕ, ◌≤◌, map, length, vec_items, vec_len, vec_capacity}
use Rattle.regular.specs.Language.{Regex}
use Rattle.search.specs.Performing.{named}
use Rattle.search.proofs.Making.{Made}
use Rattle.search.proofs.theorem.perform.Given as goal

abbrev pub invariant-loop-call : goal.invariant-loop-call
invariant-loop-call g l =
    record {
      text : l.search.text ≡ l.initial.search.text;
      count : vec_len l.answers ≡ l.call-index;
      room : length l.calls ≤ vec_capacity l.answers;
      made : (r : Regex) → ((i : ℕ) → g.E.Engine.expression (named l.engines l.spare i) ≡ r)
          → Made r (map g.S.Symbol.code l.initial.search.text.now) (λ i. g.E.Engine.shift (named l.engines l.spare i)) l.calls (length l.initial.table) l.initial.table l.call-index l.search.numbers l.table (vec_items l.answers);
    }
