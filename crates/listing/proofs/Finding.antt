-- From what the finder lists to what the program lists. Assumes nothing.
use Rattle.std.proofs.Common.{◌≡◌, ℕ, ◌≤◌, List, map, length, Result, refl, subst, inr, arith}
use Rattle.std.proofs.lemmas.List.{map-id}
use Rattle.std.proofs.lemmas.Result.{MatchResult-weaker}
use Rattle.refusal.specs.declared.Fault.{Fault}
use Rattle.refusal.specs.declared.Fault.TheVariants.{Memory}
use Rattle.regular.specs.Language.{Regex, Tail}
use Rattle.regular.proofs.Endings.{ending_few}
use Rattle.syntax.specs.declared.mode.Mode.{Mode}
use Rattle.syntax.specs.declared.tree.Node.{Node}
use Rattle.syntax.specs.Tree.{language}
use Rattle.syntax.specs.Reading.{Accepted}
use Rattle.distance.specs.Distances.{Jump}
use Rattle.finder.specs.declared.Listing.{Listing}
use Rattle.finder.specs.Listing.{Lists, NotListed, long, narrow, no_memory}
use Rattle.listing.specs.Job.{Found}

-- a table of 4,097 entries has room for every place of a text of 4,096 symbols
only_memory : (r : Regex) (h : List ℕ → ℕ) (t : List ℕ) {f : Fault} → length t ≤ 4096 → NotListed r h t 4097 f → f ≡ Memory
only_memory r h t short (long more) = absurd (omega arith)
only_memory r h t short (narrow p within more) = absurd (omega (arith, ending_few r t p))
only_memory r h t short no_memory = refl

pub found : (bytes text : List ℕ) (tree : Node) (jump : List ℕ → ℕ) (result : Result Listing Fault) → length text ≤ 4096 → Accepted Mode.Bytes bytes tree → ((v : List ℕ) → Tail (language tree) v → Jump (language tree) v (jump v)) → Lists (language tree) jump (map (λ b. b) text) 4097 result → Found bytes text result
found bytes text tree jump result short accepted defined lists =
    MatchResult-weaker result (subst (λ t. Lists (language tree) jump t 4097 result) (map-id text) lists)
    (λ l whole. record { tree = tree; accepted = accepted; every = whole.every; jump = jump; defined = defined; took = whole.took })
    (λ f why. inr (only_memory (language tree) jump text short why))
