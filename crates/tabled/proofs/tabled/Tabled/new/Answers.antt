-- `new` meets its contract. Assumes nothing.
use Rattle.std.proofs.Common.{◌≡◌, ℕ, List, vec_items, subst}
use Rattle.regular.specs.Language.{Tail}
use Rattle.syntax.specs.Tree.{language}
use Rattle.syntax.specs.declared.tree.Node.{Node}
use Rattle.syntax.proofs.Filled.{full_inhabited}
use Rattle.distance.specs.Distances.{Jump}
use Rattle.shift.proofs.Greatest.{greatest_jump}
use Rattle.tabled.specs.Jumps.{greatest_of}
use Rattle.tabled.proofs.tabled.Tabled.new.Goals as goal

pub returns : goal.returns
returns c =
    let x = c.in_ok-single.single.expression in
    let jumps = vec_items c.in_ok-jumps.jumps in
    let same : x.tree ≡ c.args.expression.tree = c.in_ok-single.ensures in
    record {
      same_tree = same;
      exact = subst (λ (n : Node). (v : List ℕ) → Tail (language n) v → Jump (language n) v (greatest_of (language n) jumps v)) same
          (greatest_jump (language x.tree) x.few (full_inhabited x.tree x.full) jumps c.in_ok-jumps.ensures);
    }
