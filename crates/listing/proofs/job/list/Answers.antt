use Rattle.std.proofs.Common.{map, vec_items, subst, inl}
use Rattle.std.proofs.lemmas.Result.{err_from_is_err_and}
use Rattle.syntax.specs.Tree.{language}
use Rattle.tabled.specs.Jumps.{greatest_of}
use Rattle.finder.specs.Listing.{Lists}
use Rattle.listing.proofs.Finding.{found}
use Rattle.listing.proofs.job.list.Goals as goal

pub returns-in_err-read : goal.returns-in_err-read
returns-in_err-read c =
    let p = err_from_is_err_and c.from_residual.result c.from_residual.ensures.1 in
    rw (p.1, p.2) (inl c.in_err-read.ensures.outcome)

pub returns : goal.returns
returns c =
    let made = c.in_ok-engine.ensures in
    let jumps = vec_items c.in_ok-engine.engine.jumps in
    let tree = c.in_ok-read.field-0.tree in
    found c.args.expression.now c.args.text.now tree (greatest_of (language tree) jumps) c.list_all.result c.requires c.in_ok-read.ensures.outcome made.exact
    (subst (λ n. Lists (language n) (greatest_of (language n) jumps) (map (λ b. b) c.args.text.now) 4097 c.list_all.result) made.same_tree c.list_all.ensures)
