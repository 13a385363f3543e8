use Rattle.std.proofs.lemmas.Result.{err_from_is_err_and}
use Rattle.finder.specs.Listing.{no_memory}
use Rattle.finder.proofs.list_all.Goals as goal

pub returns-in-err-table : goal.returns-in-err-table
returns-in-err-table g c =
    let p = err_from_is_err_and c.from-residual.result c.from-residual.ensures.1 in
    rw (p.1, p.2) no_memory
