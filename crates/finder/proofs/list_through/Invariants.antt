use Rattle.std.proofs.Common.{◌≡◌, ◌+◌, ◌-◌, map, length, vec_items}
use Rattle.finder.proofs.Going.{Going}
use Rattle.finder.proofs.list_through.Given as goal

abbrev pub invariant-loop-listing : goal.invariant-loop-listing
invariant-loop-listing g l =
    let e = l.engine in
    record {
      table : length l.table ≡ length l.initial.table;
      text : l.search.text.now ≡ l.text;
      going : Going (g.E.Engine.expression e) (g.E.Engine.shift e) (map g.S.Symbol.code l.text) l.search.numbers l.table (vec_items l.listing.matches) l.listing.walks l.listing.reads;
    }

abbrev pub decreases-loop-listing : goal.decreases-loop-listing
decreases-loop-listing g l = (length l.text + 1) - l.search.numbers.next
