-- How a listing is printed. Assumes nothing.
use Rattle.std.specs.Prelude.{ℕ, List, ◌++◌, codes, decimal, vec_items, vec_len}
use Rattle.std.specs.List.{flat_map}
use Rattle.search.specs.Messages.{match_line}
use Rattle.finder.specs.declared.Listing.{Listing}

abbrev pub listing_text : Listing → List ℕ
listing_text l =
    flat_map match_line (vec_items l.matches)
    ++ codes "matches " ++ decimal (vec_len l.matches)
    ++ codes " walks " ++ decimal l.walks
    ++ codes " reads " ++ decimal l.reads
