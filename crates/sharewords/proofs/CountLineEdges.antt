-- Every edge of the word `count` comes out as expected. Assumes nothing.
use mathlib.Core.Path.{refl}
use mathlib.Core.List.{flat_map}
use Rattle.model.specs.Tables.{sum, tally}
use Rattle.model.specs.Listing.{digits, decimal}
use Rattle.shares.specs.ShareLists.{share_lists, total}
use Rattle.shares.specs.Counts.{accepted_lists, refused_lists, counted}
use Rattle.sharewords.specs.CountWord.{answer_to_count}
use Rattle.sharewords.specs.CountLineEdges.{Pass, count_line_edges}

pub count-lines-hold : Pass count_line_edges
unfolding count_line_edges answer_to_count counted accepted_lists refused_lists share_lists total sum tally flat_map digits decimal
count-lines-hold = refl
