-- Every edge of the word `extras` comes out as expected. Assumes nothing.
use mathlib.Core.Path.{refl}
use Rattle.model.specs.Tables.{any, sum, first_from}
use Rattle.model.specs.Listing.{digits, decimal}
use Rattle.extras.specs.Extras.{share_of, worth_of, greatest, layer_inside, outside, choose}
use Rattle.extrawords.specs.ExtrasWord.{answer_to_extras}
use Rattle.extrawords.specs.ChosenLineEdges.{Pass, chosen_line_edges}

pub chosen-lines-hold : Pass chosen_line_edges
unfolding chosen_line_edges answer_to_extras any sum first_from share_of worth_of greatest layer_inside outside choose digits decimal
chosen-lines-hold = refl
