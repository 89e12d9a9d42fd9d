-- Every edge of the word `faults` comes out as expected. Assumes nothing.
use mathlib.Core.Path.{refl}
use mathlib.Core.List.{flat_map}
use Rattle.model.specs.Tables.{any, sum, first_from}
use Rattle.model.specs.Listing.{digits, decimal}
use Rattle.faultwords.specs.PlanFaults.{faults_of}
use Rattle.faultwords.specs.FaultsWord.{answer_to_faults}
use Rattle.faultwords.specs.FaultsWordEdges.{Pass, faults_word_edges}

pub faults-word-holds : Pass faults_word_edges
unfolding any sum first_from digits decimal flat_map faults_of answer_to_faults faults_word_edges
faults-word-holds = refl
