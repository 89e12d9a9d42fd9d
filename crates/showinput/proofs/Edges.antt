-- Every edge of whole inputs comes out as expected. Assumes nothing.
use mathlib.Core.Path.{refl}
use mathlib.Core.List.{flat_map}
use Rattle.model.specs.Tables.{any, sum}
use Rattle.model.specs.Refusals.{first_of}
use Rattle.model.specs.Plan.{entry_fits}
use Rattle.model.specs.WrittenPlan.{bytes_of}
use Rattle.model.specs.Listing.{digits, decimal}
use Rattle.tokens.specs.Pieces.{pieces, piece_length}
use Rattle.tokens.specs.Decimal.{value_from, number_of, numbers_in, found_in}
use Rattle.mesh.specs.Mesh.{keep, some_of, links}
use Rattle.mesh.specs.Streams.{uses, load}
use Rattle.mesh.specs.Admission as admission
use Rattle.replies.specs.Lines.{hex, fault_line}
use Rattle.show.specs.Show.{link_plan, used, first_number, refusal}
use Rattle.showwords.specs.Answers.{link_line, link_lines, show_lines, answer_to_show}
use Rattle.showinput.specs.Input.{question_of, answer_to}
use Rattle.showinput.specs.Edges.{Pass, input_edges}

pub inputs-hold : Pass input_edges
unfolding any sum first_of entry_fits bytes_of digits decimal flat_map pieces piece_length value_from number_of numbers_in found_in keep some_of links uses load admission.stream_fits admission.refusal hex fault_line link_plan used first_number refusal link_line link_lines show_lines answer_to_show question_of answer_to input_edges
inputs-hold = refl
