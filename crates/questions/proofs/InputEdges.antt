-- Every edge of whole inputs comes out as expected. Assumes nothing.
use mathlib.Core.Path.{refl}
use mathlib.Core.List.{flat_map}
use Rattle.model.specs.Tables.{any, sum, first_from}
use Rattle.model.specs.Refusals.{first_of}
use Rattle.model.specs.Listing.{digits, decimal}
use Rattle.model.specs.Plan.{entry_fits, refusal}
use Rattle.model.specs.WrittenPlan.{bytes_of, write_refusal, written_after, written}
use Rattle.tokens.specs.Pieces.{pieces, piece_length}
use Rattle.tokens.specs.Decimal.{value_from, number_of, numbers_in, found_in}
use Rattle.tokens.specs.Hexadecimal.{hex_digit, found_bytes}
use Rattle.replies.specs.Lines.{hex, fault_line}
use Rattle.planwords.specs.Plans.{in_room, answer_to_room}
use Rattle.planwords.specs.Reads.{plan_numbers, question, read_line, digits_line}
use Rattle.mesh.specs.Mesh.{keep, some_of, links}
use Rattle.mesh.specs.Streams.{uses, load}
use Rattle.mesh.specs.Admission.{stream_fits, refusal_before_links, refusal as mesh_refusal, over_links}
use Rattle.meshwords.specs.Answers.{mesh_answer}
use Rattle.shares.specs.Counts.{counted}
use Rattle.sharewords.specs.CountWord.{answer_to_count}
use Rattle.extrawords.specs.ExtrasWord.{answer_to_extras}
use Rattle.programmewords.specs.Programmes.{answer_to_programme}
use Rattle.delay.specs.Bounds.{no_question, refusal_of, delayed, answer_for}
use Rattle.delaywords.specs.DelayWord.{answer_to_delay}
use Rattle.faultwords.specs.PlanFaults.{faults_of}
use Rattle.faultwords.specs.FaultsWord.{answer_to_faults}
use Rattle.weekwords.specs.WeekFaults.{faults_of as week_faults_of}
use Rattle.weekwords.specs.WeekWord.{answer_to_week_faults}
use Rattle.questions.specs.Answers.{same_text, words, row_named, answer_to_numbers, answer_to, answer_of}
use Rattle.questions.specs.Input.{lines_of, answers_to}
use Rattle.questions.specs.InputEdges.{Pass, input_edges}

pub inputs-hold : Pass input_edges
unfolding any sum first_from first_of digits decimal entry_fits refusal bytes_of write_refusal written_after written pieces piece_length value_from number_of numbers_in found_in hex_digit found_bytes hex fault_line in_room answer_to_room plan_numbers question read_line digits_line keep some_of links uses load stream_fits refusal_before_links mesh_refusal over_links mesh_answer counted answer_to_count answer_to_extras answer_to_programme no_question refusal_of delayed answer_for answer_to_delay faults_of answer_to_faults week_faults_of answer_to_week_faults same_text words row_named answer_to_numbers answer_to answer_of lines_of answers_to flat_map input_edges
inputs-hold = refl
