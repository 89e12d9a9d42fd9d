-- Every edge of the words `plan`, `room` and `read` comes out as expected. Assumes nothing.
use mathlib.Core.Path.{refl}
use mathlib.Core.List.{flat_map}
use Rattle.model.specs.Tables.{any, sum}
use Rattle.model.specs.Refusals.{first_of}
use Rattle.model.specs.Listing.{digits, decimal}
use Rattle.model.specs.Plan.{entry_fits, refusal}
use Rattle.model.specs.WrittenPlan.{bytes_of, write_refusal, written_after, written}
use Rattle.tokens.specs.Hexadecimal.{hex_digit, found_bytes}
use Rattle.replies.specs.Lines.{hex, fault_line}
use Rattle.planwords.specs.Plans.{in_room, answer_to_room}
use Rattle.planwords.specs.Reads.{plan_numbers, question, read_line, digits_line}
use Rattle.planwords.specs.PlanLineEdges.{PlansPass, plan_line_edges, RoomsPass, room_line_edges, ReadsPass, read_line_edges}

pub plan-lines-hold : PlansPass plan_line_edges
unfolding any sum first_of digits decimal entry_fits bytes_of write_refusal written_after written flat_map hex in_room plan_line_edges
plan-lines-hold = refl

pub room-lines-hold : RoomsPass room_line_edges
unfolding any sum first_of digits decimal entry_fits bytes_of write_refusal written_after written flat_map hex in_room answer_to_room room_line_edges
room-lines-hold = refl

pub read-lines-hold : ReadsPass read_line_edges
unfolding any sum first_of digits decimal entry_fits refusal flat_map hex_digit found_bytes fault_line plan_numbers question read_line digits_line read_line_edges
read-lines-hold = refl
