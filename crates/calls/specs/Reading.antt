-- The crate's calls, records and answers, from the model's: the model's number and values for each case. Assumes nothing.
use Rattle.std.specs.Prelude.{ℕ, List, Some, None}
use Rattle.std.specs.Prelude as rust
use Rattle.std.proofs.Math.Option.{Option, some, none}
use Rattle.calls.specs.declared.Call.{Call}
use Rattle.calls.specs.declared.Call.TheVariants.{Request, Credit, Tick}
use Rattle.calls.specs.declared.Answer.{Answer}
use Rattle.calls.specs.declared.Answer.TheVariants.{Granted, Accepted, Booked, Idle, Lent, Reset, Refused}
use Rattle.model.specs.Calls as model
use Rattle.model.specs.Calls.{accepted, refused}
use Rattle.model.specs.Record.{RecordCall}
use Rattle.model.specs.Listing.{request_line, credit_line, tick_line, lend_line, reset_line, refusal_line}

-- ---- calls

abbrev pub call_for : RecordCall → Call
call_for (RecordCall.request word) = Request word
call_for (RecordCall.credit flow position) = Credit flow position
call_for RecordCall.tick = Tick

-- a record that makes no call is refused by 16
abbrev pub record_for : Option RecordCall → rust.Option Call
record_for (some call) = Some (call_for call)
record_for none = None

-- the model's call of a record
abbrev pub call_in : rust.Option Call → Option RecordCall
call_in (Some (Request word)) = some (RecordCall.request word)
call_in (Some (Credit flow position)) = some (RecordCall.credit flow position)
call_in (Some Tick) = some RecordCall.tick
call_in None = none

-- the model's number for each case of a record: 0 where it makes a call, and the refusal where it makes none
abbrev pub number_of : rust.Option Call → ℕ
number_of (Some call) = 0
number_of None = 16

-- RULES 13.4: 16 where a record makes no call
abbrev pub number_for : Option RecordCall → ℕ
number_for (some call) = 0
number_for none = 16

-- ---- answers

-- a request: the granted word, or the number of the refusal
abbrev pub answer_to_request : model.Grant → Answer
answer_to_request (accepted word) = Granted word
answer_to_request (refused number) = Refused number

-- a credit: taken, or the number of the refusal
abbrev pub answer_to_credit : model.CreditAnswer → Answer
answer_to_credit (accepted _) = Accepted
answer_to_credit (refused number) = Refused number

-- a tick: the flow booked at the new current position, or idle
abbrev pub answer_to_tick : model.TickAnswer → Answer
answer_to_tick (some flow) = Booked flow
answer_to_tick none = Idle

-- a lend: the flow that the current slot is lent to, or the number of the refusal
abbrev pub answer_to_lend : model.LendAnswer → Answer
answer_to_lend (accepted flow) = Lent flow
answer_to_lend (refused number) = Refused number

-- a reset: granted, or the number of the refusal
abbrev pub answer_to_reset : model.ResetAnswer → Answer
answer_to_reset (accepted _) = Reset
answer_to_reset (refused number) = Refused number

-- the line of an answer
abbrev pub line_for : Answer → List ℕ
line_for (Granted word) = request_line (accepted word)
line_for Accepted = credit_line (accepted tt)
line_for (Booked flow) = tick_line (some flow)
line_for Idle = tick_line none
line_for (Lent flow) = lend_line (accepted flow)
line_for Reset = reset_line (accepted tt)
line_for (Refused number) = refusal_line number
