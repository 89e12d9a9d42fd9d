-- For a caller: the call that a record was read as, and the lines of its answers. Assumes nothing.
use mathlib.Core.Path.{◌≡◌, refl}
use mathlib.Core.Option.{Option, some, none}
use Rattle.model.specs.Calls as model
use Rattle.model.specs.Calls.{accepted, refused}
use Rattle.model.specs.Record.{RecordCall}
use Rattle.model.specs.Listing.{request_line, credit_line, tick_line, lend_line, reset_line}
use Rattle.calls.specs.Reading.{record_for, call_in, answer_to_request, answer_to_credit, answer_to_tick, answer_to_lend, answer_to_reset, line_for}

pub call-in : (c : Option RecordCall) → call_in (record_for c) ≡ c
call-in (some (RecordCall.request word)) = refl
call-in (some (RecordCall.credit flow position)) = refl
call-in (some RecordCall.tick) = refl
call-in none = refl

pub line-of-request : (a : model.Grant) → line_for (answer_to_request a) ≡ request_line a
line-of-request (accepted word) = refl
line-of-request (refused number) = refl

pub line-of-credit : (a : model.CreditAnswer) → line_for (answer_to_credit a) ≡ credit_line a
line-of-credit (accepted _) = refl
line-of-credit (refused number) = refl

pub line-of-tick : (a : model.TickAnswer) → line_for (answer_to_tick a) ≡ tick_line a
line-of-tick (some flow) = refl
line-of-tick none = refl

pub line-of-lend : (a : model.LendAnswer) → line_for (answer_to_lend a) ≡ lend_line a
line-of-lend (accepted flow) = refl
line-of-lend (refused number) = refl

pub line-of-reset : (a : model.ResetAnswer) → line_for (answer_to_reset a) ≡ reset_line a
line-of-reset (accepted _) = refl
line-of-reset (refused number) = refl
