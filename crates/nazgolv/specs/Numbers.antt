-- The 64-bit number of an answer. RULES 12.6. Assumes nothing.
use Rattle.std.specs.Prelude.{ℕ, ◌/◌, ◌^◌, Bool, not, ◌&&◌, eqb}
use Rattle.calls.specs.declared.Answer.{Answer}
use Rattle.calls.specs.declared.Answer.TheVariants.{Granted, Accepted, Booked, Idle, Lent, Reset, Refused}
use Rattle.imagemodel.specs.Exports.{refusal_number}

-- RULES 12.6: the number of the code's answer, case by case
abbrev pub number_for : Answer → ℕ
number_for (Granted word) = word
number_for Accepted = 0
number_for (Booked flow) = flow
number_for Idle = 16
number_for (Lent flow) = flow
-- a reset, as a credit
number_for Reset = 0
number_for (Refused number) = refusal_number number

-- RULES 12.4: refusals that change no byte: all but 11, 12 and 20
abbrev pub leaves_of : ℕ → Bool
leaves_of k = not (eqb k 0) && not (eqb k 11) && not (eqb k 12) && not (eqb k 20)

-- by the number of an answer
abbrev pub leaves_all : ℕ → Bool
leaves_all r = leaves_of (r / 2 ^ 32)
