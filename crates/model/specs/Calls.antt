-- The calls of a list and their answers. RULES 4.3 and 21.2. It names no link. Assumes nothing.
use Rattle.std.specs.Prelude.{ℕ, ◌/◌, ◌%◌, ◌^◌, List, Bool, eqb}
use Rattle.std.proofs.Math.Option.{Option}

-- RULES 4.3: the calls. Requests have any word, credits any flow and position, and lends any mask.
pub data Call : Type 0 where
  request : (word : ℕ) → Call
  credit : (flow position : ℕ) → Call
  tick : Call
  lend : (mask : ℕ) → Call
  reset : Call

-- RULES 9.1: bit i of the mask
abbrev pub in_mask : (mask i : ℕ) → Bool
in_mask mask i = eqb (mask / 2 ^ i % 2) 1

-- A call is accepted, with what it answers, or refused by a number of the table.
pub data Answer (A : Type 0) : Type 0 where
  accepted : A → Answer A
  refused : (number : ℕ) → Answer A

-- a request: the granted word, or a refusal
abbrev pub Grant : Type 0
Grant = Answer ℕ

-- a credit: taken, or a refusal
abbrev pub CreditAnswer : Type 0
CreditAnswer = Answer (Unit {0})

-- a tick: the flow booked at the new current position, or idle
abbrev pub TickAnswer : Type 0
TickAnswer = Option ℕ

-- a lend: the flow that the current slot is lent to, or a refusal
abbrev pub LendAnswer : Type 0
LendAnswer = Answer ℕ

-- a reset: granted, or a refusal
abbrev pub ResetAnswer : Type 0
ResetAnswer = Answer (Unit {0})

-- A call with its answer.
pub data Event : Type 0 where
  requested : (word : ℕ) → Grant → Event
  credited : (flow position : ℕ) → CreditAnswer → Event
  ticked : TickAnswer → Event
  lent : (mask : ℕ) → LendAnswer → Event
  reset : ResetAnswer → Event

-- The events of a list of calls, the newest first: behind an event stands what was before it.
abbrev pub History : Type 0
History = List Event
