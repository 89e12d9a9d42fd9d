-- What the program writes. RULES 13.1 to 13.5 and 14.2. Assumes nothing.
use Rattle.std.specs.Prelude.{ℕ, zero, suc, ◌+◌, ◌/◌, ◌%◌, Bool, not, ◌||◌, cond, length, take, drop, ltb}
use Prim.Native.Char.{Char, code}
use Prim.Native.String.{String}
use Prim.Native.String as string
use mathlib.Core.List.{List, ◌∷◌, [], ◌++◌, map, flat_map}
use Rattle.std.proofs.Math.Option.{Option, some, none}
use Rattle.model.specs.Tables.{within}
use Rattle.model.specs.Word.{departure_of}
use Rattle.model.specs.Plan.{field16, plan_of, refusal}
use Rattle.model.specs.Calls.{Event, Grant, CreditAnswer, TickAnswer, LendAnswer, ResetAnswer, accepted, refused}
use Rattle.model.specs.Link.{Link, Step}
use Rattle.model.specs.Fresh.{fresh}
use Rattle.model.specs.Request.{request}
use Rattle.model.specs.Credit.{credit}
use Rattle.model.specs.Tick.{tick}
use Rattle.model.specs.Record.{RecordCall, records, call_of}

-- ---- what a record comes to

-- a record's call with its answer
pub data RecordEvent : Type 0 where
  requested : (word : ℕ) → Grant → RecordEvent
  credited : (flow position : ℕ) → CreditAnswer → RecordEvent
  ticked : TickAnswer → RecordEvent

-- such an event as one of demand 3's histories
abbrev pub as_event : RecordEvent → Event
as_event (RecordEvent.requested word answer) = Event.requested word answer
as_event (RecordEvent.credited flow position answer) = Event.credited flow position answer
as_event (RecordEvent.ticked answer) = Event.ticked answer

-- ---- lines

-- the bytes of a text
abbrev pub text : String → List ℕ
text string.[] = []
text (string.◌∷◌ c s) = code c ∷ text s

abbrev pub digit : ℕ → ℕ
digit d = code "0" + d

-- RULES 13.1: the decimal digits of a number, without leading zeros, where there are no more than `most`
unfoldable pub digits : (most n : ℕ) → List ℕ
digits zero n = []
digits (suc k) n = cond (ltb n 10) (digit n ∷ []) (digits k (n / 10) ++ (digit (n % 10) ∷ []))

unfoldable pub decimal : ℕ → List ℕ
decimal n = digits (suc n) n

-- RULES 13.1: a letter, a space, what is said, and a newline
abbrev pub line : Char → List ℕ → List ℕ
line letter said = code letter ∷ text " " ++ said ++ text "\n"

-- RULES 13.5: the line of a refusal
abbrev pub refusal_line : ℕ → List ℕ
refusal_line number = line "R" (decimal number)

-- RULES 13.5: the line of a request, whose position is the granted word's departure
abbrev pub request_line : Grant → List ℕ
request_line (accepted word) = line "G" (decimal (departure_of word))
request_line (refused number) = refusal_line number

-- RULES 13.5: the line of a credit
abbrev pub credit_line : CreditAnswer → List ℕ
credit_line (accepted _) = text "C\n"
credit_line (refused number) = refusal_line number

-- RULES 13.5: the line of a tick
abbrev pub tick_line : TickAnswer → List ℕ
tick_line (some flow) = line "T" (decimal flow)
tick_line none = line "T" (text "-")

-- RULES 14.2: the line of a lend, which `domelink` has no record for
abbrev pub lend_line : LendAnswer → List ℕ
lend_line (accepted flow) = line "L" (decimal flow)
lend_line (refused number) = refusal_line number

-- RULES 14.2: the line of a reset, which it has none for either
abbrev pub reset_line : ResetAnswer → List ℕ
reset_line (accepted _) = text "Z\n"
reset_line (refused number) = refusal_line number

-- RULES 13.5: the line of a call with its answer, or of a record that makes no call
abbrev pub line_of : Option RecordEvent → List ℕ
line_of (some (RecordEvent.requested w a)) = request_line a
line_of (some (RecordEvent.credited i p a)) = credit_line a
line_of (some (RecordEvent.ticked x)) = tick_line x
line_of none = refusal_line 16

-- ---- a stream of records

-- the calls that records make
abbrev pub calls_of : List ℕ → List (Option RecordCall)
calls_of bytes = map call_of (records bytes)

-- a call that is made, as what its record comes to
abbrev pub came_to : {A : Type 0} → (A → RecordEvent) → Step A → Step (Option RecordEvent)
came_to event handed = record { link = handed.link; answer = some (event handed.answer) }

-- RULES 13.4: a record's call on a link, and what it comes to; 16 leaves the link as it was.
abbrev pub made : Link → Option RecordCall → Step (Option RecordEvent)
made l (some (RecordCall.request w)) = came_to (RecordEvent.requested w) (request l w)
made l (some (RecordCall.credit i p)) = came_to (RecordEvent.credited i p) (credit l i p)
made l (some RecordCall.tick) = came_to RecordEvent.ticked (tick l)
made l none = record { link = l; answer = none }

-- what each record comes to, oldest first
unfoldable pub outcomes : Link → List (Option RecordCall) → List (Option RecordEvent)
outcomes l [] = []
outcomes l (c ∷ cs) = (made l c).answer ∷ outcomes (made l c).link cs

unfoldable pub link_after_calls : Link → List (Option RecordCall) → Link
link_after_calls l [] = l
link_after_calls l (c ∷ cs) = link_after_calls (made l c).link cs

-- the calls that are made, and their events
abbrev pub present : {A : Type 0} → List (Option A) → List A
present [] = []
present (some x ∷ rest) = x ∷ present rest
present (none ∷ rest) = present rest

-- RULES 13.3: the lines of a stream of records, from a link
unfoldable pub listing : Link → List ℕ → List ℕ
listing l bytes = flat_map line_of (outcomes l (calls_of bytes))

-- the link after a stream of records
unfoldable pub link_after : Link → List ℕ → Link
link_after l bytes = link_after_calls l (calls_of bytes)

-- ---- the program

-- RULES 13.2: the plan's line
abbrev pub plan_line : ℕ → List ℕ
plan_line number = line "P" (decimal number)

-- RULES 13.2: L, the plan's length
abbrev pub plan_length : List ℕ → ℕ
plan_length input = field16 input 0

-- RULES 13.2: the length of the longest plan
abbrev pub longest_plan : ℕ
longest_plan = 76

-- RULES 13.2: there is no plan to be tested
unfoldable pub plan_missing : List ℕ → Bool
plan_missing input = ltb (length input) 2 || ltb (length input) (plan_length input) || not (within 12 longest_plan (plan_length input))

-- RULES 13.2: the plan's line, and where it is accepted those of the records
unfoldable pub output_after : (number : ℕ) → (plan rest : List ℕ) → List ℕ
output_after zero plan rest = plan_line 0 ++ listing (fresh (plan_of plan)) rest
output_after (suc r) plan rest = plan_line (suc r)

-- RULES 13.2 and 13.3: all lines of an input
unfoldable pub output : List ℕ → List ℕ
output input =
    let plan = take (plan_length input) input in
    cond (plan_missing input) (plan_line 1) (output_after (refusal plan) plan (drop (plan_length input) input))
