-- What an edge case is: what is tried, and what is to come of it. Assumes nothing.
use Rattle.std.specs.Prelude.{ℕ, zero, suc, ◌+◌, ◌*◌, ◌%◌, ◌≡◌, List, ◌∷◌, [], map, reverse, cond, eqb}
use Prim.Native.String.{String}
use Rattle.std.proofs.Math.Option.{some, none}
use Rattle.model.specs.Word.{depart}
use Rattle.model.specs.Plan.{Plan, positions, plan_of, refusal}
use Rattle.model.specs.WrittenPlan as WrittenPlan
use Rattle.model.specs.WrittenPlan.{Written}
use Rattle.model.specs.Calls.{Call, Event, History, requested, credited, ticked, lent, accepted, refused}
use Rattle.model.specs.Burst.{BurstRecord, Burst, burst}
use Rattle.model.specs.Scheduler.{Scheduler, reference, play, run}
use Rattle.model.specs.Listing.{text, output}

-- ---- what is tried, and what comes of it

pub data Trial : Type 0 where
  -- calls on the link that fresh makes of a plan's bytes
  link : (bytes : List ℕ) (calls : List Call) → Trial
  -- the word that answers a request, where a position is granted
  granting : (word position : ℕ) → Trial
  -- the program's input
  program : (input : List ℕ) → Trial
  -- a plan to be written in a buffer
  writing : (plan : Plan) (out : List ℕ) → Trial
  -- records that a burst is lent after some calls, and calls on the link that it hands back
  bursting : (bytes : List ℕ) (before : List Call) (records : List BurstRecord) (after : List Call) → Trial

pub data Outcome : Type 0 where
  -- the plan is refused
  refused_plan : (number : ℕ) → Outcome
  -- the plan is accepted, and the calls have these events, oldest first
  events : History → Outcome
  word : ℕ → Outcome
  -- the program's output
  written : List ℕ → Outcome
  -- the writer's answer, and the buffer
  wrote : Written → Outcome
  -- the records after a burst, and the events after it, oldest first
  handed : (records : List BurstRecord) → History → Outcome

-- RULES 2.4: the outcome of a plan and calls, where the plan's tests give the number r: a refused plan makes no link
abbrev link_outcome : Scheduler → ℕ → List ℕ → List Call → Outcome
link_outcome c zero bytes calls = events (reverse (run c (plan_of bytes) calls).history)
link_outcome c (suc r) bytes calls = refused_plan (suc r)

-- the outcome of a burst, and of the calls on the link that it hands back
abbrev burst_outcome : Burst → List Call → Outcome
burst_outcome b after = handed b.records (reverse (play reference (record { state = b.link; history = [] }) after).history)

abbrev pub outcome : Scheduler → Trial → Outcome
outcome c (link bytes calls) = link_outcome c (refusal bytes) bytes calls
outcome c (granting w p) = word (depart w p)
outcome c (program input) = written (output input)
outcome c (writing plan out) = wrote (WrittenPlan.written plan out)
outcome c (bursting bytes before records after) = burst_outcome (burst (run reference (plan_of bytes) before).state records) after

pub record Case : Type 0 where
  pub trial : Trial
  pub expected : Outcome

-- A scheduler has the expected outcome in every case.
abbrev pub Passes : Scheduler → List Case → Type 0
Passes c cases = map (λ e. outcome c e.trial) cases ≡ map (λ e. e.expected) cases

-- ---- a plan: its bytes are accepted, or refused by a number

abbrev pub accepts : List ℕ → Case
accepts bytes = record { trial = link bytes []; expected = events [] }

abbrev pub refuses : ℕ → List ℕ → Case
refuses number bytes = record { trial = link bytes []; expected = refused_plan number }

-- ---- calls with their answers, on a plan

-- the call of an event
abbrev call_made : Event → Call
call_made (requested w a) = Call.request w
call_made (credited i p a) = Call.credit i p
call_made (ticked x) = Call.tick
call_made (lent m a) = Call.lend m
call_made (Event.reset a) = Call.reset

abbrev pub plays : List ℕ → List Event → Case
plays bytes es = record { trial = link bytes (map call_made es); expected = events es }

-- A call of a player and its answer. Its requests have destination 9, the flow's quantum number (the same again after a refusal) and the current
-- position as departure, where no other is given.
pub data Answered : Type 0 where
  -- a request is granted a position, or refused by a number
  grant : (flow position : ℕ) → Answered
  refuse : (flow number : ℕ) → Answered
  -- the same of a request with this departure
  grant_from : (flow departure position : ℕ) → Answered
  refuse_from : (flow departure number : ℕ) → Answered
  -- a request with this departure and this quantum number is refused
  refuse_as : (flow quantum departure number : ℕ) → Answered
  -- a credit is taken, or refused
  credit : (flow position : ℕ) → Answered
  reject : (flow position number : ℕ) → Answered
  -- a tick answers a flow, or idle
  serve : (flow : ℕ) → Answered
  idle : Answered
  -- the current slot is lent to a flow of a mask, or not
  lend : (mask flow : ℕ) → Answered
  deny : (mask number : ℕ) → Answered
  -- a reset is granted, or refused
  grant_reset : Answered
  decline : (number : ℕ) → Answered

-- k idle ticks, and then the rest
abbrev pub idles : ℕ → List Answered → List Answered
idles zero rest = rest
idles (suc k) rest = idle ∷ idles k rest

abbrev pub word_of : (flow quantum departure : ℕ) → ℕ
word_of flow quantum departure = 0x24000000 + 0x100000 * flow + 0x400 * (quantum % 1024) + departure

-- the events of a player's calls, oldest first, where T positions go round, `at` is current and each flow i has quantum number `next i`
abbrev played : (T at : ℕ) → (ℕ → ℕ) → List Answered → List Event
played T at next [] = []
played T at next (grant i p ∷ rest) =
    requested (word_of i (next i) at) (accepted (word_of i (next i) p)) ∷ played T at (λ j. cond (eqb j i) (suc (next j)) (next j)) rest
played T at next (refuse i r ∷ rest) = requested (word_of i (next i) at) (refused r) ∷ played T at next rest
played T at next (grant_from i d p ∷ rest) =
    requested (word_of i (next i) d) (accepted (word_of i (next i) p)) ∷ played T at (λ j. cond (eqb j i) (suc (next j)) (next j)) rest
played T at next (refuse_from i d r ∷ rest) = requested (word_of i (next i) d) (refused r) ∷ played T at next rest
played T at next (refuse_as i q d r ∷ rest) = requested (word_of i q d) (refused r) ∷ played T at next rest
played T at next (credit i p ∷ rest) = credited i p (accepted tt) ∷ played T at next rest
played T at next (reject i p r ∷ rest) = credited i p (refused r) ∷ played T at next rest
played T at next (serve i ∷ rest) = ticked (some i) ∷ played T ((at + 1) % T) next rest
played T at next (idle ∷ rest) = ticked none ∷ played T ((at + 1) % T) next rest
played T at next (lend m i ∷ rest) = lent m (accepted i) ∷ played T at next rest
played T at next (deny m r ∷ rest) = lent m (refused r) ∷ played T at next rest
played T at next (grant_reset ∷ rest) = Event.reset (accepted tt) ∷ played T at next rest
played T at next (decline r ∷ rest) = Event.reset (refused r) ∷ played T at next rest

abbrev pub follows : List ℕ → List Answered → Case
follows bytes answered = plays bytes (played (positions (plan_of bytes)) 0 (λ i. 0) answered)

-- ---- the program: its input, and the lines that it writes

abbrev pub writes : List ℕ → String → Case
writes input lines = record { trial = program input; expected = written (text lines) }

-- ---- a plan written in a buffer: the count of bytes and the buffer after it, or a refusal, which leaves the buffer

abbrev pub stores : Plan → (out : List ℕ) → (count : ℕ) → (after : List ℕ) → Case
stores plan out count after = record { trial = writing plan out; expected = wrote (record { answer = accepted count; out = after }) }

abbrev pub declines : (number : ℕ) → Plan → (out : List ℕ) → Case
declines number plan out = record { trial = writing plan out; expected = wrote (record { answer = refused number; out = out }) }

-- ---- a burst after some calls: its records, which are lent with result 255 and position 255, and calls with their answers after it

abbrev unfilled : BurstRecord → BurstRecord
unfilled x = record { word = x.word; result = 255; position = 255 }

abbrev pub fills : List ℕ → (before : List Call) → (records : List BurstRecord) → (after : List Event) → Case
fills bytes before records after = record {
  trial = bursting bytes before (map unfilled records) (map call_made after);
  expected = handed records after;
}
