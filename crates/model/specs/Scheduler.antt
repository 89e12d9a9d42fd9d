-- A link scheduler: a state and a function for each call; a list of calls played on it; and what it is to meet demand 3. Assumes nothing.
use Rattle.std.specs.Prelude.{ℕ, ◌<◌, ◌≡◌, List, ◌∷◌, []}
use Rattle.model.specs.Plan.{Plan, flow_count, plan_of, refusal}
use Rattle.model.specs.Calls.{Call, Grant, CreditAnswer, TickAnswer, LendAnswer, ResetAnswer, Event, History, requested, credited, ticked, lent}
use Rattle.model.specs.Claim.{Demand3}
use Rattle.model.specs.Link.{Link, Step}
use Rattle.model.specs.Fresh as fresh
use Rattle.model.specs.Request as request
use Rattle.model.specs.Credit as credit
use Rattle.model.specs.Tick as tick
use Rattle.model.specs.Lend as lend
use Rattle.model.specs.Reset as reset

pub record Scheduler : Type 1 where
  pub State : Type 0
  pub fresh : Plan → State
  pub request : State → ℕ → State × Grant
  pub credit : State → ℕ → ℕ → State × CreditAnswer
  pub tick : State → State × TickAnswer
  pub lend : State → (mask : ℕ) → State × LendAnswer
  pub reset : State → State × ResetAnswer

-- a scheduler after some calls, with their events
pub record Played (c : Scheduler) : Type 0 where
  pub state : c.State
  pub history : History

-- a call's next state, and the event of its answer
abbrev pub next : {c : Scheduler} {A : Type 0} → Played c → (A → Event) → c.State × A → Played c
next r event handed = record { state = handed.0; history = event handed.1 ∷ r.history }

-- RULES 21.2: each call gets the link that the one before handed back
abbrev pub step : (c : Scheduler) → Played c → Call → Played c
step c r (Call.request w) = next r (requested w) (c.request r.state w)
step c r (Call.credit i p) = next r (credited i p) (c.credit r.state i p)
step c r Call.tick = next r ticked (c.tick r.state)
step c r (Call.lend m) = next r (lent m) (c.lend r.state m)
step c r Call.reset = next r Event.reset (c.reset r.state)

unfoldable pub play : (c : Scheduler) → Played c → List Call → Played c
play c r [] = r
play c r (x ∷ xs) = play c (step c r x) xs

-- RULES 21.2: the first call gets a fresh link
abbrev pub started : (c : Scheduler) → Plan → Played c
started c P = record { state = c.fresh P; history = [] }

abbrev pub run : (c : Scheduler) → Plan → List Call → Played c
run c P calls = play c (started c P) calls

-- Demand 3 of a scheduler on one plan: for every list of calls, refused ones too, and every flow. Words, flows, positions and
-- masks are any numbers, more than a program can be given.
abbrev pub MeetsOn : Scheduler → Plan → Type 0
MeetsOn c P = (calls : List Call) (i : ℕ) → i < flow_count P → Demand3 P i (run c P calls).history

-- Demand 3 of a scheduler, for the bytes of every accepted plan. That the scheduler below meets it is `meets`, in proofs/Demand3.antt.
abbrev pub Meets : Scheduler → Type 0
Meets c = (bytes : List ℕ) → refusal bytes ≡ 0 → MeetsOn c (plan_of bytes)

-- RULES 4.3: the scheduler that keeps to the rules
abbrev pub both : {A : Type 0} → Step A → Link × A
both handed = (handed.link, handed.answer)

abbrev pub reference : Scheduler
reference = record {
  State = Link;
  fresh = fresh.fresh;
  request = λ l w. both (request.request l w);
  credit = λ l i p. both (credit.credit l i p);
  tick = λ l. both (tick.tick l);
  lend = λ l m. both (lend.lend l m);
  reset = λ l. both (reset.reset l);
}
