-- Lists of calls with bursts, as demand 3 counts them. RULES 21.2. Assumes nothing.
use Rattle.std.specs.Prelude.{◌≡◌, cond, take, eqb}
use mathlib.Core.List.{List, ◌∷◌, [], ◌++◌, map, flat_map, reverse}
use Rattle.model.specs.Word.{depart}
use Rattle.model.specs.Plan.{Plan, Accepted}
use Rattle.model.specs.Calls.{Call, Grant, Event, History, requested, accepted, refused}
use Rattle.model.specs.Link.{Link}
use Rattle.model.specs.Burst.{BurstRecord, Burst, most_records}
use Rattle.model.specs.Scheduler.{Played, reference, step, started, run}

-- RULES 21.2: a call of demand 3's list, or a burst of records
pub data Item : Type 0 where
  single : Call → Item
  several : (records : List BurstRecord) → Item

-- ---- the list without bursts

-- RULES 21.2: a burst stands for its first 16 requests
abbrev pub counts_as : Item → List Call
counts_as (single c) = c ∷ []
counts_as (several xs) = map (λ x. Call.request x.word) (take most_records xs)

-- each burst replaced by its requests
abbrev pub replaced : List Item → List Call
replaced items = flat_map counts_as items

-- ---- the list with bursts, and what its caller sees

-- the answer that stands in a record after a burst: the word with the position as departure, or the refusal
abbrev pub answer_in : BurstRecord → Grant
answer_in x = cond (eqb x.result 0) (accepted (depart x.word x.position)) (refused x.result)

abbrev pub event_in : BurstRecord → Event
event_in x = requested x.word (answer_in x)

-- the events in the records after a burst, the newest first: those of the first 16
abbrev pub events_in : List BurstRecord → History
events_in records = reverse (map event_in (take most_records records))

-- one item more, where bursts are answered by this function: a burst's events are those that its records show
abbrev pub step_with : (Link → List BurstRecord → Burst) → Played reference → Item → Played reference
step_with bursts r (single c) = step reference r c
step_with bursts r (several xs) =
    let b = bursts r.state xs in
    record { state = b.link; history = events_in b.records ++ r.history }

unfoldable pub play_with : (Link → List BurstRecord → Burst) → Played reference → List Item → Played reference
play_with bursts r [] = r
play_with bursts r (x ∷ xs) = play_with bursts (step_with bursts r x) xs

abbrev pub run_with : (Link → List BurstRecord → Burst) → Plan → List Item → Played reference
run_with bursts P items = play_with bursts (started reference P) items

-- RULES 21.2: a list with bursts comes to the link and the events of the list in which each is its requests.
abbrev pub BurstsCounted : (Link → List BurstRecord → Burst) → Type 0
BurstsCounted bursts = (P : Plan) → Accepted P → (items : List Item) → run_with bursts P items ≡ run reference P (replaced items)
