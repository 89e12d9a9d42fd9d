-- A crossing: what a board does with the tiles that come to it on one link and go on by another. RULES 27.1 to 27.5. Assumes nothing.
--
-- Both links are the model's, with their calls so far: so what a board asks of them is in their events, with the answers.
use Rattle.std.specs.Prelude.{ℕ, zero, suc, ◌+◌, ◌-◌, min, List, cond, get_or, set, eqb}
use Rattle.std.proofs.Math.Option.{Option, some, none}
use Rattle.model.specs.Word.{join, departure_of}
use Rattle.model.specs.Plan.{flow_count, entry}
use Rattle.model.specs.Calls.{Call, Grant, TickAnswer, accepted, refused}
use Rattle.model.specs.Link.{Link, flow}
use Rattle.model.specs.Tick.{next_position}
use Rattle.model.specs.Scheduler.{Played, reference, step}

-- RULES 27.1: two links, where each flow of the first goes on, and how many of its tiles wait
pub record Crossing : Type 0 where
  pub arriving : Played reference  -- the in-link
  pub leaving : Played reference  -- the out-link
  pub onward : List (Option ℕ)  -- for each flow of the in-link, the flow of the out-link that it goes on as
  pub waiting : List ℕ  -- for each flow of the in-link, how many tiles wait

-- Crossing x with these links and tiles; where its flows go on stays.
abbrev pub crossing_with : Crossing → (arriving leaving : Played reference) → (waiting : List ℕ) → Crossing
crossing_with x arriving leaving waiting = record { arriving = arriving; leaving = leaving; onward = x.onward; waiting = waiting }

abbrev pub goes_on_as : Crossing → ℕ → Option ℕ
goes_on_as x i = get_or x.onward i none

abbrev pub waits : Crossing → ℕ → ℕ
waits x i = get_or x.waiting i 0

-- k tiles of flow i wait
abbrev pub with_waiting : Crossing → (i k : ℕ) → Crossing
with_waiting x i k = crossing_with x x.arriving x.leaving (set x.waiting i k)

-- ---- one tile

-- RULES 27.3: the word that asks for a tile of flow j: the current position is its departure, and it has the expected number
abbrev pub asking : Link → (j : ℕ) → ℕ
asking l j = join (record { destination = (entry l.plan j).destination; flow = j; quantum = (flow l j).number; departure = l.current })

-- what the out-link answers to it, and the crossing after that
abbrev pub answer_for : (j : ℕ) → Crossing → Grant
answer_for j x = (reference.request x.leaving.state (asking x.leaving.state j)).1

abbrev pub asked_for : (j : ℕ) → Crossing → Crossing
asked_for j x = crossing_with x x.arriving (step reference x.leaving (Call.request (asking x.leaving.state j))) x.waiting

-- RULES 27.3: where a tile of flow i is granted position p, its cell is credited, dated p, and it waits no more
abbrev pub leaves : (i p : ℕ) → Crossing → Crossing
leaves i p x = crossing_with x (step reference x.arriving (Call.credit i p)) x.leaving (set x.waiting i (waits x i - 1))

-- RULES 27.3: and a tile that is refused waits on, with those behind it
abbrev pub on_grant : (i : ℕ) → Grant → (rest : Crossing → Crossing) → Crossing → Crossing
on_grant i (accepted v) rest x = rest (leaves i (departure_of v) x)
on_grant i (refused r) rest x = x

-- ---- several tiles

-- RULES 27.3: k tiles of flow i are asked for as flow j, one after the other, until one is refused
unfoldable pub pass_on : (k i j : ℕ) → Crossing → Crossing
pass_on zero i j x = x
pass_on (suc k) i j x = on_grant i (answer_for j x) (pass_on k i j) (asked_for j x)

abbrev pub pass_as : Option ℕ → (k i : ℕ) → Crossing → Crossing
pass_as none k i x = x
pass_as (some j) k i x = pass_on k i j x

abbrev pub pass_flow : (i : ℕ) → Crossing → Crossing
pass_flow i x = pass_as (goes_on_as x i) (waits x i) i x

-- RULES 27.2: the tiles that wait, of the flows below n, flow by flow
unfoldable pub pass_waiting : (n : ℕ) → Crossing → Crossing
pass_waiting zero x = x
pass_waiting (suc i) x = pass_flow i (pass_waiting i x)

-- ---- the tile that has just come

-- RULES 27.4: one more of flow i waits, and 255 at most
abbrev pub queued : (i : ℕ) → Crossing → Crossing
queued i x = with_waiting x i (min (waits x i + 1) 255)

-- RULES 27.4: it is asked for if none of its flow waits before it
abbrev pub comes : Option ℕ → (i : ℕ) → Crossing → Crossing
comes none i x = x
comes (some j) i x = cond (eqb (waits x i) 0) (pass_on 1 i j (queued i x)) (queued i x)

abbrev pub arrives : TickAnswer → Crossing → Crossing
arrives none x = x
arrives (some i) x = comes (goes_on_as x i) i x

-- ---- the board's part of a slot

-- RULES 27.2: after the ticks, of which the in-link's answered `owner`
unfoldable pub served : TickAnswer → Crossing → Crossing
served owner x = arrives owner (pass_waiting (flow_count x.arriving.state.plan) x)

-- RULES 27.5: a tile of flow i that ends here was shown, and its cell is free from the next slot on
unfoldable pub shown : (i : ℕ) → Played reference → Played reference
shown i r = step reference r (Call.credit i (next_position r.state))
