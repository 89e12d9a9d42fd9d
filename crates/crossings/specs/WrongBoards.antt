-- Boards that are not ours: each does all but one thing as RULES 27.2 to 27.4 say. `CrossesWell` sends them back. Assumes nothing.
use Rattle.std.specs.Prelude.{ℕ, zero, suc, ◌-◌, ◌%◌, ◌∷◌, [], cond, eqb}
use Rattle.std.proofs.Math.Option.{Option, some, none}
use Rattle.model.specs.Word.{join, departure_of}
use Rattle.model.specs.Plan.{positions, flow_count, entry}
use Rattle.model.specs.Calls.{Call, Grant, Event, History, requested, credited, ticked, lent, accepted, refused}
use Rattle.model.specs.Link.{Link, flow}
use Rattle.model.specs.Tick.{next_position}
use Rattle.model.specs.History.{ticks}
use Rattle.model.specs.Scheduler.{reference, step}
use Rattle.crossings.specs.Crossing.{Crossing, crossing_with, goes_on_as, waits, with_waiting, asking, leaves, queued}
use Rattle.crossings.specs.Playing.{Board}

-- ---- a board by its habits

-- how it asks for a tile of flow i as flow j, and what it does with flow i's tile after a grant at p, and after a refusal
pub record Habits : Type 0 where
  pub word : Crossing → (i j : ℕ) → ℕ
  pub granted : (i p : ℕ) → Crossing → Crossing
  pub refused : (i : ℕ) → Crossing → Crossing

module _ (b : Habits) where
  abbrev asks : (i j : ℕ) → Crossing → Crossing
  asks i j x = crossing_with x x.arriving (step reference x.leaving (Call.request (b.word x i j))) x.waiting

  abbrev on_answer : (i : ℕ) → Grant → (rest : Crossing → Crossing) → Crossing → Crossing
  on_answer i (accepted v) rest x = rest (b.granted i (departure_of v) x)
  on_answer i (refused r) rest x = b.refused i x

  unfoldable pub pass_by : (k i j : ℕ) → Crossing → Crossing
  pass_by zero i j x = x
  pass_by (suc k) i j x = on_answer i (reference.request x.leaving.state (b.word x i j)).1 (pass_by k i j) (asks i j x)

  abbrev pass_flow_by : Option ℕ → (i : ℕ) → Crossing → Crossing
  pass_flow_by none i x = x
  pass_flow_by (some j) i x = pass_by (waits x i) i j x

  unfoldable pub pass_waiting_by : (n : ℕ) → Crossing → Crossing
  pass_waiting_by zero x = x
  pass_waiting_by (suc i) x = let y = pass_waiting_by i x in pass_flow_by (goes_on_as y i) i y

  abbrev pub comes_by : Option ℕ → (i : ℕ) → Crossing → Crossing
  comes_by none i x = x
  comes_by (some j) i x = cond (eqb (waits x i) 0) (pass_by 1 i j (queued i x)) (queued i x)

-- with what it does when a tile comes
abbrev pub board_by : Habits → (Option ℕ → (i : ℕ) → Crossing → Crossing) → Board
board_by b come none x = pass_waiting_by b (flow_count x.arriving.state.plan) x
board_by b come (some i) x = let y = pass_waiting_by b (flow_count x.arriving.state.plan) x in come (goes_on_as y i) i y

-- ---- ours

abbrev pub ours : Habits
ours = record { word = λ x i j. asking x.leaving.state j; granted = leaves; refused = λ i x. x }

-- ---- credits on arrival

-- a tile that is granted a slot waits no more, and nothing is credited
abbrev pub leaves_only : (i p : ℕ) → Crossing → Crossing
leaves_only i p x = with_waiting x i (waits x i - 1)

-- the cell of a tile that comes is credited at once, dated the next slot
abbrev pub credit_now : (i : ℕ) → Crossing → Crossing
credit_now i x = crossing_with x (step reference x.arriving (Call.credit i (next_position x.arriving.state))) x.leaving x.waiting

abbrev pub on_arrival : Habits
on_arrival = record { word = ours.word; granted = leaves_only; refused = ours.refused }

abbrev pub credits_on_arrival : Board
credits_on_arrival = board_by on_arrival (λ out i x. comes_by on_arrival out i (credit_now i x))

-- ---- credits twice

abbrev pub twice : Habits
twice = record { word = ours.word; granted = λ i p x. with_waiting (leaves i p (leaves i p x)) i (waits x i - 1); refused = ours.refused }

abbrev pub credits_twice : Board
credits_twice = board_by twice (comes_by twice)

-- ---- asks with the slot in which the tile came

-- the slot of the n-th newest tick that was answered with flow i
unfoldable pub came_at : (i n : ℕ) → History → ℕ
came_at i n [] = 0
came_at i n (requested w a ∷ h) = came_at i n h
came_at i n (credited k p a ∷ h) = came_at i n h
came_at i n (ticked none ∷ h) = came_at i n h
came_at i n (ticked (some k) ∷ h) = cond (eqb k i) (cond (eqb n 0) (suc (ticks h)) (came_at i (n - 1) h)) (came_at i n h)
came_at i n (lent m a ∷ h) = came_at i n h
came_at i n (Event.reset a ∷ h) = came_at i n h

abbrev pub asking_then : Link → (j s : ℕ) → ℕ
asking_then l j s = join (record {
  destination = (entry l.plan j).destination;
  flow = j;
  quantum = (flow l j).number;
  departure = s % positions
      l.plan;
})

-- of the tiles that wait, the first came before the others
abbrev pub as_came : Habits
as_came = record {
  word = λ x i j. asking_then x.leaving.state j (came_at i (waits x i - 1) x.arriving.history);
  granted = ours.granted;
  refused = ours.refused;
}

abbrev pub asks_as_it_came : Board
asks_as_it_came = board_by as_came (comes_by as_came)

-- ---- forgets a refused tile

abbrev pub forgetting : Habits
forgetting = record { word = ours.word; granted = ours.granted; refused = λ i x. with_waiting x i (waits x i - 1) }

abbrev pub forgets_refused : Board
forgets_refused = board_by forgetting (comes_by forgetting)

-- ---- asks in the next slot

abbrev waits_first : Option ℕ → (i : ℕ) → Crossing → Crossing
waits_first none i x = x
waits_first (some j) i x = queued i x

abbrev pub asks_next_slot : Board
asks_next_slot = board_by ours waits_first
