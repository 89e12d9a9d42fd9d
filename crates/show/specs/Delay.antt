-- From a show's numbers to the arrival of a stream's tiles. RULES 25.5. It names no link's state, only calls and answers. Assumes nothing.
--
-- A show has no refusal, and a stream of it has its shares of cells. Each board on its way runs any list of calls from the plan of its link, with no reset
-- granted; what the other streams do is open. On the first board the stream asks for tiles that have come, within its share; on each later one it asks for
-- each tile in the slot in which that comes, and the board credits the one before at this grant. On the last board cells are given back `late` frames late.
-- It is lent nothing. Then every request is granted, and its tiles arrive within the slots of `bounds`.
use Rattle.std.specs.Prelude.{ℕ, ◌+◌, ◌*◌, ◌/◌, ◌≤◌, ◌<◌, ◌≡◌, List, ◌∷◌, [], true, length}
use Rattle.model.specs.Tables.{tally}
use Rattle.model.specs.Word.{flow_of}
use Rattle.model.specs.WrittenPlan.{bytes_of}
use Rattle.model.specs.History.{ticks, well_formed, lends, of_flow}
use Rattle.model.specs.Claim.{Each, AtRequest}
use Rattle.model.specs.Scheduler.{Scheduler}
use Rattle.arrival.specs.SeveralLinks.{tile, Together, Board, plan_on, sent_on, due_on, EachGranted}
use Rattle.arrival.specs.SharesOfCells.{GivenBack, EachGrantedNow}
use Rattle.arrival.specs.LinksOnArrival.{AsksOnArrival}
use Rattle.arrival.specs.Source.{up_to_frame, Source, Bursts, AsksAs}
use Rattle.arrival.specs.CreditedByNext.{CreditedByNext, ModestFirst}
use Rattle.arrival.specs.AllArrive.{AllAskedAlong, Up, AsksOn}
use Rattle.delay.specs.Bounds.{bounds}
use Rattle.delay.specs.Promised.{last_board, ArrivesWithin}
use Rattle.mesh.specs.Mesh.{Link}
use Rattle.mesh.specs.Way.{way, distance}
use Rattle.show.specs.Show.{Show, show_stream, link_plan, flow_on, refusal}

-- ---- boards on a way

-- a board runs the plan of a link, and its stream is stream i of the show
pub record OnLink (show : Show) (i : ℕ) (l : Link) {c : Scheduler} (b : Board c) : Type 0 where
  pub bytes_are : b.bytes ≡ bytes_of (link_plan show l)
  pub flow_is : b.stream ≡ flow_on show l i

-- so one board for each of several links
abbrev pub OnLinks : Show → ℕ → {c : Scheduler} → List Link → List (Board c) → Type 0
OnLinks show i [] [] = Unit {0}
OnLinks show i [] (b ∷ bs) = ⊥
OnLinks show i (l ∷ ls) [] = ⊥
OnLinks show i (l ∷ ls) (b ∷ bs) = OnLink show i l b × OnLinks show i ls bs

-- ---- what the stream does

-- From board a to the next: it asks on arrival, its cells of a are credited at the grants of b, and it is lent nothing on b. RULES 22.8.
pub record PassedOn {c : Scheduler} (a b : Board c) : Type 0 where
  pub together :
      Together (plan_on a) (plan_on b) a.stream b.stream (AsksOnArrival (λ P i h. Unit {0}) (plan_on a) (plan_on b) a.stream b.stream)
      a.events b.events
  pub credits : CreditedByNext (plan_on a) (plan_on b) a.stream b.stream a.events b.events
  pub not_lent : tally (of_flow b.stream) (lends b.events) ≡ 0

-- so from board to board, up to the last one, which gives its cells back `late` frames late
abbrev pub PassedAlong : {c : Scheduler} → (late : ℕ) → Board c → List (Board c) → Type 0
PassedAlong late a [] =
    Each (AtRequest (λ w h. well_formed (plan_on a) w ≡ true → flow_of w ≡ a.stream → GivenBack late (plan_on a) a.stream h)) a.events
PassedAlong late a (b ∷ rest) = PassedOn a b × PassedAlong late b rest

-- ---- what follows

-- RULES 25.5: of one stream and its boards.
pub record InTime (show : Show) (i : ℕ) {c : Scheduler} (a : Board c) (rest : List (Board c)) : Type 0 where
  -- every request is granted: on the first board, in its frame or the next; and on each later one
  pub granted_first : EachGrantedNow (plan_on a) a.stream a.events
  pub granted_later : EachGranted rest
  -- a tile comes up on the last link fewer than (distance + 1) × F slots after it is due on the first
  pub from_due : (n : ℕ) → n < length (sent_on (last_board a rest))
      → tile n (sent_on (last_board a rest)) < tile n (due_on a) + (distance (show_stream show i).stream + 1) * show.slots
  -- and, whatever burst comes to the source, at most so many slots after it came there
  pub from_source : (burst : ℕ) (comes asks : ℕ → ℕ) → Source (show_stream show i).stream.share comes asks
      → Bursts (show_stream show i).stream.share burst comes → AsksAs asks (plan_on a) a.stream a.events
      → ArrivesWithin (bounds show.slots (distance (show_stream show i).stream) (show_stream show i).stream.share burst).slots comes (last_board a rest)

-- RULES 25.5: where each of its tiles whose slot is gone was asked for on the next board, all of them arrive.
pub record AllInTime (show : Show) (i : ℕ) {c : Scheduler} (a : Board c) (rest : List (Board c)) : Type 0 where
  -- a tile that was granted on the first has come up on the last link once (distance + 1) × F slots are over since it was due
  pub from_due : (n : ℕ) → n < length (due_on a)
      → tile n (due_on a) + (distance (show_stream show i).stream + 1) * show.slots ≤ ticks (last_board a rest).events → Up n (last_board a rest)
  -- and one that came to a source that goes on asking, once the slots of `bounds` are over since it came
  pub from_source : (burst : ℕ) (comes asks : ℕ → ℕ) → Source (show_stream show i).stream.share comes asks
      → Bursts (show_stream show i).stream.share burst comes → AsksAs asks (plan_on a) a.stream a.events → AsksOn asks (plan_on a) a.stream a.events
      → (n x : ℕ) → n < up_to_frame comes (x / show.slots)
      → x + (bounds show.slots (distance (show_stream show i).stream) (show_stream show i).stream.share burst).slots < ticks (last_board a rest).events
      → Up n (last_board a rest)

-- The cells that it takes: two shares on each link but the last, if there are any, and late + 2 on the last. RULES 23.1.
pub record EnoughCells (show : Show) (late i : ℕ) : Type 0 where
  pub usual : 1 < length (way (show_stream show i).stream) → 2 * (show_stream show i).stream.share ≤ (show_stream show i).cells
  pub last : (late + 2) * (show_stream show i).stream.share ≤ (show_stream show i).last_cells

-- That the reference scheduler keeps it is `in_time`, in proofs/Delay.antt. With late = 1, where the last board credits a cell when its tile was shown, these
-- are the cells that a show file has where it names none.
abbrev pub ShowInTime : Scheduler → Type 0
ShowInTime c =
    (show : Show) → refusal show ≡ 0 → (i : ℕ) → i < length show.streams → (late : ℕ) → EnoughCells show late i
    → (a : Board c) (rest : List (Board c)) → OnLinks show i (way (show_stream show i).stream) (a ∷ rest)
    → ModestFirst (plan_on a) a.stream a.events → PassedAlong late a rest → InTime show i a rest

-- That it keeps this too is `all_in_time`, there.
abbrev pub ShowAllInTime : Scheduler → Type 0
ShowAllInTime c =
    (show : Show) → refusal show ≡ 0 → (i : ℕ) → i < length show.streams → (late : ℕ) → EnoughCells show late i
    → (a : Board c) (rest : List (Board c)) → OnLinks show i (way (show_stream show i).stream) (a ∷ rest)
    → ModestFirst (plan_on a) a.stream a.events → PassedAlong late a rest → AllAskedAlong a rest → AllInTime show i a rest
