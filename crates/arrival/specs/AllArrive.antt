-- Every tile arrives. It names no link's state, only calls and answers. Assumes nothing.
--
-- The bounds of SeveralLinks.antt and Source.antt are of tiles that were granted a slot on the board that they speak of: a board that stops asking keeps
-- them. Where each tile whose slot is gone was asked for on the next board, each tile that was granted on the first one comes up on every board, within the
-- bound. Where the source goes on asking, so does each tile that came to it.
use Rattle.std.specs.Prelude.{ℕ, ◌+◌, ◌*◌, ◌≤◌, ◌<◌, ◌≡◌, List, ◌∷◌, [], cond, length}
use Rattle.model.specs.Tables.{tally}
use Rattle.model.specs.Word.{flow_of}
use Rattle.model.specs.Plan.{Plan, entry}
use Rattle.model.specs.Calls.{Event, History, requested, credited, ticked, lent}
use Rattle.model.specs.History.{ticks, frame_of, well_formed, Mark, marks_of, of_flow}
use Rattle.model.specs.Scheduler.{Scheduler}
use Rattle.arrival.specs.Delay.{current_frame, due_in, TimelyInOrder, Modest}
use Rattle.arrival.specs.SeveralLinks.{tile, Board, plan_on, sent_on, due_on, Way}
use Rattle.arrival.specs.SharesOfCells.{KeepsShares}
use Rattle.arrival.specs.LinksOnArrival.{WayOnArrival}
use Rattle.arrival.specs.Source.{up_to_frame, Source, Bursts, burst_frames, AsksAs}
use Rattle.arrival.specs.CreditedByNext.{WayByCredits, ModestFirst}

-- ---- what is asked for

-- the mark of a well-formed request, whatever its answer is
abbrev pub ask_at : Plan → Event → History → List Mark
ask_at P (requested w a) h = cond (well_formed P w) (record { flow = flow_of w; slot = ticks h } ∷ []) []
ask_at P (credited i p a) h = []
ask_at P (ticked x) h = []
ask_at P (lent m a) h = []
ask_at P (Event.reset a) h = []

unfoldable pub asked : Plan → History → List Mark
unfolding marks_of
asked P h = marks_of (ask_at P) h

-- flow i's
abbrev pub asked_for : Plan → History → ℕ → ℕ
asked_for P h i = tally (of_flow i) (asked P h)

-- RULES 22.15: each of the stream's tiles whose slot on board a is gone was asked for on board b; so from board to board
abbrev pub AllAsked : {c : Scheduler} → Board c → Board c → Type 0
AllAsked a b = (n : ℕ) → n < length (sent_on a) → tile n (sent_on a) < ticks a.events → n < asked_for (plan_on b) b.events b.stream

abbrev pub AllAskedAlong : {c : Scheduler} → Board c → List (Board c) → Type 0
AllAskedAlong a [] = Unit {0}
AllAskedAlong a (b ∷ rest) = AllAsked a b × AllAskedAlong b rest

-- ---- what follows

-- tile n of the stream has come up on board b
pub record Up {c : Scheduler} (n : ℕ) (b : Board c) : Type 0 where
  pub granted : n < length (sent_on b)
  pub gone : tile n (sent_on b) < ticks b.events

-- RULES 22.15: it has, once k + 1 frames are over since slot x; and on each board after it a frame later
abbrev pub UpAlong : {c : Scheduler} → (n x k : ℕ) → List (Board c) → Type 0
UpAlong n x k [] = Unit {0}
UpAlong n x k (b ∷ rest) = (x + (k + 1) * (plan_on b).slots ≤ ticks b.events → Up n b) × UpAlong n x (k + 1) rest

-- each tile that was granted on the first board, by the slot in which it is due there
abbrev pub AllUp : {c : Scheduler} → Board c → List (Board c) → Type 0
AllUp a rest = (n : ℕ) → n < length (due_on a) → UpAlong n (tile n (due_on a)) 1 (a ∷ rest)

-- RULES 22.15: that the reference scheduler keeps these is `all-arrive`, `all-arrive-on-arrival` and `all-arrive-by-credits`, in proofs/AllArrive.antt.
abbrev pub AllArrive : Scheduler → Type 0
AllArrive c =
    (a : Board c) (rest : List (Board c)) → Way a rest → AllAskedAlong a rest → Modest TimelyInOrder 0 (plan_on a) a.stream a.events → AllUp a rest

abbrev pub AllArriveOnArrival : Scheduler → Type 0
AllArriveOnArrival c =
    (late : ℕ) (a : Board c) (rest : List (Board c)) → WayOnArrival a rest → AllAskedAlong a rest → KeepsShares late 0 (plan_on a) a.stream a.events
    → AllUp a rest

abbrev pub AllArriveByCredits : Scheduler → Type 0
AllArriveByCredits c =
    (late : ℕ) (a : Board c) (rest : List (Board c)) → WayByCredits late a rest → AllAskedAlong a rest → ModestFirst (plan_on a) a.stream a.events
    → AllUp a rest

-- ---- from the source

-- In each frame that is over as many tiles of flow i are due as the source asks for in it.
abbrev pub AsksOn : (asks : ℕ → ℕ) → Plan → ℕ → History → Type 0
AsksOn asks P i h = (f : ℕ) → f < current_frame P h → due_in P h i f ≡ asks f

-- each tile that came to the source in slot x, whatever burst it is of
abbrev pub AllUpFromSource : {c : Scheduler} → Board c → List (Board c) → Type 0
AllUpFromSource a rest =
    (burst : ℕ) (comes asks : ℕ → ℕ) → Source (entry (plan_on a) a.stream).share comes asks → Bursts (entry (plan_on a) a.stream).share burst comes
    → AsksAs asks (plan_on a) a.stream a.events → AsksOn asks (plan_on a) a.stream a.events
    → (n x : ℕ) → n < up_to_frame comes (frame_of (plan_on a) x) → UpAlong n x (burst_frames (entry (plan_on a) a.stream).share burst + 1) (a ∷ rest)

-- RULES 22.15: `all-from-source`, `all-from-source-on-arrival` and `all-from-source-by-credits`, there
abbrev pub AllFromSource : Scheduler → Type 0
AllFromSource c =
    (a : Board c) (rest : List (Board c)) → Way a rest → AllAskedAlong a rest → Modest TimelyInOrder 0 (plan_on a) a.stream a.events
    → AllUpFromSource a rest

abbrev pub AllFromSourceOnArrival : Scheduler → Type 0
AllFromSourceOnArrival c =
    (late : ℕ) (a : Board c) (rest : List (Board c)) → WayOnArrival a rest → AllAskedAlong a rest → KeepsShares late 0 (plan_on a) a.stream a.events
    → AllUpFromSource a rest

abbrev pub AllFromSourceByCredits : Scheduler → Type 0
AllFromSourceByCredits c =
    (late : ℕ) (a : Board c) (rest : List (Board c)) → WayByCredits late a rest → AllAskedAlong a rest → ModestFirst (plan_on a) a.stream a.events
    → AllUpFromSource a rest
