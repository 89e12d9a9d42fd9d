-- What the numbers of `bounds` say of streams on a scheduler: the slots in which a tile arrives over several links, and the cells that keep each request
-- granted. Of calls and answers alone, as the model's promises are. Assumes nothing.
use Rattle.std.specs.Prelude.{ℕ, ◌+◌, ◌/◌, ◌≤◌, ◌<◌, ◌≡◌, List, ◌∷◌, [], true, length}
use Rattle.model.specs.Tables.{tally}
use Rattle.model.specs.Word.{flow_of}
use Rattle.model.specs.Plan.{Plan, entry, flow_count, plan_of, refusal}
use Rattle.model.specs.Calls.{Call, History}
use Rattle.model.specs.History.{ticks, frame_of, well_formed, is_granted_reset, lends, of_flow}
use Rattle.model.specs.Claim.{Each, AtRequest}
use Rattle.model.specs.Scheduler.{Scheduler, run}
use Rattle.arrival.specs.SeveralLinks.{tile, Board, plan_on, sent_on}
use Rattle.arrival.specs.SharesOfCells.{AsksWithinShare, KeepsShares, EachGrantedNow}
use Rattle.arrival.specs.LinksOnArrival.{WayOnArrival}
use Rattle.arrival.specs.Source.{up_to_frame, Source, Bursts, AsksAs}
use Rattle.arrival.specs.CreditedByNext.{WayByCredits, ModestFirst}
use Rattle.arrival.specs.AllArrive.{AllAskedAlong, Up, AsksOn}
use Rattle.delay.specs.Bounds.{Bounds, bounds}

-- ---- the slots

-- the last board of a way
abbrev pub last_board : {c : Scheduler} → Board c → List (Board c) → Board c
last_board a [] = a
last_board a (b ∷ rest) = last_board b rest

abbrev pub share_on : {c : Scheduler} → Board c → ℕ
share_on b = (entry (plan_on b) b.stream).share

-- A tile that came to the source in slot x comes up on board b at most so many slots later.
abbrev pub ArrivesWithin : {c : Scheduler} → (slots : ℕ) (comes : ℕ → ℕ) → Board c → Type 0
ArrivesWithin slots comes b = (n x : ℕ) → n < length (sent_on b) → n < up_to_frame comes (frame_of (plan_on b) x) → tile n (sent_on b) ≤ x + slots

-- The slots of `bounds` are such a number, for the boards of a way as its links.
abbrev pub InBounds : {c : Scheduler} → Board c → List (Board c) → Type 0
InBounds a rest =
    (burst : ℕ) (comes asks : ℕ → ℕ) → Source (share_on a) comes asks → Bursts (share_on a) burst comes → AsksAs asks (plan_on a) a.stream a.events
    → ArrivesWithin (bounds (plan_on a).slots (length (a ∷ rest)) (share_on a) burst).slots comes (last_board a rest)

-- RULES 23.2: so it is where the stream asks on arrival with its shares of cells (22.8); and where each board credits the one before it at its own
-- grant. That the reference scheduler keeps both is `bound-is` and `bound-by-credits`, in proofs/Promised.antt.
abbrev pub BoundIs : Scheduler → Type 0
BoundIs c =
    (late : ℕ) (a : Board c) (rest : List (Board c)) → WayOnArrival a rest → KeepsShares late 0 (plan_on a) a.stream a.events → InBounds a rest

abbrev pub BoundByCredits : Scheduler → Type 0
BoundByCredits c =
    (late : ℕ) (a : Board c) (rest : List (Board c)) → WayByCredits late a rest → ModestFirst (plan_on a) a.stream a.events → InBounds a rest

-- RULES 22.15: where each tile is asked for on the next board, and the source goes on asking, it has come up there once those slots are over.
abbrev pub UpInBounds : {c : Scheduler} → Board c → List (Board c) → Type 0
UpInBounds a rest =
    (burst : ℕ) (comes asks : ℕ → ℕ) → Source (share_on a) comes asks → Bursts (share_on a) burst comes → AsksAs asks (plan_on a) a.stream a.events
    → AsksOn asks (plan_on a) a.stream a.events → (n x : ℕ) → n < up_to_frame comes (x / (plan_on a).slots)
    → x + (bounds (plan_on a).slots (length (a ∷ rest)) (share_on a) burst).slots < ticks (last_board a rest).events → Up n (last_board a rest)

-- That the reference scheduler keeps both is `up_is` and `up-by-credits`, in proofs/Promised.antt.
abbrev pub UpIs : Scheduler → Type 0
UpIs c =
    (late : ℕ) (a : Board c) (rest : List (Board c)) → WayOnArrival a rest → AllAskedAlong a rest → KeepsShares late 0 (plan_on a) a.stream a.events
    → UpInBounds a rest

abbrev pub UpByCredits : Scheduler → Type 0
UpByCredits c =
    (late : ℕ) (a : Board c) (rest : List (Board c)) → WayByCredits late a rest → AllAskedAlong a rest → ModestFirst (plan_on a) a.stream a.events
    → UpInBounds a rest

-- ---- the cells

-- what is asked of flow i but for its cells
pub record Asks (late : ℕ) (P : Plan) (i : ℕ) (h : History) : Type 0 where
  pub each : Each (AtRequest (λ w h. well_formed P w ≡ true → flow_of w ≡ i → AsksWithinShare late P i w h)) h
  pub not_lent : tally (of_flow i) (lends h) ≡ 0
  pub no_reset : tally is_granted_reset h ≡ 0

-- RULES 23.2 and 23.3: where its cells are given back `late` frames late, `need` of `bounds` are enough, whatever F, the links and the burst are. Of
-- a stream with fewer nothing is said.
abbrev pub CellsAre : (late : ℕ) (need : Bounds → ℕ) → Scheduler → Type 0
CellsAre late need c =
    (bytes : List ℕ) → refusal bytes ≡ 0 → (calls : List Call) (i : ℕ) → i < flow_count (plan_of bytes)
    → (F m burst : ℕ) → need (bounds F m (entry (plan_of bytes) i).share burst) ≤ (entry (plan_of bytes) i).cells
    → Asks late (plan_of bytes) i (run c (plan_of bytes) calls).history → EachGrantedNow (plan_of bytes) i (run c (plan_of bytes) calls).history

-- RULES 22.8: as each tile comes up, and when it was shown: `cells_are` and `shown-are`, in proofs/Promised.antt
abbrev pub CellsSuffice : Scheduler → Type 0
CellsSuffice = CellsAre 0 (λ b. b.cells)

abbrev pub ShownSuffice : Scheduler → Type 0
ShownSuffice = CellsAre 1 (λ b. b.shown)
