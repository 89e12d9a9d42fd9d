-- Tiles that come to a source faster than its share for a while: when each is asked for, and when it comes up on each of several links. By frames,
-- counts, calls and answers alone. Assumes nothing.
--
-- A source asks for the oldest first, for its share in each frame, and for fewer only where none is left. If in any k frames in a row no more than
-- k × share + burst tiles come to it:
-- - each tile is asked for within burst_frames share burst frames of the one in which it came, the number of shares that hold the burst;
-- - where the stream that asks so is on time on m links, it comes up on link m within burst_frames share burst + m frames of that one, and so fewer than
--   (m + 1 + burst_frames share burst) × F slots after the slot in which it came, whichever slot of that frame it is.
use Rattle.std.specs.Prelude.{ℕ, suc, ◌+◌, ◌-◌, ◌*◌, ◌/◌, ◌≤◌, ◌<◌, ◌≡◌, List, ◌∷◌, [], length}
use Rattle.model.specs.Tables.{sum}
use Rattle.model.specs.Plan.{Plan, entry}
use Rattle.model.specs.Calls.{History}
use Rattle.model.specs.History.{frame_of}
use Rattle.model.specs.Scheduler.{Scheduler}
use Rattle.arrival.specs.Delay.{due_in, TimelyInOrder, Modest}
use Rattle.arrival.specs.SeveralLinks.{tile, Board, plan_on, sent_on, Way}
use Rattle.arrival.specs.SharesOfCells.{KeepsShares}
use Rattle.arrival.specs.LinksOnArrival.{WayOnArrival}

-- ---- a source, by frames

-- a count over the frames up to and including frame f
abbrev pub up_to_frame : (ℕ → ℕ) → ℕ → ℕ
up_to_frame count f = sum (suc f) count

-- RULES 22.10: `comes f` tiles come in frame f, and `asks f` are asked for in it. Tiles are numbered from 0 as they come; as the oldest is asked for
-- first, tile n is asked for by the end of frame f where n < up_to_frame asks f.
pub record Source (share : ℕ) (comes asks : ℕ → ℕ) : Type 0 where
  -- a tile has come when it is asked for
  pub come : (f : ℕ) → up_to_frame asks f ≤ up_to_frame comes f
  pub within_share : (f : ℕ) → asks f ≤ share
  -- where fewer than its share are asked for, none is left
  pub none_waits : (f : ℕ) → asks f < share → up_to_frame asks f ≡ up_to_frame comes f

-- RULES 22.10: in k frames in a row, from frame f on, no more than k shares come and `burst` tiles more
abbrev pub Bursts : (share burst : ℕ) (comes : ℕ → ℕ) → Type 0
Bursts share burst comes = (f k : ℕ) → sum (f + k) comes ≤ sum f comes + k * share + burst

-- RULES 22.10: the frames that `burst` tiles more than the share cost: a frame for each share of them, and for what is left
abbrev pub burst_frames : (share burst : ℕ) → ℕ
burst_frames share burst = (burst + share - 1) / share

-- A tile that came by the end of frame f is asked for by the end of frame f + k.
abbrev pub AskedWithin : (k : ℕ) (comes asks : ℕ → ℕ) → Type 0
AskedWithin k comes asks = (n f : ℕ) → n < up_to_frame comes f → n < up_to_frame asks (f + k)

-- That it is so is `asked-soon`, in proofs/Source.antt.
abbrev pub AskedSoon : Type 0
AskedSoon =
    (share burst : ℕ) → 0 < share → (comes asks : ℕ → ℕ) → Source share comes asks → Bursts share burst comes
    → AskedWithin (burst_frames share burst) comes asks

-- ---- over several links

-- Up to the last frame in which a tile of flow i is due, as many are due in each frame as the source asks for in it.
abbrev pub AsksAs : (asks : ℕ → ℕ) → Plan → ℕ → History → Type 0
AsksAs asks P i h = (g : ℕ) → 0 < due_in P h i g → (f : ℕ) → f < g → due_in P h i f ≡ asks f

-- Each of the stream's tiles comes up on board b at the latest k frames after the frame in which it came to the source; x is the slot in which it came.
pub record CameWithin {c : Scheduler} (k : ℕ) (comes : ℕ → ℕ) (b : Board c) : Type 0 where
  pub frames_later : (n f : ℕ) → n < length (sent_on b) → n < up_to_frame comes f → frame_of (plan_on b) (tile n (sent_on b)) ≤ f + k
  pub slots_later : (n x : ℕ) → n < length (sent_on b) → n < up_to_frame comes (frame_of (plan_on b) x) → tile n (sent_on b) < x + (k + 1) * (plan_on b).slots

-- so of boards one after the other, with a frame more on each
abbrev pub EachCameWithin : {c : Scheduler} → (k : ℕ) (comes : ℕ → ℕ) → List (Board c) → Type 0
EachCameWithin k comes [] = Unit {0}
EachCameWithin k comes (b ∷ rest) = CameWithin k comes b × EachCameWithin (k + 1) comes rest

-- Where the source asks on the first board, each tile comes up on board m within m frames and those of the burst.
abbrev pub InTimeFromSource : {c : Scheduler} → Board c → List (Board c) → Type 0
InTimeFromSource a rest =
    (burst : ℕ) (comes asks : ℕ → ℕ) → Source (entry (plan_on a) a.stream).share comes asks → Bursts (entry (plan_on a) a.stream).share burst comes
    → AsksAs asks (plan_on a) a.stream a.events → EachCameWithin (burst_frames (entry (plan_on a) a.stream).share burst + 1) comes (a ∷ rest)

-- RULES 22.10: so it is for a stream that is modest on the first board, and for one that asks on arrival with its shares of cells. That the reference
-- scheduler keeps both is `from_source` and `from-source-on-arrival`, in proofs/FromSource.antt.
abbrev pub FromSource : Scheduler → Type 0
FromSource c =
    (a : Board c) (rest : List (Board c)) → Way a rest → Modest TimelyInOrder 0 (plan_on a) a.stream a.events → InTimeFromSource a rest

abbrev pub FromSourceOnArrival : Scheduler → Type 0
FromSourceOnArrival c =
    (late : ℕ) (a : Board c) (rest : List (Board c)) → WayOnArrival a rest → KeepsShares late 0 (plan_on a) a.stream a.events
    → InTimeFromSource a rest
