-- The streams of a show over crossings: every tile arrives. RULES 27.13. By calls, answers and tiles that wait. Assumes nothing.
--
-- A show has no refusal, and a stream of it has its shares of cells. Each link of its way runs any list of calls from the link's plan, and between each two
-- of them lies a crossing that a board plays. On the first link the stream asks for tiles that have come, within its share; on
-- the last one its cells are given back `late` frames late. No reset is granted on these links, and it is lent nothing. What other streams ask, and when, is
-- open. That each tile is asked for as it comes, and its cell credited as it leaves, is no premise here: it follows of the crossings.
use Rattle.std.specs.Prelude.{ℕ, ◌<◌, ◌≡◌, List, ◌∷◌, length}
use Rattle.model.specs.Plan.{Plan}
use Rattle.model.specs.Calls.{History}
use Rattle.model.specs.Scheduler.{reference}
use Rattle.arrival.specs.SeveralLinks.{Board, plan_on}
use Rattle.arrival.specs.CreditedByNext.{ModestFirst}
use Rattle.delay.specs.Promised.{last_board}
use Rattle.mesh.specs.Way.{way}
use Rattle.show.specs.Show.{Show, show_stream, refusal}
use Rattle.show.specs.Delay.{OnLinks, EnoughCells, InTime, AllInTime}
use Rattle.crossings.specs.Playing as playing
use Rattle.showcrossings.specs.Ways.{CrossedAlong, GivesBack, NoneWaits}

-- RULES 27.13: of one stream and its links
pub record Arrives (board : playing.Board) (show : Show) (i : ℕ) (a : Board reference) (rest : List (Board reference)) (crossed : CrossedAlong board a rest)
    : Type 0 where
  -- no tile waits at a crossing
  pub none_waits : NoneWaits board a rest crossed
  -- every request is granted, and a tile that comes up on the last link does so within its bound
  pub in_time : InTime show i a rest
  -- and each tile that was granted a slot on the first link, or came to the source, has come up on the last one once its bound is over
  pub all_in_time : AllInTime show i a rest

-- The premises by name, so that each can be left out: the cells of the show, what the source does, and what is done where the stream ends.
abbrev pub DomeArrivesBy : (Cells : Show → (late i : ℕ) → Type 0) (Source : Plan → ℕ → History → Type 0) (Ends : (late : ℕ) → Board reference → Type 0)
    → playing.Board → Type 0
DomeArrivesBy Cells Source Ends board =
    (show : Show) → refusal show ≡ 0 → (i : ℕ) → i < length show.streams → (late : ℕ) → Cells show late i
    → (a : Board reference) (rest : List (Board reference)) → OnLinks show i (way (show_stream show i).stream) (a ∷ rest)
    → Source (plan_on a) a.stream a.events → Ends late (last_board a rest) → (crossed : CrossedAlong board a rest) → Arrives board show i a rest crossed

-- RULES 27.13: that our board keeps it is `dome-arrives`, in proofs/Dome.antt.
abbrev pub DomeArrives : playing.Board → Type 0
DomeArrives = DomeArrivesBy EnoughCells ModestFirst GivesBack
