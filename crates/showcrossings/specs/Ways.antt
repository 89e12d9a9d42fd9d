-- A stream's way of links, with a crossing between each two, and what follows of it. RULES 27.11. By calls, answers and tiles that wait. Assumes
-- nothing.
use Rattle.std.specs.Prelude.{ℕ, ◌+◌, ◌*◌, ◌≤◌, ◌≡◌, List, ◌∷◌, [], true, get_or}
use Rattle.std.proofs.Math.Option.{Option, some, none}
use Rattle.model.specs.Tables.{tally}
use Rattle.model.specs.Word.{flow_of}
use Rattle.model.specs.Plan.{entry}
use Rattle.model.specs.History.{well_formed, lends, of_flow}
use Rattle.model.specs.Claim.{Each, AtRequest}
use Rattle.model.specs.Scheduler.{reference}
use Rattle.model.specs.TwoHops.{InStep}
use Rattle.arrival.specs.SeveralLinks.{Board, plan_on}
use Rattle.arrival.specs.SharesOfCells.{GivenBack}
use Rattle.arrival.specs.CreditedByNext.{WayByCredits, ModestFirst}
use Rattle.arrival.specs.AllArrive.{AllAskedAlong}
use Rattle.delay.specs.Promised.{last_board}
use Rattle.crossings.specs.Crossing.{Crossing, waits}
use Rattle.crossings.specs.Playing as playing
use Rattle.crossings.specs.Playing.{Other, Slot, played}
use Rattle.crossings.specs.Claim.{Onward}

-- ---- a crossing between two links

-- RULES 27.11: between a and b lies a crossing that `board` plays: a's events are those of its in-link, and b's those of its out-link. The stream of a goes on
-- as that of b, and is lent no slot there. What others ask of the two links is open; that of the crossings before and after this one is among it.
pub record Crossed (board : playing.Board) (a b : Board reference) : Type 0 where
  pub onward : List (Option ℕ)
  pub goes_on : Onward (plan_on a) (plan_on b) onward
  pub stream_goes_on : get_or onward a.stream none ≡ some b.stream
  pub begin : List Other
  pub slots : List Slot
  pub arriving_is : (played board (plan_on a) (plan_on b) onward begin slots).arriving.history ≡ a.events
  pub leaving_is : (played board (plan_on a) (plan_on b) onward begin slots).leaving.history ≡ b.events
  pub not_lent : tally (of_flow b.stream) (lends b.events) ≡ 0

abbrev pub crossing_of : {board : playing.Board} {a b : Board reference} → Crossed board a b → Crossing
crossing_of {board} {a} {b} x = played board (plan_on a) (plan_on b) x.onward x.begin x.slots

-- RULES 27.11: so from link to link
abbrev pub CrossedAlong : playing.Board → Board reference → List (Board reference) → Type 0
CrossedAlong board a [] = Unit {0}
CrossedAlong board a (b ∷ rest) = Crossed board a b × CrossedAlong board b rest

-- RULES 27.11: where the stream ends, its cells are given back `late` frames late
abbrev pub GivesBack : (late : ℕ) → Board reference → Type 0
GivesBack late b =
    Each (AtRequest (λ w h. well_formed (plan_on b) w ≡ true → flow_of w ≡ b.stream → GivenBack late (plan_on b) b.stream h)) b.events

-- ---- the plans

-- b is the next link after a: F and W are equal, the stream's share is no smaller on b, and it has two shares of cells on a
pub record PlansJoin (a b : Board reference) : Type 0 where
  pub in_step : InStep (plan_on a) (plan_on b)
  pub share_kept : (entry (plan_on a) a.stream).share ≤ (entry (plan_on b) b.stream).share
  pub two_shares : 2 * (entry (plan_on a) a.stream).share ≤ (entry (plan_on a) a.stream).cells

-- so from link to link, with late + 2 shares of cells on the last. RULES 22.8.
abbrev pub PlansFit : (late : ℕ) → Board reference → List (Board reference) → Type 0
PlansFit late a [] = (late + 2) * (entry (plan_on a) a.stream).share ≤ (entry (plan_on a) a.stream).cells
PlansFit late a (b ∷ rest) = PlansJoin a b × PlansFit late b rest

-- ---- what follows

-- RULES 27.12: no tile of the stream waits at any of the crossings
abbrev pub NoneWaits : (board : playing.Board) (a : Board reference) (rest : List (Board reference)) → CrossedAlong board a rest → Type 0
NoneWaits board a [] crossed = Unit {0}
NoneWaits board a (b ∷ rest) crossed = (waits (crossing_of crossed.0) a.stream ≡ 0) × NoneWaits board b rest crossed.1

-- RULES 27.12: and its requests and credits on each link are those that the theorems on arrival ask for
pub record PassedAlong (board : playing.Board) (late : ℕ) (a : Board reference) (rest : List (Board reference)) (crossed : CrossedAlong board a rest) : Type 0 where
  pub none_waits : NoneWaits board a rest crossed
  pub by_credits : WayByCredits late a rest
  pub all_asked : AllAskedAlong a rest

-- So it is where the source is modest: `passes-along`, in proofs/Ways.antt, of our board.
abbrev pub PassesAlong : playing.Board → Type 0
PassesAlong board =
    (late : ℕ) (a : Board reference) (rest : List (Board reference)) → PlansFit late a rest → ModestFirst (plan_on a) a.stream a.events
    → GivesBack late (last_board a rest) → (crossed : CrossedAlong board a rest) → PassedAlong board late a rest crossed
