-- The boards of a show, played by the code: `show::write`, `plan::read`, `Link::fresh`, and any calls on the link by value. RULES 25.5. Assumes nothing.
use Rattle.std.specs.Prelude.{ℕ, ◌≤◌, ◌<◌, ◌≡◌, Result, Ok, List, ◌∷◌, [], length, take}
use Rattle.model.specs.Tables.{tally}
use Rattle.model.specs.Calls.{History}
use Rattle.model.specs.History.{is_granted_reset}
use Rattle.model.specs.Scheduler.{reference}
use Rattle.arrival.specs.SeveralLinks.{Board, plan_on}
use Rattle.arrival.specs.CreditedByNext.{ModestFirst}
use Rattle.arrival.specs.AllArrive.{AllAskedAlong}
use Rattle.limits.specs.declared.refusal.Refusal.{Refusal}
use Rattle.plan.specs.declared.Plan.{Plan}
use Rattle.plan.specs.Reading.{ReadAs, Valid}
use Rattle.link.specs.declared.Link as code
use Rattle.link.specs.Handed.{Handed}
use Rattle.mesh.specs.Mesh.{Link}
use Rattle.mesh.specs.Way.{In, way}
use Rattle.show.specs.Show.{Show, show_stream, flow_on, refusal}
use Rattle.show.specs.Delay.{PassedAlong, EnoughCells, InTime, AllInTime}
use Rattle.show.specs.Promises.{Wrote}

-- What the code did with a link: `show::write` left its plan in a buffer, `plan::read` accepted that, `Link::fresh` made a link of it, and calls on it have
-- these events, with no reset granted. What each handed back is as its contract says.
pub record CodeLink (show : Show) (l : Link) : Type 0 where
  pub before : List ℕ
  pub after : List ℕ
  pub answer : Result ℕ Refusal
  pub room : 76 ≤ length before
  pub wrote : Wrote show l before answer after
  pub count : ℕ
  pub bytes : answer ≡ Ok count
  pub accepted : Plan
  pub read : ReadAs (take count after) (Ok accepted)
  pub valid : Valid accepted
  pub events : History
  pub link : code.Link
  pub handed : Handed accepted events link
  pub unreset : tally is_granted_reset events ≡ 0

-- board b has this plan and these events, and its stream is stream i of the show
pub record OfCode (show : Show) (i : ℕ) (l : Link) (b : Board reference) : Type 0 where
  pub made : CodeLink show l
  pub bytes_are : b.bytes ≡ take made.count made.after
  pub events_are : b.events ≡ made.events
  pub flow_is : b.stream ≡ flow_on show l i

-- the board of what the code did
pub record BoardOf (show : Show) (i : ℕ) (l : Link) (m : CodeLink show l) : Type 0 where
  pub board : Board reference
  pub of_code : OfCode show i l board
  pub has_events : board.events ≡ m.events

-- There is one for each link of a stream's way: `code-boards`, in proofs/CodeInTime.antt.
abbrev pub CodeBoards : Type 0
CodeBoards =
    (show : Show) → refusal show ≡ 0 → (i : ℕ) → i < length show.streams → (l : Link) → In l (way (show_stream show i).stream) → (m : CodeLink show l)
    → BoardOf show i l m

-- so of the boards of several links
abbrev pub AllOfCode : Show → ℕ → List Link → List (Board reference) → Type 0
AllOfCode show i [] [] = Unit {0}
AllOfCode show i [] (b ∷ bs) = ⊥
AllOfCode show i (l ∷ ls) [] = ⊥
AllOfCode show i (l ∷ ls) (b ∷ bs) = OfCode show i l b × AllOfCode show i ls bs

-- The streams of a show that the code plays are in time: `code-in-time`, there.
abbrev pub CodeInTime : Type 0
CodeInTime =
    (show : Show) → refusal show ≡ 0 → (i : ℕ) → i < length show.streams → (late : ℕ) → EnoughCells show late i
    → (a : Board reference) (rest : List (Board reference)) → AllOfCode show i (way (show_stream show i).stream) (a ∷ rest)
    → ModestFirst (plan_on a) a.stream a.events → PassedAlong late a rest → InTime show i a rest

-- and where each tile is asked for on the next board, all of them arrive: `code-all-in-time`, there
abbrev pub CodeAllInTime : Type 0
CodeAllInTime =
    (show : Show) → refusal show ≡ 0 → (i : ℕ) → i < length show.streams → (late : ℕ) → EnoughCells show late i
    → (a : Board reference) (rest : List (Board reference)) → AllOfCode show i (way (show_stream show i).stream) (a ∷ rest)
    → ModestFirst (plan_on a) a.stream a.events → PassedAlong late a rest → AllAskedAlong a rest → AllInTime show i a rest
