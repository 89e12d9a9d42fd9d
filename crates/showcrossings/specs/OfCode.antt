-- The streams of a show over crossings that the code plays. RULES 27.13. Assumes nothing.
use Rattle.std.specs.Prelude.{ℕ, ◌<◌, ◌≡◌, List, ◌∷◌, [], get_or, length}
use Rattle.std.proofs.Math.Option.{some, none}
use Rattle.model.specs.Tables.{tally}
use Rattle.model.specs.History.{lends, of_flow}
use Rattle.model.specs.Scheduler.{reference}
use Rattle.arrival.specs.SeveralLinks.{Board, plan_on}
use Rattle.arrival.specs.CreditedByNext.{ModestFirst}
use Rattle.plan.specs.Reading.{plan_for}
use Rattle.delay.specs.Promised.{last_board}
use Rattle.mesh.specs.Way.{way}
use Rattle.show.specs.Show.{Show, show_stream, refusal}
use Rattle.show.specs.Delay.{OnLinks, EnoughCells, InTime, AllInTime}
use Rattle.crossings.specs.Crossing as crossings
use Rattle.crossings.specs.Claim.{Onward}
use Rattle.crossing.specs.declared.Crossing.{Crossing}
use Rattle.crossing.specs.Reading.{onward_of}
use Rattle.crossing.specs.CodePlayed.{InHand}
use Rattle.showcrossings.specs.Ways.{GivesBack}

-- Between a and b lies a crossing that the code plays, by `serve` or `cross`: its two states and the tiles that wait are in hand, as contracts say, and
-- what was asked of its links are the events of a and of b.
pub record CodeCrossed (a b : Board reference) : Type 0 where
  pub crossing : Crossing
  pub so_far : crossings.Crossing
  pub state₁ : List ℕ
  pub state₂ : List ℕ
  pub waiting : List ℕ
  pub in_hand : InHand crossing so_far state₁ state₂ waiting
  pub plan₁ : plan_for crossing.arriving ≡ plan_on a
  pub plan₂ : plan_for crossing.leaving ≡ plan_on b
  pub goes_on : Onward (plan_on a) (plan_on b) (onward_of crossing)
  pub stream_goes_on : get_or (onward_of crossing) a.stream none ≡ some b.stream
  pub arriving_is : so_far.arriving.history ≡ a.events
  pub leaving_is : so_far.leaving.history ≡ b.events
  pub not_lent : tally (of_flow b.stream) (lends b.events) ≡ 0

-- so from link to link
abbrev pub CodeCrossedAlong : Board reference → List (Board reference) → Type 0
CodeCrossedAlong a [] = Unit {0}
CodeCrossedAlong a (b ∷ rest) = CodeCrossed a b × CodeCrossedAlong b rest

-- in none of the arrays that the code has of its tiles that wait one of the stream is counted
abbrev pub NoneWaiting : (a : Board reference) (rest : List (Board reference)) → CodeCrossedAlong a rest → Type 0
NoneWaiting a [] crossed = Unit {0}
NoneWaiting a (b ∷ rest) crossed = (get_or crossed.0.waiting a.stream 0 ≡ 0) × NoneWaiting b rest crossed.1

pub record CodeArrives (show : Show) (i : ℕ) (a : Board reference) (rest : List (Board reference)) (crossed : CodeCrossedAlong a rest) : Type 0 where
  pub none_waiting : NoneWaiting a rest crossed
  pub in_time : InTime show i a rest
  pub all_in_time : AllInTime show i a rest

-- RULES 27.13: that it is so is `code-dome-arrives`, in proofs/OfCode.antt.
abbrev pub CodeDomeArrives : Type 0
CodeDomeArrives =
    (show : Show) → refusal show ≡ 0 → (i : ℕ) → i < length show.streams → (late : ℕ) → EnoughCells show late i
    → (a : Board reference) (rest : List (Board reference)) → OnLinks show i (way (show_stream show i).stream) (a ∷ rest)
    → ModestFirst (plan_on a) a.stream a.events → GivesBack late (last_board a rest) → (crossed : CodeCrossedAlong a rest)
    → CodeArrives show i a rest crossed
