-- The link on which a stream ends: its tiles are shown, and then their cells are credited. RULES 27.5 and 27.14. Assumes nothing.
use Rattle.std.specs.Prelude.{ℕ, ◌+◌, ◌-◌, ◌≤◌, ◌<◌, ◌≡◌, List, ◌∷◌, [], Bool, true, false, not, ◌&&◌, cond, leb, eqb}
use Rattle.model.specs.Tables.{bit, tally}
use Rattle.model.specs.Word.{flow_of}
use Rattle.model.specs.Plan.{Plan}
use Rattle.model.specs.Calls.{Call, History}
use Rattle.model.specs.History.{ticks, frame_of, well_formed, credits, of_flow, granted_up_to}
use Rattle.model.specs.Claim.{Each, AtRequest}
use Rattle.model.specs.Scheduler.{Played, reference, started, step}
use Rattle.arrival.specs.AcceptedCredits.{AtCredit, IsAccepted}
use Rattle.arrival.specs.Delay.{current_frame}
use Rattle.arrival.specs.SeveralLinks.{Board, plan_on}
use Rattle.arrival.specs.EnoughCells.{returns}
use Rattle.arrival.specs.CreditedByNext.{ModestFirst}
use Rattle.show.specs.Delay.{EnoughCells}
use Rattle.crossings.specs.Crossing.{shown}
use Rattle.crossings.specs.Playing as playing
use Rattle.crossings.specs.Playing.{is_flow}
use Rattle.showcrossings.specs.Ways.{GivesBack}
use Rattle.showcrossings.specs.Dome.{DomeArrivesBy}

-- ---- how it is played

-- the link ticks, someone calls it, or a tile of the stream was shown
pub data EndAct : Type 0 where
  tick_on : EndAct
  call_it : Call → EndAct
  show_one : EndAct

-- the link, and how many tiles of the stream came and were not shown yet
pub record End : Type 0 where
  pub link : Played reference
  pub kept : ℕ

-- RULES 27.14: others don't credit flow i
abbrev pub others_may : (i : ℕ) → Call → Bool
others_may i (Call.request w) = true
others_may i (Call.credit k p) = not (eqb k i)
others_may i Call.tick = false
others_may i (Call.lend m) = true
others_may i Call.reset = true

-- RULES 27.5: of flow i; nothing is done where no tile is kept
abbrev pub end_act : (i : ℕ) → EndAct → End → End
end_act i tick_on x = record { link = step reference x.link Call.tick; kept = x.kept + bit (is_flow i (reference.tick x.link.state).1) }
end_act i (call_it c) x = cond (others_may i c) (record { link = step reference x.link c; kept = x.kept }) x
end_act i show_one x = cond (eqb x.kept 0) x (record { link = shown i x.link; kept = x.kept - 1 })

abbrev pub end_acts : (i : ℕ) → List EndAct → End → End
end_acts i [] x = x
end_acts i (a ∷ acts) x = end_acts i acts (end_act i a x)

abbrev pub end_played : Plan → (i : ℕ) → List EndAct → End
end_played P i acts = end_acts i acts (record { link = started reference P; kept = 0 })

-- ---- what follows

-- RULES 27.14: each credit of the stream is taken, and there is one for each tile that was shown
pub record EndsWell (P : Plan) (i : ℕ) (x : End) : Type 0 where
  pub all_accepted : Each (AtCredit (λ k p a h. k ≡ i → IsAccepted a)) x.link.history
  pub none_lost : granted_up_to P x.link.history i (ticks x.link.history) ≡ x.kept + tally (of_flow i) (credits P x.link.history)

-- After h the tiles of flow i that came up more than `late` frames back were shown at most `late` frames after the one in which each came.
abbrev pub ShownBy : (late : ℕ) → Plan → ℕ → History → Type 0
ShownBy late P i h =
    (s : ℕ) → frame_of P s + late < current_frame P h
    → granted_up_to P h i s ≤ tally (λ r. eqb r.flow i && leb (frame_of P r.made) (frame_of P s + late)) (returns P h)

-- the events of b are of such a link, and at each request of the stream its tiles were shown so
pub record ShownThere (late : ℕ) (b : Board reference) : Type 0 where
  pub acts : List EndAct
  pub events_are : (end_played (plan_on b) b.stream acts).link.history ≡ b.events
  pub shown_by : Each (AtRequest (λ w h. well_formed (plan_on b) w ≡ true → flow_of w ≡ b.stream → ShownBy late (plan_on b) b.stream h)) b.events

-- RULES 27.14: then cells are given back so late, as `DomeArrives` asks: `shown-ends-well` and `shown-gives-back`, in proofs/Ends.antt.
abbrev pub ShownGivesBack : Type 0
ShownGivesBack = (late : ℕ) (b : Board reference) → ShownThere late b → GivesBack late b

-- RULES 27.14: so `DomeArrives` with tiles that are shown in time: `dome-arrives-shown`, there.
abbrev pub DomeArrivesShown : playing.Board → Type 0
DomeArrivesShown = DomeArrivesBy EnoughCells ModestFirst ShownThere
