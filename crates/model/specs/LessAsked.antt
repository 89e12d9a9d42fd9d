-- What is asked of two runs, with one part of it left out: for pairs of runs that show what each part is for. RULES 21.11. Assumes nothing.
use Rattle.std.specs.Prelude.{ℕ, ◌≤◌, ◌<◌, ◌≡◌, List, ◌∷◌, [], ◌++◌, true}
use Rattle.model.specs.Tables.{tally}
use Rattle.model.specs.Word.{flow_of}
use Rattle.model.specs.Plan.{Plan, flow_count, plan_of, refusal}
use Rattle.model.specs.Calls.{Call, History}
use Rattle.model.specs.History.{ticks, frame_of, changes, well_formed, marks_of, in_frame}
use Rattle.model.specs.Claim.{Each, AtRequest, Room, Ready, ReadyAt}
use Rattle.model.specs.Scheduler.{Scheduler, Played, step, run}
use Rattle.model.specs.OtherPremises.{Premise, Both, Come, Numbered}
use Rattle.model.specs.TwoRuns.{Aligned, refusal11_at, AsksUntil11, SameFrame}

-- Q at each of flow i's well-formed requests
abbrev pub AtEachRequest : Premise → Plan → ℕ → History → Type 0
AtEachRequest Q P i = Each (AtRequest (λ w h. well_formed P w ≡ true → flow_of w ≡ i → Q P i w h))

abbrev pub HasRoom : Premise
HasRoom P i w h = Room P i h

-- all three: room, a tile that has come, and the expected number
abbrev pub IsReady : Premise
IsReady P i w h = Ready P i w h

-- Flow i is refused with 11 in each frame that counts, and Q holds at each of its well-formed requests. The current frame is one of them here: so by
-- either reading of 'in every frame' no other part is left out.
pub record AsksUntil11By (Counts : ℕ → Type 0) (Q : Premise) (P : Plan) (i : ℕ) (h : History) : Type 0 where
  pub refused_11_in_each_frame : (f : ℕ) → Counts f → f ≤ frame_of P (ticks h) → 0 < tally (in_frame P i f) (marks_of refusal11_at h)
  pub ready_at_each_request : AtEachRequest Q P i h

-- which frames count
abbrev pub EveryFrame : ℕ → Type 0
EveryFrame f = Unit {0}

abbrev pub EveryFrameBut : ℕ → ℕ → Type 0
EveryFrameBut g f = f ≡ g → ⊥

-- nothing left out
abbrev pub AllAsked : Plan → ℕ → History → Type 0
AllAsked = AsksUntil11By EveryFrame IsReady

-- without 'until refused with 11 in every frame', and without it in frame g alone
abbrev pub Without11 : Plan → ℕ → History → Type 0
Without11 P i = Each (ReadyAt P i)

abbrev pub Without11In : (g : ℕ) → Plan → ℕ → History → Type 0
Without11In g = AsksUntil11By (EveryFrameBut g) IsReady

-- without 'never holds all of its cells', without 'tiles that have come', and without 'the number which that run expects'
abbrev pub WithoutRoom : Plan → ℕ → History → Type 0
WithoutRoom = AsksUntil11By EveryFrame (Both Come Numbered)

abbrev pub WithoutCome : Plan → ℕ → History → Type 0
WithoutCome = AsksUntil11By EveryFrame (Both HasRoom Numbered)

abbrev pub WithoutNumber : Plan → ℕ → History → Type 0
WithoutNumber = AsksUntil11By EveryFrame (Both HasRoom Come)

-- Without 'There is no reset': two aligned runs in which there was a frame change have a reset each, and then the same request of the flow. Each run is
-- as it is asked to be, and the request is answered alike.
abbrev pub UnmovedByResetOn : Scheduler → Plan → Type 0
UnmovedByResetOn c P =
    (calls₁ calls₂ : List Call) (w : ℕ) → flow_of w < flow_count P → Aligned (flow_of w) (run c P calls₁).history (run c P calls₂).history
    → 1 ≤ changes P (run c P calls₁).history
    → (r₁ r₂ : Played c) → r₁ ≡ run c P (calls₁ ++ Call.reset ∷ []) → r₂ ≡ run c P (calls₂ ++ Call.reset ∷ [])
    → AsksUntil11 P (flow_of w) (step c r₁ (Call.request w)).history → AsksUntil11 P (flow_of w) (step c r₂ (Call.request w)).history
    → SameFrame P r₁.history (c.request r₁.state w).1 r₂.history (c.request r₂.state w).1

abbrev pub UnmovedByReset : Scheduler → Type 0
UnmovedByReset c = (bytes : List ℕ) → refusal bytes ≡ 0 → UnmovedByResetOn c (plan_of bytes)
