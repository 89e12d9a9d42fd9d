-- Two runs that meet what is asked of them, over two frame changes: neighbours, lends, numbers and the slot of a request differ, and a credit is taken
-- in one of them alone. Assumes nothing.
use mathlib.Core.Path.{◌≡◌, refl}
use mathlib.Core.List.{List, ◌∷◌, [], reverse}
use mathlib.Core.Option.{some, none}
use native.Mathlib.Omega.{arith}
use lib.Dec.{lit<}
use Rattle.model.specs.Tables.{tally}
use Rattle.model.specs.Plan.{Plan, plan_of, refusal}
use Rattle.model.specs.Calls.{Call, History, requested, credited, ticked, lent, accepted, refused}
use Rattle.model.specs.History.{changes, WasGranted}
use Rattle.model.specs.Scheduler.{run, reference}
use Rattle.model.specs.PlanBytes.{unequal}
use Rattle.model.specs.TwoRuns.{Aligned, AsksUntil11, SameFrames}
use Rattle.model.specs.Outlines.{outline}
use Rattle.model.proofs.Unfoldings.{plans-compute, calls-compute, counts-compute}
use Rattle.model.proofs.Decidable.{proved}
use Rattle.model.proofs.ClaimDecided.{persistent}
use Rattle.model.proofs.SameFrames.{same-frames}
use Rattle.model.proofs.Outlines.{aligned-by}
use Rattle.model.proofs.TwoRunsDecided.{asks-until-11}

abbrev P : Plan
P = plan_of unequal

-- Slot 0 is lent to flow 0. Flow 1 asks for nothing; slot 2 is lent to it.
abbrev calls₁ : List Call
calls₁ =
    Call.lend 1 ∷ Call.request 0x24000000 ∷ Call.request 0x24000400 ∷ Call.request 0x24000800 ∷ Call.credit 0 1
    ∷ Call.tick ∷ Call.tick ∷ Call.lend 3 ∷ Call.tick ∷ Call.tick
    -- frame 1: flow 0 asks; one of its words has a departure that is no position
    ∷ Call.request 0x24000804 ∷ Call.request 0x24000C08 ∷ Call.request 0x24000C04
    -- frame 2
    ∷ Call.tick ∷ Call.tick ∷ Call.tick ∷ Call.tick ∷ Call.request 0x24000C00 ∷ Call.request 0x24001000 ∷ []

-- Slot 0 is lent to flow 1, which then takes slots 1 to 3, then 5 to 7, and slot 8 of frame 2, and gives a cell back. There is a word of flow 2, too.
abbrev calls₂ : List Call
calls₂ =
    Call.lend 2 ∷ Call.request 0x24100000 ∷ Call.request 0x24100400 ∷ Call.request 0x24100800
    ∷ Call.request 0x24000000 ∷ Call.request 0x24000400 ∷ Call.credit 1 2 ∷ Call.request 0x24000400 ∷ Call.credit 0 1
    ∷ Call.tick ∷ Call.tick ∷ Call.tick ∷ Call.tick
    ∷ Call.request 0x24100C04 ∷ Call.request 0x24101004 ∷ Call.request 0x24101404 ∷ Call.request 0x24101804 ∷ Call.request 0x24200004
    ∷ Call.request 0x24000404 ∷ Call.request 0x24000808 ∷ Call.request 0x24000804
    ∷ Call.tick ∷ Call.tick ∷ Call.tick ∷ Call.tick ∷ Call.request 0x24000800 ∷ Call.request 0x24000C00 ∷ []

abbrev h₁ : History
h₁ = (run reference P calls₁).history

abbrev h₂ : History
h₂ = (run reference P calls₂).history

-- what the calls come to, oldest first
pub come-to₁ :
    reverse h₁
    ≡ lent 1 (accepted 0) ∷ requested 0x24000000 (accepted 0x24000001) ∷ requested 0x24000400 (accepted 0x24000404) ∷ requested 0x24000800 (refused 11)
    ∷ credited 0 1 (accepted tt) ∷ ticked (some 0) ∷ ticked none ∷ lent 3 (accepted 1) ∷ ticked none ∷ ticked (some 0)
    ∷ requested 0x24000804 (accepted 0x24000800) ∷ requested 0x24000C08 (refused 10) ∷ requested 0x24000C04 (refused 11)
    ∷ ticked none ∷ ticked none ∷ ticked none ∷ ticked (some 0) ∷ requested 0x24000C00 (accepted 0x24000C04) ∷ requested 0x24001000 (refused 11) ∷ []
unfolding calls-compute
come-to₁ = refl

pub come-to₂ :
    reverse h₂
    ≡ lent 2 (accepted 1) ∷ requested 0x24100000 (accepted 0x24100001) ∷ requested 0x24100400 (accepted 0x24100402)
    ∷ requested 0x24100800 (accepted 0x24100803) ∷ requested 0x24000000 (accepted 0x24000004) ∷ requested 0x24000400 (refused 11)
    ∷ credited 1 2 (accepted tt) ∷ requested 0x24000400 (refused 11) ∷ credited 0 1 (refused 15)
    ∷ ticked (some 1) ∷ ticked (some 1) ∷ ticked (some 1) ∷ ticked (some 0)
    ∷ requested 0x24100C04 (accepted 0x24100C05) ∷ requested 0x24101004 (accepted 0x24101006) ∷ requested 0x24101404 (accepted 0x24101407)
    ∷ requested 0x24101804 (accepted 0x24101800) ∷ requested 0x24200004 (refused 8)
    ∷ requested 0x24000404 (accepted 0x24000401) ∷ requested 0x24000808 (refused 10) ∷ requested 0x24000804 (refused 11)
    ∷ ticked (some 1) ∷ ticked (some 1) ∷ ticked (some 1) ∷ ticked (some 1)
    ∷ requested 0x24000800 (accepted 0x24000804) ∷ requested 0x24000C00 (refused 11) ∷ []
unfolding calls-compute
come-to₂ = refl

pub accepted_plan : refusal unequal ≡ 0
unfolding plans-compute
accepted_plan = refl

pub aligned : Aligned 0 h₁ h₂
unfolding calls-compute tally outline
aligned = aligned-by 0 h₁ refl h₂ refl refl

pub both-ask-until-11 : AsksUntil11 P 0 h₁ × AsksUntil11 P 0 h₂
unfolding calls-compute counts-compute persistent asks-until-11
both-ask-until-11 = (proved (asks-until-11 P 0 h₁) tt, proved (asks-until-11 P 0 h₂) tt)

pub frame_changes : (changes P h₁ ≡ 2) × (changes P h₂ ≡ 2)
unfolding calls-compute counts-compute
frame_changes = (refl, refl)

-- The first request of frame 1 is granted slot 8 in the one run and slot 9 in the other, both of frame 2.
pub other-slots : (WasGranted P h₁ 0 8 × (WasGranted P h₂ 0 8 → ⊥)) × (WasGranted P h₂ 0 9 × (WasGranted P h₁ 0 9 → ⊥))
unfolding calls-compute counts-compute
other-slots = ((lit< tt, λ x. omega arith), (lit< tt, λ x. omega arith))

-- what `same-frames` says of them
pub frames-are-the-same : SameFrames P 1 aligned
frames-are-the-same = same-frames unequal accepted_plan calls₁ calls₂ 0 (lit< tt) aligned both-ask-until-11.0 both-ask-until-11.1
