-- With any part left out of what is asked of each run, or with a reset, the frames may differ; and before the first frame change they may in any case.
-- Each by a pair of short lists. Assumes nothing.
use Prim.Native.Nat.{ℕ, ◌<◌}
use mathlib.Core.Path.{◌≡◌, refl}
use mathlib.Core.List.{List, ◌∷◌, [], ◌++◌}
use native.Mathlib.Omega.{arith}
use native.Mathlib.Decide.{ℕ_discrete}
use lib.Dec.{lit<, lit≤}
use Rattle.model.specs.Plan.{Plan, flow_count, plan_of, refusal}
use Rattle.model.specs.Calls.{Call, History}
use Rattle.model.specs.Scheduler.{step, run, reference}
use Rattle.model.specs.PlanBytes.{plan1, unequal}
use Rattle.model.specs.TwoRuns.{SameFrames, UnmovedFrom}
use Rattle.model.specs.Outlines.{outline, NoReset}
use Rattle.model.specs.LessAsked.{HasRoom, EveryFrame, EveryFrameBut, AllAsked, Without11, Without11In}
use Rattle.model.specs.LessAsked.{WithoutRoom, WithoutCome, WithoutNumber, UnmovedByReset}
use Rattle.model.proofs.Unfoldings.{plans-compute, calls-compute, counts-compute}
use Rattle.model.proofs.Decidable.{IsYes, implies, proved}
use Rattle.model.proofs.ClaimDecided.{has_room, ready, persistent}
use Rattle.model.proofs.OtherPremises.{Decides, come, numbered, both}
use Rattle.model.proofs.Outlines.{aligned-by}
use Rattle.model.proofs.TwoRunsDecided.{asks-until-11, asks-until-11-by}

-- what the statement says of flow 0 in two lists of calls that keep its premise Q
module _ {Q : Plan → ℕ → History → Type 0} (decide : (P : Plan) (i : ℕ) (h : History) → Dec (Q P i h)) where
  module _ (k : ℕ) (bytes : List ℕ) (calls₁ calls₂ : List Call) where
    abbrev P : Plan
    P = plan_of bytes

    abbrev h₁ : History
    h₁ = (run reference P calls₁).history

    abbrev h₂ : History
    h₂ = (run reference P calls₂).history

    told : refusal bytes ≡ 0 → 0 < flow_count P → (none₁ : NoReset h₁) (none₂ : NoReset h₂) (same : outline 0 h₁ ≡ outline 0 h₂) → IsYes (decide P 0 h₁)
        → IsYes (decide P 0 h₂) → UnmovedFrom reference k Q → SameFrames P k (aligned-by 0 h₁ none₁ h₂ none₂ same)
    told passes known none₁ none₂ same yes₁ yes₂ unmoved =
        unmoved bytes passes calls₁ calls₂ 0 known (aligned-by 0 h₁ none₁ h₂ none₂ same) (proved (decide P 0 h₁) yes₁) (proved (decide P 0 h₂) yes₂)

unfoldable room : Decides HasRoom
room P i w h = has_room P i h

unfoldable every-frame : (f : ℕ) → Dec (EveryFrame f)
every-frame f = yes tt

unfoldable but : (g f : ℕ) → Dec (EveryFrameBut g f)
but g f = implies (ℕ_discrete f g) (no (λ x. x))

unfoldable pairs-compute : Unit {0}
unfolding plans-compute calls-compute counts-compute persistent asks-until-11 asks-until-11-by come numbered both room every-frame but outline aligned-by
pairs-compute = tt

-- ---- the calls

-- flow 1 takes the slots of the current frame after its first
abbrev neighbour : List Call
neighbour = Call.request 0x24100000 ∷ Call.request 0x24100400 ∷ Call.request 0x24100800 ∷ []

-- in frame 0: flow 0 is granted slots 1 and 4, or slot 4 after those, and then refused with 11
abbrev until11 : List Call
until11 = Call.request 0x24000000 ∷ Call.request 0x24000400 ∷ Call.request 0x24000800 ∷ []

-- from the first slot of a frame to that of the next
abbrev tick4 : List Call
tick4 = Call.tick ∷ Call.tick ∷ Call.tick ∷ Call.tick ∷ []

-- ---- before the first frame change

-- the first request of flow 0: slot 1, of frame 0, and slot 4, of frame 1
pub not-from-the-start : UnmovedFrom reference 0 AllAsked → ⊥
unfolding pairs-compute
not-from-the-start unmoved =
    let calls₂ = neighbour ++ Call.request 0x24000000 ∷ Call.request 0x24000400 ∷ Call.request 0x24000400 ∷ [] in
    let same = told (asks-until-11-by every-frame ready) 0 unequal until11 calls₂ refl (lit< tt) refl refl refl tt tt unmoved in
    omega (arith, same.1.1.0 (lit≤ tt))

-- ---- without 'until refused with 11 in every frame'

-- Flow 0 asks once in frame 0, and until it is refused with 11 in frame 1. There its first slot is 5, of frame 1, and 8, of frame 2.
pub not-without-11-in-frame-0 : UnmovedFrom reference 1 (Without11In 0) → ⊥
unfolding pairs-compute
not-without-11-in-frame-0 unmoved =
    let before = Call.request 0x24000000 ∷ tick4 ++ Call.request 0x24000404 ∷ [] in
    let calls₁ = before ++ Call.request 0x24000804 ∷ Call.request 0x24000C04 ∷ [] in
    let calls₂ = neighbour ++ before ++ Call.request 0x24000804 ∷ Call.request 0x24000804 ∷ [] in
    let same = told (asks-until-11-by (but 0) ready) 1 unequal calls₁ calls₂ refl (lit< tt) refl refl refl tt tt unmoved in
    omega (arith, same.1.1.0 (lit≤ tt))

-- It asks for nothing in frame 1. In frame 2 its first slot is 9, of that frame, and 12, of frame 3.
pub not-without-11-in-frame-1 : UnmovedFrom reference 1 (Without11In 1) → ⊥
unfolding pairs-compute
not-without-11-in-frame-1 unmoved =
    let before = until11 ++ tick4 ++ tick4 in
    let calls₁ = before ++ Call.request 0x24000800 ∷ Call.request 0x24000C00 ∷ Call.request 0x24001000 ∷ [] in
    let calls₂ = before ++ neighbour ++ Call.request 0x24000800 ∷ Call.request 0x24000C00 ∷ Call.request 0x24000C00 ∷ [] in
    let same = told (asks-until-11-by (but 1) ready) 1 unequal calls₁ calls₂ refl (lit< tt) refl refl refl tt tt unmoved in
    omega (arith, same.1.1.0 (lit≤ tt))

pub not-without-11 : UnmovedFrom reference 1 Without11 → ⊥
not-without-11 unmoved =
    not-without-11-in-frame-1
    (λ bytes passes calls₁ calls₂ i known aligned one two.
    unmoved bytes passes calls₁ calls₂ i known aligned one.ready_at_each_request two.ready_at_each_request)

-- ---- without 'never holds all of its cells'

-- One flow with 3 cells: slot 5 is lent to it in the second run, in which it then holds 3. Slot 8 is granted, or it is refused with 12. After a credit
-- it asks until it is refused with 11.
pub not-without-room : UnmovedFrom reference 1 WithoutRoom → ⊥
unfolding pairs-compute
not-without-room unmoved =
    let before = until11 ++ tick4 ++ Call.tick ∷ [] in
    let calls₁ = before ++ Call.request 0x24000805 ∷ Call.credit 0 7 ∷ Call.request 0x24000C05 ∷ Call.request 0x24000C05 ∷ [] in
    let calls₂ = before ++ Call.lend 1 ∷ Call.request 0x24000805 ∷ Call.credit 0 7 ∷ Call.request 0x24000805 ∷ Call.request 0x24000C05 ∷ [] in
    (told (asks-until-11-by every-frame (both come numbered)) 1 (plan1 4 2 16 1 3) calls₁ calls₂ refl (lit< tt) refl refl refl tt tt unmoved
    ).1.1.0 (lit≤ {n = 1} tt)

-- ---- without 'tiles that have come'

-- At slot 4 flow 0 asks for a tile that comes at slot 10. Slot 11 is granted, or it is refused with 20, where flow 1 has booked that slot. Then it asks
-- for a tile that has come until it is refused with 11.
pub not-without-come : UnmovedFrom reference 1 WithoutCome → ⊥
unfolding pairs-compute
not-without-come unmoved =
    let before = until11 ++ tick4 in
    let booked = Call.request 0x24100004 ∷ Call.request 0x24100404 ∷ Call.request 0x24100804
    ∷ Call.request 0x24100C00 ∷ Call.request 0x24101000 ∷ Call.request 0x24101400 ∷ [] in
    let calls₁ = before ++ Call.request 0x24000802 ∷ Call.request 0x24000C04 ∷ Call.request 0x24000C04 ∷ [] in
    let calls₂ = before ++ booked ++ Call.request 0x24000802 ∷ Call.request 0x24000804 ∷ Call.request 0x24000C04 ∷ [] in
    (told (asks-until-11-by every-frame (both room numbered)) 1 unequal calls₁ calls₂ refl (lit< tt) refl refl refl tt tt unmoved
    ).1.1.0 (lit≤ tt)

-- ---- without 'the number which that run expects'

-- The words of flow 0 are the same in both runs, numbers too. At slot 4 the first run expects 2, and the second 1: the word with 2 is granted slot 8, or
-- it is refused with 24. Then flow 0 asks until it is refused with 11, with words that one run or the other expects.
pub not-without-number : UnmovedFrom reference 1 WithoutNumber → ⊥
unfolding pairs-compute
not-without-number unmoved =
    let later = Call.request 0x24000404 ∷ Call.request 0x24000804 ∷ Call.request 0x24000C04 ∷ [] in
    let calls = until11 ++ tick4 ++ Call.request 0x24000804 ∷ later in
    (told (asks-until-11-by every-frame (both room come)) 1 unequal calls (neighbour ++ calls) refl (lit< tt) refl refl refl tt tt unmoved
    ).1.1.1.0 (lit≤ tt)

-- ---- without 'There is no reset'

-- Flow 0 has had both of its cells back, and at slot 5 there is a reset: it is granted, or refused with 23 where flow 1 has booked a slot. Then the slot of
-- flow 0 is 6, of frame 1, and 8, of frame 2.
pub not-with-a-reset : UnmovedByReset reference → ⊥
unfolding pairs-compute
not-with-a-reset unmoved =
    let calls = until11 ++ Call.credit 0 1 ∷ Call.credit 0 4 ∷ tick4 ++ Call.tick ∷ [] in
    let booked = calls ++ Call.request 0x24100005 ∷ [] in
    let P = plan_of unequal in
    let r₁ = run reference P (calls ++ Call.reset ∷ []) in
    let r₂ = run reference P (booked ++ Call.reset ∷ []) in
    let aligned = aligned-by 0 (run reference P calls).history refl (run reference P booked).history refl refl in
    let asks₁ = proved (asks-until-11 P 0 (step reference r₁ (Call.request 0x24000805)).history) tt in
    let asks₂ = proved (asks-until-11 P 0 (step reference r₂ (Call.request 0x24000805)).history) tt in
    omega (arith, unmoved unequal refl calls booked 0x24000805 (lit< tt) aligned (lit≤ tt) r₁ r₂ refl refl asks₁ asks₂)
