-- Two boards: what two hops ask can be met, neither the step nor the order can be left out, and schedulers are sent back on the second board. Assumes nothing.
use Prim.Native.Nat.{◌<◌}
use mathlib.Core.Path.{◌≡◌, refl}
use mathlib.Core.List.{List, ◌∷◌, []}
use mathlib.Core.Option.{some, none}
use native.Mathlib.Omega.{arith}
use lib.Dec.{lit<, lit≤}
use Rattle.model.specs.Plan.{Plan, plan_of}
use Rattle.model.specs.Calls.{Call, History, ticked}
use Rattle.model.specs.Scheduler.{Scheduler, run, reference}
use Rattle.model.specs.TwoHops.{InStep, GrantedIn, sent_at, LeavesAfter, LeavesAfterItCame}
use Rattle.model.specs.PlanBytes.{listing, roomy, single}
use Rattle.model.specs.WrongDepartures.{ignores_departure, leaves_at_departure}
use Rattle.model.proofs.Unfoldings.{plans-compute, calls-compute, counts-compute}

unfoldable hops-compute : Unit {0}
unfolding plans-compute calls-compute counts-compute
hops-compute = tt

-- ---- two boards with F = 4 and W = 2

abbrev P : Plan
P = plan_of listing

abbrev Q : Plan
Q = plan_of roomy

pub in_step : InStep P Q
in_step = record { slots = refl; frames = refl }

-- Both are asked in slot 3, the second with the position that the first granted.
abbrev early : History
early = ticked none ∷ ticked none ∷ ticked none ∷ []

pub first-grants : GrantedIn (run reference P (Call.tick ∷ Call.tick ∷ Call.tick ∷ Call.request 0x24000003 ∷ Call.tick ∷ [])).history 0x24000003 0x24000004 early
unfolding hops-compute
first-grants = record { later = ticked (some 0) ∷ []; is = refl }

pub second-grants : GrantedIn (run reference Q (Call.tick ∷ Call.tick ∷ Call.tick ∷ Call.request 0x24000004 ∷ [])).history 0x24000004 0x24000005 early
unfolding hops-compute
second-grants = record { later = []; is = refl }

pub slots_are : (sent_at P early 0x24000004 ≡ 4) × (sent_at Q early 0x24000005 ≡ 5)
unfolding hops-compute
slots_are = (refl, refl)

-- ---- with a part of the premise left out

-- F = 1 and W = 2 on the first board: in slot 1 it grants position 0, which is slot 2. On the second, with T = 8, position 0 has come, and slot 2 is granted.
pub not-out-of-step :
    LeavesAfter (plan_of single) P (run reference (plan_of single) (Call.tick ∷ Call.request 0x24000001 ∷ [])).history
    (run reference P (Call.tick ∷ Call.request 0x24000000 ∷ [])).history → ⊥
unfolding hops-compute
not-out-of-step claim =
    let one-tick = ticked none ∷ [] in
    let later = claim 0x24000001 0x24000000 0x24000000 0x24000002 one-tick one-tick (record { later = []; is = refl }) (record { later = []; is = refl }) refl (lit≤ tt) in
    omega (arith, later)

-- The second is asked in slot 0, and the first in slot 8: it sends in slot 9, and the second in slot 2.
abbrev round : List Call → List Call
round rest = Call.tick ∷ Call.tick ∷ Call.tick ∷ Call.tick ∷ Call.tick ∷ Call.tick ∷ Call.tick ∷ Call.tick ∷ rest

abbrev after_round : History
after_round = ticked none ∷ ticked none ∷ ticked none ∷ ticked none ∷ ticked none ∷ ticked none ∷ ticked none ∷ ticked none ∷ []

pub asked-too-late : GrantedIn (run reference P (round (Call.request 0x24000000 ∷ []))).history 0x24000000 0x24000001 after_round
unfolding hops-compute
asked-too-late = record { later = []; is = refl }

pub asked-before : GrantedIn (run reference Q (Call.request 0x24000001 ∷ [])).history 0x24000001 0x24000002 []
unfolding hops-compute
asked-before = record { later = []; is = refl }

pub not-asked-before : sent_at Q [] 0x24000002 < sent_at P after_round 0x24000001
unfolding hops-compute
not-asked-before = lit< tt

-- ---- schedulers: slot 1 is granted on the first board, and on the second for a tile that comes in slot 1

on-the-second : (c : Scheduler) → GrantedIn (run c P (Call.request 0x24000000 ∷ [])).history 0x24000000 0x24000001 []
    → GrantedIn (run c Q (Call.request 0x24000001 ∷ [])).history 0x24000001 0x24000001 [] → LeavesAfterItCame c → ⊥
unfolding hops-compute
on-the-second c one two claim =
    let later = claim listing roomy refl refl in_step (Call.request 0x24000000 ∷ []) (Call.request 0x24000001 ∷ [])
    0x24000000 0x24000001 0x24000001 0x24000001 [] [] one two refl (lit≤ tt) in
    omega (arith, later)

pub ignores-it-came : LeavesAfterItCame ignores_departure → ⊥
unfolding hops-compute
ignores-it-came = on-the-second ignores_departure (record { later = []; is = refl }) (record { later = []; is = refl })

pub leaves-as-it-comes : LeavesAfterItCame leaves_at_departure → ⊥
unfolding hops-compute
leaves-as-it-comes = on-the-second leaves_at_departure (record { later = []; is = refl }) (record { later = []; is = refl })
