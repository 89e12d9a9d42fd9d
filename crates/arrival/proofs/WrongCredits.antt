-- Schedulers that refuse credits of cells that are held are sent back by `CreditAccepted`. Assumes nothing.
use Prim.Native.Nat.{ℕ, suc, max}
use mathlib.Core.Path.{refl}
use mathlib.Core.Logic.Dec
use mathlib.Core.List.{◌∷◌, []}
use native.Mathlib.Omega.{arith}
use native.Mathlib.Decide.{dec_le, dec_lt}
use Rattle.model.specs.Plan.{Plan, plan_of}
use Rattle.model.specs.Calls.{Call, History}
use Rattle.model.specs.History.{ticks, has_come}
use Rattle.model.specs.Scheduler.{run, reference}
use Rattle.model.specs.PlanBytes.{one_cell}
use Rattle.arrival.specs.AcceptedCredits.{HoldsFrom, GivesBackFrom, CreditAccepted}
use Rattle.arrival.specs.WrongCredits.{takes_no_credit, rests_at_last}
use Rattle.model.proofs.Decidable.{same, implies, is_false, everywhere, proved}
use Rattle.model.proofs.PastMarks.{end, same-granted, same-lent, same-credited}
use Rattle.arrival.proofs.DelayDecided.{delays-compute}

-- ---- whether a flow can give a cell back is decided

unfoldable holds-from : (P : Plan) (i s : ℕ) (h : History) → Dec (HoldsFrom P i s h)
holds-from P i s h =
    everywhere (suc (max s (end P h))) (λ r. implies (dec_le _ _) (dec_lt _ _))
    (λ below r past le.
    let u = max s (end P h) in
    let x = below u (omega arith) (omega arith) in
    let g = same-granted P h i r u (omega arith) (omega arith) in
    let l = same-lent P h i r u (omega arith) (omega arith) in
    let c = same-credited P h i r u (omega arith) (omega arith) in
    omega arith)

unfoldable gives-back-from : (P : Plan) (i p : ℕ) (h : History) → Dec (GivesBackFrom P i p h)
gives-back-from P i p h =
    same (λ r. record { known = r.0.0; position = r.0.1; later = r.1.0; holds = r.1.1 }) (λ x. ((x.known, x.position), (x.later, x.holds)))
    (Dec.and (Dec.and (dec_lt _ _) (dec_lt _ _)) (Dec.and (is_false (has_come P (ticks h) p)) (holds-from P i _ h)))

-- ---- F = 4, one flow: slot 1 is granted to it

-- a credit of it, dated slot 1, is refused
pub takes-no-credit : CreditAccepted takes_no_credit → ⊥
unfolding delays-compute holds-from gives-back-from
takes-no-credit accepts =
    let calls = Call.request 0x24000000 ∷ [] in
    let h = (run takes_no_credit (plan_of one_cell) calls).history in
    (accepts one_cell refl (Call.request 0x24000000 ∷ Call.credit 0 1 ∷ [])).0.1 (proved (gives-back-from (plan_of one_cell) 0 1 h) tt)

-- and in slot 3 one that is dated slot 4
pub rests-at-last : CreditAccepted rests_at_last → ⊥
unfolding delays-compute holds-from gives-back-from
rests-at-last accepts =
    let h = (run rests_at_last (plan_of one_cell) (Call.request 0x24000000 ∷ Call.tick ∷ Call.tick ∷ Call.tick ∷ [])).history in
    (accepts one_cell refl (Call.request 0x24000000 ∷ Call.tick ∷ Call.tick ∷ Call.tick ∷ Call.credit 0 4 ∷ [])).0.1
    (proved (gives-back-from (plan_of one_cell) 0 4 h) tt)

-- on the reference scheduler it can be given back there
pub accepted-at-last : GivesBackFrom (plan_of one_cell) 0 4 (run reference (plan_of one_cell) (Call.request 0x24000000 ∷ Call.tick ∷ Call.tick ∷ Call.tick ∷ [])).history
unfolding delays-compute holds-from gives-back-from
accepted-at-last = proved (gives-back-from (plan_of one_cell) 0 4 (run reference (plan_of one_cell) (Call.request 0x24000000 ∷ Call.tick ∷ Call.tick ∷ Call.tick ∷ [])).history) tt
