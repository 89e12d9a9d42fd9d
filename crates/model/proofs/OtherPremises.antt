-- The least count holds for words that name tiles which have come, by the test of their departure against CP, and carry the expected numbers. It does
-- not hold without one of the two; nor where it is enough that a slot at that position has gone by, or where numbers start afresh with a reset. Assumes
-- nothing.
use Prim.Native.Nat.{ℕ, ◌%◌}
use mathlib.Core.Path.{refl}
use mathlib.Core.Logic.Dec
use mathlib.Core.List.{◌∷◌, []}
use native.Mathlib.Omega.{arith}
use native.Mathlib.Decide.{dec_le, ℕ_discrete}
use lib.Dec.{lit<}
use Rattle.model.specs.Word.{flow_of, quantum_of, departure_of}
use Rattle.model.specs.Plan.{Plan, plan_of}
use Rattle.model.specs.Calls.{Call, Event, History, requested, credited, ticked, lent}
use Rattle.model.specs.History.{ticks, well_formed, has_come, granted, expected_number}
use Rattle.model.specs.Claim.{ReadyAt, Clause}
use Rattle.model.specs.Scheduler.{run, reference}
use Rattle.model.specs.PlanBytes.{listing, one_share}
use Rattle.model.specs.OtherPremises.{Premise, Both, ReadyBy, PersistentBy, LeastBy, Come, Numbered, SlotGone, NumberedSince}
use Rattle.model.proofs.Unfoldings.{plans-compute, calls-compute, counts-compute}
use Rattle.model.proofs.Decidable.{proved, same, implies, is_true}
use Rattle.model.proofs.ClaimDecided.{at-request, has_room, each-since, refused-in-each, persistent}
use Rattle.model.proofs.Demand3.{each-since-map, meets}

-- ---- it holds for words as the claim says them

ready-by-claim : (P : Plan) (i : ℕ) (e : Event) (h : History) → ReadyBy (Both Come Numbered) P i e h → ReadyAt P i e h
ready-by-claim P i (requested w a) h x = λ well own. let r = x well own in record { room = r.0; come = r.1.0; number = r.1.1 }
ready-by-claim P i (credited j p a) h x = tt
ready-by-claim P i (ticked a) h x = tt
ready-by-claim P i (lent m a) h x = tt
ready-by-claim P i (Event.reset a) h x = tt

pub least-by-claim : LeastBy (Both Come Numbered)
least-by-claim bytes passes calls i known p =
    meets bytes passes calls i known Clause.least (record {
      refused_in_each_frame = p.refused_in_each_frame;
      ready_at_each_request = each-since-map _ _ (ready-by-claim (plan_of bytes) i) (run reference (plan_of bytes) calls).history p.ready_at_each_request;
    })

-- ---- it does not hold by less

-- a premise that can be decided
abbrev pub Decides : Premise → Type 0
Decides Q = (P : Plan) (i w : ℕ) (h : History) → Dec (Q P i w h)

unfoldable pub come : Decides Come
come P i w h = is_true (has_come P (ticks h) (departure_of w))

unfoldable pub numbered : Decides Numbered
numbered P i w h = ℕ_discrete (quantum_of w) (expected_number P h i)

unfoldable pub both : {Q R : Premise} → Decides Q → Decides R → Decides (Both Q R)
both q r P i w h = Dec.and (q P i w h) (r P i w h)

persistent-by : {Q : Premise} → Decides Q → (P : Plan) (i : ℕ) (h : History) → Dec (PersistentBy Q P i h)
unfolding persistent come numbered both
persistent-by q P i h =
    same (λ r. record { refused_in_each_frame = r.0; ready_at_each_request = r.1 }) (λ p. (p.refused_in_each_frame, p.ready_at_each_request))
    (Dec.and (refused-in-each P i h)
    (each-since
    (at-request λ w h. implies (is_true (well_formed P w)) (implies (ℕ_discrete (flow_of w) i) (Dec.and (has_room P i h) (q P i w h))))
    h))

-- one request with departure 7, on a fresh link: 20, where the least count is 2
pub not-any-departure : LeastBy Numbered → ⊥
unfolding plans-compute calls-compute counts-compute persistent persistent-by
not-any-departure least =
    let calls = Call.request 0x24000007 ∷ [] in
    let P = plan_of listing in
    let few = least listing refl calls 0 (lit< tt) (proved (persistent-by numbered P 0 (run reference P calls).history) tt) in
    omega (arith, few)

-- Share 1: slots 1 and 4 are granted, then 11; at slot 4 departure 3 gives 20, and at slot 8 departure 7. With k = 2 the least count is 3.
pub not-slot-gone : LeastBy (Both SlotGone Numbered) → ⊥
unfolding plans-compute calls-compute counts-compute persistent persistent-by
not-slot-gone least =
    let calls = Call.request 0x24000000 ∷ Call.request 0x24000400 ∷ Call.request 0x24000800 ∷ Call.tick ∷ Call.tick ∷ Call.tick ∷ Call.tick
    ∷ Call.request 0x24000803 ∷ Call.tick ∷ Call.tick ∷ Call.tick ∷ Call.tick ∷ Call.request 0x24000807 ∷ [] in
    let P = plan_of one_share in
    let gone : Decides SlotGone = λ P i w h. dec_le (departure_of w) (ticks h) in
    let few = least one_share refl calls 0 (lit< tt) (proved (persistent-by (both gone numbered) P 0 (run reference P calls).history) tt) in
    omega (arith, few)

-- one request with number 1, on a fresh link: 24, where the least count is 2
pub not-any-number : LeastBy Come → ⊥
unfolding plans-compute calls-compute counts-compute persistent persistent-by
not-any-number least =
    let calls = Call.request 0x24000400 ∷ [] in
    let P = plan_of listing in
    let few = least listing refl calls 0 (lit< tt) (proved (persistent-by come P 0 (run reference P calls).history) tt) in
    omega (arith, few)

-- Slot 1 is granted, served and given back. After a reset the number 0 again gives 24, where the least count since then is 2.
pub not-number-since : LeastBy (Both Come NumberedSince) → ⊥
unfolding plans-compute calls-compute counts-compute persistent persistent-by
not-number-since least =
    let calls = Call.request 0x24000000 ∷ Call.credit 0 1 ∷ Call.tick ∷ Call.reset ∷ Call.request 0x24000001 ∷ [] in
    let P = plan_of listing in
    let since : Decides NumberedSince = λ P i w h. ℕ_discrete (quantum_of w) (granted P h i % 1024) in
    let few = least listing refl calls 0 (lit< tt) (proved (persistent-by (both come since) P 0 (run reference P calls).history) tt) in
    omega (arith, few)
