-- Whether a flow is modest in a history, and whether its requests are timely, is decided by computation. Assumes nothing.
use Prim.Native.Nat.{ℕ, suc, ◌+◌, ◌≤◌, ◌<◌, max}
use mathlib.Core.Path.{◌≡◌}
use mathlib.Core.Logic.Dec
use mathlib.Core.List.{List}
use mathlib.Core.Bool.{and-false}
use native.Mathlib.Omega.{arith}
use native.Mathlib.Decide.{dec_le, dec_lt, ℕ_discrete}
use borrow.Author.Tests.{ne_eqb}
use Rattle.model.specs.Tables.{tally}
use Rattle.model.specs.Word.{flow_of, quantum_of}
use Rattle.model.specs.Plan.{Plan, entry}
use Rattle.model.specs.Calls.{Grant, Event, History, requested, credited, ticked, lent, accepted, refused}
use Rattle.model.specs.History.{Mark, frame_of, well_formed, in_frame, of_flow, granted_up_to, lent_up_to, credited_up_to, expected_number}
use Rattle.model.specs.OtherPremises.{Premise}
use Rattle.model.specs.LessAsked.{HasRoom}
use Rattle.arrival.specs.Delay.{due_slot, RoomFrom, made_since, due_since, TimelyFrom, Timely, FitsNewest}
use Rattle.arrival.specs.Delay.{IsGranted, AtAnswer, PromptOn}
use Rattle.arrival.specs.Delay.{Modest, ModestOnArrival}
use Rattle.arrival.specs.LessTimely.{DueInTime, Ordered}
use Rattle.model.proofs.Unfoldings.{plans-compute, calls-compute, counts-compute}
use Rattle.model.proofs.Decidable.{same, implies, is_true, everywhere}
use Rattle.model.proofs.PastMarks.{above, none-past, end, same-granted, same-lent, same-credited}
use Rattle.model.proofs.ClaimDecided.{at-request, has_room, ready_at, each, each-since, persistent}
use Rattle.model.proofs.OtherPremises.{Decides, come, numbered, both}

-- ---- an event

unfoldable pub at-answer : {Q : ℕ → Grant → History → Type 0} → ((w : ℕ) (a : Grant) (h : History) → Dec (Q w a h))
    → (e : Event) (h : History) → Dec (AtAnswer Q e h)
at-answer d (requested w a) h = d w a h
at-answer d (credited j p a) h = yes tt
at-answer d (ticked x) h = yes tt
at-answer d (lent m a) h = yes tt
at-answer d (Event.reset a) h = yes tt

unfoldable pub is-granted : (a : Grant) → Dec (IsGranted a)
is-granted (accepted v) = yes tt
is-granted (refused r) = no (λ x. x)

unfoldable pub prompt-on : {Q : Premise} → Decides Q → (more : ℕ) (P : Plan) (h : History) → Dec (PromptOn Q more P h)
prompt-on q more P =
    each (at-answer λ w a h. implies (is_true (well_formed P w)) (implies (q P (flow_of w) w h) (implies (dec_lt _ _) (is-granted a))))

-- ---- what is asked of a request

unfoldable pub room : Decides HasRoom
room P i w h = has_room P i h

unfoldable pub in_time : Decides DueInTime
in_time P i w h = dec_lt _ _

-- no marks lie in a frame past them all
pub none_in : (P : Plan) (i f : ℕ) (marks : List Mark) → above (λ m. frame_of P m.slot) marks ≤ f → tally (in_frame P i f) marks ≡ 0
none_in P i f marks past =
    none-past (λ m. frame_of P m.slot) (in_frame P i f) f marks past
    (λ m lt. rw (ne_eqb (frame_of P m.slot) f (omega arith)) (and-false (of_flow i m)))

unfoldable pub ordered : Decides Ordered
ordered P i w h =
    everywhere (above (λ m. frame_of P m.slot) (due_since P h)) (λ f. implies (dec_lt _ _) (ℕ_discrete _ _))
    (λ below f past lt. none_in P i f (due_since P h) past)

-- room from slot s on
unfoldable pub room-from : (P : Plan) (i s : ℕ) (h : History) → Dec (RoomFrom P i s h)
room-from P i s h = everywhere (suc (max s (end P h))) (λ r. implies (dec_le _ _) (dec_lt _ _)) later
  where
    Fits : ℕ → Type 0
    Fits r = s ≤ r → granted_up_to P h i r + lent_up_to h i r < credited_up_to P h i r + (entry P i).cells

    later : ((r : ℕ) → r < suc (max s (end P h)) → Fits r) → (r : ℕ) → suc (max s (end P h)) ≤ r → Fits r
    later below r past le =
        let u = max s (end P h) in
        let x = below u (omega arith) (omega arith) in
        let g = same-granted P h i r u (omega arith) (omega arith) in
        let l = same-lent P h i r u (omega arith) (omega arith) in
        let c = same-credited P h i r u (omega arith) (omega arith) in
        omega arith

unfoldable pub timely-from : (s : ℕ) (P : Plan) (i w : ℕ) (h : History) → Dec (TimelyFrom s P i w h)
timely-from s P i w h =
    same (λ r. record { room = r.0; number = r.1.0; in_time = r.1.1 }) (λ x. (x.room, (x.number, x.in_time)))
    (Dec.and (room-from P i s h) (Dec.and (ℕ_discrete (quantum_of w) (expected_number P h i)) (dec_lt _ _)))

unfoldable pub timely : Decides Timely
timely P i w h = timely-from _ P i w h

unfoldable pub fits-newest : Decides FitsNewest
fits-newest P i w h = timely-from _ P i w h

-- ---- a modest flow

unfoldable pub modest : {Q : Premise} → Decides Q → (more : ℕ) (P : Plan) (i : ℕ) (h : History) → Dec (Modest Q more P i h)
modest q more P i h =
    same (λ r. record { asks = r.0; within_share = r.1 }) (λ m. (m.asks, m.within_share))
    (Dec.and
    (each-since (at-request λ w h. implies (is_true (well_formed P w)) (implies (ℕ_discrete (flow_of w) i) (q P i w h))) h)
    (everywhere (above (λ m. frame_of P m.slot) (due_since P h)) (λ f. dec_le _ _)
    (λ below f past. omega (arith, none_in P i f (due_since P h) past))))

unfoldable pub modest-on-arrival : (P : Plan) (i : ℕ) (h : History) → Dec (ModestOnArrival P i h)
modest-on-arrival P i h =
    same (λ r. record { ready_at_each_request = r.0; within_share = r.1 }) (λ m. (m.ready_at_each_request, m.within_share))
    (Dec.and (each-since (ready_at P i) h)
    (everywhere (above (λ m. frame_of P m.slot) (made_since h)) (λ f. dec_le _ _)
    (λ below f past. omega (arith, none_in P i f (made_since h) past))))

unfoldable pub delays-compute : Unit {0}
unfolding plans-compute calls-compute counts-compute persistent come numbered both due_slot made_since due_since at-answer is-granted prompt-on room in_time
    ordered room-from timely-from timely fits-newest modest modest-on-arrival
delays-compute = tt
