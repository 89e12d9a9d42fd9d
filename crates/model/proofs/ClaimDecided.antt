-- Whether a history keeps a clause of demand 3 is decided by computation. Assumes nothing.
use Prim.Native.Nat.{ℕ, suc, ◌+◌, ◌-◌, ◌^◌, ◌≤◌, ◌<◌, max}
use mathlib.Core.Path.{◌≡◌, ap, subst}
use mathlib.Core.Logic.Dec
use mathlib.Core.Logic.{◌↔◌}
use mathlib.Core.List.{List, ◌∷◌, []}
use mathlib.Core.Option.{Option, some, none}
use mathlib.Core.Bool.{Bool, true, false, ◌&&◌, and-false, cond}
use native.Mathlib.Omega.{arith}
use native.Mathlib.Decide.{dec_le, dec_lt, ℕ_discrete}
use borrow.Author.Tests.{ne_eqb}
use Rattle.model.specs.Tables.{tally}
use Rattle.model.specs.Word.{flow_of, quantum_of, departure_of, depart}
use Rattle.model.specs.Plan.{Plan, positions, flow_count, entry}
use Rattle.model.specs.Calls.{Event, History, TickAnswer, requested, credited, ticked, lent, accepted, refused, in_mask}
use Rattle.model.specs.History.{ticks, frame_of, well_formed, has_come, is_granted_reset, origin, changes, Mark, grants, lends, grants_since}
use Rattle.model.specs.History.{of_flow, at_slot, in_frame, granted_in, refused_in, granted_up_to, lent_up_to, credited_up_to, expected_number, WasGranted}
use Rattle.model.specs.Claim.{Each, EachSince, AtRequest, AtGrant, AtTick, AtLoan, Room, Ready, ReadyAt, RefusedInEachFrame, Persistent}
use Rattle.model.specs.Claim.{Held, HeldAt, SoonAt, ComesUpAt}
use Rattle.model.specs.Claim.{GrantedWord, GrantedWordAt, AfterDepartureAt, LentFlow, LentFlowAt, Clause, Says}
use Rattle.model.proofs.Decidable.{same, implies, is_true, is_false, all-below, everywhere}
use Rattle.model.proofs.PastMarks.{above, none-past, owned_end, end, same-granted, same-lent, same-credited}

-- ---- an event of a kind

unfoldable pub at-request : {Q : ℕ → History → Type 0} → ((w : ℕ) (h : History) → Dec (Q w h))
    → (e : Event) (h : History) → Dec (AtRequest Q e h)
at-request d (requested w a) h = d w h
at-request d (credited j p a) h = yes tt
at-request d (ticked x) h = yes tt
at-request d (lent m a) h = yes tt
at-request d (Event.reset a) h = yes tt

unfoldable pub at-grant : {Q : ℕ → ℕ → History → Type 0} → ((w v : ℕ) (h : History) → Dec (Q w v h))
    → (e : Event) (h : History) → Dec (AtGrant Q e h)
at-grant d (requested w (accepted v)) h = d w v h
at-grant d (requested w (refused r)) h = yes tt
at-grant d (credited j p a) h = yes tt
at-grant d (ticked x) h = yes tt
at-grant d (lent m a) h = yes tt
at-grant d (Event.reset a) h = yes tt

unfoldable pub at_tick : {Q : TickAnswer → History → Type 0} → ((x : TickAnswer) (h : History) → Dec (Q x h))
    → (e : Event) (h : History) → Dec (AtTick Q e h)
at_tick d (requested w a) h = yes tt
at_tick d (credited j p a) h = yes tt
at_tick d (ticked x) h = d x h
at_tick d (lent m a) h = yes tt
at_tick d (Event.reset a) h = yes tt

unfoldable pub at-loan : {Q : ℕ → ℕ → Type 0} → ((m i : ℕ) → Dec (Q m i)) → (e : Event) (h : History) → Dec (AtLoan Q e h)
at-loan d (requested w a) h = yes tt
at-loan d (credited j p a) h = yes tt
at-loan d (ticked x) h = yes tt
at-loan d (lent m (accepted i)) h = d m i
at-loan d (lent m (refused r)) h = yes tt
at-loan d (Event.reset a) h = yes tt

-- ---- the claims of one event

unfoldable pub soon : (P : Plan) (e : Event) (h : History) → Dec (SoonAt P e h)
unfolding at-grant
soon P = at-grant (λ w v h. dec_lt _ _)

unfoldable pub granted-word : (P : Plan) (e : Event) (h : History) → Dec (GrantedWordAt P e h)
unfolding at-grant
granted-word P = at-grant (λ w v h. word w v)
  where
    word : (w v : ℕ) → Dec (GrantedWord P w v)
    word w v =
        same (λ r. record { asked_well_formed = r.0; same_but_departure = r.1.0; position = r.1.1 })
        (λ g. (g.asked_well_formed, (g.same_but_departure, g.position)))
        (Dec.and (is_true (well_formed P w)) (Dec.and (ℕ_discrete v (depart w (departure_of v))) (dec_lt (departure_of v) (positions P))))

unfoldable pub after_departure : (P : Plan) (e : Event) (h : History) → Dec (AfterDepartureAt P e h)
unfolding at-grant
after_departure P = at-grant (λ w v h. implies (is_true (well_formed P w)) (implies (is_false (has_come P (ticks h) (departure_of w))) (dec_lt _ _)))

unfoldable pub lent-flow : (P : Plan) (e : Event) (h : History) → Dec (LentFlowAt P e h)
unfolding at-loan
lent-flow P = at-loan (λ m i. flow m i)
  where
    flow : (m i : ℕ) → Dec (LentFlow P m i)
    flow m i =
        same (λ r. record { mask_below = r.0; known = r.1.0; in_mask = r.1.1 }) (λ f. (f.mask_below, (f.known, f.in_mask)))
        (Dec.and (dec_lt m (2 ^ flow_count P)) (Dec.and (dec_lt i (flow_count P)) (is_true (in_mask m i))))

unfoldable pub answers-flow : (x : Option ℕ) (i : ℕ) → Dec (x ≡ some i)
answers-flow none i = no (λ e. let z : ◌≡◌ {A = ℕ} 0 1 = cc in omega arith)
answers-flow (some j) i = same (ap some) (λ e. cc) (ℕ_discrete j i)

-- a number above the flow that a tick answers
unfoldable pub above_answer : Option ℕ → ℕ
above_answer none = 0
above_answer (some j) = suc j

pub past-answer : (x : Option ℕ) (i : ℕ) → above_answer x ≤ i → x ≡ some i → ⊥
unfolding above_answer
past-answer none i le e = let z : ◌≡◌ {A = ℕ} 0 1 = cc in omega arith
past-answer (some j) i le e = let z : j ≡ i = cc in omega arith

unfoldable pub comes_up : (P : Plan) (e : Event) (h : History) → Dec (ComesUpAt P e h)
unfolding at_tick
comes_up P = at_tick answered
  where
    no-owner : (h : History) (i : ℕ) → above (λ m. m.flow) (grants P h) ≤ i → tally (λ m. of_flow i m && at_slot (ticks h + 1) m) (grants P h) ≡ 0
    no-owner h i past =
        none-past (λ m. m.flow) (λ m. of_flow i m && at_slot (ticks h + 1) m) i (grants P h) past
        (λ m lt. rw (ne_eqb m.flow i (omega arith)))

    answered : (x : TickAnswer) (h : History) → Dec ((i : ℕ) → (x ≡ some i) ↔ WasGranted P h i (ticks h + 1))
    answered x h =
        everywhere (max (above_answer x) (above (λ m. m.flow) (grants P h)))
        (λ i. Dec.and (implies (answers-flow x i) (dec_lt _ _)) (implies (dec_lt _ _) (answers-flow x i)))
        (λ below i past. (λ e. absurd (past-answer x i (omega arith) e), λ owns. absurd (omega (arith, no-owner h i (omega arith)))))

unfoldable pub held : (P : Plan) (i : ℕ) (h : History) (s : ℕ) → Dec (Held P i h s)
held P i h s = same to from (Dec.and (dec_le _ _) (dec_le _ _))
  where
    -- its granted and lent slots
    owned : ℕ
    owned = granted_up_to P h i s + lent_up_to h i s

    to : (credited_up_to P h i s ≤ owned) × (owned ≤ credited_up_to P h i s + (entry P i).cells) → Held P i h s
    to r = record { held = owned - credited_up_to P h i s; is = omega arith; within = omega arith }

    from : Held P i h s → (credited_up_to P h i s ≤ owned) × (owned ≤ credited_up_to P h i s + (entry P i).cells)
    from x = omega arith

unfoldable pub held_at : (P : Plan) (i : ℕ) (e : Event) (h : History) → Dec (HeldAt P i e h)
held_at P i e h = everywhere (suc (end P (e ∷ h))) (held P i (e ∷ h)) later
  where
    later : ((s : ℕ) → s < suc (end P (e ∷ h)) → Held P i (e ∷ h) s) → (s : ℕ) → suc (end P (e ∷ h)) ≤ s → Held P i (e ∷ h) s
    later below s past =
        let x = below (end P (e ∷ h)) (omega arith) in
        let a = x.is in
        let g = same-granted P (e ∷ h) i s (end P (e ∷ h)) (omega arith) (omega arith) in
        let l = same-lent P (e ∷ h) i s (end P (e ∷ h)) (omega arith) (omega arith) in
        let c = same-credited P (e ∷ h) i s (end P (e ∷ h)) (omega arith) (omega arith) in
        record { held = x.held; is = omega arith; within = x.within }

-- ---- the stream that asks until it is refused

abbrev RoomFrom : Plan → ℕ → History → ℕ → Type 0
RoomFrom P i h s = ticks h ≤ s → granted_up_to P h i s + lent_up_to h i s < credited_up_to P h i s + (entry P i).cells

unfoldable pub has_room : (P : Plan) (i : ℕ) (h : History) → Dec (Room P i h)
has_room P i h = everywhere (suc (max (ticks h) (end P h))) (λ s. implies (dec_le _ _) (dec_lt _ _)) later
  where
    later : ((s : ℕ) → s < suc (max (ticks h) (end P h)) → RoomFrom P i h s) → (s : ℕ) → suc (max (ticks h) (end P h)) ≤ s → RoomFrom P i h s
    later below s past le =
        let u = max (ticks h) (end P h) in
        let x = below u (omega arith) (omega arith) in
        let g = same-granted P h i s u (omega arith) (omega arith) in
        let l = same-lent P h i s u (omega arith) (omega arith) in
        let c = same-credited P h i s u (omega arith) (omega arith) in
        omega arith

unfoldable pub ready : (P : Plan) (i w : ℕ) (h : History) → Dec (Ready P i w h)
ready P i w h =
    same (λ r. record { room = r.0; come = r.1.0; number = r.1.1 }) (λ x. (x.room, (x.come, x.number)))
    (Dec.and (has_room P i h) (Dec.and (is_true (has_come P (ticks h) (departure_of w))) (ℕ_discrete (quantum_of w) (expected_number P h i))))

unfoldable pub ready_at : (P : Plan) (i : ℕ) (e : Event) (h : History) → Dec (ReadyAt P i e h)
unfolding at-request
ready_at P i = at-request (λ w h. implies (is_true (well_formed P w)) (implies (ℕ_discrete (flow_of w) i) (ready P i w h)))

-- ---- the claims of a history

unfoldable pub each : {Q : Event → History → Type 0} → ((e : Event) (h : History) → Dec (Q e h)) → (h : History) → Dec (Each Q h)
each d [] = yes tt
each d (e ∷ h) = Dec.and (d e h) (each d h)

unfoldable pub unless : {A : Type 0} (b : Bool) → Dec A → Dec (cond b (Unit {0}) A)
unless true d = yes tt
unless false d = d

unfoldable pub each-since : {Q : Event → History → Type 0} → ((e : Event) (h : History) → Dec (Q e h)) → (h : History) → Dec (EachSince Q h)
unfolding unless
each-since d [] = yes tt
each-since d (e ∷ h) = unless (is_granted_reset e) (Dec.and (d e h) (each-since d h))

unfoldable pub refused-in-each : (P : Plan) (i : ℕ) (h : History) → Dec (RefusedInEachFrame P i h)
refused-in-each P i h =
    same frames (λ all k lt. all (origin P h + k) (omega arith) (omega arith))
    (all-below {Q = λ k. 0 < refused_in P h i (origin P h + k)} (suc (changes P h)) (λ k. dec_lt _ _))
  where
    frames : ((k : ℕ) → k < suc (changes P h) → 0 < refused_in P h i (origin P h + k)) → RefusedInEachFrame P i h
    frames all f since le =
        let z : origin P h + (f - origin P h) ≡ f = omega arith in
        subst (λ f. 0 < refused_in P h i f) z (all (f - origin P h) (omega arith))

unfoldable pub persistent : (P : Plan) (i : ℕ) (h : History) → Dec (Persistent P i h)
unfolding Dec.and dec_le dec_lt ℕ_discrete same implies is_true is_false all-below everywhere above owned_end end
    at-request has_room ready ready_at each unless each-since refused-in-each
persistent P i h =
    same (λ r. record { refused_in_each_frame = r.0; ready_at_each_request = r.1 }) (λ p. (p.refused_in_each_frame, p.ready_at_each_request))
    (Dec.and (refused-in-each P i h) (each-since (ready_at P i) h))

unfoldable pub decided : (clause : Clause) (P : Plan) (i : ℕ) (h : History) → Dec (Says clause P i h)
unfolding persistent at-grant at_tick at-loan soon granted-word after_departure lent-flow answers-flow above_answer comes_up held held_at
decided Clause.most P i h = dec_le _ _
decided Clause.most-in-a-frame P i h =
    everywhere (above (λ m. frame_of P m.slot) (grants_since P h)) (λ f. dec_le _ _) (λ below f past. omega (arith, none_in f past))
  where
    none_in : (f : ℕ) → above (λ m. frame_of P m.slot) (grants_since P h) ≤ f → granted_in P h i f ≡ 0
    none_in f past =
        none-past (λ m. frame_of P m.slot) (in_frame P i f) f (grants_since P h) past
        (λ m lt. rw (ne_eqb (frame_of P m.slot) f (omega arith)) (and-false (of_flow i m)))
decided Clause.least P i h = implies (persistent P i h) (dec_le _ _)
decided Clause.one_owner P i h =
    everywhere (owned_end P h) (λ s. dec_le _ _) (λ below s past. omega (arith, none-at s (grants P h) (omega arith), none-at s (lends h) (omega arith)))
  where
    none-at : (s : ℕ) (marks : List Mark) → above (λ m. m.slot) marks ≤ s → tally (at_slot s) marks ≡ 0
    none-at s marks past = none-past (λ m. m.slot) (at_slot s) s marks past (λ m lt. ne_eqb m.slot s (omega arith))
decided Clause.within_cells P i h = each (held_at P i) h
decided Clause.within-a-window P i h = each (soon P) h
decided Clause.comes_up P i h = each (comes_up P) h
decided Clause.granted-words P i h = each (granted-word P) h
decided Clause.after_departure P i h = each (after_departure P) h
decided Clause.lent-flows P i h = each (lent-flow P) h
