-- The reference scheduler serves a flow soon that asks on arrival: its grants fall in the frame in which they are made, or in the next one. Assumes nothing.
use Prim.Native.Nat.{ℕ, ◌<◌}
use mathlib.Core.Path.{◌≡◌, refl, sym, ap, ◌∙◌}
use mathlib.Core.List.{List, [], ◌∷◌}
use mathlib.Core.Bool.{true}
use native.Mathlib.Decide.{ℕ_discrete}
use native.Mathlib.Omega.{arith}
use Rattle.model.specs.Tables.{tally}
use Rattle.model.specs.Word.{flow_of, departure_of}
use Rattle.model.specs.Plan.{Plan, flow_count, plan_of, Accepted}
use Rattle.model.specs.Calls.{Call, Event, History, requested, credited, ticked, lent, accepted, refused}
use Rattle.model.specs.History.{ticks, frame_of, well_formed, has_come, in_frame}
use Rattle.model.specs.Claim.{Each, EachSince, AtRequest, ReadyAt, GrantedWordAt}
use Rattle.model.specs.Scheduler.{reference, run}
use Rattle.arrival.specs.Delay.{current_frame, due_slot, made_since, made_in, due_since, due_in, TimelyInOrder, AsksAt, SoonOn, ServedAt, GrantedSoonAt}
use Rattle.arrival.specs.Delay.{SoonOnArrivalOn, Soon}
use Rattle.model.proofs.Plan as plan
use Rattle.model.proofs.Slots.{frames-go-on}
use Rattle.model.proofs.Marks.{mark, in-frame-skip, in-frame-other}
use Rattle.model.proofs.Demand3.{each_map, each-since-map}
use Rattle.model.proofs.EventsOfRuns.{each-happened}
use Rattle.arrival.proofs.TimelyRequests.{due-if-come, ready-timely}
use Rattle.arrival.proofs.Soon.{soon-accepted}

-- the tile of flow i's well-formed request has come
abbrev pub ComeAt : Plan → ℕ → Event → History → Type 0
ComeAt P i = AtRequest (λ w h. well_formed P w ≡ true → flow_of w ≡ i → has_come P (ticks h) (departure_of w) ≡ true)

pub ready-come : (P : Plan) (i : ℕ) (e : Event) (h : History) → ReadyAt P i e h → ComeAt P i e h
ready-come P i (requested w a) h x = λ well own. (x well own).come
ready-come P i (credited j p a) h x = tt
ready-come P i (ticked a) h x = tt
ready-come P i (lent m a) h x = tt
ready-come P i (Event.reset a) h x = tt

module _ {P : Plan} (ok : Accepted P) (i : ℕ) where
  -- no grant was made in a frame to come
  pub made-later : (f : ℕ) (h : History) → current_frame P h < f → made_in P h i f ≡ 0
  unfolding ticks made_since tally
  made-later f [] lt = refl
  made-later f (requested w (accepted v) ∷ h) lt =
      in-frame-skip P i f (mark (flow_of w) (ticks h)) (made_since h) (λ e. omega arith) ∙ made-later f h lt
  made-later f (requested w (refused r) ∷ h) lt = made-later f h lt
  made-later f (credited j p a ∷ h) lt = made-later f h lt
  made-later f (ticked x ∷ h) lt = made-later f h (omega (arith, frames-go-on ok (ticks h)))
  made-later f (lent m a ∷ h) lt = made-later f h lt
  made-later f (Event.reset (accepted u) ∷ h) lt = refl
  made-later f (Event.reset (refused r) ∷ h) lt = made-later f h lt

  -- where each tile has come, a grant is due in the slot in which it is made
  pub due-when-made : (f : ℕ) (h : History) → Each (GrantedWordAt P) h → EachSince (ComeAt P i) h → due_in P h i f ≡ made_in P h i f
  unfolding made_since due_since tally
  due-when-made f [] words come = refl
  due-when-made f (requested w (accepted v) ∷ h) words come = go (due-when-made f h words.1 come.1) (ℕ_discrete (flow_of w) i)
    where
      go : due_in P h i f ≡ made_in P h i f → Dec (flow_of w ≡ i)
          → tally (in_frame P i f) (mark (flow_of w) (due_slot P w h) ∷ due_since P h) ≡ tally (in_frame P i f) (mark (flow_of w) (ticks h) ∷ made_since h)
      go rest (yes own) =
          rw (due-if-come P w h (come.0 words.0.asked_well_formed own)) (omega (arith, rest))
      go rest (no other) =
          in-frame-other P i f (mark (flow_of w) (due_slot P w h)) (due_since P h) other ∙ rest
          ∙ sym (in-frame-other P i f (mark (flow_of w) (ticks h)) (made_since h) other)
  due-when-made f (requested w (refused r) ∷ h) words come = due-when-made f h words.1 come.1
  due-when-made f (credited j p a ∷ h) words come = due-when-made f h words.1 come.1
  due-when-made f (ticked x ∷ h) words come = due-when-made f h words.1 come.1
  due-when-made f (lent m a ∷ h) words come = due-when-made f h words.1 come.1
  due-when-made f (Event.reset (accepted u) ∷ h) words come = refl
  due-when-made f (Event.reset (refused r) ∷ h) words come = due-when-made f h words.1 come.1

  -- its requests are timely, and in order
  pub asks-on-arrival : (h : History) → Each (GrantedWordAt P) h → EachSince (ReadyAt P i) h → EachSince (AsksAt TimelyInOrder P i) h
  asks-on-arrival [] words ready = tt
  asks-on-arrival (requested w a ∷ h) words ready = (in_order, asks-on-arrival h words.1 ready.1)
    where
      in_order : AsksAt TimelyInOrder P i (requested w a) h
      in_order well own =
          let x = ready.0 well own in
          let now = ap (frame_of P) (due-if-come P w h x.come) in
          record {
            timely = ready-timely ok i w h x;
            in_order = λ f lt. due-when-made f h words.1 (each-since-map _ _ (ready-come P i) h ready.1) ∙ made-later f h (omega arith);
          }
  asks-on-arrival (credited j p a ∷ h) words ready = (tt, asks-on-arrival h words.1 ready.1)
  asks-on-arrival (ticked x ∷ h) words ready = (tt, asks-on-arrival h words.1 ready.1)
  asks-on-arrival (lent m a ∷ h) words ready = (tt, asks-on-arrival h words.1 ready.1)
  asks-on-arrival (Event.reset (accepted u) ∷ h) words ready = tt
  asks-on-arrival (Event.reset (refused r) ∷ h) words ready = (tt, asks-on-arrival h words.1 ready.1)

  pub served-on-arrival : (h : History) → Each (GrantedWordAt P) h → EachSince (ComeAt P i) h → EachSince (ServedAt P i) h → EachSince (GrantedSoonAt P i) h
  served-on-arrival [] words come served = tt
  served-on-arrival (requested w (accepted v) ∷ h) words come served = (
    λ own.
        let well = words.0.asked_well_formed in
        let x = served.0 well own in
        let now = due-if-come P w h (come.0 well own) in
        record { this_or_next = omega (arith, x.due_or_next, ap (frame_of P) now); within_two_frames = omega (arith, x.within_two_frames, now) },
    served-on-arrival h words.1 come.1 served.1,
  )
  served-on-arrival (requested w (refused r) ∷ h) words come served = (tt, served-on-arrival h words.1 come.1 served.1)
  served-on-arrival (credited j p a ∷ h) words come served = (tt, served-on-arrival h words.1 come.1 served.1)
  served-on-arrival (ticked x ∷ h) words come served = (tt, served-on-arrival h words.1 come.1 served.1)
  served-on-arrival (lent m a ∷ h) words come served = (tt, served-on-arrival h words.1 come.1 served.1)
  served-on-arrival (Event.reset (accepted u) ∷ h) words come served = tt
  served-on-arrival (Event.reset (refused r) ∷ h) words come served = (tt, served-on-arrival h words.1 come.1 served.1)

-- what is soon for words that run ahead is so for those that are asked on arrival
pub soon-if-ready : {P : Plan} → Accepted P → (i : ℕ) (h : History) → Each (GrantedWordAt P) h → SoonOn TimelyInOrder 0 P i h → SoonOnArrivalOn P i h
soon-if-ready {P} ok i h words served m =
    let ready = m.ready_at_each_request in
    let come = each-since-map _ _ (ready-come P i) h ready in
    served-on-arrival ok i h words come (served (record {
      asks = asks-on-arrival ok i h words ready;
      within_share = λ f. omega (arith, due-when-made ok i f h words come, m.within_share f);
    }))

-- on any plan that keeps the limits, and so on the plan of any bytes that are accepted
pub soon-on-arrival : (P : Plan) → Accepted P → (calls : List Call) (i : ℕ) → i < flow_count P → SoonOnArrivalOn P i (run reference P calls).history
soon-on-arrival P ok calls i known =
    let h = (run reference P calls).history in
    let words = each_map _ (GrantedWordAt P) (λ e h x. x.word) h (each-happened P ok calls) in
    soon-if-ready ok i h words (soon-accepted P ok calls i known)

pub soon : Soon reference
soon bytes passes = soon-on-arrival (plan_of bytes) (plan.accepted bytes passes)
