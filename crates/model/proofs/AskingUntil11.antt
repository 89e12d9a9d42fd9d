-- A flow that asks until it is refused with 11: its refusals with 11 are among those that demand 3 counts, and it asks so in every beginning of the
-- list. Assumes nothing.
use Prim.Native.Nat.{ℕ, ◌≤◌, ◌<◌}
use mathlib.Core.Path.{◌≡◌, refl}
use mathlib.Core.List.{[], ◌∷◌}
use mathlib.Core.Bool.{Bool, true, false, cond}
use native.Mathlib.Omega.{arith}
use lib.Dec.{eqb}
use borrow.Author.Tests.{eqb-true}
use Rattle.model.specs.Tables.{tally}
use Rattle.model.specs.Word.{flow_of}
use Rattle.model.specs.Plan.{Plan, Accepted}
use Rattle.model.specs.Calls.{Event, History, requested, credited, ticked, lent, accepted, refused}
use Rattle.model.specs.History.{Mark, ticks, frame_of, marks_of, refusal_at, refusals_since, in_frame}
use Rattle.model.specs.Claim.{Each, EachSince, ReadyAt}
use Rattle.model.specs.TwoRuns.{refusal11_at, AsksUntil11}
use Rattle.model.proofs.Tallies.{tally-append}
use Rattle.model.proofs.Slots.{frames-go-on}
use Rattle.model.proofs.Marks.{mark, in-frame-skip}
use Rattle.model.proofs.HistoryCounts.{NoneGranted, since-the-start}
use Rattle.model.proofs.AfterHistory.{AskedOn}
use Rattle.model.proofs.EventsOfRuns.{WellFormedIf11, Happened}

-- ---- refusals with 11

-- each is one of a well-formed request
refusal-11 : (P : Plan) (test : Mark → Bool) (e : Event) (h : History) → WellFormedIf11 P e → tally test (refusal11_at e h) ≤ tally test (refusal_at P e h)
unfolding tally
refusal-11 P test (requested w (accepted v)) h x = omega arith
refusal-11 P test (requested w (refused r)) h x = go (eqb r 11) refl
  where
    go : (b : Bool) → eqb r 11 ≡ b → tally test (cond b (mark (flow_of w) (ticks h) ∷ []) []) ≤ tally test (refusal_at P (requested w (refused r)) h)
    go true e = rw (x (eqb-true r 11 e)) (omega arith)
    go false e = omega arith
refusal-11 P test (credited j p a) h x = omega arith
refusal-11 P test (ticked a) h x = omega arith
refusal-11 P test (lent m a) h x = omega arith
refusal-11 P test (Event.reset a) h x = omega arith

refusals-11-in-all : (P : Plan) (test : Mark → Bool) (h : History) → Each (Happened P) h → tally test (marks_of refusal11_at h) ≤ tally test (marks_of (refusal_at P) h)
unfolding marks_of tally
refusals-11-in-all P test [] happened = omega arith
refusals-11-in-all P test (e ∷ h) happened =
    omega (
      arith,
      tally-append test (refusal11_at e h) (marks_of refusal11_at h),
      tally-append test (refusal_at P e h) (marks_of (refusal_at P) h),
      refusal-11 P test e h happened.0.well_formed_if_11,
      refusals-11-in-all P test h happened.1,
    )

-- ---- a list without a granted reset

since-each : (Q : Event → History → Type 0) (h : History) → NoneGranted h → Each Q h → EachSince Q h
since-each Q [] none each = tt
since-each Q (e ∷ h) none each = rw none.0 (each.0, since-each Q h none.1 each.1)

-- So the flow asks as demand 3 has it.
pub asked-on : {P : Plan} {i : ℕ} {h : History} → Each (Happened P) h → NoneGranted h → AsksUntil11 P i h → AskedOn P h i
unfolding refusals_since
asked-on {P} {i} {h} happened none x = record {
  ready = since-each (ReadyAt P i) h none x.ready_at_each_request;
  refused_before = λ f since ended.
      rw (since-the-start (refusal_at P) h none)
      (omega (arith, x.refused_11_in_each_frame f (omega arith), refusals-11-in-all P (in_frame P i f) h happened));
}

-- ---- a beginning of the list

-- a refusal with 11 is one in the frame that is then current
refusal-11-now : (P : Plan) (i f : ℕ) (e : Event) (h : History) → f < frame_of P (ticks h) → tally (in_frame P i f) (refusal11_at e h) ≡ 0
unfolding tally
refusal-11-now P i f (requested w (accepted v)) h lt = refl
refusal-11-now P i f (requested w (refused r)) h lt = go (eqb r 11)
  where
    go : (b : Bool) → tally (in_frame P i f) (cond b (mark (flow_of w) (ticks h) ∷ []) []) ≡ 0
    go true = in-frame-skip P i f (mark (flow_of w) (ticks h)) [] (λ z. omega arith)
    go false = refl
refusal-11-now P i f (credited j p a) h lt = refl
refusal-11-now P i f (ticked x) h lt = refl
refusal-11-now P i f (lent m a) h lt = refl
refusal-11-now P i f (Event.reset a) h lt = refl

event-goes-on : {P : Plan} → Accepted P → (e : Event) (h : History) → frame_of P (ticks h) ≤ frame_of P (ticks (e ∷ h))
unfolding ticks
event-goes-on ok (requested w a) h = omega arith
event-goes-on ok (credited j p a) h = omega arith
event-goes-on ok (ticked x) h = frames-go-on ok (ticks h)
event-goes-on ok (lent m a) h = omega arith
event-goes-on ok (Event.reset a) h = omega arith

-- A flow that asks so in a list does in each of its beginnings.
pub until-11-before : {P : Plan} → Accepted P → {i : ℕ} {e : Event} {h : History} → AsksUntil11 P i (e ∷ h) → AsksUntil11 P i h
unfolding marks_of
until-11-before {P} ok {i} {e} {h} x = record {
  refused_11_in_each_frame = λ f ended.
      omega (
        arith,
        x.refused_11_in_each_frame f (omega (arith, event-goes-on ok e h)),
        tally-append (in_frame P i f) (refusal11_at e h) (marks_of refusal11_at h),
        refusal-11-now P i f e h ended,
      );
  ready_at_each_request = x.ready_at_each_request.1;
}
