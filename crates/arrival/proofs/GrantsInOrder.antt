-- A flow's grants go from frame to frame in the order in which they are made: none is in an earlier frame than one before it. Assumes nothing.
use Prim.Native.Nat.{ℕ, ◌<◌}
use mathlib.Core.Path.{◌≡◌, ap, subst}
use mathlib.Core.List.{List}
use mathlib.Core.Bool.{true}
use native.Mathlib.Omega.{arith}
use Rattle.model.specs.Word.{flow_of, departure_of, depart}
use Rattle.model.specs.Plan.{Plan, Accepted}
use Rattle.model.specs.Calls.{Call, Grant, Event, History, requested}
use Rattle.model.specs.Link.{Link, Step}
use Rattle.model.specs.Request.{Found, found, nowhere, sought, answered, request}
use Rattle.model.specs.History.{ticks, slot_after, frame_of, well_formed, granted_in}
use Rattle.model.specs.Claim.{Each, AtGrant}
use Rattle.model.specs.Scheduler.{Played, reference, step, run}
use Rattle.model.proofs.Word.{departure-depart}
use Rattle.model.proofs.Slots.{some-frame}
use Rattle.model.proofs.RequestSearch.{Searched, request-searched}
use Rattle.model.proofs.RequestKeeps.{found-in-frame, after-grant}
use Rattle.model.proofs.AfterHistory.{After}
use Rattle.model.proofs.AfterCalls.{Known}
use Rattle.model.proofs.EventsOfRuns.{Happened, by-calls}
use Rattle.arrival.proofs.AnsweredRequests.{Requested, turned_back, searched, request-is}
use Rattle.arrival.proofs.TimelyRequests.{known}

-- where the event is a grant: its flow has none in a later frame, since the last granted reset
abbrev pub FrameInOrderAt : Plan → Event → History → Type 0
FrameInOrderAt P = AtGrant (λ w v h. (f : ℕ) → frame_of P (slot_after P (ticks h) (departure_of v)) < f → granted_in P h (flow_of w) f ≡ 0)

module _ {l : Link} {h : History} (g : After l.plan l h) (w : ℕ) where
  open l use {plan as P}
  open g use {invariant as v}
  open v.current use {accepted as ok}

  abbrev none : ℕ → ℕ
  none f = 0

  searched-in-order : (well : well_formed P w ≡ true) (f : Found) → Searched v (known g w well) (departure_of w) none f
      → FrameInOrderAt P (requested w (answered l w f).answer) h
  unfolding answered
  searched-in-order well (nowhere c) s = tt
  searched-in-order well (found j c p) s = λ f later.
      s.reached.spends.none_after f (omega (arith, ap (λ q. frame_of P (slot_after P (ticks h) q)) departs, in_frame))
    where
      departs : departure_of (depart w p) ≡ p
      departs = departure-depart w p (omega (arith, (after-grant v (known g w well) (departure_of w) none j c p s).position, ok.positions_most))

      in_frame : frame_of P (slot_after P (ticks h) p) ≡ s.frame
      in_frame = found-in-frame v (known g w well) (departure_of w) s.frame p s.reached.low (omega (arith, s.frame_le, some-frame ok)) s.hit

  request-in-order : FrameInOrderAt P (requested w (request l w).answer) h
  request-in-order = go (request-is l w)
    where
      go : {s : Step Grant} → Requested l w s → FrameInOrderAt P (requested w s.answer) h
      go (turned_back r not-12 not_passed) = tt
      go (searched passes) =
          searched-in-order passes.well (sought l (flow_of w) (departure_of w)) (request-searched v (known g w passes.well) (departure_of w) none)

one_more : (r : Played reference) (c : Call) → Known r.state.plan r → Each (FrameInOrderAt r.state.plan) r.history
    → Each (FrameInOrderAt r.state.plan) (step reference r c).history
one_more r (Call.request w) g x = (request-in-order g w, x)
one_more r (Call.credit i p) g x = (tt, x)
one_more r Call.tick g x = (tt, x)
one_more r (Call.lend m) g x = (tt, x)
one_more r Call.reset g x = (tt, x)

pub frames-in-order : (P : Plan) → Accepted P → (calls : List Call) → Each (FrameInOrderAt P) (run reference P calls).history
frames-in-order P ok = by-calls ok (λ r. Each (FrameInOrderAt P) r.history) more tt
  where
    more : (r : Played reference) (c : Call) → Known P r → Each (Happened P) r.history → Each (FrameInOrderAt P) r.history
        → Each (FrameInOrderAt P) (step reference r c).history
    more r c g happened =
        subst (λ Q. Known Q r → Each (FrameInOrderAt Q) r.history → Each (FrameInOrderAt Q) (step reference r c).history) g.plan_is (one_more r c) g
