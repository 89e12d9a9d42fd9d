-- The reference scheduler is prompt: a flow with fewer than its share of grants made in this frame is granted its next request that fits the newest frame.
-- Assumes nothing.
use Prim.Native.Nat.{ℕ, ◌≤◌, ◌<◌}
use mathlib.Core.Path.{◌≡◌, sym, ◌∙◌, subst}
use mathlib.Core.List.{List}
use mathlib.Core.Bool.{true}
use native.Mathlib.Omega.{arith}
use Rattle.model.specs.Tables.{tally}
use Rattle.model.specs.Word.{flow_of, departure_of}
use Rattle.model.specs.Plan.{Plan, entry, plan_of, Accepted}
use Rattle.model.specs.Calls.{Call, Grant, Event, History, requested, credited, ticked, lent}
use Rattle.model.specs.Link.{Link, Step}
use Rattle.model.specs.Request.{Found, found, nowhere, sought, answered, request}
use Rattle.model.specs.History.{ticks, well_formed, marks_of, in_frame}
use Rattle.model.specs.Claim.{Each, Ready}
use Rattle.model.specs.Scheduler.{Played, reference, step, run}
use Rattle.arrival.specs.Delay.{current_frame, newest_frame, grant_by, made_since, made_in, Timely, FitsNewest, IsGranted, PromptAt, PromptOn, PromptBy, Prompt}
use Rattle.model.proofs.Plan as plan
use Rattle.model.proofs.Slots.{some-frame}
use Rattle.model.proofs.RequestSearch.{Searched, request-searched}
use Rattle.model.proofs.HistoryCounts.{split-at-reset}
use Rattle.model.proofs.AfterHistory.{After}
use Rattle.model.proofs.AfterCalls.{Known}
use Rattle.model.proofs.Demand3.{each_map}
use Rattle.arrival.proofs.AnsweredRequests.{Requested, turned_back, searched, request-is}
use Rattle.model.proofs.EventsOfRuns.{Happened, by-calls}
use Rattle.arrival.proofs.GrantsInNewest.{newest-made}
use Rattle.arrival.proofs.TimelyRequests.{ready-timely, timely-fits, known, full-if-fails-later}

module _ {l : Link} {h : History} (g : After l.plan l h) (happened : Each (Happened l.plan) h) (w : ℕ) where
  open l use {plan as P}
  open g use {invariant as v}
  open v.current use {accepted as ok}

  abbrev i : ℕ
  i = flow_of w

  -- the search does not fail in the newest frame, where the flow has not its whole share
  found-if-few : (well : well_formed P w ≡ true) → FitsNewest P i w h → made_in P h i (current_frame P h) < (entry P i).share
      → (f : Found) → Searched v (known g w well) (departure_of w) (λ f. 0) f → IsGranted (answered l w f).answer
  unfolding answered
  found-if-few well x few (found j c p) s = tt
  found-if-few well x few (nowhere c) s =
      let full = full-if-fails-later g w well (newest_frame P h) c (λ r le. x.room r (omega arith)) x.in_time (omega (arith, some-frame ok)) s.reached.spends s.fails in
      omega (arith, newest-made ok i h happened)

  prompt-at : PromptAt FitsNewest 0 P (requested w (request l w).answer) h
  prompt-at well x few = go (request-is l w)
    where
      go : {s : Step Grant} → Requested l w s → IsGranted s.answer
      go (turned_back r not-12 not_passed) = not_passed (record { well = well; number = x.number ∙ sym (g.numbers i (known g w well)) })
      go (searched passes) =
          found-if-few well x (omega arith) (sought l i (departure_of w)) (request-searched v (known g w well) (departure_of w) (λ f. 0))

one_more : (r : Played reference) (c : Call) → Known r.state.plan r → Each (Happened r.state.plan) r.history
    → PromptOn FitsNewest 0 r.state.plan r.history → PromptOn FitsNewest 0 r.state.plan (step reference r c).history
one_more r (Call.request w) g happened x = (prompt-at g happened w, x)
one_more r (Call.credit i p) g happened x = (tt, x)
one_more r Call.tick g happened x = (tt, x)
one_more r (Call.lend m) g happened x = (tt, x)
one_more r Call.reset g happened x = (tt, x)

pub prompt-more : {P : Plan} (r : Played reference) (c : Call) → Known P r → Each (Happened P) r.history → PromptOn FitsNewest 0 P r.history
    → PromptOn FitsNewest 0 P (step reference r c).history
prompt-more r c g =
    subst (λ Q. Known Q r → Each (Happened Q) r.history → PromptOn FitsNewest 0 Q r.history → PromptOn FitsNewest 0 Q (step reference r c).history)
    g.plan_is (one_more r c) g

-- on any plan that keeps the limits, and so on the plan of any bytes that are accepted
pub prompt-accepted : (P : Plan) → Accepted P → (calls : List Call) → PromptOn FitsNewest 0 P (run reference P calls).history
prompt-accepted P ok = by-calls ok (λ r. PromptOn FitsNewest 0 P r.history) prompt-more tt

pub prompt : Prompt reference
prompt bytes passes = prompt-accepted (plan_of bytes) (plan.accepted bytes passes)

-- ---- requests that are timely, asked on arrival, and counted over the whole list

-- What is promised for one premise on requests is so for each one that is no weaker.
weaker : (Q R : Plan → (i w : ℕ) → History → Type 0) (P : Plan) → ((i w : ℕ) (h : History) → R P i w h → Q P i w h)
    → (h : History) → PromptOn Q 0 P h → PromptOn R 0 P h
weaker Q R P implies h = each_map (PromptAt Q 0 P) (PromptAt R 0 P) one h
  where
    one : (e : Event) (h : History) → PromptAt Q 0 P e h → PromptAt R 0 P e h
    one (requested w a) h x = λ well asked few. x well (implies (flow_of w) w h asked) few
    one (credited j p a) h x = tt
    one (ticked a) h x = tt
    one (lent m a) h x = tt
    one (Event.reset a) h x = tt

pub prompt-if-timely : PromptBy Timely 0 reference
prompt-if-timely bytes passes calls =
    weaker FitsNewest Timely (plan_of bytes) (timely-fits (plan.accepted bytes passes)) (run reference (plan_of bytes) calls).history (prompt bytes passes calls)

-- A tile that has come is timely.
pub prompt-if-ready : PromptBy Ready 0 reference
prompt-if-ready bytes passes calls =
    weaker Timely Ready (plan_of bytes) (ready-timely (plan.accepted bytes passes)) (run reference (plan_of bytes) calls).history (prompt-if-timely bytes passes calls)

-- Grants since the last granted reset are among those of the whole list: if fewer than the share of these were made in the frame, so were of those.
pub made-in-all : (P : Plan) (h : History) (i f : ℕ) → made_in P h i f ≤ tally (in_frame P i f) (marks_of (grant_by (λ w h. ticks h)) h)
unfolding made_since
made-in-all P h i f = omega (arith, split-at-reset (grant_by (λ w h. ticks h)) (in_frame P i f) h)
