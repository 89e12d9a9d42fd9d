-- A history played again on the reference scheduler: the link after each event, and the answer that it gave. Assumes nothing.
use mathlib.Core.Path.{◌≡◌, refl, sym, ap, subst}
use mathlib.Core.List.{List, [], ◌∷◌}
use Rattle.model.specs.Plan.{Plan, Accepted}
use Rattle.model.specs.Calls.{Call, Event, History, requested, credited, ticked, lent}
use Rattle.model.specs.Link.{Link}
use Rattle.model.specs.Fresh.{fresh}
use Rattle.model.specs.Request as request
use Rattle.model.specs.Credit as credit
use Rattle.model.specs.Tick as tick
use Rattle.model.specs.Lend as lend
use Rattle.model.specs.Reset as reset
use Rattle.model.specs.Claim.{Each}
use Rattle.model.specs.Scheduler.{Played, reference, step, run}
use Rattle.model.proofs.AfterHistory.{After}
use Rattle.model.proofs.AfterCalls.{Known, after-step, after-fresh}
use Rattle.model.proofs.EventsOfRuns.{Happened, by-calls}

-- the link after the calls of a history
unfoldable pub link_after : Plan → History → Link
link_after P [] = fresh P
link_after P (requested w a ∷ h) = (request.request (link_after P h) w).link
link_after P (credited i p a ∷ h) = (credit.credit (link_after P h) i p).link
link_after P (ticked x ∷ h) = (tick.tick (link_after P h)).link
link_after P (lent m a ∷ h) = (lend.lend (link_after P h) m).link
link_after P (Event.reset a ∷ h) = (reset.reset (link_after P h)).link

-- the answer is the link's
abbrev pub AnsweredBy : Link → Event → Type 0
AnsweredBy l (requested w a) = (request.request l w).answer ≡ a
AnsweredBy l (credited i p a) = (credit.credit l i p).answer ≡ a
AnsweredBy l (ticked x) = (tick.tick l).answer ≡ x
AnsweredBy l (lent m a) = (lend.lend l m).answer ≡ a
AnsweredBy l (Event.reset a) = (reset.reset l).answer ≡ a

-- Event e was the answer of the link that stands after h.
pub record Replayed (P : Plan) (e : Event) (h : History) : Type 0 where
  pub stands : After P (link_after P h) h
  pub then_stands : After P (link_after P (e ∷ h)) (e ∷ h)
  pub answer : AnsweredBy (link_after P h) e

-- so of each event, and the link is the one after them
pub record Replays (P : Plan) (r : Played reference) : Type 0 where
  pub link_is : r.state ≡ link_after P r.history
  pub each : Each (Replayed P) r.history

module _ {P : Plan} where
  one_more : (r : Played reference) (c : Call) → Known P r → Each (Happened P) r.history → Replays P r → Replays P (step reference r c)
  unfolding link_after
  one_more r c g happened x = go c
    where
      l : Link
      l = link_after P r.history

      stands : After P l r.history
      stands = subst (λ k. After P k r.history) x.link_is g

      -- one event more, where the scheduler's next link is next l
      more : (e : Event) (k : Link) → k ≡ link_after P (e ∷ r.history) → After P k (e ∷ r.history) → AnsweredBy l e
          → Replays P (record { state = k; history = e ∷ r.history })
      more e k is then answer = record {
        link_is = is;
        each = (record { stands = stands; then_stands = subst (λ k. After P k (e ∷ r.history)) is then; answer = answer }, x.each);
      }

      go : (c : Call) → Replays P (step reference r c)
      go (Call.request w) =
          more _ _ (ap (λ k. (request.request k w).link) x.link_is) (after-step r (Call.request w) g) (ap (λ k. (request.request k w).answer) (sym x.link_is))
      go (Call.credit i p) =
          more _ _ (ap (λ k. (credit.credit k i p).link) x.link_is) (after-step r (Call.credit i p) g)
          (ap (λ k. (credit.credit k i p).answer) (sym x.link_is))
      go Call.tick = more _ _ (ap (λ k. (tick.tick k).link) x.link_is) (after-step r Call.tick g) (ap (λ k. (tick.tick k).answer) (sym x.link_is))
      go (Call.lend m) =
          more _ _ (ap (λ k. (lend.lend k m).link) x.link_is) (after-step r (Call.lend m) g) (ap (λ k. (lend.lend k m).answer) (sym x.link_is))
      go Call.reset = more _ _ (ap (λ k. (reset.reset k).link) x.link_is) (after-step r Call.reset g) (ap (λ k. (reset.reset k).answer) (sym x.link_is))

pub replays : (P : Plan) → Accepted P → (calls : List Call) → Replays P (run reference P calls)
unfolding link_after
replays P ok calls = by-calls ok (Replays P) one_more (record { link_is = refl; each = tt }) calls

-- the link after the whole of it
pub stands_after : (P : Plan) → Accepted P → (h : History) → Each (Replayed P) h → After P (link_after P h) h
unfolding link_after
stands_after P ok [] each = after-fresh ok
stands_after P ok (e ∷ h) each = each.0.then_stands
