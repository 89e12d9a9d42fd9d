-- On the reference scheduler a stream that asks within its share, with late + 2 shares of cells that are given back `late` frames late, is granted each request
-- in its frame or the next. Assumes nothing.
use Prim.Native.Nat.{ℕ, ◌+◌, ◌*◌, ◌≤◌, ◌<◌}
use mathlib.Core.Path.{◌≡◌, refl, ap, ◌∙◌, subst}
use mathlib.Core.List.{List, [], ◌∷◌}
use mathlib.Core.Bool.{true}
use native.Mathlib.Decide.{ℕ_discrete}
use native.Mathlib.Omega.{arith}
use Rattle.model.specs.Tables.{tally}
use Rattle.model.specs.Word.{flow_of}
use Rattle.model.specs.Plan.{Plan, flow_count, entry, plan_of, Accepted}
use Rattle.model.specs.Calls.{Call, Event, History, requested, credited, ticked, lent, accepted, refused}
use Rattle.model.specs.History.{ticks, frame_of, well_formed, lend_at, lends, of_flow, in_frame}
use Rattle.model.specs.Claim.{Each, EachSince, GrantedWordAt}
use Rattle.model.specs.Scheduler.{reference, run}
use Rattle.arrival.specs.Delay.{current_frame, due_frame, made_since, made_in, due_in, TimelyInOrder, AsksAt, Modest}
use Rattle.arrival.specs.Delay.{ServedAt, AtAnswer, GrantedSoonAt}
use Rattle.arrival.specs.SeveralLinks.{Ran}
use Rattle.arrival.specs.SharesOfCells.{AsksWithinShare, KeepsShares, GrantedNow, EachGrantedNow, SharesOfCells, TwoShares, ThreeShares}
use Rattle.model.proofs.Plan as plan
use Rattle.model.proofs.Tallies.{tally-append}
use Rattle.model.proofs.Marks.{mark, in-frame-hit, in-frame-skip, in-frame-other}
use Rattle.model.proofs.HistoryCounts.{NoneGranted}
use Rattle.model.proofs.Demand3.{each_map}
use Rattle.model.proofs.EventsOfRuns.{Happened, each-happened}
use Rattle.arrival.proofs.TimelyRequests.{due-if-come}
use Rattle.arrival.proofs.Soon.{soon-accepted}
use Rattle.arrival.proofs.SoonOnArrival.{ComeAt, made-later, due-when-made, served-on-arrival}
use Rattle.arrival.proofs.NextLink.{each-since, since-all, counts-at}
use Rattle.arrival.proofs.SeveralLinks.{none-granted}
use Rattle.arrival.proofs.EnoughCells.{BeginningsRan, beginnings-ran}
use Rattle.arrival.proofs.HeldByFrames.{room_next}

module _ {P : Plan} (ok : Accepted P) (i : ℕ) (known : i < flow_count P) (late : ℕ) where
  -- ---- no more than the share is made in a frame

  abbrev Asked : Event → History → Type 0
  Asked = AsksAt (AsksWithinShare late) P i

  made-within : (h : History) → Each (GrantedWordAt P) h → Each Asked h → (f : ℕ) → made_in P h i f ≤ (entry P i).share
  unfolding made_since tally
  made-within [] words asks f = omega arith
  made-within (requested w (accepted v) ∷ h) words asks f = go (made-within h words.1 asks.1 f) (ℕ_discrete (flow_of w) i) (ℕ_discrete (current_frame P h) f)
    where
      go : made_in P h i f ≤ (entry P i).share → Dec (flow_of w ≡ i) → Dec (current_frame P h ≡ f)
          → tally (in_frame P i f) (mark (flow_of w) (ticks h) ∷ made_since h) ≤ (entry P i).share
      go rest (yes own) (yes now) =
          let few = (asks.0 words.0.asked_well_formed own).few in
          omega (arith, in-frame-hit P i f (mark (flow_of w) (ticks h)) (made_since h) own now, ap (made_in P h i) now)
      go rest (yes own) (no other) = omega (arith, in-frame-skip P i f (mark (flow_of w) (ticks h)) (made_since h) other)
      go rest (no other) d = omega (arith, in-frame-other P i f (mark (flow_of w) (ticks h)) (made_since h) other)
  made-within (requested w (refused r) ∷ h) words asks f = made-within h words.1 asks.1 f
  made-within (credited j p a ∷ h) words asks f = made-within h words.1 asks.1 f
  made-within (ticked x ∷ h) words asks f = made-within h words.1 asks.1 f
  made-within (lent m a ∷ h) words asks f = made-within h words.1 asks.1 f
  made-within (Event.reset (accepted u) ∷ h) words asks f = omega arith
  made-within (Event.reset (refused r) ∷ h) words asks f = made-within h words.1 asks.1 f

  -- ---- a request

  pub come-of : (h : History) → Each Asked h → EachSince (ComeAt P i) h
  come-of h asks = each-since (ComeAt P i) h (each_map Asked (ComeAt P i) one h asks)
    where
      one : (e : Event) (h : History) → Asked e h → ComeAt P i e h
      one (requested w a) h x = λ well own. (x well own).come
      one (credited j p a) h x = tt
      one (ticked a) h x = tt
      one (lent m a) h x = tt
      one (Event.reset a) h x = tt

  module _ (h : History) (words : Each (GrantedWordAt P) h) (none : NoneGranted h) (asks : Each Asked h) (so_far : Each (AsksAt TimelyInOrder P i) h) where
    pub modest-of : Modest TimelyInOrder 0 P i h
    modest-of = record {
      asks = each-since (AsksAt TimelyInOrder P i) h so_far;
      within_share = λ f. omega (arith, due-when-made ok i f h words (come-of h asks), made-within h words asks f);
    }

    module _ (ran : Ran reference P h) where
      served-of : EachSince (ServedAt P i) h
      served-of = subst (λ k. Modest TimelyInOrder 0 P i k → EachSince (ServedAt P i) k) ran.is (soon-accepted P ok ran.calls i known) modest-of

      pub soon_of : EachSince (GrantedSoonAt P i) h
      soon_of = served-on-arrival ok i h words (come-of h asks) served-of

      module _ (happened : Each (Happened P) h) (not_lent : tally (of_flow i) (lends h) ≡ 0) (enough : (late + 2) * (entry P i).share ≤ (entry P i).cells + 0) (w : ℕ)
          (x : AsksWithinShare late P i w h) where
        timely-next : TimelyInOrder P i w h
        timely-next =
            let now = due-if-come P w h x.come in
            record {
              timely = record {
                room = rw now (room_next ok i known late h none soon_of x.given_back not_lent (counts-at ok h happened) enough x.few);
                number = x.number;
                in_time = omega (arith, ap (frame_of P) now, ok.two_frames);
              };
              in_order = λ f lt. due-when-made ok i f h words (come-of h asks) ∙ made-later ok i f h (omega (arith, ap (frame_of P) now));
            }

  -- ---- a list of calls

  timely-at : (e : Event) (h : History) → Each (GrantedWordAt P) h → NoneGranted h → Each Asked h → Each (AsksAt TimelyInOrder P i) h → Ran reference P h
      → Each (Happened P) h → tally (of_flow i) (lends h) ≡ 0 → (late + 2) * (entry P i).share ≤ (entry P i).cells + 0 → Asked e h → AsksAt TimelyInOrder P i e h
  timely-at (requested w a) h words none asks so_far ran happened not_lent enough x =
      λ well own. timely-next h words none asks so_far ran happened not_lent enough w (x well own)
  timely-at (credited j p a) h words none asks so_far ran happened not_lent enough x = tt
  timely-at (ticked a) h words none asks so_far ran happened not_lent enough x = tt
  timely-at (lent m a) h words none asks so_far ran happened not_lent enough x = tt
  timely-at (Event.reset a) h words none asks so_far ran happened not_lent enough x = tt

  pub timely-at-each : (h : History) → Each (GrantedWordAt P) h → NoneGranted h → Each Asked h → BeginningsRan P h → Each (Happened P) h
      → tally (of_flow i) (lends h) ≡ 0 → (late + 2) * (entry P i).share ≤ (entry P i).cells + 0 → Each (AsksAt TimelyInOrder P i) h
  unfolding lends
  timely-at-each [] words none asks ran happened not_lent enough = tt
  timely-at-each (e ∷ h) words none asks ran happened not_lent enough =
      let not_yet : tally (of_flow i) (lends h) ≡ 0 = omega (arith, tally-append (of_flow i) (lend_at e h) (lends h)) in
      let rest = timely-at-each h words.1 none.1 asks.1 ran.1 happened.1 not_yet enough in
      (timely-at e h words.1 none.1 asks.1 rest ran.0 happened.1 not_yet enough asks.0, rest)

  abbrev GrantedAt : Event → History → Type 0
  GrantedAt = AtAnswer (λ w a h. well_formed P w ≡ true → flow_of w ≡ i → GrantedNow P a h)

  -- a refusal would need the whole share made already
  all-granted : (h : History) → Each (GrantedWordAt P) h → Each Asked h → EachSince (ServedAt P i) h → NoneGranted h → Each GrantedAt h
  all-granted h words asks served none =
      each h words asks (since-all (ServedAt P i) h none served) (since-all (GrantedSoonAt P i) h none (served-on-arrival ok i h words (come-of h asks) served))
    where
      few-due : (w : ℕ) (h : History) → Each (GrantedWordAt P) h → Each Asked h → AsksWithinShare late P i w h → due_in P h i (due_frame P w h) < (entry P i).share
      few-due w h words asks x =
          rw (due-if-come P w h x.come) (omega (arith, due-when-made ok i (current_frame P h) h words (come-of h asks), x.few))

      each : (h : History) → Each (GrantedWordAt P) h → Each Asked h → Each (ServedAt P i) h → Each (GrantedSoonAt P i) h → Each GrantedAt h
      each [] words asks served soon = tt
      each (requested w (accepted v) ∷ h) words asks served soon = (λ well own. soon.0 own, each h words.1 asks.1 served.1 soon.1)
      each (requested w (refused r) ∷ h) words asks served soon =
          (λ well own. omega (arith, served.0 well own, few-due w h words.1 asks.1 (asks.0 well own)), each h words.1 asks.1 served.1 soon.1)
      each (credited j p a ∷ h) words asks served soon = (tt, each h words.1 asks.1 served.1 soon.1)
      each (ticked x ∷ h) words asks served soon = (tt, each h words.1 asks.1 served.1 soon.1)
      each (lent m a ∷ h) words asks served soon = (tt, each h words.1 asks.1 served.1 soon.1)
      each (Event.reset a ∷ h) words asks served soon = (tt, each h words.1 asks.1 served.1 soon.1)

-- on any plan that keeps the limits, and so on the plan of any bytes that are accepted
pub shares-of-cells-accepted : (late : ℕ) (P : Plan) → Accepted P → (calls : List Call) (i : ℕ) → i < flow_count P
    → KeepsShares late 0 P i (run reference P calls).history → EachGrantedNow P i (run reference P calls).history
shares-of-cells-accepted late P ok calls i known x =
    let h = (run reference P calls).history in
    let happened = each-happened P ok calls in
    let words = each_map _ (GrantedWordAt P) (λ e h x. x.word) h happened in
    let none = none-granted h x.no_reset in
    let timely = timely-at-each ok i known late h words none x.asks (beginnings-ran P ok calls) happened x.not_lent (omega (arith, x.enough_cells)) in
    all-granted ok i known late h words x.asks
    (served-of ok i known late h words none x.asks timely (record { calls = calls; is = refl })) none

pub shares-of-cells : SharesOfCells reference
shares-of-cells late bytes passes = shares-of-cells-accepted late (plan_of bytes) (plan.accepted bytes passes)

pub two_shares : TwoShares reference
two_shares = shares-of-cells 0

pub three-shares : ThreeShares reference
three-shares = shares-of-cells 1
