-- On the reference scheduler a stream that asks within its share, with late + 2 shares of cells that are given back `late` frames late, is granted its slots in
-- order. Assumes nothing.
use Prim.Native.Nat.{ℕ, ◌+◌, ◌*◌, ◌≤◌, ◌<◌}
use mathlib.Core.Path.{◌≡◌, sym, ap, ◌∙◌, subst}
use mathlib.Core.List.{List, [], ◌∷◌}
use native.Mathlib.Nat.{mul-le-mul_right}
use native.Mathlib.Decide.{dec_lt}
use native.Mathlib.Omega.{arith}
use Rattle.model.specs.Tables.{tally}
use Rattle.model.specs.Word.{flow_of, departure_of}
use Rattle.model.specs.Plan.{Plan, flow_count, entry, plan_of, Accepted}
use Rattle.model.specs.Calls.{Call, Event, History, requested, credited, ticked, lent, accepted, refused}
use Rattle.model.specs.History.{ticks, slot_after, frame_of, grants_since, lend_at, grants, lends, of_flow, in_frame, granted_up_to, lent_up_to, credited_up_to}
use Rattle.model.specs.Claim.{Each, EachSince, GrantedWordAt}
use Rattle.model.specs.Scheduler.{reference, run}
use Rattle.arrival.specs.Delay.{current_frame, due_slot, RoomFrom, TimelyInOrder, AsksAt, GrantedSoonAt}
use Rattle.arrival.specs.BooksInOrder.{AfterThoseAt, NoneDueAfter}
use Rattle.arrival.specs.SharesOfCells.{AsksWithinShare, KeepsShares, SharesInOrder}
use Rattle.model.proofs.Plan as plan
use Rattle.model.proofs.Tallies.{tally-append}
use Rattle.model.proofs.Slots.{frame-begins}
use Rattle.model.proofs.Marks.{mark, in-frame-hit}
use Rattle.model.proofs.HistoryCounts.{NoneGranted}
use Rattle.model.proofs.Demand3.{each_map}
use Rattle.model.proofs.EventsOfRuns.{Happened, each-happened}
use Rattle.arrival.proofs.TimelyRequests.{frame-order, due-if-come}
use Rattle.arrival.proofs.GrantsInOrder.{frames-in-order}
use Rattle.arrival.proofs.NextLink.{grants-are, counts-at}
use Rattle.arrival.proofs.SeveralLinks.{none-granted}
use Rattle.arrival.proofs.EnoughCells.{BeginningsRan, beginnings-ran}
use Rattle.arrival.proofs.HeldByFrames.{room_next, room-now}
use Rattle.arrival.proofs.SharesOfCells.{come-of, soon_of, timely-at-each}
use Rattle.arrival.proofs.BooksInOrder.{EarliestAt, each-earliest, Close, CloseAt, DueInOrderAt, all-in-order-if-close, none-later, none-due}

module _ {P : Plan} (ok : Accepted P) (i : ℕ) (known : i < flow_count P) (late : ℕ) (enough : (late + 2) * (entry P i).share ≤ (entry P i).cells + 0) where
  abbrev Asked : Event → History → Type 0
  Asked = AsksAt (AsksWithinShare late) P i

  -- what is known of a beginning of the list, before its next event
  record Before (h : History) : Type 0 where
    happened : Each (Happened P) h
    none : NoneGranted h
    asks : Each Asked h
    soon : EachSince (GrantedSoonAt P i) h
    not_lent : tally (of_flow i) (lends h) ≡ 0

  module _ (w v : ℕ) (h : History) (b : Before h) (own : flow_of w ≡ i) (x : AsksWithinShare late P i w h) (happens : Happened P (requested w (accepted v)) h)
      (first : EarliestAt P (requested w (accepted v)) h) where
    abbrev s : ℕ
    s = slot_after P (ticks h) (departure_of v)

    abbrev f : ℕ
    f = current_frame P h

    -- a slot of the current frame is granted only where less than the share is booked in it
    left : frame_of P s ≡ f → tally (in_frame P i f) (grants P h) < (entry P i).share
    unfolding grants_since
    left here =
        omega (
          arith,
          happens.counts_after.in_frames i known f,
          in-frame-hit P i f (mark (flow_of w) s) (grants_since P h) own here,
          ap (tally (in_frame P i f)) (grants-are P h b.none),
        )

    -- so there is room in every slot of the frame of the granted one
    room : (r : ℕ) → frame_of P r ≡ frame_of P s → RoomFrom P i r h
    room r same q le = go (dec_lt f (frame_of P s))
      where
        go : Dec (f < frame_of P s) → granted_up_to P h i q + lent_up_to h i q < credited_up_to P h i q + (entry P i).cells
        go (yes later) =
            let begins : (f + 1) * P.slots ≤ frame_of P r * P.slots = mul-le-mul_right P.slots (omega arith) in
            room_next ok i known late h b.none b.soon x.given_back b.not_lent (counts-at ok h b.happened) enough x.few q
            (omega (arith, frame-begins ok r))
        go (no here) =
            let is : frame_of P s ≡ f = omega (arith, frame-order ok (ticks h) s (omega (arith, first.after_due, due-if-come P w h x.come))) in
            let starts : f * P.slots ≡ frame_of P r * P.slots = ap (◌* P.slots) (sym (same ∙ is)) in
            room-now ok i known late h b.none b.soon x.given_back b.not_lent (counts-at ok h b.happened) enough x.few (left is) q
            (omega (arith, frame-begins ok r))

    close : Close P w s h
    close r same after before = first.none_between r (subst (λ j. RoomFrom P j r h) (sym own) (room r same)) same after before

    -- its tiles have come, so that none was due later
    in-turn : NoneDueAfter P h i (due_slot P w h)
    in-turn =
        none-later P h i (ticks h) (due_slot P w h) (omega (arith, due-if-come P w h x.come))
        (none-due P i h b.happened (come-of ok i known late h b.asks))

  -- what holds of each event
  record After (e : Event) (h : History) : Type 0 where
    closes : CloseAt P i e h
    ordered : DueInOrderAt P i e h

  one-close : (e : Event) (h : History) → Before h → Asked e h → Happened P e h → EarliestAt P e h → After e h
  one-close (requested w (accepted v)) h b asked happens first =
      let well = happens.word.asked_well_formed in
      record {
        closes = λ own. close w v h b own (asked well own) happens first;
        ordered = λ own. in-turn w v h b own (asked well own) happens first;
      }
  one-close (requested w (refused r)) h b asked happens first = record { closes = tt; ordered = tt }
  one-close (credited j p a) h b asked happens first = record { closes = tt; ordered = tt }
  one-close (ticked x) h b asked happens first = record { closes = tt; ordered = tt }
  one-close (lent m a) h b asked happens first = record { closes = tt; ordered = tt }
  one-close (Event.reset a) h b asked happens first = record { closes = tt; ordered = tt }

  all-close : (h : History) → Each (GrantedWordAt P) h → NoneGranted h → Each Asked h → Each (AsksAt TimelyInOrder P i) h → BeginningsRan P h
      → Each (Happened P) h → tally (of_flow i) (lends h) ≡ 0 → Each (EarliestAt P) h → Each After h
  unfolding lends
  all-close [] words none asks timely ran happened not_lent first = tt
  all-close (e ∷ h) words none asks timely ran happened not_lent first =
      let not_yet : tally (of_flow i) (lends h) ≡ 0 = omega (arith, tally-append (of_flow i) (lend_at e h) (lends h)) in
      let before : Before h = record {
        happened = happened.1;
        none = none.1;
        asks = asks.1;
        soon = soon_of ok i known late h words.1 none.1 asks.1 timely.1 ran.0;
        not_lent = not_yet;
      } in (
        one-close e h before asks.0 happened.0 first.0,
        all-close h words.1 none.1 asks.1 timely.1 ran.1 happened.1 not_yet first.1,
      )

-- on any plan that keeps the limits, and so on the plan of any bytes that are accepted
pub shares-in-order-accepted : (late : ℕ) (P : Plan) → Accepted P → (calls : List Call) (i : ℕ) → i < flow_count P
    → KeepsShares late 0 P i (run reference P calls).history → Each (AfterThoseAt P i) (run reference P calls).history
shares-in-order-accepted late P ok calls i known x =
    let h = (run reference P calls).history in
    let happened = each-happened P ok calls in
    let words = each_map _ (GrantedWordAt P) (λ e h x. x.word) h happened in
    let none = none-granted h x.no_reset in
    let ran = beginnings-ran P ok calls in
    let enough : (late + 2) * (entry P i).share ≤ (entry P i).cells + 0 = omega (arith, x.enough_cells) in
    let first = each-earliest P ok calls in
    let timely = timely-at-each ok i known late h words none x.asks ran happened x.not_lent enough in
    let all = all-close ok i known late enough h words none x.asks timely ran happened x.not_lent first in
    all-in-order-if-close P ok i h first (frames-in-order P ok calls) (each_map _ (CloseAt P i) (λ e h x. x.closes) h all)
    (each_map _ (DueInOrderAt P i) (λ e h x. x.ordered) h all)

pub shares-in-order : SharesInOrder reference
shares-in-order late bytes passes = shares-in-order-accepted late (plan_of bytes) (plan.accepted bytes passes)
