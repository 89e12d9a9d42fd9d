-- On the reference scheduler a stream whose words run up to `ahead` frames ahead of their tiles, with ahead + late + 2 shares of cells that are given back
-- `late` frames late, is granted each request in the frame in which its tile is due or the next. Assumes nothing.
use Prim.Native.Nat.{ℕ, zero, suc, ◌+◌, ◌-◌, ◌*◌, ◌≤◌, ◌<◌}
use mathlib.Core.Path.{◌≡◌, refl, ap, subst}
use mathlib.Core.List.{List, [], ◌∷◌}
use native.Mathlib.Nat.{mul-le-mul_right}
use native.Mathlib.Decide.{dec_le, ℕ_discrete}
use native.Mathlib.Omega.{arith}
use lib.Dec.{leb}
use Rattle.model.specs.Tables.{bit, tally}
use Rattle.model.specs.Word.{flow_of, departure_of}
use Rattle.model.specs.Plan.{Plan, flow_count, entry, plan_of, Accepted}
use Rattle.model.specs.Calls.{Call, Event, History, requested, credited, ticked, lent, accepted, refused}
use Rattle.model.specs.History.{Mark, ticks, slot_after, frame_of, lend_at, grants, lends, of_flow, in_frame, up_to}
use Rattle.model.specs.Claim.{Each, EachSince, GrantedWordAt}
use Rattle.model.specs.Scheduler.{reference, run}
use Rattle.arrival.specs.Delay.{current_frame, due_slot, due_frame, due_since, due_in, RoomFrom, next_frame_of, TimelyInOrder, AsksAt, Modest, ServedAt}
use Rattle.arrival.specs.SeveralLinks.{Ran}
use Rattle.arrival.specs.SharesAhead.{AsksAhead, KeepsSharesAhead, EachGrantedInTime, SharesAhead}
use Rattle.model.proofs.Plan as plan
use Rattle.model.proofs.Tests.{and-true}
use Rattle.model.proofs.Tallies.{All, all_map, sum-le, sum-const, tally-append, tally-le}
use Rattle.model.proofs.Marks.{mark, in-frame-hit, in-frame-skip, in-frame-other}
use Rattle.model.proofs.HistoryCounts.{NoneGranted}
use Rattle.model.proofs.Demand3.{each_map}
use Rattle.model.proofs.EventsOfRuns.{Counts, Happened, each-happened}
use Rattle.arrival.proofs.TimelyRequests.{frame-order, due-frame-from-now}
use Rattle.arrival.proofs.Soon.{soon-accepted}
use Rattle.arrival.proofs.NextLink.{each-since, since-all, counts-at}
use Rattle.arrival.proofs.SeveralLinks.{none-granted}
use Rattle.arrival.proofs.EnoughCells.{BeginningsRan, beginnings-ran}
use Rattle.arrival.proofs.HeldByFrames.{Near, from-frame, most, older-given-back}

-- ---- marks by what is counted of them

mark-more : (P : Plan) (i f : ℕ) (m : Mark) (ms : List Mark) → tally (in_frame P i f) ms ≤ tally (in_frame P i f) (m ∷ ms)
unfolding tally
mark-more P i f m ms = omega arith

-- where none of flow i's lie in a frame after b
none_after : (P : Plan) (i b : ℕ) (ms : List Mark) → ((g : ℕ) → b < g → tally (in_frame P i g) ms ≡ 0) → All (λ m. m.flow ≡ i → frame_of P m.slot ≤ b) ms
none_after P i b [] none = tt
none_after P i b (m ∷ ms) none = (λ own. go own (dec_le (frame_of P m.slot) b), none_after P i b ms (λ g lt. omega (arith, none g lt, mark-more P i g m ms)))
  where
    go : m.flow ≡ i → Dec (frame_of P m.slot ≤ b) → frame_of P m.slot ≤ b
    go own (yes le) = le
    go own (no gt) =
        let g = frame_of P m.slot in
        absurd (omega (arith, none g (omega arith), in-frame-hit P i g m ms own refl))

module _ {P : Plan} (ok : Accepted P) (i : ℕ) (known : i < flow_count P) where
  -- ---- a grant lies in the frame in which its tile is due, or in the next

  abbrev InFrameDue : (g : ℕ) → History → Type 0
  InFrameDue g h = tally (in_frame P i (suc g)) (grants P h) ≤ due_in P h i g + due_in P h i (suc g)

  grant-due : (g w v : ℕ) (h : History) → GrantedWordAt P (requested w (accepted v)) h → ServedAt P i (requested w (accepted v)) h → InFrameDue g h
      → InFrameDue g (requested w (accepted v) ∷ h)
  unfolding grants due_since
  grant-due g w v h word served rest = go (ℕ_discrete (flow_of w) i) (ℕ_discrete (frame_of P s) (suc g))
    where
      s : ℕ
      s = slot_after P (ticks h) (departure_of v)

      new : Mark
      new = mark (flow_of w) (due_slot P w h)

      there-due : flow_of w ≡ i → frame_of P s ≡ suc g → Dec (due_frame P w h ≡ g)
          → suc (tally (in_frame P i (suc g)) (grants P h)) ≤ tally (in_frame P i g) (new ∷ due_since P h) + tally (in_frame P i (suc g)) (new ∷ due_since P h)
      there-due own there (yes e) =
          omega (arith, rest, in-frame-hit P i g new (due_since P h) own e, mark-more P i (suc g) new (due_since P h))
      there-due own there (no d) =
          let x = served word.asked_well_formed own in
          let e : due_frame P w h ≡ suc g = omega (arith, x.due_or_next, frame-order ok (due_slot P w h) s (omega (arith, x.not_before))) in
          omega (arith, rest, in-frame-hit P i (suc g) new (due_since P h) own e, mark-more P i g new (due_since P h))

      go : Dec (flow_of w ≡ i) → Dec (frame_of P s ≡ suc g)
          → tally (in_frame P i (suc g)) (mark (flow_of w) s ∷ grants P h)
          ≤ tally (in_frame P i g) (new ∷ due_since P h) + tally (in_frame P i (suc g)) (new ∷ due_since P h)
      go (yes own) (yes there) =
          omega (
            arith,
            there-due own there (ℕ_discrete (due_frame P w h) g),
            in-frame-hit P i (suc g) (mark (flow_of w) s) (grants P h) own there,
          )
      go (yes own) (no elsewhere) =
          omega (
            arith,
            rest,
            in-frame-skip P i (suc g) (mark (flow_of w) s) (grants P h) elsewhere,
            mark-more P i g new (due_since P h),
            mark-more P i (suc g) new (due_since P h),
          )
      go (no other) d =
          omega (
            arith,
            rest,
            in-frame-other P i (suc g) (mark (flow_of w) s) (grants P h) other,
            mark-more P i g new (due_since P h),
            mark-more P i (suc g) new (due_since P h),
          )

  in-frame-due : (g : ℕ) (h : History) → NoneGranted h → Each (GrantedWordAt P) h → EachSince (ServedAt P i) h → InFrameDue g h
  unfolding grants due_since tally
  in-frame-due g [] none words served = omega arith
  in-frame-due g (requested w (accepted v) ∷ h) none words served =
      grant-due g w v h words.0 served.0 (in-frame-due g h none.1 words.1 served.1)
  in-frame-due g (requested w (refused r) ∷ h) none words served = in-frame-due g h none.1 words.1 served.1
  in-frame-due g (credited j p a ∷ h) none words served = in-frame-due g h none.1 words.1 served.1
  in-frame-due g (ticked x ∷ h) none words served = in-frame-due g h none.1 words.1 served.1
  in-frame-due g (lent m a ∷ h) none words served = in-frame-due g h none.1 words.1 served.1
  in-frame-due g (Event.reset (accepted u) ∷ h) none words served = absurd (let z : ◌≡◌ {A = ℕ} 1 0 = ap bit none.0 in omega arith)
  in-frame-due g (Event.reset (refused r) ∷ h) none words served = in-frame-due g h none.1 words.1 served.1

  -- ---- room from the frame after the due one on

  module _ (ahead late : ℕ) (h : History) (none : NoneGranted h) (words : Each (GrantedWordAt P) h) (served : EachSince (ServedAt P i) h)
      (not_lent : tally (of_flow i) (lends h) ≡ 0) (c : Counts P h) (enough : (ahead + late + 2) * (entry P i).share ≤ (entry P i).cells + 0) (w : ℕ)
      (x : AsksAhead ahead late P i w h) where
    abbrev f : ℕ
    f = current_frame P h

    abbrev D : ℕ
    D = due_frame P w h

    none-past-next : (g : ℕ) → suc D < g → tally (in_frame P i g) (grants P h) ≡ 0
    none-past-next zero lt = elim lt [ ]
    none-past-next (suc g) lt = omega (arith, in-frame-due g h none words served, x.in_order g (omega arith), x.in_order (suc g) (omega arith))

    in-next : tally (in_frame P i (suc D)) (grants P h) ≤ due_in P h i D
    in-next = omega (arith, in-frame-due D h none words served, x.in_order (suc D) (omega arith))

    room-ahead : RoomFrom P i (next_frame_of P (due_slot P w h)) h
    room-ahead s le =
        omega (
          arith,
          from-frame ok i s (f - late) (ahead + late) (suc D) (grants P h) (all_map _ _ near (grants P h) (none_after P i (suc D) (grants P h) none-past-next)),
          sum-le (suc (ahead + late)) (λ k. tally (in_frame P i (f - late + k)) (grants P h)) (λ k. (entry P i).share)
              (λ k lt. most ok i known h none c (f - late + k)),
          sum-const (suc (ahead + late)) (entry P i).share,
          older-given-back ok i known late h x.given_back s from,
          in-next,
          x.few,
          tally-le (up_to i s) (of_flow i) (λ m e. (and-true (of_flow i m) (leb m.slot s) e).0) (lends h),
        )
      where
        from : (f + 1) * P.slots ≤ s
        from = let z : (f + 1) * P.slots ≤ (D + 1) * P.slots = mul-le-mul_right P.slots (omega (arith, due-frame-from-now ok w h)) in omega arith

        near : (m : Mark) → (m.flow ≡ i → frame_of P m.slot ≤ suc D) → Near ok i s (f - late) (ahead + late) (suc D) m
        near m by own up other = omega (arith, by own, x.within)

module _ {P : Plan} (ok : Accepted P) (i : ℕ) (known : i < flow_count P) (ahead late : ℕ) where
  abbrev Asked : Event → History → Type 0
  Asked = AsksAt (AsksAhead ahead late) P i

  -- ---- no more than the share is due in a frame

  due-within : (h : History) → Each (GrantedWordAt P) h → Each Asked h → (f : ℕ) → due_in P h i f ≤ (entry P i).share
  unfolding due_since tally
  due-within [] words asks f = omega arith
  due-within (requested w (accepted v) ∷ h) words asks f = go (due-within h words.1 asks.1 f) (ℕ_discrete (flow_of w) i) (ℕ_discrete (due_frame P w h) f)
    where
      new : Mark
      new = mark (flow_of w) (due_slot P w h)

      go : due_in P h i f ≤ (entry P i).share → Dec (flow_of w ≡ i) → Dec (due_frame P w h ≡ f) → tally (in_frame P i f) (new ∷ due_since P h) ≤ (entry P i).share
      go rest (yes own) (yes there) =
          let few = (asks.0 words.0.asked_well_formed own).few in
          omega (arith, in-frame-hit P i f new (due_since P h) own there, ap (due_in P h i) there)
      go rest (yes own) (no other) = omega (arith, in-frame-skip P i f new (due_since P h) other)
      go rest (no other) d = omega (arith, in-frame-other P i f new (due_since P h) other)
  due-within (requested w (refused r) ∷ h) words asks f = due-within h words.1 asks.1 f
  due-within (credited j p a ∷ h) words asks f = due-within h words.1 asks.1 f
  due-within (ticked x ∷ h) words asks f = due-within h words.1 asks.1 f
  due-within (lent m a ∷ h) words asks f = due-within h words.1 asks.1 f
  due-within (Event.reset (accepted u) ∷ h) words asks f = omega arith
  due-within (Event.reset (refused r) ∷ h) words asks f = due-within h words.1 asks.1 f

  -- ---- each request is timely

  module _ (h : History) (words : Each (GrantedWordAt P) h) (asks : Each Asked h) (so_far : Each (AsksAt TimelyInOrder P i) h) (ran : Ran reference P h) where
    served-of : EachSince (ServedAt P i) h
    served-of =
        subst (λ k. Modest TimelyInOrder 0 P i k → EachSince (ServedAt P i) k) ran.is (soon-accepted P ok ran.calls i known) (record {
          asks = each-since (AsksAt TimelyInOrder P i) h so_far;
          within_share = λ f. omega (arith, due-within h words asks f);
        })

    timely-next : NoneGranted h → Each (Happened P) h → tally (of_flow i) (lends h) ≡ 0 → (ahead + late + 2) * (entry P i).share ≤ (entry P i).cells + 0
        → (e : Event) → Asked e h → AsksAt TimelyInOrder P i e h
    timely-next none happened not_lent enough (requested w a) x = λ well own.
        let y = x well own in
        record {
          timely = record {
            room = room-ahead ok i known ahead late h none words served-of not_lent (counts-at ok h happened) enough w y;
            number = y.number;
            in_time = y.in_time;
          };
          in_order = y.in_order;
        }
    timely-next none happened not_lent enough (credited j p a) x = tt
    timely-next none happened not_lent enough (ticked a) x = tt
    timely-next none happened not_lent enough (lent m a) x = tt
    timely-next none happened not_lent enough (Event.reset a) x = tt

  timely-at-each : (h : History) → Each (GrantedWordAt P) h → NoneGranted h → Each Asked h → BeginningsRan P h → Each (Happened P) h
      → tally (of_flow i) (lends h) ≡ 0 → (ahead + late + 2) * (entry P i).share ≤ (entry P i).cells + 0 → Each (AsksAt TimelyInOrder P i) h
  unfolding lends
  timely-at-each [] words none asks ran happened not_lent enough = tt
  timely-at-each (e ∷ h) words none asks ran happened not_lent enough =
      let not_yet : tally (of_flow i) (lends h) ≡ 0 = omega (arith, tally-append (of_flow i) (lend_at e h) (lends h)) in
      let rest = timely-at-each h words.1 none.1 asks.1 ran.1 happened.1 not_yet enough in
      (timely-next h words.1 asks.1 rest ran.0 none.1 happened.1 not_yet enough e asks.0, rest)

  -- a refusal would need the whole share due already
  all-granted : (h : History) → Each Asked h → Each (ServedAt P i) h → EachGrantedInTime P i h
  all-granted [] asks served = tt
  all-granted (requested w (accepted v) ∷ h) asks served = (λ well own. served.0 well own, all-granted h asks.1 served.1)
  all-granted (requested w (refused r) ∷ h) asks served =
      (λ well own. omega (arith, served.0 well own, (asks.0 well own).few), all-granted h asks.1 served.1)
  all-granted (credited j p a ∷ h) asks served = (tt, all-granted h asks.1 served.1)
  all-granted (ticked x ∷ h) asks served = (tt, all-granted h asks.1 served.1)
  all-granted (lent m a ∷ h) asks served = (tt, all-granted h asks.1 served.1)
  all-granted (Event.reset a ∷ h) asks served = (tt, all-granted h asks.1 served.1)

-- on any plan that keeps the limits, and so on the plan of any bytes that are accepted
pub shares-ahead-accepted : (ahead late : ℕ) (P : Plan) → Accepted P → (calls : List Call) (i : ℕ) → i < flow_count P
    → KeepsSharesAhead ahead late 0 P i (run reference P calls).history → EachGrantedInTime P i (run reference P calls).history
shares-ahead-accepted ahead late P ok calls i known x =
    let h = (run reference P calls).history in
    let happened = each-happened P ok calls in
    let words = each_map _ (GrantedWordAt P) (λ e h x. x.word) h happened in
    let none = none-granted h x.no_reset in
    let timely = timely-at-each ok i known ahead late h words none x.asks (beginnings-ran P ok calls) happened x.not_lent (omega (arith, x.enough_cells)) in
    let served = served-of ok i known ahead late h words x.asks timely (record { calls = calls; is = refl }) in
    all-granted ok i known ahead late h x.asks (since-all (ServedAt P i) h none served)

pub shares-ahead : SharesAhead reference
shares-ahead ahead late bytes passes = shares-ahead-accepted ahead late (plan_of bytes) (plan.accepted bytes passes)
