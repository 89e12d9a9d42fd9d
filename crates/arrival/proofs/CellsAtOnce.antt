-- On the reference scheduler a stream that asks ahead, with more than two shares of cells that are credited at the grants, has room in every slot at each
-- request. Assumes nothing.
use Prim.Native.Nat.{ℕ, ◌+◌, ◌-◌, ◌*◌, ◌≤◌, ◌<◌}
use mathlib.Core.Path.{◌≡◌, ap, subst}
use mathlib.Core.List.{List, [], ◌∷◌}
use native.Mathlib.Nat.{mul-le-mul_right}
use native.Mathlib.Decide.{dec_le}
use native.Mathlib.Omega.{arith}
use lib.Dec.{leb}
use Rattle.model.specs.Tables.{tally}
use Rattle.model.specs.Plan.{Plan, positions, flow_count, entry, plan_of, Accepted}
use Rattle.model.specs.Calls.{Call, Event, History, requested, credited, ticked, lent}
use Rattle.model.specs.History.{Mark, ticks, frame_of, lend_at, grants, credits, lends, of_flow, in_frame, up_to, granted_up_to, lent_up_to, credited_up_to}
use Rattle.model.specs.Holding.{frame_start}
use Rattle.model.specs.Claim.{Each}
use Rattle.model.specs.Scheduler.{reference, run}
use Rattle.arrival.specs.Delay.{newest_frame, RoomFrom, AsksAt}
use Rattle.arrival.specs.EnoughCells.{last_of, CreditedAtOnce, GivesBackAtOnce, EnoughAtOnce}
use Rattle.model.proofs.Plan as plan
use Rattle.model.proofs.Tests.{and-true}
use Rattle.model.proofs.Tallies.{All, all_map, sum-le, sum-const, tally-le, tally-append}
use Rattle.model.proofs.Slots.{some-frame, frame-begins, frame-high}
use Rattle.model.proofs.Marks.{up-to-past}
use Rattle.model.proofs.Invariant.{Begun}
use Rattle.model.proofs.HistoryCounts.{NoneGranted}
use Rattle.model.proofs.EventsOfRuns.{Counts, Happened, each-happened}
use Rattle.arrival.proofs.TimelyRequests.{frame-order}
use Rattle.arrival.proofs.NextLink.{grants-are, counts-at}
use Rattle.arrival.proofs.SeveralLinks.{none-granted}
use Rattle.arrival.proofs.EnoughCells.{all_of, up-to-more}
use Rattle.arrival.proofs.HeldByFrames.{Near, from-frame, most, before-frame}

-- ---- frames and their slots

-- the slot after the last of the window
window-ends : {P : Plan} → Accepted P → (t : ℕ) → frame_start P t + positions P ≡ (frame_of P t + P.frames - 1 + 1) * P.slots
window-ends {P} ok t =
    let all : frame_of P t + P.frames - 1 + 1 ≡ frame_of P t + P.frames = omega (arith, some-frame ok) in
    rw all (omega arith)

frame-after : {P : Plan} → Accepted P → (f s : ℕ) → f ≤ frame_of P s → f * P.slots ≤ s
frame-after {P} ok f s le = let z : f * P.slots ≤ frame_of P s * P.slots = mul-le-mul_right P.slots le in omega (arith, frame-begins ok s)

frame-of-first : {P : Plan} → Accepted P → (f : ℕ) → frame_of P (f * P.slots) ≤ f
frame-of-first {P} ok f = omega (arith, frame-high ok (f + 1) (f * P.slots) (omega (arith, ok.some_slot)))

module _ {P : Plan} (ok : Accepted P) (i : ℕ) (known : i < flow_count P) where
  module _ (h : History) (none : NoneGranted h) (c : Counts P h) (not_lent : tally (of_flow i) (lends h) ≡ 0)
      (enough : 2 * (entry P i).share < (entry P i).cells + 0) (at_once : CreditedAtOnce P i h) where
    -- the first slot past the window
    abbrev past : ℕ
    past = (newest_frame P h + 1) * P.slots

    -- flow i has room in slot s
    abbrev RoomIn : ℕ → Type 0
    RoomIn s = granted_up_to P h i s + lent_up_to h i s < credited_up_to P h i s + (entry P i).cells

    none_lent : (s : ℕ) → lent_up_to h i s ≡ 0
    none_lent s = omega (arith, tally-le (up_to i s) (of_flow i) (λ m e. (and-true (of_flow i m) (leb m.slot s) e).0) (lends h))

    -- what it holds at a slot up to there is of that slot's frame and the one before
    room-near : (s : ℕ) → frame_of P s ≤ newest_frame P h + 1 → RoomIn s
    room-near s Near-by =
        omega (
          arith,
          from-frame ok i s (f - 1) 0 f (grants P h) (all_of _ near (grants P h)),
          sum-le 1 (λ k. tally (in_frame P i (f - 1 + k)) (grants P h)) (λ k. (entry P i).share) (λ k lt. most ok i known h none c (f - 1 + k)),
          sum-const 1 (entry P i).share,
          most ok i known h none c f,
          before-frame ok i known 0 h f (f - 1) s back (λ some. omega arith) (frame-begins ok s),
          none_lent s,
        )
      where
        f : ℕ
        f = frame_of P s

        back : (r : ℕ) → frame_of P r < f - 1 → granted_up_to P h i r ≤ credited_up_to P h i (last_of P (frame_of P r + 0 + 1))
        back r lt =
            let same : frame_of P r + 1 ≡ frame_of P r + 0 + 1 = omega arith in
            omega (arith, at_once r (omega arith), ap (λ k. credited_up_to P h i (last_of P k)) same)

        near : (m : Mark) → Near ok i s (f - 1) 0 f m
        near m own up other = omega (arith, frame-order ok m.slot s up)

    -- nothing is granted past the window, and so it has the room there that it has in its first slot
    begun : All (λ m. m.slot < past) (grants P h)
    begun =
        let ends : frame_start P (ticks h) + positions P ≡ past = window-ends ok (ticks h) in
        all_map _ _ (λ m before. omega (arith, ends, before)) (grants P h) (subst (All (Begun P (ticks h))) (grants-are P h none) c.begun)

    room-at-once : RoomFrom P i 0 h
    room-at-once s le = go (dec_le (frame_of P s) (newest_frame P h + 1))
      where
        go : Dec (frame_of P s ≤ newest_frame P h + 1) → RoomIn s
        go (yes Near-by) = room-near s Near-by
        go (no far) =
            let from : past ≤ s = frame-after ok (newest_frame P h + 1) s (omega arith) in
            let first : frame_of P past ≤ newest_frame P h + 1 = frame-of-first ok (newest_frame P h + 1) in
            omega (
              arith,
              room-near past first,
              up-to-past i past s past (grants P h) begun (omega arith) (omega arith),
              up-to-more i past s from (credits P h),
              none_lent s,
              none_lent past,
            )

  -- ---- a list of calls

  abbrev RoomAt : Event → History → Type 0
  RoomAt = AsksAt (λ P i w h. RoomFrom P i 0 h) P i

  abbrev Asked : Event → History → Type 0
  Asked = AsksAt (λ P i w h. CreditedAtOnce P i h) P i

  room-at : (e : Event) (h : History) → NoneGranted h → Counts P h → tally (of_flow i) (lends h) ≡ 0 → 2 * (entry P i).share < (entry P i).cells + 0
      → Asked e h → RoomAt e h
  room-at (requested w a) h none c not_lent enough x = λ well own. room-at-once h none c not_lent enough (x well own)
  room-at (credited j p a) h none c not_lent enough x = tt
  room-at (ticked a) h none c not_lent enough x = tt
  room-at (lent m a) h none c not_lent enough x = tt
  room-at (Event.reset a) h none c not_lent enough x = tt

  room-at-each : (h : History) → NoneGranted h → Each (Happened P) h → Each Asked h → tally (of_flow i) (lends h) ≡ 0
      → 2 * (entry P i).share < (entry P i).cells + 0 → Each RoomAt h
  unfolding lends
  room-at-each [] none happened asks not_lent enough = tt
  room-at-each (e ∷ h) none happened asks not_lent enough =
      let not_yet : tally (of_flow i) (lends h) ≡ 0 = omega (arith, tally-append (of_flow i) (lend_at e h) (lends h)) in
      (room-at e h none.1 (counts-at ok h happened.1) not_yet enough asks.0, room-at-each h none.1 happened.1 asks.1 not_yet enough)

-- on any plan that keeps the limits, and so on the plan of any bytes that are accepted
pub enough-at-once-accepted : (P : Plan) → Accepted P → (calls : List Call) (i : ℕ) → i < flow_count P
    → GivesBackAtOnce 0 P i (run reference P calls).history → Each (AsksAt (λ P i w h. RoomFrom P i 0 h) P i) (run reference P calls).history
enough-at-once-accepted P ok calls i known x =
    let h = (run reference P calls).history in
    room-at-each ok i known h (none-granted h x.no_reset) (each-happened P ok calls) x.asks x.not_lent (omega (arith, x.cells_at_once))

pub enough-at-once : EnoughAtOnce reference
enough-at-once bytes passes = enough-at-once-accepted (plan_of bytes) (plan.accepted bytes passes)
