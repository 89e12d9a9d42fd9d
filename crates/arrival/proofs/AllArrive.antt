-- Every tile arrives, where each whose slot is gone was asked for on the next board. Assumes nothing.
use Prim.Native.Nat.{ℕ, suc, ◌+◌, ◌*◌, ◌/◌, ◌≤◌, ◌<◌}
use mathlib.Core.Path.{◌≡◌, refl, ap}
use mathlib.Core.List.{List, ◌∷◌, []}
use mathlib.Core.Bool.{Bool, true, false, cond}
use native.Mathlib.Nat.{mul-le-mul_right}
use native.Mathlib.Decide.{ℕ_discrete}
use native.Mathlib.Omega.{arith}
use lib.ListN.{length}
use borrow.Author.Tests.{ne_eqb}
use Rattle.model.specs.Tables.{tally}
use Rattle.model.specs.Word.{flow_of}
use Rattle.model.specs.Plan.{Plan, entry}
use Rattle.model.specs.Calls.{Grant, Event, History, requested, credited, ticked, lent, accepted, refused}
use Rattle.model.specs.History.{ticks, frame_of, well_formed, marks_of, grant_at, grants, of_flow}
use Rattle.model.specs.Claim.{Each}
use Rattle.model.specs.Scheduler.{Scheduler, reference}
use Rattle.arrival.specs.Delay.{AtAnswer, IsGranted}
use Rattle.arrival.specs.SeveralLinks.{tile, Board, plan_on, sent_on, due_on, Way, EachWithin, AllGranted, EachGranted}
use Rattle.arrival.specs.Source.{up_to_frame, Source, Bursts, burst_frames, EachCameWithin}
use Rattle.arrival.specs.AllArrive.{ask_at, asked, asked_for, AllAskedAlong, UpAlong, AsksOn}
use Rattle.arrival.specs.AllArrive.{AllArrive, AllArriveOnArrival, AllArriveByCredits, AllFromSource, AllFromSourceOnArrival, AllFromSourceByCredits}
use Rattle.model.proofs.Tallies.{sum-le, tally-append}
use Rattle.model.proofs.Slots.{frame-begins, frame-low}
use Rattle.arrival.proofs.TileSlots.{of_frame, count-slots}
use Rattle.arrival.proofs.NextLink.{as_many, due-in-is}
use Rattle.arrival.proofs.SeveralLinks.{ok, none, both, over-links}
use Rattle.arrival.proofs.LinksOnArrival.{way-with-room, modest-first}
use Rattle.arrival.proofs.Source.{asked-soon}
use Rattle.arrival.proofs.FromSource.{tally-length, frames-before, before, in_time}
use Rattle.arrival.proofs.CreditedByNext.{way-by-credits, modest-by-credits}

-- ---- what is asked for is granted, where each request is

module _ (P : Plan) (i : ℕ) where
  abbrev GrantedAt : Event → History → Type 0
  GrantedAt = AtAnswer (λ w x h. well_formed P w ≡ true → flow_of w ≡ i → IsGranted x)

  one-asked : (w : ℕ) (a : Grant) (h : History) → GrantedAt (requested w a) h → tally (of_flow i) (ask_at P (requested w a) h) ≤ tally (of_flow i) (grant_at P (requested w a) h)
  unfolding tally
  one-asked w (accepted v) h each = go (well_formed P w)
    where
      go : (b : Bool) → tally (of_flow i) (cond b (record { flow = flow_of w; slot = ticks h } ∷ []) []) ≤ tally (of_flow i) (grant_at P (requested w (accepted v)) h)
      go true = omega arith
      go false = omega arith
  one-asked w (refused r) h each = go (well_formed P w) refl (ℕ_discrete (flow_of w) i)
    where
      go : (b : Bool) → well_formed P w ≡ b → Dec (flow_of w ≡ i) → tally (of_flow i) (cond b (record { flow = flow_of w; slot = ticks h } ∷ []) []) ≤ 0
      go true well (yes own) = absurd (each well own)
      go true well (no other) = rw (ne_eqb (flow_of w) i other) (omega arith)
      go false well d = omega arith

  asked-granted : (h : History) → Each GrantedAt h → asked_for P h i ≤ tally (of_flow i) (grants P h)
  unfolding asked grants marks_of tally
  asked-granted [] each = omega arith
  asked-granted (requested w a ∷ h) each =
      omega (
        arith,
        tally-append (of_flow i) (ask_at P (requested w a) h) (asked P h),
        tally-append (of_flow i) (grant_at P (requested w a) h) (grants P h),
        one-asked w a h each.0,
        asked-granted h each.1,
      )
  asked-granted (credited j p a ∷ h) each = asked-granted h each.1
  asked-granted (ticked x ∷ h) each = asked-granted h each.1
  asked-granted (lent m a ∷ h) each = asked-granted h each.1
  asked-granted (Event.reset a ∷ h) each = asked-granted h each.1

asked-sent : {c : Scheduler} (b : Board c) → AllGranted b → asked_for (plan_on b) b.events b.stream ≤ length (sent_on b)
asked-sent b granted =
    omega (arith, asked-granted (plan_on b) b.stream b.events granted, count-slots b.stream (grants (plan_on b) b.events))

-- ---- from board to board

-- where tile n has a slot on a board, it is before the bound; so board by board
abbrev BoundAlong : (n x k : ℕ) → List (Board reference) → Type 0
BoundAlong n x k [] = Unit {0}
BoundAlong n x k (b ∷ rest) = (n < length (sent_on b) → tile n (sent_on b) < x + (k + 1) * (plan_on b).slots) × BoundAlong n x (k + 1) rest

up-along : (n x k : ℕ) (a : Board reference) (rest : List (Board reference)) → Way a rest → AllAskedAlong a rest → EachGranted rest → BoundAlong n x k (a ∷ rest)
    → (x + (k + 1) * (plan_on a).slots ≤ ticks a.events → n < length (sent_on a)) → UpAlong n x k (a ∷ rest)
up-along n x k a [] way all granted bound there = (λ over. record { granted = there over; gone = omega (arith, bound.0 (there over)) }, tt)
up-along n x k a (b ∷ rest) way all granted bound there =
    (λ over. record { granted = there over; gone = omega (arith, bound.0 (there over)) }, up-along n x (k + 1) b rest way.1 all.1 granted.1 bound.1 next)
  where
    next : x + (k + 1 + 1) * (plan_on b).slots ≤ ticks b.events → n < length (sent_on b)
    next over =
        let same-now = (both a b way.0).same_slot in
        let same-slots = ap ((k + 1) *◌) way.0.in_step.slots in
        let less : (k + 1) * (plan_on b).slots ≤ (k + 1 + 1) * (plan_on b).slots = mul-le-mul_right (plan_on b).slots (omega arith) in
        let before : x + (k + 1) * (plan_on a).slots ≤ ticks a.events = omega (arith, same-now, same-slots, less) in
        let here = there before in
        omega (arith, all.0 n here (omega (arith, bound.0 here)), asked-sent b granted.0)

-- ---- by the slots in which tiles are due

within-bound : (n k : ℕ) (P : Plan) (from : List ℕ) (boards : List (Board reference)) → EachWithin k P from boards → BoundAlong n (tile n from) k boards
within-bound n k P from [] within = tt
within-bound n k P from (b ∷ rest) within = (within.0.slots_later n, within-bound n (k + 1) P from rest within.1)

pub all-arrive : AllArrive reference
all-arrive a rest way all modest n due =
    let on-time = over-links a rest way in
    up-along n (tile n (due_on a)) 1 a rest way all on-time.granted (within-bound n 1 (plan_on a) (due_on a) (a ∷ rest) (on-time.from_due modest))
    (λ over. omega (arith, as_many (plan_on a) a.stream a.events))

pub all-arrive-on-arrival : AllArriveOnArrival reference
all-arrive-on-arrival late a rest way all keeps = all-arrive a rest (way-with-room a rest way) all (modest-first late a keeps)

pub all-arrive-by-credits : AllArriveByCredits reference
all-arrive-by-credits late a rest way all modest =
    all-arrive a rest (way-by-credits late a rest way) all (modest-by-credits late a rest way modest)

-- ---- by the slots in which they came to the source

came-bound : (n x k : ℕ) (comes : ℕ → ℕ) (a : Board reference) (rest : List (Board reference)) → Way a rest → EachCameWithin k comes (a ∷ rest)
    → n < up_to_frame comes (frame_of (plan_on a) x) → BoundAlong n x k (a ∷ rest)
came-bound n x k comes a [] way within came = (λ there. within.0.slots_later n x there came, tt)
came-bound n x k comes a (b ∷ rest) way within came =
    let same-frame = ap (λ F. up_to_frame comes (x / F)) way.0.in_step.slots in
    (λ there. within.0.slots_later n x there came, came-bound n x (k + 1) comes b rest way.1 within.1 (omega (arith, same-frame)))

-- a tile that came to the source is granted on the first board, once the frame is over by which it is asked for
module _ (a : Board reference) (burst : ℕ) (comes asks : ℕ → ℕ) (source : Source (entry (plan_on a) a.stream).share comes asks)
    (bursts : Bursts (entry (plan_on a) a.stream).share burst comes) (on : AsksOn asks (plan_on a) a.stream a.events) where
  abbrev P : Plan
  P = plan_on a

  abbrev cost : ℕ
  cost = burst_frames (entry P a.stream).share burst

  granted-there : (n x : ℕ) → n < up_to_frame comes (frame_of P x) → x + (cost + 1 + 1) * P.slots ≤ ticks a.events → n < length (sent_on a)
  granted-there n x came over =
      let f = frame_of P x in
      let some_share = ((ok a).entries_fit a.stream a.known).some_share in
      let soon = asked-soon (entry P a.stream).share burst some_share comes asks source bursts n f came in
      let starts : (f + (cost + 2)) * P.slots ≤ ticks a.events = omega (arith, frame-begins (ok a) x) in
      let past : f + (cost + 2) ≤ frame_of P (ticks a.events) = frame-low (ok a) (f + (cost + 2)) (ticks a.events) starts in
      omega (
        arith,
        soon,
        sum-le (suc (f + cost)) asks (λ k. tally (of_frame P k) (due_on a)) (λ k below.
            omega (arith, on k (omega arith), due-in-is P a.events (none a) a.stream k)),
        frames-before P (suc (f + cost)) (due_on a),
        tally-length (before P (suc (f + cost))) (due_on a),
        as_many P a.stream a.events,
      )

pub all-from-source : AllFromSource reference
all-from-source a rest way all modest burst comes asks source bursts so on n x came =
    let on-time = over-links a rest way in
    let k = burst_frames (entry (plan_on a) a.stream).share burst + 1 in
    let within = in_time a rest modest (on-time.from_due modest) burst comes asks source bursts so in
    up-along n x k a rest way all on-time.granted (came-bound n x k comes a rest way within came) (granted-there a burst comes asks source bursts on n x came)

pub all-from-source-on-arrival : AllFromSourceOnArrival reference
all-from-source-on-arrival late a rest way all keeps = all-from-source a rest (way-with-room a rest way) all (modest-first late a keeps)

pub all-from-source-by-credits : AllFromSourceByCredits reference
all-from-source-by-credits late a rest way all modest =
    all-from-source a rest (way-by-credits late a rest way) all (modest-by-credits late a rest way modest)
