-- A request that is timely: when its tile is due, and that a later frame in which the search fails has the flow's whole share. Assumes nothing.
use Prim.Native.Nat.{ℕ, suc, ◌+◌, ◌*◌, ◌≤◌, ◌<◌}
use mathlib.Core.Path.{◌≡◌, refl, ap}
use mathlib.Core.Bool.{Bool, true, false}
use native.Mathlib.Nat.{mul-le-mul_right}
use native.Mathlib.Omega.{arith}
use Rattle.model.specs.Word.{flow_of, departure_of}
use Rattle.model.specs.Plan.{Plan, flow_count, entry, Accepted}
use Rattle.model.specs.Calls.{History}
use Rattle.model.specs.Link.{Link}
use Rattle.model.specs.History.{ticks, slot_after, frame_of, well_formed, has_come, grants_since, credits, up_to}
use Rattle.model.specs.Claim.{Ready}
use Rattle.arrival.specs.Delay.{current_frame, newest_frame, due_slot, due_frame, RoomFrom, Timely, FitsNewest}
use Rattle.model.proofs.Slots.{frame-begins, frame-ends, frame-low, frame-slot-in-window}
use Rattle.model.proofs.Departures.{leaves_in}
use Rattle.model.proofs.Marks.{marks_in}
use Rattle.model.proofs.Invariant.{Spent, Room}
use Rattle.model.proofs.RequestSearch.{FailsIn, LeavesIn, full-if-fails}
use Rattle.model.proofs.HistoryCounts.{flow_below, departure-below, raises, raises-are}
use Rattle.model.proofs.AfterHistory.{After}
use Rattle.model.proofs.NewestGrants.{slot-to-come}

-- ---- when a tile is due

module _ (P : Plan) (w : ℕ) (h : History) where
  pub due-if-come : has_come P (ticks h) (departure_of w) ≡ true → due_slot P w h ≡ ticks h
  unfolding due_slot
  due-if-come e = rw e

  pub due-if-not : has_come P (ticks h) (departure_of w) ≡ false → due_slot P w h ≡ slot_after P (ticks h) (departure_of w)
  unfolding due_slot
  due-if-not e = rw e

  -- not before now
  pub due-from-now : ticks h ≤ due_slot P w h
  due-from-now = go (has_come P (ticks h) (departure_of w)) refl
    where
      go : (b : Bool) → has_come P (ticks h) (departure_of w) ≡ b → ticks h ≤ due_slot P w h
      go true e = omega (arith, due-if-come e)
      go false e = omega (arith, due-if-not e, slot-to-come P (ticks h) (departure_of w))

module _ {P : Plan} (ok : Accepted P) where
  -- a later slot is in no earlier frame
  pub frame-order : (s r : ℕ) → s ≤ r → frame_of P s ≤ frame_of P r
  frame-order s r le = frame-low ok (frame_of P s) r (omega (arith, frame-begins ok s))

  pub due-frame-from-now : (w : ℕ) (h : History) → current_frame P h ≤ due_frame P w h
  due-frame-from-now w h = frame-order (ticks h) (due_slot P w h) (due-from-now P w h)

  -- a tile that has come is due before the newest frame
  pub ready-timely : (i w : ℕ) (h : History) → Ready P i w h → Timely P i w h
  ready-timely i w h x = record {
    room = λ s le. x.room s (omega (arith, frame-ends ok (due_slot P w h), due-from-now P w h));
    number = x.number;
    in_time = omega (arith, ap (frame_of P) (due-if-come P w h x.come), ok.two_frames);
  }

  -- room from the frame after the due one on is room in the newest frame
  pub timely-fits : (i w : ℕ) (h : History) → Timely P i w h → FitsNewest P i w h
  timely-fits i w h x = record {
    room = λ s le.
        let begins : (due_frame P w h + 1) * P.slots ≤ newest_frame P h * P.slots = mul-le-mul_right P.slots (omega (arith, x.in_time)) in
        x.room s (omega arith);
    number = x.number;
    in_time = x.in_time;
  }

-- ---- a well-formed request, on a link that stands after a history

module _ {l : Link} {h : History} (g : After l.plan l h) (w : ℕ) (well : well_formed l.plan w ≡ true) where
  open l use {plan as P}
  open P use {slots as F, frames as W}
  open g use {invariant as v}
  open v.current use {accepted as ok}

  abbrev t : ℕ
  t = ticks h

  abbrev i : ℕ
  i = flow_of w

  abbrev d : ℕ
  d = departure_of w

  pub known : i < flow_count P
  known = flow_below P w well

  -- the tile can leave in every slot of a frame after the one in which it is due
  leaves_later : (a : ℕ) → due_frame P w h < a → a < frame_of P t + W → LeavesIn v known d a
  leaves_later a low high x below =
      leaves_in v.current d (departure-below P w well) (a * F + x)
      (frame-slot-in-window ok t a x (omega (arith, due-frame-from-now ok w h)) high below) after
    where
      after : has_come P t d ≡ false → slot_after P t d < a * F + x
      after yet =
          let ends : suc (due_frame P w h) * F ≤ a * F = mul-le-mul_right F low in
          omega (arith, due-if-not P w h yet, frame-ends ok (due_slot P w h))

  -- where the search fails in such a frame, with room from it on, the flow has its whole share there
  pub full-if-fails-later : (a c : ℕ) → RoomFrom P i (a * F) h → due_frame P w h < a → a < frame_of P t + W → Spent P (grants_since P h) i a c → FailsIn v known d a c
      → marks_in P i a (grants_since P h) ≡ (entry P i).share
  full-if-fails-later a c has low high =
      full-if-fails v known d a c (omega (arith, due-frame-from-now ok w h)) high room (leaves_later a low high)
    where
      room : Room P (raises P h) (credits P h) i (a * F)
      room s le = omega (arith, has s le, raises-are P (up_to i s) h)

  -- a request that is timely has room from each such frame on
  pub room-later : Timely P i w h → (a : ℕ) → due_frame P w h < a → RoomFrom P i (a * F) h
  room-later timely a low s le =
      let begins : (due_frame P w h + 1) * F ≤ a * F = mul-le-mul_right F (omega arith) in
      timely.room s (omega arith)
