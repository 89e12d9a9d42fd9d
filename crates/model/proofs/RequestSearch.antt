-- The search of a flow's request with departure d: what holds of each frame that it comes to. Assumes nothing.
use Prim.Native.Nat.{ℕ, zero, suc, ◌+◌, ◌-◌, ◌*◌, ◌%◌, ◌≤◌, ◌<◌}
use mathlib.Core.Path.{◌≡◌, refl, sym, ap, ◌∙◌, subst}
use mathlib.Core.Bool.{true, false}
use native.Mathlib.Nat.{mul-le-mul_right}
use native.Mathlib.Decide.{dec_lt, dec_le}
use native.Mathlib.Omega.{arith}
use Rattle.model.specs.Tables.{ahead, tally}
use Rattle.model.specs.Plan.{positions, flow_count, entry}
use Rattle.model.specs.Window.{newest, later}
use Rattle.model.specs.Link.{Link, window, flow, share}
use Rattle.model.specs.Request.{Found, can_leave, valid_for, sought}
use Rattle.model.specs.History.{frame_of, at_slot}
use Rattle.model.specs.Holding.{InWindow}
use Rattle.model.proofs.Round.{ahead-mod}
use Rattle.model.proofs.Tables.{first_from-none}
use Rattle.model.proofs.Tallies.{all_map}
use Rattle.model.proofs.Slots.{some-frame, frame-ends, frame-slot-in-window, position-of}
use Rattle.model.proofs.Window.{newest-is}
use Rattle.model.proofs.Departures.{valid-for-both, leaves-if-come}
use Rattle.model.proofs.Marks.{marks_in}
use Rattle.model.proofs.Invariant.{Ledger, Spent, Injects, Room, Invariant}
use Rattle.model.proofs.BookingKeeps.{open-valid}
use Rattle.model.proofs.UnbookedSlots.{not-all-booked}
use Rattle.model.proofs.SearchedFrames.{Fails, Ends, search-ends}
use Rattle.model.proofs.LeastCount.{Full, Least}

module _ {l : Link} {L : Ledger} (v : Invariant l L) {i : ℕ} (known : i < flow_count l.plan) (d : ℕ) where
  open l use {plan as P}
  open P use {slots as F, frames as W}
  open L use {now as t}
  open v.current use {accepted as ok}

  abbrev T : ℕ
  T = positions P

  -- With remainder c the search finds no position in frame a.
  abbrev pub FailsIn : ℕ → ℕ → Type 0
  FailsIn a c = Fails (window l) (valid_for l i d) (share l i) (a % W) c

  -- the tile can leave in every slot of frame a
  abbrev pub LeavesIn : ℕ → Type 0
  LeavesIn a = (x : ℕ) → x < F → can_leave (window l) d ((a * F + x) % T) ≡ true

  -- ---- a frame to come from which on the flow has room, and in every slot of which the tile can leave, is full if the search fails in it

  pub not_valid : (s : ℕ) → InWindow P t s → t < s → Room P L.raises L.credits i s → can_leave (window l) d (s % T) ≡ true → valid_for l i d (s % T) ≡ false
      → 0 < tally (at_slot s) L.grants
  not_valid s w h room leaves e = go (tally (at_slot s) L.grants) refl
    where
      go : (x : ℕ) → tally (at_slot s) L.grants ≡ x → 0 < x
      go (suc x) q = omega arith
      go zero q =
          let free = open-valid v known s w (record { not_granted = q; to_come = h; room = room }) in
          let both = sym e ∙ valid-for-both l i d (s % T) free leaves in
          let no : ◌≡◌ {A = ℕ} 0 1 = cc in
          omega arith

  pub full-if-fails : (a c : ℕ) → frame_of P t < a → a < frame_of P t + W → Room P L.raises L.credits i (a * F) → LeavesIn a
      → Spent P L.grants i a c → FailsIn a c → marks_in P i a L.grants ≡ (entry P i).share
  full-if-fails a zero low high room leaves sp fails = omega (arith, sp.spent)
  full-if-fails a (suc c) low high room leaves sp fails =
      absurd (not-all-booked ok L.grants (all_map _ _ (λ m g. g.known) L.grants v.marks.grants_in) a i c known
      (λ j h. (v.injects j h).in_frames a) sp.spent booked)
    where
      booked : (x : ℕ) → x < F → 0 < tally (at_slot (a * F + x)) L.grants
      booked x h =
          let not-ok = first_from-none F (a % W * F) (valid_for l i d) fails (a % W * F + x) (omega arith) (omega arith) in
          let after : suc (frame_of P t) * F ≤ a * F = mul-le-mul_right F low in
          not_valid (a * F + x) (frame-slot-in-window ok t a x (omega arith) high h)
          (omega (arith, frame-ends ok t)) (λ r le. room r (omega arith)) (leaves x h) (ap (valid_for l i d) (position-of ok a x h) ∙ not-ok)

  -- ---- the search, where R f counts the flow's refusals in frame f

  module _ (R : ℕ → ℕ) where
    -- the premise of the least count, at this request
    pub record Persists : Type 0 where
      pub come : later (window l) d l.current ≡ false
      pub room : Room P L.raises L.credits i t
      pub least : Least P (frame_of P t) L.origin L.grants R i (flow l i).injection

    -- what holds where the search comes to frame a with remainder c
    pub record Reached (a c : ℕ) : Type 0 where
      pub low : frame_of P t ≤ a
      pub spends : Spent P L.grants i a c
      pub full : Persists → Full P L.origin L.grants i a

    -- the newest frame, numbered on without end
    abbrev pub newest_frame : ℕ
    newest_frame = frame_of P t + W - 1

    -- a frame in which the search fails is full too, unless the counts begin with it
    pub full-behind : (a c : ℕ) → a < frame_of P t + W → Reached a c → FailsIn a c → Persists → Full P L.origin L.grants i (suc a)
    full-behind a c high q fails p f since below = go (dec_lt f a)
      where
        here : Dec (a ≤ frame_of P t) → L.origin < a → marks_in P i a L.grants ≡ (entry P i).share
        here (yes h) since = p.least.after_a_change (omega (arith, q.low)) a since (omega (arith, q.low, ok.two_frames))
        here (no h) since =
            let after : suc (frame_of P t) * F ≤ a * F = mul-le-mul_right F (omega arith) in
            full-if-fails a c (omega arith) high (λ r le. p.room r (omega (arith, frame-ends ok t))) (λ x below. leaves-if-come (window l) d _ p.come)
            q.spends fails

        go : Dec (f < a) → marks_in P i f L.grants ≡ (entry P i).share
        go (yes h) = q.full p f since h
        go (no h) =
            let z : a ≡ f = omega arith in
            subst (λ x. marks_in P i x L.grants ≡ (entry P i).share) z (here (dec_le a (frame_of P t)) (omega arith))

    pub goes_on : (a c : ℕ) → a < newest_frame → Reached a c → FailsIn a c → Reached (suc a) (share l i)
    goes_on a c h q fails = record {
      low = omega (arith, q.low);
      spends = record {
        spent = omega (arith, q.spends.none_after (suc a) (omega arith));
        none_after = λ f g. q.spends.none_after f (omega arith);
      };
      full = full-behind a c (omega arith) q fails;
    }

    -- where the search comes from frame to frame as Q says
    module _ (Q : ℕ → ℕ → Type 0) (goes : (a c : ℕ) → a < newest_frame → Q a c → FailsIn a c → Q (suc a) (share l i)) where
      pub searched-by : Q (v.injects i known).frame (flow l i).remainder → Ends (window l) (valid_for l i d) (share l i) newest_frame Q (sought l i d)
      unfolding sought
      searched-by first =
          rw (more, f.injection_is)
          (search-ends (window l) (valid_for l i d) (share l i) newest_frame Q goes (newest_frame - f.frame) f.frame (flow l i).remainder
          (omega (arith, f.high)) first)
        where
          f : Injects P (frame_of P t) L.grants i (flow l i)
          f = v.injects i known

          more : ahead W (flow l i).injection (newest (window l)) ≡ newest_frame - f.frame
          more =
              let some = some-frame ok in
              ap (λ x. ahead W x (newest (window l))) f.injection_is ∙ ap (ahead W (f.frame % W)) (newest-is v.current)
              ∙ ahead-mod some {b = f.frame} {x = newest_frame} (omega (arith, f.high)) (omega (arith, f.low))

    abbrev pub Searched : Found → Type 0
    Searched = Ends (window l) (valid_for l i d) (share l i) newest_frame Reached

    pub reached-first : Reached (v.injects i known).frame (flow l i).remainder
    reached-first =
        let f = v.injects i known in
        record {
          low = f.low;
          spends = f.spends;
          full = λ p. p.least.before_injection f.frame f.low f.high f.injection_is;
        }

    pub request-searched : Searched (sought l i d)
    request-searched = searched-by Reached goes_on reached-first
