-- A crossing that our board plays, slot by slot: what it was at the end of each, told from the events of either link. Assumes nothing.
use Prim.Native.Nat.{ℕ, zero, suc, ◌+◌}
use mathlib.Core.Path.{◌≡◌, refl, sym}
use mathlib.Core.List.{List, ◌∷◌, []}
use mathlib.Core.Bool.{Bool, true, false, true≢false, cond}
use native.Mathlib.Omega.{arith}
use lib.ListN.{length}
use Rattle.model.specs.Calls.{Call, Event, History, ticked}
use Rattle.model.specs.History.{ticks}
use Rattle.model.specs.Scheduler.{reference, step}
use Rattle.arrival.specs.SeveralLinks.{Alone}
use Rattle.crossings.specs.Crossing.{Crossing, crossing_with, served}
use Rattle.crossings.specs.Playing.{Other, on_arriving, on_leaving, theirs_arriving, theirs_leaving, another, others, Slot, both_tick, tick_answer_of, in_slot, in_slots}
use Rattle.crossings.proofs.Neighbours.{served-keeps}
use Rattle.showcrossings.proofs.Growing.{GoesOn, here, SinceTick, at_tick, after_tick, since-ticks, since-goes, goes_then, cut, cut_all}
use Rattle.showcrossings.proofs.Growing.{cut-slot}

-- ---- calls of others

module _ {Keeps : Crossing → Type 0}
    (first : (c : Call) (x : Crossing) → theirs_arriving x c ≡ true → Keeps x → Keeps (crossing_with x (step reference x.arriving c) x.leaving x.waiting))
    (second : (c : Call) (x : Crossing) → theirs_leaving x c ≡ true → Keeps x
    → Keeps (crossing_with x x.arriving (step reference x.leaving c) x.waiting)) where
  another-keeps : (o : Other) (x : Crossing) → Keeps x → Keeps (another o x)
  another-keeps (on_arriving c) x z = go (theirs_arriving x c) refl
    where
      go : (b : Bool) → theirs_arriving x c ≡ b → Keeps (cond b (crossing_with x (step reference x.arriving c) x.leaving x.waiting) x)
      go true e = first c x e z
      go false e = z
  another-keeps (on_leaving c) x z = go (theirs_leaving x c) refl
    where
      go : (b : Bool) → theirs_leaving x c ≡ b → Keeps (cond b (crossing_with x x.arriving (step reference x.leaving c) x.waiting) x)
      go true e = second c x e z
      go false e = z

  pub others_keep : (os : List Other) (x : Crossing) → Keeps x → Keeps (others os x)
  unfolding others
  others_keep [] x z = z
  others_keep (o ∷ os) x z = others_keep os (another o x) (another-keeps o x z)

-- ---- one slot, on either link

-- what goes on event by event without a tick goes on over calls of others
module _ (R : History → Type 0) (more : (e : Event) → Alone e → (h : History) → R h → R (e ∷ h)) where
  abbrev OnArriving : Crossing → Type 0
  OnArriving x = R x.arriving.history

  abbrev OnLeaving : Crossing → Type 0
  OnLeaving x = R x.leaving.history

  call-arriving : (c : Call) (x : Crossing) → theirs_arriving x c ≡ true → OnArriving x → R (step reference x.arriving c).history
  call-arriving (Call.request w) x e z = more _ tt _ z
  call-arriving (Call.credit n p) x e z = more _ tt _ z
  call-arriving Call.tick x e z = absurd (true≢false (sym e))
  call-arriving (Call.lend m) x e z = more _ tt _ z
  call-arriving Call.reset x e z = more _ tt _ z

  call-leaving : (c : Call) (x : Crossing) → theirs_leaving x c ≡ true → OnLeaving x → R (step reference x.leaving c).history
  call-leaving (Call.request w) x e z = more _ tt _ z
  call-leaving (Call.credit n p) x e z = more _ tt _ z
  call-leaving Call.tick x e z = absurd (true≢false (sym e))
  call-leaving (Call.lend m) x e z = more _ tt _ z
  call-leaving Call.reset x e z = more _ tt _ z

  pub others-arriving : (os : List Other) (x : Crossing) → OnArriving x → OnArriving (others os x)
  others-arriving = others_keep {Keeps = OnArriving} call-arriving (λ c x e z. z)

  pub others-leaving : (os : List Other) (x : Crossing) → OnLeaving x → OnLeaving (others os x)
  others-leaving = others_keep {Keeps = OnLeaving} (λ c x e z. z) call-leaving

  pub slot-arriving : (s : Slot) (x : Crossing) → R (ticked (tick_answer_of x) ∷ x.arriving.history) → OnArriving (in_slot served s x)
  slot-arriving s x z =
      others-arriving s.after _ (served-keeps {Keeps = OnArriving} (λ j x z. z) (λ i p x z. more _ tt _ z) (λ i k x z. z) (tick_answer_of x) _
      (others-arriving s.before (both_tick x) z))

  pub slot-leaving : (s : Slot) (x : Crossing) → R (ticked (reference.tick x.leaving.state).1 ∷ x.leaving.history) → OnLeaving (in_slot served s x)
  slot-leaving s x z =
      others-leaving s.after _ (served-keeps {Keeps = OnLeaving} (λ j x z. more _ tt _ z) (λ i p x z. z) (λ i k x z. z) (tick_answer_of x) _
      (others-leaving s.before (both_tick x) z))

pub arriving-since : (s : Slot) (x : Crossing) → SinceTick x.arriving.history (in_slot served s x).arriving.history
arriving-since s x = slot-arriving (SinceTick x.arriving.history) (λ e alone h z. after_tick e alone z) s x (at_tick (tick_answer_of x))

pub leaving-since : (s : Slot) (x : Crossing) → SinceTick x.leaving.history (in_slot served s x).leaving.history
leaving-since s x = slot-leaving (SinceTick x.leaving.history) (λ e alone h z. after_tick e alone z) s x (at_tick _)

-- ---- slot by slot

-- after the first n of the slots, and after all where there are no more
abbrev pub state_at : List Slot → ℕ → Crossing → Crossing
state_at ss zero x = x
state_at [] (suc n) x = x
state_at (s ∷ ss) (suc n) x = state_at ss n (in_slot served s x)

-- a slot more, or none
pub data NextState (x : Crossing) : Crossing → Type 0 where
  over : NextState x x
  by_slot : (s : Slot) → NextState x (in_slot served s x)

pub next-state : (ss : List Slot) (n : ℕ) (x : Crossing) → NextState (state_at ss n x) (state_at ss (suc n) x)
next-state [] zero x = over
next-state (s ∷ ss) zero x = by_slot s
next-state [] (suc n) x = over
next-state (s ∷ ss) (suc n) x = next-state ss n (in_slot served s x)

pub last-state : (ss : List Slot) (x : Crossing) → state_at ss (length ss) x ≡ in_slots served ss x
unfolding in_slots
last-state [] x = refl
last-state (s ∷ ss) x = last-state ss (in_slot served s x)

-- on either link the events at the end of slot n are those of the whole that come before the next tick
module _ (of : Crossing → History) (since : (s : Slot) (x : Crossing) → SinceTick (of x) (of (in_slot served s x))) where
  slots-go : (ss : List Slot) (x : Crossing) → GoesOn (of x) (of (in_slots served ss x))
  unfolding in_slots
  slots-go [] x = here
  slots-go (s ∷ ss) x = goes_then (since-goes (since s x)) (slots-go ss (in_slot served s x))

  cut-state : (ss : List Slot) (n m : ℕ) (x : Crossing) → m ≡ n + ticks (of x) → cut m (of (in_slots served ss x)) ≡ of (state_at ss n x)
  unfolding in_slots
  cut-state [] zero m x now = cut_all m (of x) (omega arith)
  cut-state (s ∷ ss) zero m x now = cut-slot m (since s x) (slots-go ss (in_slot served s x)) (omega arith)
  cut-state [] (suc n) m x now = cut_all m (of x) (omega arith)
  cut-state (s ∷ ss) (suc n) m x now = cut-state ss n m (in_slot served s x) (omega (arith, now, since-ticks (since s x)))

  pub state-is : (ss : List Slot) (n : ℕ) (x : Crossing) → ticks (of x) ≡ 0 → cut n (of (in_slots served ss x)) ≡ of (state_at ss n x)
  state-is ss n x now = cut-state ss n n x (omega arith)
