-- A flow waits exactly if the link's test says that it is in the mask and can take the slot. Assumes nothing.
use Prim.Native.Nat.{ℕ, ◌%◌, ◌<◌}
use mathlib.Core.Path.{◌≡◌, sym, subst}
use mathlib.Core.Logic.{◌↔◌}
use mathlib.Core.List.{List}
use mathlib.Core.Bool.{Bool, true}
use native.Mathlib.Omega.{arith}
use lib.Dec.{ltb}
use borrow.Author.Tests.{lt-ltb}
use Rattle.model.specs.Plan.{Plan, Accepted, positions, flow_count}
use Rattle.model.specs.Calls.{Call, History, in_mask}
use Rattle.model.specs.Window.{every_from}
use Rattle.model.specs.Link.{Link, window, holding, cells}
use Rattle.model.specs.Lend.{can_take, takes}
use Rattle.model.specs.History.{ticks, up_to}
use Rattle.model.specs.Scheduler.{reference, run}
use Rattle.model.specs.Fairness.{Waits}
use Rattle.model.proofs.Tests.{and-true}
use Rattle.model.proofs.Slots.{current-in-window}
use Rattle.model.proofs.Window.{every_from-intro}
use Rattle.model.proofs.HeldFrom.{room-from}
use Rattle.model.proofs.HistoryCounts.{raises-are}
use Rattle.model.proofs.AfterHistory.{After}
use Rattle.model.proofs.AfterCalls.{after_run}

module _ {l : Link} {h : History} (g : After l.plan l h) (i mask : ℕ) (known : i < flow_count l.plan) where
  open l use {plan as P}
  open g use {invariant as v}
  open v.current use {accepted as ok}

  -- it holds fewer than its cells at position q
  abbrev fewer : ℕ → Bool
  fewer q = ltb (holding l i q) (cells l i)

  pub waiting-takes : Waits P i mask h → takes l mask i ≡ true
  unfolding can_take
  waiting-takes waits = rw waits.in_mask (subst (λ p. every_from (window l) p fewer ≡ true) (sym v.current.current_is) room)
    where
      room : every_from (window l) (ticks h % positions P) fewer ≡ true
      room = every_from-intro v.current (ticks h) fewer (current-in-window ok (ticks h))
          (λ r w le. lt-ltb _ (cells l i) (omega (arith, (v.holds i known r).at_slot w, waits.can_take r le, raises-are P (up_to i r) h)))

  pub taking-waits : takes l mask i ≡ true → Waits P i mask h
  unfolding can_take
  taking-waits can =
      let both = and-true (in_mask mask i) (can_take l i) can in
      let room = room-from v known (current-in-window ok (ticks h)) (subst (λ p. every_from (window l) p fewer ≡ true) v.current.current_is both.1) in
      record { in_mask = both.0; can_take = λ s le. omega (arith, room s le, raises-are P (up_to i s) h) }

-- after every list of calls
pub waits-is : (P : Plan) → Accepted P → (calls : List Call) (i mask : ℕ) → i < flow_count P
    → (takes (run reference P calls).state mask i ≡ true) ↔ Waits P i mask (run reference P calls).history
waits-is =
    after_run (λ P l h. (i mask : ℕ) → i < flow_count P → (takes l mask i ≡ true) ↔ Waits P i mask h)
    (λ l h g i mask known. (taking-waits g i mask known, waiting-takes g i mask known))
