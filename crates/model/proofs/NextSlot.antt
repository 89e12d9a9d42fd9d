-- What every tick does, whether or not the frame changes: the next current position, the marks, which stay, and the mark, which goes off. Assumes nothing.
use Prim.Native.Nat.{ℕ, suc, ◌+◌, ◌%◌, ◌≤◌}
use mathlib.Core.Path.{◌≡◌, ap, ◌∙◌}
use mathlib.Core.Bool.{false}
use native.Mathlib.Nat.{mod-add-mod, mul-le-mul_right}
use native.Mathlib.Numerals.{add-one}
use native.Mathlib.Omega.{arith}
use Rattle.model.specs.Plan.{positions}
use Rattle.model.specs.Link.{Link}
use Rattle.model.specs.Tick.{next_position}
use Rattle.model.specs.History.{Mark}
use Rattle.model.specs.Holding.{frame_start}
use Rattle.model.proofs.Tallies.{all_map}
use Rattle.model.proofs.Slots.{frames-go-on}
use Rattle.model.proofs.Window.{Current}
use Rattle.model.proofs.Invariant.{Ledger, at_next_slot, Begun, Granted, MarksIn, Owned, Invariant}

module _ {l : Link} {L : Ledger} (v : Invariant l L) where
  open l use {plan as P}
  open L use {now as t}
  open v.current use {accepted as ok}

  abbrev T : ℕ
  T = positions P

  pub next-position : next_position l ≡ suc t % T
  next-position = ap (λ c. (c + 1) % T) v.current.current_is ∙ mod-add-mod t T 1 ∙ ap (◌% T) (add-one t)

  pub next-current : Current P (suc t) (next_position l)
  next-current = record { accepted = ok; current_is = next-position }

  starts-go-on : frame_start P t ≤ frame_start P (suc t)
  starts-go-on = mul-le-mul_right P.slots (frames-go-on ok t)

  pub marks_stay : MarksIn P (at_next_slot L)
  marks_stay = record {
    origin_le = omega (arith, v.marks.origin_le, frames-go-on ok t);
    grants_in = all_map _ _ granted L.grants v.marks.grants_in;
    raises_in = all_map _ _ begun L.raises v.marks.raises_in;
    credits_in = all_map _ _ begun L.credits v.marks.credits_in;
  }
    where
      begun : (m : Mark) → Begun P t m → Begun P (suc t) m
      begun m b = omega (arith, starts-go-on)

      granted : (m : Mark) → Granted P t L.origin m → Granted P (suc t) L.origin m
      granted m g = record { known = g.known; begun = begun m g.begun; since = g.since }

  -- the mark is off
  pub owned-on : Owned (suc t) L.grants L.raises false
  owned-on = record {
    one_owner = v.owned.one_owner;
    to_come = λ s lt. v.owned.to_come s (omega arith);
    unmarked = λ e. v.owned.to_come (suc t) (omega arith);
  }
