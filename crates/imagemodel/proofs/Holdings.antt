-- What a flow holds after it rises or falls by one from a slot on: within its cells, and growing only at its bookings. Assumes nothing.
use Prim.Native.Nat.{ℕ, suc, ◌-◌, ◌%◌, ◌≤◌, ◌<◌}
use mathlib.Core.Path.{◌≡◌, ◌∙◌, subst}
use mathlib.Core.List.{List}
use mathlib.Core.Option.{Option}
use mathlib.Core.Bool.{true, cond}
use native.Mathlib.Nat.{mod-lt}
use native.Mathlib.Decide.{dec_le}
use native.Mathlib.Omega.{arith}
use lib.ListN.{length, get_or}
use lib.Dec.{ltb}
use borrow.Author.Tests.{ltb-true, le-leb, lt-leb}
use Rattle.model.specs.Plan.{positions, flow_count}
use Rattle.model.specs.Window.{from_on, every_from}
use Rattle.model.specs.Link.{Link, window, flow, holding, cells, held_from}
use Rattle.model.specs.Holding.{InWindow}
use Rattle.model.proofs.Tables.{length-table}
use Rattle.model.proofs.Slots.{some-position, slot_at, slot_at-in-window, slot_at-position}
use Rattle.model.proofs.Window.{from_on-is, every_from-at}
use Rattle.model.proofs.LinkUpdates.{held_from-at}
use Rattle.imagemodel.proofs.Bookings.{booking}
use Rattle.imagemodel.proofs.BySlots.{GrowsAt, HoldsWell, LinkAt, slot-before}

module _ {l : Link} {t : ℕ} (v : LinkAt l t) {i : ℕ} (known : i < flow_count l.plan) {s : ℕ} (w : InWindow l.plan t s) where
  open l use {plan as P}
  open v.current use {accepted as ok}

  abbrev T : ℕ
  T = positions P

  -- what flow i holds at slot r
  abbrev holds : ℕ → ℕ
  holds r = holding l i (r % T)

  -- its holdings changed by f from slot s on
  abbrev changed : (ℕ → ℕ) → List ℕ
  changed f = held_from l i (s % T) f

  changed-long : (f : ℕ → ℕ) → length (changed f) ≡ T
  changed-long f = length-table T _

  module _ (f : ℕ → ℕ) (r : ℕ) (w-r : InWindow P t r) where
    abbrev by-test : Type 0
    by-test = get_or (changed f) (r % T) 0 ≡ cond (from_on (window l) (s % T) (r % T)) (f (holds r)) (holds r)

    tested : by-test
    tested = held_from-at l i (s % T) f (r % T) (mod-lt r (some-position ok))

    from_on_lem : s ≤ r → get_or (changed f) (r % T) 0 ≡ f (holds r)
    from_on_lem le = rw (from_on-is v.current s r w w-r ∙ le-leb s r le) at tested

    up_to : r < s → get_or (changed f) (r % T) 0 ≡ holds r
    up_to lt = rw (from_on-is v.current s r w w-r ∙ lt-leb s r lt) at tested

  -- what holds of each slot of the window holds of each position
  each-position : (Q : ℕ → Type 0) → ((r : ℕ) → InWindow P t r → Q (r % T)) → (p : ℕ) → p < T → Q p
  each-position Q h p below = subst Q (slot_at-position ok t p below) (h (slot_at ok t p) (slot_at-in-window ok t p))

  before : HoldsWell P t l.owners i (flow l i).held
  before = (v.flows i known).holds

  -- ---- it falls

  abbrev less : ℕ → ℕ
  less x = x - 1

  pub lowered-well : HoldsWell P t l.owners i (changed less)
  lowered-well = record {
    long = changed-long less;
    within_cells = each-position (λ p. get_or (changed less) p 0 ≤ cells l i) (λ r w-r. within r w-r (dec_le s r));
    grows = λ r w-r after. grows r w-r after (dec_le s r) (dec_le s (r - 1));
  }
    where
      within : (r : ℕ) → InWindow P t r → Dec (s ≤ r) → get_or (changed less) (r % T) 0 ≤ cells l i
      within r w-r (yes le) = omega (arith, from_on_lem less r w-r le, before.within_cells (r % T) (mod-lt r (some-position ok)))
      within r w-r (no gt) = omega (arith, up_to less r w-r (omega arith), before.within_cells (r % T) (mod-lt r (some-position ok)))

      grows : (r : ℕ) → InWindow P t r → t < r → Dec (s ≤ r) → Dec (s ≤ r - 1) → GrowsAt P l.owners i (changed less) r
      grows r w-r after (yes le) (yes le') =
          omega (arith, from_on_lem less r w-r le, from_on_lem less (r - 1) (slot-before ok w-r after) le', before.grows r w-r after)
      grows r w-r after (yes le) (no gt') =
          omega (arith, from_on_lem less r w-r le, up_to less (r - 1) (slot-before ok w-r after) (omega arith), before.grows r w-r after)
      grows r w-r after (no gt) d =
          omega (
            arith,
            up_to less r w-r (omega arith),
            up_to less (r - 1) (slot-before ok w-r after) (omega arith),
            before.grows r w-r after,
          )

  -- ---- it rises, where the owners may change too: a slot from which it rises after slot t gets its booking

  module _ (owners : List (Option ℕ)) (room : every_from (window l) (s % T) (λ q. ltb (holding l i q) (cells l i)) ≡ true)
      (still : (r : ℕ) → InWindow P t r → t < r → booking l.owners i (r % T) ≤ booking owners i (r % T))
      (gets : t < s → booking owners i (s % T) ≡ 1) (flat : t < s → holds s ≤ holds (s - 1)) where
    below : (r : ℕ) → InWindow P t r → s ≤ r → holds r < cells l i
    below r w-r le = ltb-true (holds r) (cells l i) (every_from-at v.current s (λ q. ltb (holding l i q) (cells l i)) w room r w-r le)

    pub raised-well : HoldsWell P t owners i (changed suc)
    raised-well = record {
      long = changed-long suc;
      within_cells = each-position (λ p. get_or (changed suc) p 0 ≤ cells l i) (λ r w-r. within r w-r (dec_le s r));
      grows = λ r w-r after. grows r w-r after (dec_le s r) (dec_le s (r - 1));
    }
      where
        within : (r : ℕ) → InWindow P t r → Dec (s ≤ r) → get_or (changed suc) (r % T) 0 ≤ cells l i
        within r w-r (yes le) = omega (arith, from_on_lem suc r w-r le, below r w-r le)
        within r w-r (no gt) = omega (arith, up_to suc r w-r (omega arith), before.within_cells (r % T) (mod-lt r (some-position ok)))

        here : (r : ℕ) → s ≡ r → t < r → holds r ≤ holds (r - 1)
        here r e after = subst (λ q. t < q → holds q ≤ holds (q - 1)) e flat after

        got : (r : ℕ) → s ≡ r → t < r → booking owners i (r % T) ≡ 1
        got r e after = subst (λ q. t < q → booking owners i (q % T) ≡ 1) e gets after

        grows : (r : ℕ) → InWindow P t r → t < r → Dec (s ≤ r) → Dec (s ≤ r - 1) → GrowsAt P owners i (changed suc) r
        grows r w-r after (yes le) (yes le') =
            omega (
              arith,
              from_on_lem suc r w-r le,
              from_on_lem suc (r - 1) (slot-before ok w-r after) le',
              before.grows r w-r after,
              still r w-r after,
            )
        grows r w-r after (yes le) (no gt') =
            let e : s ≡ r = omega arith in
            omega (
              arith,
              from_on_lem suc r w-r le,
              up_to suc (r - 1) (slot-before ok w-r after) (omega arith),
              here r e after,
              got r e after,
            )
        grows r w-r after (no gt) d =
            omega (
              arith,
              up_to suc r w-r (omega arith),
              up_to suc (r - 1) (slot-before ok w-r after) (omega arith),
              before.grows r w-r after,
              still r w-r after,
            )
