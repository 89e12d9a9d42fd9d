-- What the flows hold after one of them rises or falls by one from a slot on. Assumes nothing.
use Prim.Native.Nat.{ℕ, suc, ◌+◌, ◌-◌, ◌%◌, ◌≤◌, ◌<◌}
use mathlib.Core.Path.{◌≡◌, refl, ap, ◌∙◌}
use mathlib.Core.List.{List, ◌∷◌}
use mathlib.Core.Bool.{Bool, true, false, cond}
use native.Mathlib.Nat.{mod-lt}
use native.Mathlib.Omega.{arith}
use lib.Dec.{leb, ltb}
use lib.ListN.{get_or}
use borrow.Author.Tests.{ltb-true, leb-true}
use Rattle.model.specs.Plan.{Plan, positions, flow_count}
use Rattle.model.specs.Window.{every_from}
use Rattle.model.specs.Link.{Link, window, flow, holding, cells, held_from}
use Rattle.model.specs.History.{Mark}
use Rattle.model.specs.Holding.{InWindow}
use Rattle.model.proofs.Slots.{some-position}
use Rattle.model.proofs.Window.{from_on-is, every_from-at}
use Rattle.model.proofs.LinkUpdates.{held_from-at}
use Rattle.model.proofs.Marks.{mark, marks_up_to, up-to-hit, up-to-skip, up-to-other}
use Rattle.model.proofs.Invariant.{Ledger, HoldsAt, Room, Invariant, from-the-window}

-- ---- the same counts, and the same holding

holds_same : {P : Plan} {t : ℕ} {A B J K : List Mark} {i : ℕ} {x y : List ℕ} {s : ℕ} → HoldsAt P t A J i x s
    → marks_up_to i s B ≡ marks_up_to i s A → marks_up_to i s K ≡ marks_up_to i s J
    → (InWindow P t s → get_or y (s % positions P) 0 ≡ get_or x (s % positions P) 0) → HoldsAt P t B K i y s
holds_same h raises credits holding = record {
  at_slot = λ w. omega (arith, h.at_slot w, holding w);
  covered = omega (arith, h.covered);
  within = omega (arith, h.within);
}

-- a mark of another flow
module _ {P : Plan} {t : ℕ} {B K : List Mark} {i : ℕ} {held : List ℕ} {s : ℕ} (h : HoldsAt P t B K i held s)
    (m : Mark) (other : m.flow ≡ i → ⊥) where
  pub raise-other : HoldsAt P t (m ∷ B) K i held s
  raise-other = holds_same h (up-to-other i s m B other) refl (λ w. refl)

  pub lower-other : HoldsAt P t B (m ∷ K) i held s
  lower-other = holds_same h refl (up-to-other i s m K other) (λ w. refl)

-- ---- flow i's holding changed from slot s on

module _ {l : Link} {L : Ledger} (v : Invariant l L) {i : ℕ} (known : i < flow_count l.plan) {s : ℕ} (w : InWindow l.plan L.now s) where
  open l use {plan as P}
  open L use {now as t}
  open v.current use {accepted as ok}

  abbrev T : ℕ
  T = positions P

  -- the changed holdings, by slot
  held-from : (f : ℕ → ℕ) (r : ℕ) → InWindow P t r → (b : Bool) → leb s r ≡ b
      → get_or (held_from l i (s % T) f) (r % T) 0 ≡ cond b (f (holding l i (r % T))) (holding l i (r % T))
  held-from f r wr b e =
      held_from-at l i (s % T) f (r % T) (mod-lt r (some-position ok))
      ∙ ap (λ c. cond c (f (holding l i (r % T))) (holding l i (r % T))) (from_on-is v.current s r w wr ∙ e)

  -- the counts with one mark more
  counts : (r : ℕ) (C : List Mark) → leb s r ≡ true → marks_up_to i r (mark i s ∷ C) ≡ suc (marks_up_to i r C)
  counts r C e = up-to-hit i r (mark i s) C refl e

  skips : (r : ℕ) (C : List Mark) → leb s r ≡ false → marks_up_to i r (mark i s ∷ C) ≡ marks_up_to i r C
  skips r C e = up-to-skip i r (mark i s) C e

  -- what flow i holds at slot r
  before : (r : ℕ) → HoldsAt P t L.raises L.credits i (flow l i).held r
  before r = v.holds i known r

  pub raise-own : Room P L.raises L.credits i s
      → (r : ℕ) → HoldsAt P t (mark i s ∷ L.raises) L.credits i (held_from l i (s % T) suc) r
  raise-own room r = go (leb s r) refl
    where
      go : (b : Bool) → leb s r ≡ b → HoldsAt P t (mark i s ∷ L.raises) L.credits i (held_from l i (s % T) suc) r
      go true e = record {
        at_slot = λ wr. omega (arith, counts r L.raises e, held-from suc r wr true e, (before r).at_slot wr);
        covered = omega (arith, counts r L.raises e, (before r).covered);
        within = omega (arith, counts r L.raises e, room r (leb-true s r e));
      }
      go false e = holds_same (before r) (skips r L.raises e) refl (λ wr. held-from suc r wr false e)

  -- The flow holds something at slot s and at every later one.
  abbrev pub NeverEmpty : Type 0
  NeverEmpty = (r : ℕ) → s ≤ r → marks_up_to i r L.credits < marks_up_to i r L.raises

  pub lower-own : NeverEmpty → (r : ℕ) → HoldsAt P t L.raises (mark i s ∷ L.credits) i (held_from l i (s % T) (λ y. y - 1)) r
  lower-own some r = go (leb s r) refl
    where
      go : (b : Bool) → leb s r ≡ b → HoldsAt P t L.raises (mark i s ∷ L.credits) i (held_from l i (s % T) (λ y. y - 1)) r
      go true e = record {
        at_slot = λ wr. omega (arith, counts r L.credits e, held-from (λ y. y - 1) r wr true e, (before r).at_slot wr, some r (leb-true s r e));
        covered = omega (arith, counts r L.credits e, some r (leb-true s r e));
        within = omega (arith, counts r L.credits e, (before r).within);
      }
      go false e = holds_same (before r) refl (skips r L.credits e) (λ wr. held-from (λ y. y - 1) r wr false e)

  -- ---- the tests of the holdings at a position and at every later one

  pub room-from : every_from (window l) (s % T) (λ q. ltb (holding l i q) (cells l i)) ≡ true → Room P L.raises L.credits i s
  room-from e =
      from-the-window v i (λ b k. b < k + cells l i) s w λ r wr le.
      let below = ltb-true (holding l i (r % T)) (cells l i) (every_from-at v.current s (λ q. ltb (holding l i q) (cells l i)) w e r wr le) in
      omega (arith, (before r).at_slot wr)

  pub never-empty-from : every_from (window l) (s % T) (λ q. ltb 0 (holding l i q)) ≡ true → NeverEmpty
  never-empty-from e =
      from-the-window v i (λ b k. k < b) s w λ r wr le.
      let some = ltb-true 0 (holding l i (r % T)) (every_from-at v.current s (λ q. ltb 0 (holding l i q)) w e r wr le) in
      omega (arith, (before r).at_slot wr)
