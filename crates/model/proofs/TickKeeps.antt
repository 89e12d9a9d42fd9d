-- A tick keeps the invariant, and answers the flow that was granted its slot. Assumes nothing.
use Prim.Native.Nat.{ℕ, suc, ◌%◌, ◌<◌}
use mathlib.Core.Path.{◌≡◌, refl, sym, ap, ◌∙◌}
use mathlib.Core.Bool.{Bool, true, false, cond}
use lib.Dec.{eqb}
use borrow.Author.Tests.{eqb-true, eqb-false}
use Rattle.model.specs.Plan.{flow_count}
use Rattle.model.specs.Window.{head, next}
use Rattle.model.specs.Link.{Link, window, owner, flow, share, with_current, with_mark, moved_to}
use Rattle.model.specs.Tick.{left_head, recycled, next_position, advanced}
use Rattle.model.specs.History.{frame_of}
use Rattle.model.specs.Holding.{InWindow}
use Rattle.model.proofs.Slots.{frame-stays, current-in-window, place-of-position}
use Rattle.model.proofs.LinkUpdates.{flow-with_flows}
use Rattle.model.proofs.SlotOwners.{owner_in}
use Rattle.model.proofs.Invariant.{Ledger, at_next_slot, Invariant}
use Rattle.model.proofs.NextSlot.{next-position, next-current, marks_stay, owned-on}
use Rattle.model.proofs.FrameChangeKeeps.{frame-change-keeps}

-- a flow that moves to the next frame keeps its number
pub left-number : (l : Link) (i : ℕ) → (left_head l i).number ≡ (flow l i).number
left-number l i = go (eqb (flow l i).injection (head (window l)))
  where
    go : (b : Bool) → (cond b (moved_to (flow l i) (next (window l) (head (window l))) (share l i)) (flow l i)).number ≡ (flow l i).number
    go true = refl
    go false = refl

module _ {l : Link} {L : Ledger} (v : Invariant l L) where
  open l use {plan as P}
  open P use {slots as F}
  open L use {now as t}
  open v.current use {accepted as ok}

  -- ---- in the same frame

  in_frame : (suc t % F ≡ 0 → ⊥) → Invariant (with_mark (with_current l (next_position l)) false) (at_next_slot L)
  in_frame d = record {
    current = next-current v;
    marks = marks_stay v;
    bookings = record { owners_are = λ s w. v.bookings.owners_are s (before s w); once = v.bookings.once };
    owned = owned-on v;
    injects = λ i h. rw same (v.injects i h);
    holds = λ i h s. let x = v.holds i h s in record { at_slot = λ w. x.at_slot (before s w); covered = x.covered; within = x.within };
  }
    where
      same : frame_of P (suc t) ≡ frame_of P t
      same = frame-stays ok t d

      before : (s : ℕ) → InWindow P (suc t) s → InWindow P t s
      before s w = record { low = rw same at w.low; high = rw same at w.high }

  -- ---- the tick

  -- what is known of the next link
  pub record Advances (k : Link) : Type 0 where
    pub plan_is : k.plan ≡ l.plan
    pub keeps : Invariant k (at_next_slot L)
    pub answer_is : owner k (next_position l) ≡ owner_in L.grants (suc t)
    pub flows_in_frame : (suc t % F ≡ 0 → ⊥) → (i : ℕ) → flow k i ≡ flow l i
    pub injections_at_change : suc t % F ≡ 0 → (i : ℕ) → i < flow_count P → (flow k i).injection ≡ (left_head l i).injection
    pub numbers_stay : (i : ℕ) → i < flow_count P → (flow k i).number ≡ (flow l i).number

  pub advances : Advances (advanced l)
  unfolding advanced recycled
  advances = go (eqb (next_position l % F) 0) refl
    where
      place : next_position l % F ≡ suc t % F
      place = ap (◌% F) (next-position v) ∙ place-of-position ok (suc t)

      go : (b : Bool) → eqb (next_position l % F) 0 ≡ b → Advances (with_mark (with_current (cond b (recycled l) l) (next_position l)) false)
      go true e =
          let change : suc t % F ≡ 0 = sym place ∙ eqb-true (next_position l % F) 0 e in
          let keeps = frame-change-keeps v change in
          record {
            plan_is = refl;
            keeps = keeps;
            answer_is = ap (owner (recycled l)) (next-position v) ∙ keeps.bookings.owners_are (suc t) (current-in-window ok (suc t));
            flows_in_frame = λ d. absurd (d change);
            injections_at_change = λ e i known. ap (λ x. x.injection) (flow-with_flows l _ i known);
            numbers_stay = λ i known. ap (λ x. x.number) (flow-with_flows l _ i known) ∙ left-number l i;
          }
      go false e =
          let d : suc t % F ≡ 0 → ⊥ = λ z. eqb-false (next_position l % F) 0 e (place ∙ z) in
          record {
            plan_is = refl;
            keeps = in_frame d;
            answer_is = ap (owner l) (next-position v) ∙ (in_frame d).bookings.owners_are (suc t) (current-in-window ok (suc t));
            flows_in_frame = λ d i. refl;
            injections_at_change = λ e. absurd (d e);
            numbers_stay = λ i known. refl;
          }
