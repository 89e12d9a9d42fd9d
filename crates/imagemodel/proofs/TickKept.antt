-- A tick leaves a link that meets the conditions. Assumes nothing.
use Prim.Native.Nat.{ℕ, suc, ◌+◌, ◌%◌}
use mathlib.Core.Path.{◌≡◌, refl, sym, ap, ◌∙◌, subst}
use mathlib.Core.Bool.{Bool, true, false, cond}
use native.Mathlib.Nat.{mod-add-mod}
use native.Mathlib.Numerals.{add-one}
use native.Mathlib.Omega.{arith}
use lib.Dec.{eqb}
use borrow.Author.Tests.{eqb-true, eqb-false}
use Rattle.model.specs.Plan.{positions}
use Rattle.model.specs.Link.{Link, flow, with_current, with_mark}
use Rattle.model.specs.Tick.{recycled, next_position, advanced, tick}
use Rattle.model.specs.History.{frame_of}
use Rattle.model.specs.Holding.{InWindow}
use Rattle.model.proofs.Slots.{frame-stays, place-of-position}
use Rattle.model.proofs.Window.{Current}
use Rattle.imagemodel.specs.Consistent.{Keepable}
use Rattle.imagemodel.proofs.BySlots.{Spends, LinkAt, at-current, kept_at}
use Rattle.imagemodel.proofs.FrameChangeKept.{frame-change-at}

module _ {l : Link} {t : ℕ} (v : LinkAt l t) where
  open l use {plan as P}
  open P use {slots as F}
  open v.current use {accepted as ok}

  abbrev T : ℕ
  T = positions P

  next-position : next_position l ≡ suc t % T
  next-position = ap (λ c. (c + 1) % T) v.current.current_is ∙ mod-add-mod t T 1 ∙ ap (◌% T) (add-one t)

  next-current : Current P (suc t) (next_position l)
  next-current = record { accepted = ok; current_is = next-position }

  -- in the same frame
  in_frame : (suc t % F ≡ 0 → ⊥) → LinkAt (with_mark (with_current l (next_position l)) false) (suc t)
  in_frame d = record {
    current = next-current;
    turn_below = v.turn_below;
    owners_long = v.owners_long;
    flows_long = v.flows_long;
    owners_known = v.owners_known;
    flows = λ i h.
        let f = v.flows i h in
        record {
          spends = subst (λ a. Spends P a l.owners i (flow l i).injection (flow l i).remainder) (sym same) f.spends;
          within_share = f.within_share;
          holds = record {
            long = f.holds.long;
            within_cells = f.holds.within_cells;
            grows = λ s w after. f.holds.grows s (before s w) (omega arith);
          };
          number_below = f.number_below;
        };
  }
    where
      same : frame_of P (suc t) ≡ frame_of P t
      same = frame-stays ok t d

      before : (s : ℕ) → InWindow P (suc t) s → InWindow P t s
      before s w = record { low = rw same at w.low; high = rw same at w.high }

  advanced-at : LinkAt (advanced l) (suc t)
  unfolding advanced
  advanced-at = go (eqb (next_position l % F) 0) refl
    where
      place : next_position l % F ≡ suc t % F
      place = ap (◌% F) next-position ∙ place-of-position ok (suc t)

      go : (b : Bool) → eqb (next_position l % F) 0 ≡ b → LinkAt (with_mark (with_current (cond b (recycled l) l) (next_position l)) false) (suc t)
      go true e = frame-change-at v (sym place ∙ eqb-true (next_position l % F) 0 e) next-current
      go false e = in_frame (λ z. eqb-false (next_position l % F) 0 e (place ∙ z))

pub tick-kept : {l : Link} → Keepable l → Keepable (tick l).link
unfolding tick
tick-kept v = kept_at (advanced-at (at-current v))
