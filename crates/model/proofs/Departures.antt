-- The departure of a word: a position against it, the tile that has come, and the slot at which one comes. Assumes nothing.
use Prim.Native.Nat.{ℕ, ◌+◌, ◌*◌, ◌%◌, ◌<◌}
use mathlib.Core.Path.{◌≡◌, refl, sym, ap, ◌∙◌, subst}
use mathlib.Core.Bool.{Bool, true, false, not, ◌&&◌}
use mathlib.Core.Bool as Bool
use native.Mathlib.Nat.{div-add-mod'}
use native.Mathlib.Decide.{ℕ_discrete}
use native.Mathlib.Omega.{arith}
use lib.Dec.{leb, ltb, eqb}
use borrow.Author.Tests.{ltb-true, ltb-false, leb-true, leb-false, lt-ltb, le-leb, lt-leb, eq-eqb, ne_eqb, not-false}
use Rattle.model.specs.Plan.{Plan, positions}
use Rattle.model.specs.Window.{Window, rank, later}
use Rattle.model.specs.Link.{Link, window}
use Rattle.model.specs.Request.{valid, can_leave, valid_for}
use Rattle.model.specs.History.{frame_of, slot_after, has_come}
use Rattle.model.specs.Holding.{InWindow}
use Rattle.model.proofs.Tests.{and-true}
use Rattle.model.proofs.Round.{mod-unique, split-position}
use Rattle.model.proofs.Slots.{some-frame, frame-low, frame-high, frame-ends, same-frame, frame-of-position, slot_after-is}
use Rattle.model.proofs.Slots.{slot_at, slot_at-in-window, slot_at-position}
use Rattle.model.proofs.Window.{Current, window_of, later-is, later-than-current}

-- ---- a position against departure d

module _ (w : Window) (d p : ℕ) where
  -- the tile has come
  pub leaves-if-come : later w d w.current ≡ false → can_leave w d p ≡ true
  unfolding can_leave
  leaves-if-come e = rw e

  -- it has not
  pub leaves-if-later : later w d w.current ≡ true → can_leave w d p ≡ later w p d
  unfolding can_leave
  leaves-if-later e = rw e

  -- for a position later than CP the departure is one more lower bound on its rank, whether or not the tile has come
  pub leaves-by-rank : rank w w.current < rank w p → can_leave w d p ≡ ltb (rank w d) (rank w p)
  leaves-by-rank after = go (later w d w.current) refl
    where
      go : (b : Bool) → later w d w.current ≡ b → can_leave w d p ≡ ltb (rank w d) (rank w p)
      go true e = leaves-if-later e
      go false e =
          leaves-if-come e ∙ sym (lt-ltb (rank w d) (rank w p) (omega (arith, ltb-false (rank w w.current) (rank w d) e)))

-- ---- valid for a request with departure d

module _ (l : Link) (i d p : ℕ) where
  pub valid-for-parts : valid_for l i d p ≡ true → (valid l i p ≡ true) × (can_leave (window l) d p ≡ true)
  unfolding valid_for
  valid-for-parts e = and-true (valid l i p) (can_leave (window l) d p) e

  pub valid-for-both : valid l i p ≡ true → can_leave (window l) d p ≡ true → valid_for l i d p ≡ true
  unfolding valid_for
  valid-for-both free leaves = rw (free, leaves)

  -- RULES 6.3: where the tile has come, d makes no difference
  pub valid-if-come : later (window l) d l.current ≡ false → valid_for l i d p ≡ valid l i p
  unfolding valid_for
  valid-if-come e = rw (leaves-if-come (window l) d p e) (Bool.and-true (valid l i p))

-- ---- the slot of a departure

module _ {P : Plan} {t c : ℕ} (now : Current P t c) where
  open now use {accepted as ok}

  abbrev w : Window
  w = window_of P c

  abbrev T : ℕ
  T = positions P

  -- After t ticks the tiles that have come are those of the window's slots up to slot t.
  pub come-at : (s : ℕ) → InWindow P t s → has_come P t (s % T) ≡ leb s t
  come-at s w-s = rw (frame-of-position ok s) (go (leb s t) refl (ℕ_discrete (frame_of P s) (frame_of P t)))
    where
      F : ℕ
      F = P.slots

      W : ℕ
      W = P.frames

      -- in one frame, positions are in the order of slots
      in_order : frame_of P s ≡ frame_of P t → s % T + t ≡ t % T + s
      in_order e =
          let frames = ap (λ f. f % W * F) e in
          let starts = ap (◌* F) e in
          omega (
            arith,
            split-position ok.some_slot (some-frame ok) s,
            split-position ok.some_slot (some-frame ok) t,
            div-add-mod' s F,
            div-add-mod' t F,
          )

      differ : (frame_of P s ≡ frame_of P t → ⊥) → frame_of P s % W ≡ frame_of P t % W → ⊥
      differ n e =
          n (mod-unique (some-frame ok) {b = frame_of P t} (frame-low ok (frame_of P t) s w-s.low)
          (frame-high ok (frame_of P t + W) s (omega (arith, w-s.high))) (omega arith) (omega (arith, some-frame ok)) e)

      go : (b : Bool) → leb s t ≡ b → Dec (frame_of P s ≡ frame_of P t) → eqb (frame_of P s % W) (frame_of P t % W) && leb (s % T) (t % T) ≡ b
      go true e (yes same) = rw (same, eq-eqb (frame_of P t % W) (frame_of P t % W) refl)
          (le-leb (s % T) (t % T) (omega (arith, in_order same, leb-true s t e)))
      go true e (no n) =
          absurd (n (same-frame ok s t w-s.low (omega (arith, frame-ends ok t, leb-true s t e))))
      go false e (yes same) = rw (same, eq-eqb (frame_of P t % W) (frame_of P t % W) refl)
          (lt-leb (s % T) (t % T) (omega (arith, in_order same, leb-false s t e)))
      go false e (no n) = rw (ne_eqb (frame_of P s % W) (frame_of P t % W) (differ n))

  module _ (d : ℕ) (below : d < T) where
    -- the slot of the window at the departure
    abbrev slot : ℕ
    slot = slot_at ok t d

    at_slot : slot % T ≡ d
    at_slot = slot_at-position ok t d below

    -- the claim's test of a tile is the window's
    pub come-is : has_come P t d ≡ not (later w d c)
    come-is = subst (λ q. has_come P t q ≡ not (later w q c)) at_slot
        (come-at slot (slot_at-in-window ok t d) ∙ rw (later-than-current now slot (slot_at-in-window ok t d)) (turned slot t))
      where
        turned : (s r : ℕ) → leb s r ≡ not (ltb r s)
        turned s r = go (ltb r s) refl
          where
            go : (b : Bool) → ltb r s ≡ b → leb s r ≡ not b
            go true e = lt-leb s r (ltb-true r s e)
            go false e = le-leb s r (ltb-false r s e)

    -- where the tile has not come, a position that will do is that of a slot after the departure's
    pub leaves_after : has_come P t d ≡ false → (s : ℕ) → InWindow P t s → can_leave w d (s % T) ≡ true → slot_after P t d < s
    leaves_after yet s w-s leaves =
        let w-d = slot_at-in-window ok t d in
        let to_come : later w d c ≡ true = not-false (later w d c) (sym come-is ∙ yet) in
        let after-now : t < slot = ltb-true t slot (sym (later-than-current now slot w-d) ∙ ap (λ q. later w q c) at_slot ∙ to_come) in
        let after_departure : slot < s = ltb-true slot s
        (sym (later-is now s slot w-s w-d) ∙ ap (later w (s % T)) at_slot ∙ sym (leaves-if-later w d (s % T) to_come) ∙ leaves) in
        let slot_is : slot_after P t d ≡ slot = ap (slot_after P t) (sym at_slot) ∙ slot_after-is ok t slot w-d after-now in
        omega arith

    -- and any slot after the departure's will do, as will any slot where the tile has come
    pub leaves_in : (s : ℕ) → InWindow P t s → (has_come P t d ≡ false → slot_after P t d < s) → can_leave w d (s % T) ≡ true
    leaves_in s w-s after = go (later w d c) refl
      where
        go : (b : Bool) → later w d c ≡ b → can_leave w d (s % T) ≡ true
        go false e = leaves-if-come w d (s % T) e
        go true e =
            let w-d = slot_at-in-window ok t d in
            let after-now : t < slot = ltb-true t slot (sym (later-than-current now slot w-d) ∙ ap (λ q. later w q c) at_slot ∙ e) in
            let slot_is : slot_after P t d ≡ slot = ap (slot_after P t) (sym at_slot) ∙ slot_after-is ok t slot w-d after-now in
            let yet : has_come P t d ≡ false = come-is ∙ ap not e in
            leaves-if-later w d (s % T) e ∙ ap (later w (s % T)) (sym at_slot) ∙ later-is now s slot w-s w-d
            ∙ lt-ltb slot s (omega (arith, after yet))
