-- The masks of unbooked slots, made from a state's owners position by position. Assumes nothing.
use Prim.Native.Nat.{ℕ, ◌+◌, ◌/◌, ◌≤◌, ◌<◌}
use mathlib.Core.Path.{◌≡◌, refl, sym, ap, ◌∙◌}
use mathlib.Core.List.{List}
use mathlib.Core.Bool.{Bool, true, not, ◌&&◌, ◌||◌}
use native.Mathlib.Nat.{div-mul-le_self, lt-div-mul-add, div-lt_iff_lt-mul, mul_comm}
use native.Mathlib.Decide.{dec_lt, ℕ_discrete}
use native.Mathlib.Omega.{arith}
use lib.Dec.{leb, eqb}
use lib.ListN.{length, get_or}
use borrow.Author.Tests.{le-leb, lt-leb, eq-eqb, ne_eqb}
use Rattle.window.specs.declared.Window.{Window}
use Rattle.window.specs.Window.{Proper, Measures, size_of}
use Rattle.state.specs.Parts.{Beside}
use Rattle.state.specs.State.{Whole, owners_of, masks_of, MasksNow}
use Rattle.state.proofs.Parts.{beside-wider, beside-both}
use Rattle.state.proofs.State.{owners-at, owners-beside, beside-mask}
use Rattle.unbooked.specs.Words.{Words, InFrame}
use Rattle.unbooked.proofs.FrameWords.{words_same, words-booked}
use Rattle.tables.specs.Owners.{nobody, unbooked_at}
use Rattle.tables.specs.Masks.{Booked}
use Rattle.tables.proofs.Masks.{booked-as-word}
use Rattle.link.specs.Resumed.{OwnersMasked}

-- ---- a window's slots

-- those of its plan's fresh link
pub measures-at-first : {F W current : ℕ} → Measures F W current → Measures F W 0
measures-at-first m = record {
  some_slot = m.some_slot;
  slots_most = m.slots_most;
  two_frames = m.two_frames;
  frames_most = m.frames_most;
  positions_most = m.positions_most;
  current_below = omega (arith, m.current_below);
}

-- the frame of a position
pub frame-of : {w : Window} → Proper w → {p : ℕ} → p < size_of w → InFrame w (p / w.slots) p
frame-of {w} v {p} h = let some = v.measures.some_slot in record {
  proper = v;
  frame = (div-lt_iff_lt-mul some).1 (rw mul_comm h);
  low = div-mul-le_self p w.slots;
  high = lt-div-mul-add {a = p} {b = w.slots} some;
}

-- ---- position by position

-- nobody booked position q, as far as the positions before p tell
abbrev unbooked_before : List ℕ → (p q : ℕ) → Bool
unbooked_before owners p q = leb p q || unbooked_at owners q

-- the owners of the positions before p are in the masks, and nothing else changed
pub record Masking (w : Window) (before s : List ℕ) (p : ℕ) : Type 0 where
  pub whole : Whole s
  pub beside : Beside 4352 4416 before s
  pub made : Words w.slots w.frames (unbooked_before (owners_of before) p) (masks_of s)

-- every slot of the frames is in the masks
pub masking-none : {w : Window} (s : List ℕ) → Whole s → Words w.slots w.frames (λ p. true) (masks_of s) → Masking w s s 0
masking-none s whole x = record {
  whole = whole;
  beside = record { long = refl; kept = λ k _. refl };
  made = words_same _ _ x (λ q h. rw (le-leb 0 q (omega arith)));
}

-- the masks of all frames were stored first
pub masking-done : {w : Window} {first before s words : List ℕ} {p : ℕ} → MasksNow first before words → size_of w ≤ p → Masking w before s p
    → OwnersMasked w first s
masking-done {p = p} now done m = record {
  masks_are = rw (← owners-beside now.beside (λ k l₁ h₁ l₂ h₂. omega arith)) (words_same _ _ m.made (λ q h. rw (lt-leb p q (omega arith))));
  beside = beside-both now.beside m.beside;
}

module _ {w : Window} (v : Proper w) {before s : List ℕ} where
  module _ {p : ℕ} (m : Masking w before s p) (h : p < size_of w) where
    owner-is : get_or s (4096 + p) 0 ≡ get_or (owners_of before) p 0
    owner-is =
        m.beside.kept (4096 + p) (λ low _. omega (arith, v.measures.positions_most))
        ∙ sym (owners-at before p (omega (arith, v.measures.positions_most)))

    -- nobody owns position p
    pub masking-unowned : get_or s (4096 + p) 0 ≡ nobody → Masking w before s (p + 1)
    masking-unowned e = record {
      whole = m.whole;
      beside = m.beside;
      made = words_same _ _ m.made (λ q _. go q (ℕ_discrete q p) (dec_lt q p));
    }
      where
        is : get_or (owners_of before) p 0 ≡ nobody
        is = sym owner-is ∙ e

        go : (q : ℕ) → Dec (q ≡ p) → Dec (q < p) → unbooked_before (owners_of before) p q ≡ unbooked_before (owners_of before) (p + 1) q
        go q (yes d) _ = rw (d, is, le-leb p p (omega arith), lt-leb (p + 1) p (omega arith))
        go q (no d) (yes l) = rw (lt-leb p q l, lt-leb (p + 1) q (omega arith))
        go q (no d) (no l) = rw (le-leb p q (omega arith), le-leb (p + 1) q (omega arith))

    -- a flow owns it
    pub masking-owned : {after : List ℕ} → (get_or s (4096 + p) 0 ≡ nobody → ⊥) → Booked w.slots (p / w.slots) p s after → Masking w before after (p + 1)
    masking-owned {after} some x = record {
      whole = ap length x.is ∙ (beside-mask s (p / w.slots) x.mask).long ∙ m.whole;
      beside = beside-both m.beside (rw x.is (beside-wider (omega arith) (omega (arith, few)) (beside-mask s (p / w.slots) x.mask)));
      made = words_same _ _ booked (λ q _. go q (ℕ_discrete q p) (dec_lt q p));
    }
      where
        place : InFrame w (p / w.slots) p
        place = frame-of v h

        few : p / w.slots < 8
        few = omega (arith, place.frame, v.measures.frames_most)

        booked : Words w.slots w.frames (λ q. not (eqb q p) && unbooked_before (owners_of before) p q) (masks_of after)
        booked =
            words-booked w.slots w.frames v.measures.frames_most m.made place.frame place.low place.high
            (booked-as-word m.whole few w.slots p x)

        is : get_or (owners_of before) p 0 ≡ nobody → ⊥
        is z = some (owner-is ∙ z)

        go : (q : ℕ) → Dec (q ≡ p) → Dec (q < p)
            → not (eqb q p) && unbooked_before (owners_of before) p q ≡ unbooked_before (owners_of before) (p + 1) q
        go q (yes d) _ = rw (eq-eqb q p d, d, lt-leb (p + 1) p (omega arith), ne_eqb (get_or (owners_of before) p 0) nobody is)
        go q (no d) (yes l) = rw (ne_eqb q p d, lt-leb p q l, lt-leb (p + 1) q (omega arith))
        go q (no d) (no l) = rw (ne_eqb q p d, le-leb p q (omega arith), le-leb (p + 1) q (omega arith))

    -- whoever owns it
    pub masking-one : {after : List ℕ} → (get_or s (4096 + p) 0 ≡ nobody → after ≡ s)
        → ((get_or s (4096 + p) 0 ≡ nobody → ⊥) → Booked w.slots (p / w.slots) p s after) → Masking w before after (p + 1)
    masking-one {after} same booked = go (ℕ_discrete (get_or s (4096 + p) 0) nobody)
      where
        go : Dec (get_or s (4096 + p) 0 ≡ nobody) → Masking w before after (p + 1)
        go (yes e) = rw (same e) (masking-unowned e)
        go (no some) = masking-owned some (booked some)
