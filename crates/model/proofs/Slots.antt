-- Slots and frames, numbered on without end: the frame of a slot, the slots of the window, and positions. Assumes nothing.
use Prim.Native.Nat.{ℕ, suc, ◌+◌, ◌-◌, ◌*◌, ◌/◌, ◌%◌, ◌≤◌, ◌<◌}
use mathlib.Core.Path.{◌≡◌, sym, ap, ◌∙◌, subst}
use native.Mathlib.Nat.{mod-lt, div-add-mod', mul-pos, mul-le-mul_right, le-mul_of_pos_right, le-div_iff_mul-le, div-lt_iff_lt-mul}
use native.Mathlib.Omega.{arith}
use Rattle.model.specs.Plan.{Plan, positions, Accepted}
use Rattle.model.specs.History.{slot_after, frame_of}
use Rattle.model.specs.Holding.{frame_start, InWindow}
use Rattle.model.proofs.Round.{first_with, first_with-low, first_with-high, first_with-mod, first_with-is, first_with-first, split-position}
use lib.Arith.{digits_div, digits_mod}

-- RULES 21.3: the slot of a position after t ticks, the lowest above t that is the position modulo T
pub record FirstAfter (P : Plan) (t p s : ℕ) : Type 0 where
  pub later : t < s
  pub position : s % positions P ≡ p
  pub first : (r : ℕ) → t < r → r % positions P ≡ p → s ≤ r

module _ {P : Plan} (ok : Accepted P) where
  pub some-frame : 0 < P.frames
  some-frame = omega (arith, ok.two_frames)

  pub some-position : 0 < positions P
  some-position = mul-pos ok.some_slot some-frame

  -- ---- the frame of a slot

  pub frame-begins : (t : ℕ) → frame_start P t ≤ t
  frame-begins t = omega (arith, div-add-mod' t P.slots)

  pub frame-ends : (t : ℕ) → t < frame_start P t + P.slots
  frame-ends t = omega (arith, div-add-mod' t P.slots, mod-lt t ok.some_slot)

  pub frame-low : (a s : ℕ) → a * P.slots ≤ s → a ≤ frame_of P s
  frame-low a s h = (le-div_iff_mul-le ok.some_slot).1 h

  pub frame-high : (a s : ℕ) → s < a * P.slots → frame_of P s < a
  frame-high a s h = (div-lt_iff_lt-mul ok.some_slot).1 h

  pub same-frame : (s t : ℕ) → frame_start P t ≤ s → s < frame_start P t + P.slots → frame_of P s ≡ frame_of P t
  same-frame s t low high = omega (arith, frame-low (frame_of P t) s low, frame-high (suc (frame_of P t)) s (omega arith))

  -- slot t + 1 is in the frame of slot t, or begins the next
  pub frame-stays : (t : ℕ) → (suc t % P.slots ≡ 0 → ⊥) → frame_of P (suc t) ≡ frame_of P t
  frame-stays t d =
      let e = div-add-mod' (suc t) P.slots in
      sym (same-frame t (suc t) (omega arith) (omega (arith, frame-ends (suc t))))

  pub frame_changes : (t : ℕ) → suc t % P.slots ≡ 0 → frame_of P (suc t) ≡ suc (frame_of P t)
  frame_changes t e =
      let d = div-add-mod' (suc t) P.slots in
      let before = frame-high (frame_of P (suc t)) t (omega arith) in
      let after = frame-high (suc (suc (frame_of P t))) (suc t) (omega (arith, frame-ends t, ok.some_slot)) in
      omega arith

  pub frames-go-on : (t : ℕ) → frame_of P t ≤ frame_of P (suc t)
  frames-go-on t = frame-low (frame_of P t) (suc t) (omega (arith, frame-begins t))

  -- ---- the slots of the window

  pub current-in-window : (t : ℕ) → InWindow P t t
  current-in-window t = record { low = frame-begins t; high = omega (arith, frame-ends t, le-mul_of_pos_right P.slots some-frame) }

  pub last-in-window : (t : ℕ) → InWindow P t (frame_start P t + positions P - 1)
  last-in-window t = record { low = omega (arith, some-position); high = omega (arith, some-position) }

  -- slot x of frame a, one of the W frames from slot t's on
  pub frame-slot-in-window : (t a x : ℕ) → frame_of P t ≤ a → a < frame_of P t + P.frames → x < P.slots → InWindow P t (a * P.slots + x)
  frame-slot-in-window t a x low high h =
      let begins : frame_of P t * P.slots ≤ a * P.slots = mul-le-mul_right P.slots low in
      let ends : suc a * P.slots ≤ (frame_of P t + P.frames) * P.slots = mul-le-mul_right P.slots high in
      record { low = omega arith; high = omega arith }

  pub window-below : (t s : ℕ) → InWindow P t s → s < t + positions P
  window-below t s w = omega (arith, w.high, frame-begins t)

  -- ---- positions

  split : (s : ℕ) → s % positions P ≡ frame_of P s % P.frames * P.slots + s % P.slots
  split = split-position ok.some_slot some-frame

  pub frame-of-position : (s : ℕ) → s % positions P / P.slots ≡ frame_of P s % P.frames
  frame-of-position s = ap (◌/ P.slots) (split s) ∙ digits_div (frame_of P s % P.frames) (mod-lt s ok.some_slot)

  pub place-of-position : (s : ℕ) → s % positions P % P.slots ≡ s % P.slots
  place-of-position s = ap (◌% P.slots) (split s) ∙ digits_mod (frame_of P s % P.frames) (mod-lt s ok.some_slot)

  -- the position of slot x of frame a
  pub position-of : (a x : ℕ) → x < P.slots → (a * P.slots + x) % positions P ≡ a % P.frames * P.slots + x
  position-of a x h = split (a * P.slots + x) ∙ rw (digits_div a h, digits_mod a h)

  -- the slot of the window at position p
  abbrev pub slot_at : ℕ → ℕ → ℕ
  slot_at t p = first_with (positions P) (frame_start P t) p

  pub slot_at-in-window : (t p : ℕ) → InWindow P t (slot_at t p)
  slot_at-in-window t p = record { low = first_with-low some-position (frame_start P t) p; high = first_with-high some-position (frame_start P t) p }

  pub slot_at-position : (t p : ℕ) → p < positions P → slot_at t p % positions P ≡ p
  slot_at-position t p h = first_with-mod some-position (frame_start P t) p h

  pub slot_after-first : (t p : ℕ) → p < positions P → FirstAfter P t p (slot_after P t p)
  unfolding slot_after first_with
  slot_after-first t p h = record {
    later = first_with-low some-position (suc t) p;
    position = first_with-mod some-position (suc t) p h;
    first = λ r after at_p. subst (λ q. first_with (positions P) (suc t) q ≤ r) at_p (first_with-first some-position (suc t) r after);
  }

  -- a slot of the window after slot t is the first at its position
  pub slot_after-is : (t s : ℕ) → InWindow P t s → t < s → slot_after P t (s % positions P) ≡ s
  unfolding slot_after first_with
  slot_after-is t s w h = first_with-is some-position (suc t) s h (omega (arith, window-below t s w))
