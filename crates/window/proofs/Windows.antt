-- The window of a call: its frames lie in it, its head is the frame of CP, and the window one position on. Assumes nothing.
use Rattle.std.proofs.Common.{◌≡◌, ℕ, ◌+◌, ◌*◌, ◌/◌, ◌%◌, ◌<◌, ◌≤◌, sym, refl, ap, ◌∙◌, mul-le-mul_right, mod-lt, mod-eq_of_lt, suc-mul, mul_comm, div-lt_iff_lt-mul, add-mul, one-mul, div-add-mod', zero-mul, div-mul-le_self, arith}
use native.Mathlib.Nat.{mod_self, div-eq_of_lt-le, lt-div-mul-add}
use native.Mathlib.Nat.{mul-mod_left, mul-div_left}
use native.Mathlib.Decide.{dec_lt}
use Rattle.model.specs.Window as model
use Rattle.window.specs.declared.Window.{Window}
use Rattle.window.specs.Window.{size_of, base_of, Measures, Proper, Ticked}

-- frame j of W frames of F slots lies in the window
pub frame-fits : (F W j : ℕ) → j < W → j * F + F ≤ F * W
frame-fits F W j h = omega (arith, mul-le-mul_right F h, suc-mul j F, mul_comm W F)

-- F and W with another current position
measured-at : {slots frames p : ℕ} → Measures slots frames p → (q : ℕ) → q < slots * frames → Measures slots frames q
measured-at m q h = record {
  some_slot = m.some_slot;
  slots_most = m.slots_most;
  two_frames = m.two_frames;
  frames_most = m.frames_most;
  positions_most = m.positions_most;
  current_below = h;
}

-- the window of F slots to a frame, W frames and CP
pub proper : (slots frames current : ℕ) → Measures slots frames current
    → Proper (record { slots = slots; frames = frames; current = current; head = current / slots })
proper slots frames current m = record {
  measures = m;
  head_is = refl;
  head_below = head_below;
  base_low = div-mul-le_self current slots;
  base_high = lt-div-mul-add {a = current} {b = slots} m.some_slot;
  base_fits = frame-fits slots frames (current / slots) head_below;
}
  where
    head_below : current / slots < frames
    head_below = (div-lt_iff_lt-mul m.some_slot).1 (rw mul_comm m.current_below)

module _ (w : Window) (v : Proper w) where
  -- the model's window at another current position
  abbrev moved_to : ℕ → model.Window
  moved_to p = record { slots = w.slots; frames = w.frames; current = p }

  -- ---- one position on, in the head frame

  module _ (h : w.current + 1 < base_of w + w.slots) where
    on_below : w.current + 1 < size_of w
    on_below = omega (arith, v.base_fits)

    same_head : (w.current + 1) / w.slots ≡ w.head
    same_head = div-eq_of_lt-le w.slots (omega (arith, v.base_low)) (omega (arith, suc-mul w.head w.slots))

    no-first-slot : (w.current + 1) % w.slots ≡ 0 → ⊥
    no-first-slot z =
        let parts = rw (same_head, z) at (div-add-mod' (w.current + 1) w.slots) in
        omega (arith, v.base_low, parts)

    pub ticked-on : Ticked w (record { slots = w.slots; frames = w.frames; current = w.current + 1; head = w.head })
    ticked-on = record {
      window_is = ap moved_to (sym (mod-eq_of_lt on_below));
      proper = record {
        measures = measured-at v.measures _ on_below;
        head_is = sym same_head;
        head_below = v.head_below;
        base_low = omega (arith, v.base_low);
        base_high = h;
        base_fits = v.base_fits;
      };
      stays = λ _ z. no-first-slot z;
      leaves = λ other. absurd (other refl);
    }

  -- ---- one position on, to the next frame

  module _ (h : base_of w + w.slots ≤ w.current + 1) (head : ℕ) (is : head ≡ (w.head + 1) % w.frames) where
    next-below : head < w.frames
    next-below = rw is (mod-lt _ (omega (arith, v.measures.two_frames)))

    next_fits : head * w.slots + w.slots ≤ size_of w
    next_fits = frame-fits w.slots w.frames head next-below

    -- CP is the last slot of the head frame
    next-base : w.current + 1 ≡ (w.head + 1) * w.slots
    next-base = omega (arith, v.base_high, add-mul w.head 1 w.slots, one-mul w.slots)

    head-on : w.head + 1 < w.frames → head ≡ w.head + 1
    head-on d = is ∙ mod-eq_of_lt d

    last-head : (w.head + 1 < w.frames → ⊥) → w.head + 1 ≡ w.frames
    last-head d = omega (arith, v.head_below)

    head-round : (w.head + 1 < w.frames → ⊥) → head ≡ 0
    head-round d = is ∙ rw (last-head d) (mod_self w.frames)

    first_slot : head * w.slots ≡ (w.current + 1) % size_of w
    first_slot = go (dec_lt (w.head + 1) w.frames)
      where
        go : Dec (w.head + 1 < w.frames) → head * w.slots ≡ (w.current + 1) % size_of w
        go (yes d) =
            let fits = frame-fits w.slots w.frames (w.head + 1) d in
            rw (head-on d, next-base) (sym (mod-eq_of_lt (omega (arith, fits, v.measures.some_slot))))
        go (no d) =
            rw (head-round d, next-base, last-head d, mul_comm w.frames w.slots, zero-mul w.slots)
            (sym (mod_self (size_of w)))

    another-head : head ≡ w.head → ⊥
    another-head e = go (dec_lt (w.head + 1) w.frames)
      where
        go : Dec (w.head + 1 < w.frames) → ⊥
        go (yes d) = omega (arith, head-on d)
        go (no d) = omega (arith, head-round d, last-head d, v.measures.two_frames)

    ticked-over : Ticked w (record { slots = w.slots; frames = w.frames; current = head * w.slots; head = head })
    ticked-over = record {
      window_is = ap moved_to first_slot;
      proper = record {
        measures = measured-at v.measures _ (omega (arith, next_fits, v.measures.some_slot));
        head_is = sym (mul-div_left head v.measures.some_slot);
        head_below = next-below;
        base_low = omega arith;
        base_high = omega (arith, v.measures.some_slot);
        base_fits = next_fits;
      };
      stays = λ e _. another-head e;
      leaves = λ _. (mul-mod_left head w.slots, is);
    }

  -- the head is the last frame, or the next one comes after it
  module _ (h : base_of w + w.slots ≤ w.current + 1) where
    pub ticked-round : w.head + 1 ≡ w.frames → Ticked w (record { slots = w.slots; frames = w.frames; current = 0; head = 0 })
    ticked-round e = rw (zero-mul w.slots) at (ticked-over h 0 (sym (rw e (mod_self w.frames))))

    pub ticked-next : w.head + 1 < w.frames
        → Ticked w (record { slots = w.slots; frames = w.frames; current = w.current + 1; head = w.head + 1 })
    ticked-next d = let is = sym (mod-eq_of_lt d) in rw (← next-base h (w.head + 1) is) at (ticked-over h (w.head + 1) is)
