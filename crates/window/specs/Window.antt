-- The window that a call works with, read as the model's. Assumes nothing.
use Rattle.std.specs.Prelude.{◌≡◌, ℕ, ◌+◌, ◌*◌, ◌/◌, ◌%◌, ◌<◌, ◌≤◌, Bool, ◌&&◌, ◌≢◌, nat_le, nat_lt}
use Rattle.window.specs.declared.Window.{Window}
use Rattle.window.specs.Ranges.{in_range}
use Rattle.model.specs.Window as model

abbrev pub window_of : Window → model.Window
window_of w = record { slots = w.slots; frames = w.frames; current = w.current }

-- T
abbrev pub size_of : Window → ℕ
size_of w = w.slots * w.frames

-- the first position of HF
abbrev pub base_of : Window → ℕ
base_of w = w.head * w.slots

-- the positions of HF
abbrev pub head_range : Window → ℕ → Bool
head_range w = in_range (base_of w) (base_of w + w.slots)

-- what is known of F, W and CP
pub record Measures (slots frames current : ℕ) : Type 0 where
  pub some_slot : 1 ≤ slots
  pub slots_most : slots ≤ 64
  pub two_frames : 2 ≤ frames
  pub frames_most : frames ≤ 8
  pub positions_most : slots * frames ≤ 256
  pub current_below : current < slots * frames

-- what is known of a window: HF is the frame of CP, and its positions lie in the window
pub record Proper (w : Window) : Type 0 where
  pub measures : Measures w.slots w.frames w.current
  pub head_is : w.head ≡ w.current / w.slots
  pub head_below : w.head < w.frames
  pub base_low : base_of w ≤ w.current
  pub base_high : w.current < base_of w + w.slots
  pub base_fits : base_of w + w.slots ≤ size_of w

-- p is a position of a window
pub record InWindow (w : Window) (p : ℕ) : Type 0 where
  pub proper : Proper w
  pub below : p < size_of w

-- position p has the rank r or a higher one
abbrev pub ranks_from : Window → (r p : ℕ) → Bool
ranks_from w r p = nat_le r (model.rank (window_of w) p)

-- t passes the positions of rank r or more, and no others, and r is T at most: one r for each t (`one_rank`)
pub record FromRank (w : Window) (t : ℕ → Bool) (r : ℕ) : Type 0 where
  pub is : (p : ℕ) → p < size_of w → ranks_from w r p ≡ t p
  pub most : r ≤ size_of w

-- on is the window one position on from w; its head is another one exactly at the first position of a frame
pub record Ticked (w on : Window) : Type 0 where
  pub window_is : window_of on ≡ record { slots = w.slots; frames = w.frames; current = (w.current + 1) % size_of w }
  pub proper : Proper on
  pub stays : on.head ≡ w.head → on.current % w.slots ≢ 0
  pub leaves : (on.head ≢ w.head) → (on.current % w.slots ≡ 0) × (on.head ≡ (w.head + 1) % w.frames)

-- q is a position of the window: p, or one later than p
unfoldable pub from_in : model.Window → ℕ → ℕ → Bool
from_in w p q = nat_lt q (model.size w) && model.from_on w p q
