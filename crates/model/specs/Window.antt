-- The window: its frames and positions, and which position is later than which. RULES 3.1 to 3.4. Assumes nothing.
use Rattle.std.specs.Prelude.{ℕ, ◌+◌, ◌-◌, ◌*◌, ◌/◌, ◌%◌, Bool, not, ◌&&◌, ◌||◌, leb, ltb, eqb}
use Rattle.model.specs.Tables.{every, ahead}

pub record Window : Type 0 where
  pub slots : ℕ  -- F
  pub frames : ℕ  -- W
  pub current : ℕ  -- CP

-- RULES 1.4: T, which is F × W
abbrev pub size : Window → ℕ
size w = w.slots * w.frames

-- RULES 3.1: the first position of frame j, and the frame of a position
abbrev pub start : Window → ℕ → ℕ
start w j = j * w.slots

abbrev pub frame_at : Window → ℕ → ℕ
frame_at w p = p / w.slots

-- RULES 3.1: HF, the frame of CP
abbrev pub head : Window → ℕ
head w = frame_at w w.current

-- RULES 3.2: the frame after j
abbrev pub next : Window → ℕ → ℕ
next w j = (j + 1) % w.frames

-- RULES 3.2: the newest frame, the last one before HF comes again
abbrev pub newest : Window → ℕ
newest w = (head w + w.frames - 1) % w.frames

-- RULES 3.3: the place of position p in the window's order, which begins with the first position of HF
unfoldable pub rank : Window → ℕ → ℕ
rank w p = ahead (size w) (start w (head w)) p

-- RULES 3.3: p is later than q
abbrev pub later : Window → ℕ → ℕ → Bool
later w p q = ltb (rank w q) (rank w p)

-- p lies in HF
abbrev pub in_head : Window → ℕ → Bool
in_head w p = eqb (frame_at w p) (head w)

-- RULES 3.4: position p has gone by
unfoldable pub passed : Window → ℕ → Bool
passed w p = in_head w p && not (later w p w.current)

-- q is p, or later than p
unfoldable pub from_on : Window → ℕ → ℕ → Bool
from_on w p q = leb (rank w p) (rank w q)

-- t holds at p and at every later position of the window
unfoldable pub every_from : Window → ℕ → (ℕ → Bool) → Bool
every_from w p t = every (size w) (λ q. not (from_on w p q) || t q)

-- RULES 3.3: the last position of the window, the one before the first of HF
abbrev pub last : Window → ℕ
last w = (start w (head w) + size w - 1) % size w
