-- What the flows hold: nothing, tested at a position, changed from a position on, and carried on at a frame change. Assumes nothing.
use Rattle.std.specs.Prelude.{ℕ, zero, suc, ◌+◌, ◌-◌, ◌%◌, max, List, Bool, get_or, ltb}
use Rattle.model.specs.Window as model
use Rattle.window.specs.declared.Window.{Window}
use Rattle.window.specs.Bytes.{wrapped}
use Rattle.window.specs.Ranges.{replaced}
use Rattle.window.specs.Window.{size_of, base_of, head_range, from_in}
use Rattle.tables.specs.Rows.{row, rows_of, with_row, carried_rows}

-- each flow holds 0 at each position
abbrev pub nothing_held : List ℕ
nothing_held = rows_of (λ i p. 0)

-- ---- a test

-- something is held at q
abbrev pub some_held : List ℕ → ℕ → Bool
some_held held q = ltb 0 (get_or held q 0)

-- fewer than the cells are held at q
abbrev pub room_at : List ℕ → ℕ → ℕ → Bool
room_at held cells q = ltb (get_or held q 0) cells

-- the largest of f 0 to f (n - 1), or 0
unfoldable pub largest : ℕ → (ℕ → ℕ) → ℕ
largest zero f = 0
largest (suc n) f = max (largest n f) (f n)

-- the most that is held at any of T positions
abbrev pub most_held : ℕ → List ℕ → ℕ
most_held T held = largest T (λ q. get_or held q 0)

-- ---- from p on

-- a flow's holdings from p on, each moved by a number modulo 256
abbrev pub shifted_row : model.Window → (by p : ℕ) → List ℕ → List ℕ
shifted_row w by p held = replaced (from_in w p) (λ q x. wrapped by x) held

-- the same of flow i
abbrev pub shifted : model.Window → (by i p : ℕ) → List ℕ → List ℕ
shifted w by i p held = with_row held i (shifted_row w by p (row held i))

-- ---- at a frame change

-- the last position of the window
abbrev pub last_of : Window → ℕ
last_of w = (base_of w + size_of w - 1) % size_of w

-- what a flow holds at the last position goes on in the head frame
abbrev pub carried_row : Window → List ℕ → List ℕ
carried_row w held = replaced (head_range w) (λ q x. get_or held (last_of w) 0) held

-- the same of each of n flows
abbrev pub carried : Window → ℕ → List ℕ → List ℕ
carried w n held = carried_rows n (last_of w) (base_of w) (base_of w + w.slots) held
