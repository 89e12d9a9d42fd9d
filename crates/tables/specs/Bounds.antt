-- For each flow a bound of what it holds at most, and the changes from a position on with which a bound goes. Assumes nothing.
use Rattle.std.specs.Prelude.{ℕ, ◌+◌, ◌≤◌, ◌<◌, min, List, get_or}
use Rattle.state.specs.State.{bound_at, with_bound}
use Rattle.window.specs.declared.Window.{Window}
use Rattle.window.specs.Window.{window_of, size_of}
use Rattle.tables.specs.Rows.{row}
use Rattle.tables.specs.Holdings.{most_held, shifted_row, shifted}

-- n is no less than what is held at any of T positions; 255 says nothing
pub record AtMost (T n : ℕ) (held : List ℕ) : Type 0 where
  pub most : n < 255 → (q : ℕ) → q < T → get_or held q 0 ≤ n

-- each flow holds no more than its bound, unless that is 255
pub record Bounds (T : ℕ) (s : List ℕ) : Type 0 where
  pub bound : (i : ℕ) → i < 16 → AtMost T (bound_at s i) (row s i)

-- flow i holds one more from p on, and its bound is one more, up to 255
unfoldable pub raised : Window → (i p : ℕ) → List ℕ → List ℕ
raised w i p s = with_bound (shifted (window_of w) 1 i p s) i (min (bound_at s i + 1) 255)

-- flow i holds one fewer from p on, and its bound is the most that it holds then
unfoldable pub lowered : Window → (i p : ℕ) → List ℕ → List ℕ
lowered w i p s = with_bound (shifted (window_of w) 255 i p s) i (most_held (size_of w) (shifted_row (window_of w) 255 p (row s i)))
