-- What the functions on the tables ask of their arguments, beside a proper window: that a flow, a position and a frame are there, that no flow
-- holds more than its bound, and that the masks are those of the owners. Assumes nothing.
use Rattle.std.specs.Prelude.{ℕ, ◌≤◌, ◌<◌, List}
use Rattle.window.specs.declared.Window.{Window}
use Rattle.window.specs.Window.{size_of, Proper}
use Rattle.state.specs.State.{owners_of, masks_of}
use Rattle.tables.specs.Owners.{WordsOf}
use Rattle.tables.specs.Bounds.{Bounds}

-- flow i is one of sixteen, and p a position of the window
pub record FlowAt (w : Window) (i p : ℕ) : Type 0 where
  pub proper : Proper w
  pub flow : i < 16
  pub position : p < size_of w

-- flow i is one of sixteen, and each flow holds no more than its bound
pub record FlowWithin (w : Window) (i : ℕ) (s : List ℕ) : Type 0 where
  pub proper : Proper w
  pub flow : i < 16
  pub bounds : Bounds (size_of w) s

-- the masks of a state are those of its owners in the window
pub record MasksIn (w : Window) (s : List ℕ) : Type 0 where
  pub proper : Proper w
  pub agree : WordsOf w.slots w.frames (owners_of s) (masks_of s)

-- and j is a frame of it
pub record FrameIn (w : Window) (j : ℕ) (s : List ℕ) : Type 0 where
  pub masks : MasksIn w s
  pub frame : j < w.frames

-- and d is a position of it
pub record SearchFrom (w : Window) (d j : ℕ) (s : List ℕ) : Type 0 where
  pub masks : MasksIn w s
  pub departure : d < size_of w
  pub frame : j < w.frames

-- n is a number of flows
pub record FlowsOf (w : Window) (n : ℕ) : Type 0 where
  pub proper : Proper w
  pub few : n ≤ 16
