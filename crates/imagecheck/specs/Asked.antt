-- What the tests ask of their arguments: that what they read is there. Assumes nothing.
use Rattle.std.specs.Prelude.{ℕ, ◌+◌, ◌*◌, ◌≤◌, ◌<◌, ◌≡◌, List, length}
use Rattle.plan.specs.declared.Plan.{Plan}
use Rattle.plan.specs.Reading.{plan_for, Valid}
use Rattle.window.specs.declared.Window.{Window}
use Rattle.window.specs.Window.{window_of, size_of, Proper}
use Rattle.imagemodel.specs.Image.{header_length, image_length, header_field}
use Rattle.imagemodel.specs.Consistent.{window_at}
use Rattle.imagecheck.specs.declared.layout.Layout.{Layout}
use Rattle.imagecheck.specs.Layout.{LaidOut}

-- ---- of a buffer

-- it is no shorter than the header, and than the total that this states
pub record LongEnough (b : List ℕ) : Type 0 where
  pub header_there : header_length ≤ length b
  pub image_there : header_field b 0 ≤ length b

-- an image of a plan is there
pub record PlanOn (b : List ℕ) (y : Layout) (p : Plan) : Type 0 where
  pub valid : Valid p
  pub laid : LaidOut (plan_for p) y
  pub there : image_length (plan_for p) ≤ length b

-- and w is its window at some current position
pub record PartsOn (b : List ℕ) (y : Layout) (p : Plan) (w : Window) : Type 0 where
  pub on : PlanOn b y p
  pub proper : Proper w
  pub window_is : window_of w ≡ window_at (plan_for p) w.current

-- and i one of its flows
pub record PartOn (b : List ℕ) (y : Layout) (p : Plan) (w : Window) (i : ℕ) : Type 0 where
  pub parts : PartsOn b y p w
  pub flow : i < p.count

-- ---- of the fields of a flow

-- the owners of all positions are there, and i is one of sixteen flows
pub record OwnersOn (b : List ℕ) (owners : ℕ) (w : Window) (i : ℕ) : Type 0 where
  pub proper : Proper w
  pub flow : i < 16
  pub owners_there : owners + 2 * size_of w ≤ length b

-- two frames
pub record FramesOn (w : Window) (j k : ℕ) : Type 0 where
  pub frame : j < w.frames
  pub other : k < w.frames

-- and its holdings
pub record HeldOn (b : List ℕ) (owners held : ℕ) (w : Window) (i : ℕ) : Type 0 where
  pub on : OwnersOn b owners w i
  pub holdings_there : held + 2 * size_of w ≤ length b

-- so many positions of flow i, of which the first has one before it
pub record RunOn (b : List ℕ) (owners held count i : ℕ) : Type 0 where
  pub flow : i < 16
  pub few : count ≤ 256
  pub one_before : 2 ≤ held
  pub owners_there : owners + 2 * count ≤ length b
  pub holdings_there : held + 2 * count ≤ length b
