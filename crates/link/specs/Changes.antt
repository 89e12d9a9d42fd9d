-- How a state changes by a loop over its flows, and by a frame change. Assumes nothing.
use Rattle.std.specs.Prelude.{ℕ, ◌+◌, ◌<◌, ◌≡◌, List, set, true}
use Rattle.plan.specs.declared.Plan.{Plan}
use Rattle.plan.specs.Reading.{Valid}
use Rattle.window.specs.declared.Window.{Window}
use Rattle.window.specs.Window.{Proper}
use Rattle.state.specs.Parts.{Beside}
use Rattle.state.specs.State.{Whole, held_of, owners_of, masks_of}
use Rattle.unbooked.specs.Words.{Words, Recycled}
use Rattle.tables.specs.Owners.{nobody, everywhere, emptied}
use Rattle.tables.specs.Masks.{Booked}
use Rattle.tables.specs.Holdings.{carried}
use Rattle.tables.specs.Bounds.{raised}
use Rattle.link.specs.declared.Flow.{Flow}
use Rattle.link.specs.Parts.{flows_of}
use Rattle.link.specs.Started.{started_flows}
use Rattle.link.specs.Updates.{left_heads}

-- the flows are these, and nothing else changed
pub record FlowsNow (before after : List ℕ) (flows : List Flow) : Type 0 where
  pub flows_are : flows_of after ≡ flows
  pub beside : Beside 4416 4480 before after

-- what a frame change is given: `on` is a frame
pub record ChangeIn (plan : Plan) (w : Window) (on : ℕ) (s : List ℕ) : Type 0 where
  pub valid : Valid plan
  pub proper : Proper w
  pub whole : Whole s
  pub frame : on < 256

-- flow i books position p of frame j: the owner, the mask, and what the flow holds with its bound
pub record BookedIn (w : Window) (i j p : ℕ) (before after : List ℕ) : Type 0 where
  pub masked : List ℕ
  pub booked : Booked w.slots j p (set before (4096 + p) i) masked
  pub is : after ≡ raised w i p masked

-- nobody owns a position, and the plan's flows start in a frame
pub record ResetTables (plan : Plan) (frame : ℕ) (before after : List ℕ) : Type 0 where
  pub owners_are : owners_of after ≡ everywhere nobody
  pub masks_are : Words plan.slots plan.frames (λ p. true) (masks_of after)
  pub flows_are : flows_of after ≡ started_flows frame plan.entries plan.count (flows_of before)
  pub beside : Beside 4096 4480 before after

-- the head frame of window w is left, and `on` is the next one
pub record FrameLeft (plan : Plan) (w : Window) (on : ℕ) (before after : List ℕ) : Type 0 where
  pub owners_are : owners_of after ≡ emptied w (owners_of before)
  pub masks_are : Recycled w.slots w.head (masks_of before) (masks_of after)
  pub held_is : held_of after ≡ carried w plan.count (held_of before)
  pub flows_are : flows_of after ≡ left_heads plan w.head on (flows_of before)
  pub beside : Beside 0 4480 before after
