-- The invariant of a link: what every call asks of it and ensures again. Assumes nothing.
use Rattle.std.specs.Prelude.{ℕ, ◌≤◌, ◌<◌, ◌≡◌, List, length, get_or}
use Rattle.state.specs.State.{Whole}
use Rattle.link.specs.Parts.{Parts, parts_in}
use Rattle.link.specs.Layout.{FlowRow, size_for, size_of, flow_at, owner_at}
use Rattle.tables.specs.Owners.{nobody, WordsOf}
use Rattle.tables.specs.Bounds.{Bounds}
use Rattle.link.specs.Reading.{spare_flow}
use Rattle.plan.specs.declared.Plan.{Plan}
use Rattle.plan.specs.Reading.{Valid}

-- a flow: IF is one of W frames, nothing is held past the T positions, and a number modulo 1,024 is expected
pub record SoundFlow (plan : Plan) (x : FlowRow) : Type 0 where
  pub frame : x.flow.injection < plan.frames
  pub spare : (p : ℕ) → size_for plan ≤ p → get_or x.held p 0 ≡ 0
  pub number : x.flow.number < 1024

pub record Sound (l : Parts) : Type 0 where
  pub plan : Valid l.plan
  pub current : l.current < size_of l
  pub owners_long : length l.owner ≡ 256
  -- an owner is a flow, or nobody
  pub owners : (p : ℕ) → p < 256 → (owner_at l p ≡ nobody → ⊥) → owner_at l p < l.plan.count
  pub spare_owners : (p : ℕ) → size_of l ≤ p → p < 256 → owner_at l p ≡ nobody
  -- bit i of word j is 1 exactly when slot i of frame j is there and nobody booked it
  pub unbooked : WordsOf l.plan.slots l.plan.frames l.owner l.unbooked
  pub flows_long : length l.flows ≡ 16
  pub held_long : length l.held ≡ 4096
  pub flows : (i : ℕ) → i < l.plan.count → SoundFlow l.plan (flow_at l i)
  pub spare_flows : (i : ℕ) → l.plan.count ≤ i → i < 16 → flow_at l i ≡ spare_flow
  -- the next lend looks at one of the plan's flows first
  pub turn : l.turn < l.plan.count

-- a state of a link with this plan: its parts are sound, it has no other bytes, the mark is 0 or 1, and no flow holds more than its bound
pub record SoundState (plan : Plan) (s : List ℕ) : Type 0 where
  pub whole : Whole s
  pub mark : get_or s 4497 0 ≤ 1
  pub bounds : Bounds (size_for plan) s
  pub parts : Sound (parts_in plan s)
