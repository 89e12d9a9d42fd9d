-- What is read of a link, and the bounds that its invariant gives. Assumes nothing.
use Prim.Native.Nat.{ℕ, ◌≤◌, ◌<◌}
use mathlib.Core.Path.{◌≡◌, ap}
use lib.ListN.{get_or}
use Rattle.model.specs.Plan as reference
use Rattle.model.specs.Window.{Window, size}
use Rattle.model.specs.Link as model
use Rattle.plan.specs.Reading.{entry_for}
use Rattle.window.specs.Window.{Measures}
use Rattle.window.proofs.Tabulated.{get_d-table}
use Rattle.tables.specs.Owners.{owner_of}
use Rattle.link.specs.Parts.{Parts}
use Rattle.link.specs.Layout.{size_of, entry_at, flow_at, owner_at}
use Rattle.link.specs.Reading.{flow_of, link_of}
use Rattle.link.specs.Sound.{Sound}
use Rattle.link.proofs.Plans.{plan-count, plan-entry, count-some, count_most}

-- ---- what is read of a link

module _ (l : Parts) where
  pub read_count : reference.flow_count (link_of l).plan ≡ l.plan.count
  unfolding link_of
  read_count = plan-count l.plan

  pub read-entry : (i : ℕ) → i < l.plan.count → reference.entry (link_of l).plan i ≡ entry_for (entry_at l i)
  unfolding link_of
  read-entry i h = plan-entry l.plan i h

  pub read-flow : (i : ℕ) → i < l.plan.count → model.flow (link_of l) i ≡ flow_of (size_of l) (flow_at l i)
  unfolding link_of
  read-flow i h = get_d-table l.plan.count _ i _ h

  pub read-holding : (i p : ℕ) → i < l.plan.count → p < size_of l → model.holding (link_of l) i p ≡ get_or (flow_at l i).held p 0
  read-holding i p h b = rw (read-flow i h) (get_d-table (size_of l) _ p 0 b)

  pub read-owner : (p : ℕ) → p < size_of l → model.owner (link_of l) p ≡ owner_of (owner_at l p)
  unfolding link_of
  read-owner p b = get_d-table (size_of l) _ p _ b

  module _ {v : Window} (is : v ≡ model.window (link_of l)) where
    pub read-size : size v ≡ size_of l
    unfolding link_of
    read-size = ap size is

    pub read-slots : v.slots ≡ l.plan.slots
    unfolding link_of
    read-slots = ap (λ (x : Window). x.slots) is

    pub read-frames : v.frames ≡ l.plan.frames
    unfolding link_of
    read-frames = ap (λ (x : Window). x.frames) is

-- ---- a sound link

module _ (l : Parts) (s : Sound l) where
  pub some_flow : 1 ≤ l.plan.count
  some_flow = count-some l.plan s.plan

  pub flows_most : l.plan.count ≤ 16
  flows_most = count_most l.plan s.plan

  pub size_most : size_of l ≤ 256
  size_most = s.plan.accepted.positions_most

  pub measures : Measures l.plan.slots l.plan.frames l.current
  measures = let a = s.plan.accepted in record {
    some_slot = a.some_slot;
    slots_most = a.slots_most;
    two_frames = a.two_frames;
    frames_most = a.frames_most;
    positions_most = a.positions_most;
    current_below = s.current;
  }
