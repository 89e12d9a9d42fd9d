-- A frame change on a link: how the link is read after it, and that it is sound. Assumes nothing.
use Prim.Native.Nat.{ℕ, ◌+◌, ◌/◌, ◌%◌, ◌≤◌, ◌<◌}
use mathlib.Core.Path.{◌≡◌, refl, sym, ap, ◌∙◌}
use mathlib.Core.List.{List}
use mathlib.Core.Option.{none}
use mathlib.Core.Bool.{Bool, true, false, cond}
use native.Mathlib.Nat.{mod-lt, suc-mul, div-eq_of_lt-le, div-mul-le_self, lt-div-mul-add}
use native.Mathlib.Decide.{dec_lt}
use native.Mathlib.Omega.{arith}
use lib.ListN.{get_or}
use lib.Dec.{eqb}
use borrow.Author.Tests.{eq-eqb, ne_eqb}
use Rattle.model.specs.Tables.{table}
use Rattle.model.specs.Plan as reference
use Rattle.model.specs.Link as model
use Rattle.model.specs.Tick as tick
use Rattle.window.specs.declared.Window.{Window}
use Rattle.window.specs.Window.{Proper, base_of, head_range}
use Rattle.window.proofs.Tabulated.{table_same}
use Rattle.window.proofs.Ranges.{in-range, before-range, past-range, length-replaced, replaced-at, replaced-off}
use Rattle.window.proofs.Windows.{proper}
use Rattle.unbooked.specs.Words.{Recycled}
use Rattle.tables.specs.Owners.{nobody, owner_of, emptied}
use Rattle.tables.specs.Rows.{row, Sixteen}
use Rattle.tables.specs.Holdings.{last_of, carried_row, carried}
use Rattle.tables.proofs.Rows.{length-row}
use Rattle.tables.proofs.UnbookedSlots.{words-emptied}
use Rattle.tables.proofs.HoldingChanges.{row_carried, row-not-carried}
use Rattle.tables.proofs.CarriedRows.{length-carried}
use Rattle.link.specs.declared.Flow.{Flow}
use Rattle.link.specs.Parts.{Parts}
use Rattle.link.specs.Layout.{FlowRow, size_of, entry_at, flow_row, flow_at, owner_at, no_flow}
use Rattle.link.specs.Updates.{moved_to, left_head, left_heads, link_with}
use Rattle.link.specs.Reading.{flow_of, link_of}
use Rattle.link.specs.Sound.{Sound, SoundFlow}
use Rattle.link.proofs.Readings.{read_count, read-entry, read-flow, read-holding, read-owner, flows_most, size_most, measures}
use Rattle.link.proofs.Updated.{sound-with}

-- ---- the link after a frame change

-- the window of a call on it
abbrev pub window_at : Parts → Window
window_at l = record { slots = l.plan.slots; frames = l.plan.frames; current = l.current; head = l.current / l.plan.slots }

-- the position that comes next, and the frame that comes after the head
abbrev pub next_at : Parts → ℕ
next_at l = (l.current + 1) % size_of l

abbrev pub on_at : Parts → ℕ
on_at l = ((window_at l).head + 1) % l.plan.frames

abbrev pub recycled : Parts → (unbooked : List ℕ) → Parts
recycled l u =
    link_with l (next_at l)
    (emptied (window_at l) l.owner)
    u
    (left_heads l.plan (window_at l).head (on_at l) l.flows)
    (carried (window_at l) l.plan.count l.held)
    false

-- a flow after it: it left the head frame with its share, and what it holds at the last position goes on
abbrev flow_after : Parts → ℕ → FlowRow
flow_after l i =
    flow_row (left_head (window_at l).head (on_at l) (entry_at l i).share (flow_at l i).flow) (carried_row (window_at l) (row l.held i))

module _ (l : Parts) (s : Sound l) where
  window-proper : Proper (window_at l)
  window-proper = proper _ _ _ (measures l s)

  sixteen : Sixteen l.held
  sixteen = omega (arith, s.held_long)

  some-position : 0 < size_of l
  some-position = omega (arith, s.current)

  pub next-below : next_at l < size_of l
  next-below = mod-lt _ some-position

  last-below : last_of (window_at l) < size_of l
  last-below = mod-lt _ some-position

  -- past the positions of the head frame
  past_head : (q : ℕ) → size_of l ≤ q → head_range (window_at l) q ≡ false
  past_head q h = past-range _ _ q (omega (arith, window-proper.base_fits))

  -- the head frame's positions
  head-range : (q : ℕ) → head_range (window_at l) q ≡ eqb (q / l.plan.slots) (window_at l).head
  head-range q = go (dec_lt q base) (dec_lt q (base + F))
    where
      F : ℕ
      F = l.plan.slots

      head : ℕ
      head = (window_at l).head

      base : ℕ
      base = base_of (window_at l)

      go : Dec (q < base) → Dec (q < base + F) → head_range (window_at l) q ≡ eqb (q / F) head
      go (yes h) d = rw (before-range base (base + F) q h, ne_eqb (q / F) head (λ e. let m = rw e at (div-mul-le_self q F) in omega arith))
      go (no h) (yes d) =
          let there : q / F ≡ head = div-eq_of_lt-le F (omega arith) (omega (arith, suc-mul head F)) in
          rw (in-range base (base + F) q (omega arith) d, eq-eqb (q / F) head there)
      go (no h) (no d) =
          let past : q / F ≡ head → ⊥ = λ e. let m = rw e at (lt-div-mul-add {a = q} {b = F} s.plan.accepted.some_slot) in omega arith in
          rw (past-range base (base + F) q (omega arith), ne_eqb (q / F) head past)

  -- ---- a flow

  flow-after : (u : List ℕ) (i : ℕ) → i < l.plan.count → flow_at (recycled l u) i ≡ flow_after l i
  flow-after u i h =
      let b = flows_most l s in
      let e : (flow_at (recycled l u) i).flow ≡ (flow_after l i).flow =
      replaced-at _ _ l.flows i no_flow (omega (arith, s.flows_long)) ∙ rw (in-range 0 l.plan.count i (omega arith) h) in
      (λ k. flow_row (e k) (row_carried (window_at l) window-proper l.plan.count l.held sixteen i h (omega arith) k))

  spare-stays : (u : List ℕ) (i : ℕ) → l.plan.count ≤ i → flow_at (recycled l u) i ≡ flow_at l i
  spare-stays u i h =
      let e : (flow_at (recycled l u) i).flow ≡ (flow_at l i).flow = replaced-off _ _ l.flows i no_flow (past-range 0 l.plan.count i h) in
      rw (e, row-not-carried (window_at l) l.plan.count l.held i h)

  held_after : (i : ℕ) → i < l.plan.count → table (size_of l) (λ q. get_or (flow_after l i).held q 0)
      ≡ table (size_of l)
      (λ q. cond (eqb (q / l.plan.slots) (window_at l).head) (model.holding (link_of l) i (last_of (window_at l))) (model.holding (link_of l) i q))
  held_after i h = table_same (size_of l) _ _ λ q b.
      replaced-at _ _ (flow_at l i).held q 0 (omega (arith, length-row l.held i, size_most l s))
      ∙ rw (head-range q, read-holding l i q h b, read-holding l i (last_of (window_at l)) h last-below)

  read-after : (i : ℕ) → i < l.plan.count → flow_of (size_of l) (flow_after l i) ≡ tick.carried_on (link_of l) i (tick.left_head (link_of l) i)
  unfolding link_of
  read-after i h = rw injection (go (eqb (flow_at l i).flow.injection (window_at l).head))
    where
      injection : (model.flow (link_of l) i).injection ≡ (flow_at l i).flow.injection
      injection = ap (λ (x : model.Flow). x.injection) (read-flow l i h)

      share : model.share (link_of l) i ≡ (entry_at l i).share
      share = ap (λ (e : reference.Entry). e.share) (read-entry l i h)

      left : Bool → Flow
      left b = cond b (moved_to (flow_at l i).flow (on_at l) (entry_at l i).share) (flow_at l i).flow

      read_left : Bool → model.Flow
      read_left b = cond b (model.moved_to (model.flow (link_of l) i) (on_at l) (model.share (link_of l) i)) (model.flow (link_of l) i)

      go : (b : Bool) → flow_of (size_of l) (flow_row (left b) (flow_after l i).held) ≡ tick.carried_on (link_of l) i (read_left b)
      go true = λ k. model.with_held (model.moved_to (sym (read-flow l i h) k) (on_at l) (sym share k)) (held_after i h k)
      go false = λ k. model.with_held (sym (read-flow l i h) k) (held_after i h k)

  sound-after : (i : ℕ) → i < l.plan.count → SoundFlow l.plan (flow_after l i)
  sound-after i h = record {
    frame = go (eqb (flow_at l i).flow.injection (window_at l).head);
    spare = λ q k. replaced-off _ _ (flow_at l i).held q 0 (past_head q k) ∙ (s.flows i h).spare q k;
    number = same_number (eqb (flow_at l i).flow.injection (window_at l).head);
  }
    where
      go : (b : Bool) → (cond b (moved_to (flow_at l i).flow (on_at l) (entry_at l i).share) (flow_at l i).flow).injection < l.plan.frames
      go true = mod-lt _ (omega (arith, s.plan.accepted.two_frames))
      go false = (s.flows i h).frame

      same_number : (b : Bool) → (cond b (moved_to (flow_at l i).flow (on_at l) (entry_at l i).share) (flow_at l i).flow).number < 1024
      same_number true = (s.flows i h).number
      same_number false = (s.flows i h).number

  -- ---- the link

  pub read-recycled : (u : List ℕ) → link_of (recycled l u) ≡ model.with_mark (model.with_current (tick.recycled (link_of l)) (next_at l)) false
  unfolding link_of tick.recycled
  read-recycled u = cc (owners, flows)
    where
      unowned : (b : Bool) (x : ℕ) → owner_of (cond b nobody x) ≡ cond b none (owner_of x)
      unowned true x = refl
      unowned false x = refl

      owners : table (size_of l) (λ q. owner_of (owner_at (recycled l u) q))
          ≡ table (size_of l) (λ q. cond (eqb (q / l.plan.slots) (window_at l).head) none (model.owner (link_of l) q))
      owners = table_same (size_of l) _ _ λ q b.
          ap owner_of (replaced-at _ _ l.owner q 0 (omega (arith, s.owners_long, size_most l s)))
          ∙ rw (head-range q, read-owner l q b) (unowned (eqb (q / l.plan.slots) (window_at l).head) (owner_at l q))

      after : ℕ → model.Flow
      after i = tick.carried_on (link_of l) i (tick.left_head (link_of l) i)

      flows : table l.plan.count (λ i. flow_of (size_of l) (flow_at (recycled l u) i)) ≡ table (reference.flow_count (link_of l).plan) after
      flows =
          table_same l.plan.count _ after (λ i h. ap (flow_of (size_of l)) (flow-after u i h) ∙ read-after i h)
          ∙ ap (λ (n : ℕ). table n after) (sym (read_count l))

  pub sound-recycled : {u : List ℕ} → Recycled l.plan.slots (window_at l).head l.unbooked u → Sound (recycled l u)
  sound-recycled {u} x =
      sound-with l s next-below
      (record {
        long = length-replaced _ _ l.owner ∙ s.owners_long;
        owned = λ q b n. owner q b n (head_range (window_at l) q) refl;
        spare = λ q h b. replaced-off _ _ l.owner q 0 (past_head q h) ∙ s.spare_owners q h b;
        words = words-emptied (window_at l) window-proper l.owner s.owners_long s.unbooked x;
      })
      (record {
        long = length-replaced _ _ l.flows ∙ s.flows_long;
        rows = length-carried l.plan.count (last_of (window_at l)) _ _ l.held ∙ s.held_long;
        each = λ i h. rw (flow-after u i h) (sound-after i h);
        spare = λ i h b. spare-stays u i h ∙ s.spare_flows i h b;
      })
    where
      owner : (q : ℕ) → q < 256 → (owner_at (recycled l u) q ≡ nobody → ⊥) → (t : Bool) → head_range (window_at l) q ≡ t
          → owner_at (recycled l u) q < l.plan.count
      owner q b n true e = absurd (n (replaced-at (head_range (window_at l)) (λ q x. nobody) l.owner q 0 (omega (arith, s.owners_long)) ∙ rw e))
      owner q b n false e =
          let z = replaced-off (head_range (window_at l)) (λ q x. nobody) l.owner q 0 e in
          rw z (s.owners q b (λ y. n (z ∙ y)))
