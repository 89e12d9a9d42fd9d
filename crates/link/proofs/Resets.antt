-- A reset on a link, as it is read. Assumes nothing.
use Prim.Native.Nat.{ℕ, ◌≤◌, ◌<◌}
use mathlib.Core.Path.{◌≡◌, refl, sym, ap, ◌∙◌}
use mathlib.Core.List.{List}
use mathlib.Core.Bool.{Bool, true, false, not, ◌&&◌, ◌||◌, cond}
use lib.Dec.{ltb, eqb}
use lib.ListN.{length, get_or}
use borrow.Author.Tests.{not-true, not-false}
use Rattle.model.specs.Tables.{table, every}
use Rattle.model.specs.Plan as reference
use Rattle.model.specs.Window as seen
use Rattle.model.specs.Window.{every_from}
use Rattle.model.specs.Link as model
use Rattle.model.specs.Request.{unbooked}
use Rattle.model.specs.Reset.{none_booked, none_held, quiet, from_head, reset_link, reset}
use Rattle.model.proofs.ResetTests.{granted, not_granted, reset-is, none-held-is}
use Rattle.calls.specs.declared.Answer.TheVariants.{Reset, Refused}
use Rattle.calls.specs.Reading.{answer_to_reset}
use Rattle.unbooked.specs.Words.{Words}
use Rattle.window.specs.declared.Window.{Window}
use Rattle.window.specs.Window.{window_of}
use Rattle.window.proofs.Tabulated.{table_same, every-same}
use Rattle.window.proofs.FromOn.{every_from-same}
use Rattle.tables.specs.Owners.{nobody, everywhere, none_later}
use Rattle.tables.specs.Rows.{row}
use Rattle.tables.specs.Holdings.{room_at}
use Rattle.link.specs.declared.Flow.{Flow}
use Rattle.link.specs.Parts.{Parts}
use Rattle.link.specs.Layout.{FlowRow, size_of, entry_at, flow_row, flow_in, owner_at, no_flow}
use Rattle.link.specs.Updates.{link_with, with_turn}
use Rattle.link.specs.Reading.{flow_of, link_of}
use Rattle.link.specs.Sound.{Sound}
use Rattle.link.specs.Started.{started_flow, started_flows}
use Rattle.link.specs.Reset.{none_held_in, quiet_in}
use Rattle.link.specs.Steps.{SteppedParts}
use Rattle.link.proofs.Given.{AtHand}
use Rattle.link.proofs.Lends.{unbooked-is}
use Rattle.link.proofs.Readings.{read_count, read-entry, read-flow, read-holding, read-owner, read-frames, flows_most, size_most, some_flow}
use Rattle.link.proofs.StartedFlows.{read-unowned, sound-unowned, started-at, started-past, length-started}
use Rattle.link.proofs.Updated.{sound-with, sound-first}

-- ---- the tests

module _ (l : Parts) where
  none-booked-same : none_booked (link_of l) ≡ none_later (model.window (link_of l)) l.owner
  unfolding none_booked none_later link_of
  none-booked-same = every-same (size_of l) _ _ (λ q b. rw (read-owner l q b))

  -- what flow i holds, as it is read
  row_same : (i : ℕ) → i < l.plan.count
      → every_from (model.window (link_of l)) (link_of l).current (λ q. ltb (model.holding (link_of l) i q) 1)
      ≡ every_from (model.window (link_of l)) (link_of l).current (room_at (row l.held i) 1)
  unfolding link_of
  row_same i h = every_from-same (model.window (link_of l)) l.current _ _ (λ q b. ap (λ (x : ℕ). ltb x 1) (read-holding l i q h b))

  none-held-same : none_held (link_of l) ≡ none_held_in (model.window (link_of l)) l.plan.count l.held
  none-held-same =
      none-held-is (link_of l)
      ∙ ap (λ (n : ℕ). every n (λ i. every_from (model.window (link_of l)) (link_of l).current (λ q. ltb (model.holding (link_of l) i q) 1))) (read_count l)
      ∙ every-same l.plan.count _ _ row_same

-- ---- the link after a granted reset

-- nobody owns a position, the flows start in the head frame with their numbers, and the mark is t
abbrev recycled_link : Parts → (head : ℕ) → (unbooked : List ℕ) → (t : Bool) → Parts
recycled_link l head u t = link_with l l.current (everywhere nobody) u (started_flows head l.plan.entries l.plan.count l.flows) l.held t

-- and the next lend looks at flow 0 first
abbrev reset_parts : Parts → (head : ℕ) → (unbooked : List ℕ) → (t : Bool) → Parts
reset_parts l head u t = with_turn (recycled_link l head u t) 0

module _ {l : Parts} {w : Window} (a : AtHand l l.plan w) where
  head_is : w.head ≡ seen.head (model.window (link_of l))
  head_is = a.proper.head_is ∙ ap seen.head a.window_is

  head_below : w.head < l.plan.frames
  head_below = rw (← read-frames l a.window_is) a.proper.head_below

  -- the flows and holdings then
  abbrev flow_then : ℕ → FlowRow
  flow_then = flow_in (started_flows w.head l.plan.entries l.plan.count l.flows) l.held

  flow-then : (i : ℕ) → i < l.plan.count → flow_then i ≡ flow_row (started_flow w.head (entry_at l i) (get_or l.flows i no_flow)) (row l.held i)
  flow-then i h =
      let few : l.plan.count ≤ length l.flows = rw a.sound.flows_long (flows_most l a.sound) in
      ap (λ (f : Flow). flow_row f (row l.held i)) (started-at w.head l.plan.entries l.plan.count l.flows few i h)

  read-then : (i : ℕ) → i < l.plan.count → flow_of (size_of l) (flow_then i) ≡ from_head (link_of l) i
  read-then i h =
      let share : model.share (link_of l) i ≡ (entry_at l i).share = ap (λ (e : reference.Entry). e.share) (read-entry l i h) in
      ap (flow_of (size_of l)) (flow-then i h) ∙ (λ k. model.moved_to (sym (read-flow l i h) k) (head_is k) (sym share k))

  module _ (u : List ℕ) (t : Bool) where
    -- a current slot with an owner or a mark is marked then
    read-reset : t ≡ not (eqb (owner_at l l.current) nobody) || l.marked → link_of (reset_parts l w.head u t) ≡ reset_link (link_of l)
    unfolding link_of reset_link
    read-reset mark = cc (read-unowned (size_of l) (size_most l a.sound), flows, marked)
      where
        flows : table l.plan.count (λ i. flow_of (size_of l) (flow_then i)) ≡ table (reference.flow_count (link_of l).plan) (from_head (link_of l))
        flows =
            table_same l.plan.count _ (from_head (link_of l)) read-then
            ∙ ap (λ (n : ℕ). table n (from_head (link_of l))) (sym (read_count l))

        marked : t ≡ not (unbooked (model.owner (link_of l) l.current)) || l.marked
        marked = mark ∙ rw (read-owner l l.current a.sound.current, unbooked-is (owner_at l l.current))

    sound-reset : Words l.plan.slots l.plan.frames (λ q. true) u → Sound (reset_parts l w.head u t)
    sound-reset words =
        let s = a.sound in
        sound-first (recycled_link l w.head u t)
        (sound-with l s s.current (sound-unowned l.plan s.plan words) (record {
          long = length-started w.head l.plan.entries l.plan.count l.flows ∙ s.flows_long;
          rows = s.held_long;
          each = λ i h. rw (flow-then i h) (record { frame = head_below; spare = (s.flows i h).spare; number = (s.flows i h).number });
          spare = λ i h b.
              ap (λ (f : Flow). flow_row f (row l.held i)) (started-past w.head l.plan.entries l.plan.count l.flows i h)
              ∙ s.spare_flows i h b;
        }))
        (some_flow l s)

  -- ---- what a reset comes to

  module _ {r : Bool} (tests : r ≡ quiet_in (window_of w) l.plan.count l.owner l.held) where
    quiet_same : quiet (link_of l) ≡ r
    quiet_same =
        (λ k. none-booked-same l k && none-held-same l k)
        ∙ ap (λ (x : seen.Window). quiet_in x l.plan.count l.owner l.held) (sym a.window_is)
        ∙ sym tests

    comes-to : (b : Bool) → r ≡ b → reset (link_of l) ≡ cond b (granted (link_of l)) (not_granted (link_of l))
    comes-to b e = reset-is (link_of l) ∙ ap (λ (x : Bool). cond x (granted (link_of l)) (not_granted (link_of l))) (quiet_same ∙ e)

    pub reset-refused : not r ≡ true → SteppedParts answer_to_reset (reset (link_of l)) l (Refused 23)
    reset-refused busy = rw (comes-to false (not-true r busy)) (record { link_is = refl; answer_is = refl; sound = a.sound })

    pub reset-granted : {o u : List ℕ} {fs : List Flow} {t : Bool} → not r ≡ false
        → t ≡ not (eqb (owner_at l l.current) nobody) || l.marked
        → o ≡ everywhere nobody
        → Words l.plan.slots l.plan.frames (λ q. true) u
        → fs ≡ started_flows w.head l.plan.entries l.plan.count l.flows
        → SteppedParts answer_to_reset (reset (link_of l)) (with_turn (link_with l l.current o u fs l.held t) 0) Reset
    reset-granted {u = u} {t = t} still mark owners words flows =
        rw (comes-to true (not-false r still), owners, flows)
        (record { link_is = read-reset u t mark; answer_is = refl; sound = sound-reset u t words })
