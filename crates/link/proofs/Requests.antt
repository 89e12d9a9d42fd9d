-- A request on a link, as it is read: what the search found is stored. Assumes nothing.
use Prim.Native.Nat.{ℕ, suc, ◌+◌, ◌%◌, ◌≤◌, ◌<◌}
use mathlib.Core.Path.{◌≡◌, refl, sym, ap, ◌∙◌}
use mathlib.Core.List.{List}
use native.Mathlib.Nat.{mod-lt}
use native.Mathlib.Omega.{arith}
use lib.ListN.{set}
use Rattle.model.specs.Word.{flow_of, departure_of}
use Rattle.model.specs.Window.{newest}
use Rattle.model.specs.Plan as reference
use Rattle.model.specs.Link as model
use Rattle.model.specs.Refusals.{first_of}
use Rattle.model.specs.Request.{found, nowhere, sought, next_number, booked_flow, booked, newest_tests, would_be_valid, refused_at_newest, request}
use Rattle.model.proofs.Word.{departure-depart}
use Rattle.plan.specs.declared.Plan.{Plan}
use Rattle.window.specs.declared.Window.{Window}
use Rattle.window.specs.Ranges.{replaced}
use Rattle.window.specs.Window as window
use Rattle.window.specs.Window.{window_of, from_in}
use Rattle.unbooked.specs.Words.{Booked, InFrame}
use Rattle.tables.specs.Rows.{row}
use Rattle.tables.specs.Holdings.{shifted_row, shifted}
use Rattle.tables.proofs.Rows.{length-row, with-own-row}
use Rattle.tables.proofs.HoldingChanges.{one_more}
use Rattle.tables.proofs.ValidPositions.{valid-room}
use Rattle.tables.proofs.FoundPosition.{Booking}
use Rattle.link.specs.declared.Flow.{Flow}
use Rattle.link.specs.Parts.{Parts, FitsBytes}
use Rattle.link.specs.Layout.{size_of, entry_at, flow_row, flow_at}
use Rattle.link.specs.Updates.{moved_to, granted_in, with_owners, with_flows, with_holdings, with_flow}
use Rattle.link.specs.Reading.{link_of}
use Rattle.link.specs.Sound.{Sound}
use Rattle.link.specs.Given.{tests_of}
use Rattle.link.proofs.Plans.{plan-count, plan-entry}
use Rattle.link.specs.Steps.{SteppedParts, reply_of}
use Rattle.link.proofs.Readings.{read-flow, read-size, read-slots, read-frames}
use Rattle.link.proofs.Updated.{read-with-flow, sound-with-flow, read-with-owner, sound-with-owner, read-from, sound-from}
use Rattle.link.proofs.Given.{AtHand}
use Rattle.link.proofs.Words.{word-refused, flow_below}
use Rattle.link.proofs.Searches.{valid_after, found_at}
use Rattle.link.proofs.Lefts.{left_of, sought-left}
use Rattle.link.proofs.Replies.{request-found, request-nowhere}

-- ---- the link in which what is found is stored

-- flow i books position p of frame j, with c left of its share
abbrev pub booked_by : Parts → Window → (i j c p : ℕ) → (unbooked : List ℕ) → Parts
booked_by l w i j c p u =
    with_holdings
    (with_flows (with_owners l (set l.owner p i) u) (set l.flows i (granted_in (flow_at l i).flow j c)))
    (shifted (window_of w) 1 i p l.held)

-- the flow alone is stored
flow-alone : (l : Parts) (i : ℕ) (f : Flow) → with_flow l i (flow_row f (row l.held i)) ≡ with_flows l (set l.flows i f)
flow-alone l i f = ap (λ (h : List ℕ). with_holdings (with_flows l (set l.flows i f)) h) (with-own-row l.held i)

module _ {l : Parts} {plan : Plan} {w : Window} (a : AtHand l plan w) (i : ℕ) (hi : i < l.plan.count) where
  -- a position that the search found: flow i books it
  module _ (d j c p : ℕ) (e : found j c p ≡ sought (link_of l) i d) where
    booking : Booking (window_of w) (valid_after l a.sound (window_of w) a.window_is i hi d) j p
    booking = found_at l a.sound (window_of w) a.window_is i hi d j c p e

    pub found-in-frame : InFrame w j p
    found-in-frame = record { proper = a.proper; frame = booking.frame; low = booking.low; high = booking.high }

    position-below : p < window.size_of w
    position-below = booking.position

    position-there : p < size_of l
    position-there = rw (read-size l a.window_is) at position-below

    abbrev owned : List ℕ → Parts
    owned u = with_owners l (set l.owner p i) u

    sound-owned : {u : List ℕ} → Booked w.slots j p l.unbooked u → Sound (owned u)
    sound-owned x =
        let slots = read-slots l a.window_is in
        sound-with-owner l a.sound p i position-there hi j
        (rw (read-frames l a.window_is) at booking.frame) (rw slots at booking.low) (rw slots at booking.high) (rw slots at x)

    -- what it holds then: fewer than its cells were held, so that no byte goes round
    abbrev raised : List ℕ
    raised = shifted_row (window_of w) 1 p (row l.held i)

    cells_most : (entry_at l i).cells ≤ 255
    cells_most =
        let fits = a.sound.plan.accepted.entries_fit i (rw (plan-count l.plan) hi) in
        rw (ap (λ (e : reference.Entry). e.cells) (plan-entry l.plan i hi)) at fits.cells_most

    raised_is : raised ≡ replaced (from_in (window_of w) p) (λ q x. suc x) (row l.held i)
    raised_is =
        one_more w a.proper p position-below (row l.held i) (entry_at l i).cells cells_most
        (valid-room (window_of w) d l.owner (row l.held i) _ _ booking.passes)

    module _ {u : List ℕ} (x : Booked w.slots j p l.unbooked u) where
      abbrev booked_link : Parts
      booked_link = with_flow (owned u) i (flow_row (granted_in (flow_at l i).flow j c) raised)

      booked-link : link_of booked_link ≡ booked (link_of l) i j c p
      unfolding booked link_of
      booked-link =
          read-from (owned u) (sound-owned x) (window_of w) a.window_is i p hi suc raised raised_is (granted_in (flow_at l i).flow j c)
          (λ k. let f = sym (read-flow (owned u) i hi) k in model.with_number (model.moved_to f j c) (next_number f.number))
          ∙ ap (λ (m : model.Link). model.with_flow m i (booked_flow m i j c p))
          (read-with-owner l a.sound p i position-there hi u)

      sound-booked : Sound booked_link
      unfolding link_of
      sound-booked =
          sound-from (owned u) (sound-owned x) (window_of w) a.window_is i p hi suc raised raised_is (granted_in (flow_at l i).flow j c)
          (rw (read-frames l a.window_is) at booking.frame) (mod-lt _ (omega arith))

  -- no position: flow i is in the newest frame
  module _ (c : ℕ) where
    abbrev pub stopped : Flow
    stopped = moved_to (flow_at l i).flow (newest (model.window (link_of l))) c

    stopped-link : link_of (with_flow l i (flow_row stopped (row l.held i))) ≡ refused_at_newest (link_of l) i c
    unfolding refused_at_newest
    stopped-link =
        read-with-flow l a.sound i hi _ (length-row l.held i)
        ∙ (λ k. model.with_flow (link_of l) i (model.moved_to (sym (read-flow l i hi) k) (newest (model.window (link_of l))) c))

    newest-there : stopped.injection < l.plan.frames
    unfolding link_of
    newest-there = mod-lt _ (omega (arith, a.sound.plan.accepted.two_frames))

    sound-stopped : Sound (with_flow l i (flow_row stopped (row l.held i)))
    unfolding link_of
    sound-stopped =
        sound-with-flow l a.sound i hi _ (length-row l.held i)
        (record {
          frame = newest-there;
          spare = (a.sound.flows i hi).spare;
          number = (a.sound.flows i hi).number;
        })

-- ---- what a request comes to

module _ {l : Parts} {plan : Plan} {w : Window} (a : AtHand l plan w) (x : ℕ) {n : ℕ} (tests : n ≡ tests_of l x) where
  -- refused by the tests before the search
  pub request-refused : (n ≡ 0 → ⊥) → SteppedParts reply_of (request (link_of l) x) l (record { number = n; position = 0 })
  request-refused nonzero = rw (word-refused l x tests nonzero) (record { link_is = refl; answer_is = refl; sound = a.sound })

  module _ (z : n ≡ 0) {i : ℕ} (same : flow_of x ≡ i) where
    pub there : i < l.plan.count
    there = rw same at (flow_below l x tests z)

    frames-few : l.plan.frames ≤ 8
    frames-few = a.sound.plan.accepted.frames_most

    -- what is left of the share fits a byte
    left-few : (d : ℕ) → (flow_at l i).flow.remainder < 256 → left_of (sought (link_of l) i d) ≤ 255
    unfolding link_of
    left-few d h =
        let fits = a.sound.plan.accepted.entries_fit i (rw (plan-count l.plan) there) in
        let slots = a.sound.plan.accepted.slots_most in
        let left = ap (λ (f : model.Flow). f.remainder) (read-flow l i there) in
        sought-left (link_of l) i d 255 (omega (arith, fits.share_most)) (omega arith)

    -- the search found a position
    module _ (j c p : ℕ) (e : found j c p ≡ sought (link_of l) i (departure_of x)) where
      pub granted-in-frame : InFrame w j p
      granted-in-frame = found-in-frame a i there (departure_of x) j c p e

      pub position-few : p < 256
      position-few = omega (arith, position-below a i there (departure_of x) j c p e, a.proper.measures.positions_most)

      pub granted-fits : (flow_at l i).flow.remainder < 256 → FitsBytes (granted_in (flow_at l i).flow j c)
      granted-fits h = record {
        injection = omega (arith, granted-in-frame.frame, a.proper.measures.frames_most);
        remainder = let most = left-few (departure_of x) h in omega (arith, rw (← e) at most);
        number = let small : ((flow_at l i).flow.number + 1) % 1024 < 1024 = mod-lt _ (omega arith) in omega (arith, small);
      }

      pub request-granted : {u : List ℕ} → Booked w.slots j p l.unbooked u
          → SteppedParts reply_of (request (link_of l) x) (booked_by l w i j c p u) (record { number = 0; position = p })
      request-granted b =
          rw (request-found l x tests z same j c p e)
          (record {
            link_is = booked-link a i there (departure_of x) j c p e b;
            answer_is = (λ k. record { number = 0; position = sym (departure-depart x p (omega (arith, position-few))) k });
            sound = sound-booked a i there (departure_of x) j c p e b;
          })

    -- it found none
    module _ (c : ℕ) (e : nowhere c ≡ sought (link_of l) i (departure_of x)) where
      pub stopped-fits : (flow_at l i).flow.remainder < 256 → FitsBytes (stopped a i there c)
      stopped-fits h = record {
        injection = omega (arith, newest-there a i there c, frames-few);
        remainder = let most = left-few (departure_of x) h in omega (arith, rw (← e) at most);
        number = omega (arith, (a.sound.flows i there).number);
      }

      pub request-stopped : SteppedParts reply_of (request (link_of l) x) (with_flows l (set l.flows i (stopped a i there c)))
          (record { number = first_of (newest_tests (would_be_valid (link_of l) i) c); position = 0 })
      request-stopped =
          rw (request-nowhere l x tests z same c e, ← flow-alone l i (stopped a i there c))
          (record { link_is = stopped-link a i there c; answer_is = refl; sound = sound-stopped a i there c })
