-- A request on a state: what is given of it, and what the state is after the stores. Assumes nothing.
use Prim.Native.Nat.{ℕ, ◌+◌, ◌≤◌, ◌<◌}
use mathlib.Core.Path.{◌≡◌, sym, ap, ◌∙◌}
use mathlib.Core.List.{List}
use mathlib.Core.Bool.{Bool, cond}
use native.Mathlib.Omega.{arith}
use lib.ListN.{get_or, set}
use borrow.Author.Tests.{lt-ltb}
use Rattle.model.specs.Refusals.{first_of}
use Rattle.model.specs.Word.{flow_of, departure_of}
use Rattle.model.specs.Window.{newest}
use Rattle.model.specs.Link as model
use Rattle.model.specs.Calls.{Grant}
use Rattle.model.specs.Request.{Found, found, nowhere, newest_tests, would_be_valid, sought, request}
use Rattle.plan.specs.declared.Entry.{Entry}
use Rattle.plan.specs.declared.Plan.{Plan}
use Rattle.plan.specs.Reading.{no_entry}
use Rattle.word.specs.declared.Fields.{Fields}
use Rattle.window.specs.declared.Window.{Window}
use Rattle.window.specs.Window.{window_of, size_of}
use Rattle.state.specs.Parts.{Beside}
use Rattle.state.specs.State.{Whole, masks_of}
use Rattle.state.proofs.Parts.{beside-both}
use Rattle.unbooked.specs.Words as masks
use Rattle.unbooked.specs.Words.{InFrame}
use Rattle.tables.specs.Bounds.{Bounds}
use Rattle.tables.specs.Holdings.{shifted}
use Rattle.tables.proofs.Bounds.{bounds-beside, bounds-raised}
use Rattle.tables.proofs.Masks.{booked-as-word}
use Rattle.state.proofs.Parts.{beside-set}
use Rattle.state.proofs.State.{beside-mask}
use Rattle.link.specs.declared.Flow.{Flow}
use Rattle.link.specs.declared.request.Reply.{Reply}
use Rattle.std.proofs.Common.{Result, Ok, Err}
use Rattle.tables.specs.declared.Place.{Place}
use Rattle.link.specs.declared.request.Missed.{Missed}
use Rattle.link.specs.Sought.{sought_with, sought_in}
use Rattle.link.specs.Layout.{size_for, no_flow}
use Rattle.link.specs.Changes.{BookedIn}
use Rattle.link.specs.Parts.{Parts, parts_in, flow_read, flows_of, with_flow_at, FitsBytes}
use Rattle.link.specs.Updates.{moved_to, granted_in, with_owners, with_flows, with_holdings}
use Rattle.link.specs.Given.{RequestIn, SeekIn, tests_of}
use Rattle.link.specs.Steps.{read_in, Went, reply_of}
use Rattle.link.proofs.Readings.{read-size, read-flow}
use Rattle.link.proofs.Given.{AtHand, in_hand, bounds-in, bounds-out, flow_below, flow-few}
use Rattle.link.proofs.FlowBytes.{flows-at, beside-flow}
use Rattle.link.proofs.Words as words
use Rattle.link.proofs.Words.{flow_is, departure-is, word-8, word-9, word-10, word-24, word-passes, departure-below}
use Rattle.link.proofs.StateParts.{flow-rest, parts-flow, owner-rest, parts-owner, mask-rest, parts-mask, raised-rest, parts-raised, went-same, went-by}
use Rattle.link.proofs.Requests.{granted-in-frame, position-few, granted-fits, stopped-fits, request-refused, request-granted, request-stopped}

-- ---- what was found, from what the search comes to

pub found_from : (would : Bool) (g : Found) {place : Place} → Ok place ≡ sought_with would g → found place.frame place.left place.position ≡ g
found_from would (found j' c' q') e = cc
found_from would (nowhere c') e = let z : ◌≡◌ {A = ℕ} 0 1 = cc in absurd (omega arith)

pub record Stopped (would : Bool) (g : Found) (c number : ℕ) : Type 0 where
  pub found_none : nowhere c ≡ g
  pub number_is : number ≡ first_of (newest_tests would c)

pub nowhere-from : (would : Bool) (g : Found) {missed : Missed} → Err missed ≡ sought_with would g → Stopped would g missed.left missed.number
nowhere-from would (found j' c' q') e = let z : ◌≡◌ {A = ℕ} 0 1 = cc in absurd (omega arith)
nowhere-from would (nowhere c') {missed} e =
    let is_that : missed ≡ record { left = c'; number = first_of (newest_tests would c') } = cc in
    let same = ap (λ (m : Missed). m.left) is_that in
    let is = ap (λ (m : Missed). m.number) is_that in
    record { found_none = ap nowhere same; number_is = is ∙ ap (λ (k : ℕ). first_of (newest_tests would k)) (sym same) }

-- the same of an equal reply
pub same-reply : {m : model.Step Grant} {p : Plan} {t : List ℕ} {r r' : Reply} → r ≡ r' → Went reply_of m p t r' → Went reply_of m p t r
same-reply e v = rw e v

module _ {p : Plan} {n : ℕ} {e : Entry} {w : Window} {f : Fields} {x : ℕ} {s : List ℕ} (o : RequestIn p n e w f x s) where
  -- the word's flow
  abbrev i : ℕ
  i = f.flow

  abbrev hand : AtHand (parts_in p s) p w
  hand = in_hand o.state

  -- ---- the tests before the search

  -- the number that is expected of the word's flow
  abbrev expected : ℕ
  expected = (model.flow (read_in p s) (flow_of x)).number

  pub tests-8 : n ≤ f.flow → 8 ≡ tests_of (parts_in p s) x
  tests-8 h = word-8 x f o.fields_are p expected (rw (← o.count_is) h)

  module _ (h : f.flow < n) where
    below : f.flow < p.count
    below = flow_below o h

    pub entry-there : e ≡ get_or p.entries f.flow no_entry
    entry-there = o.entry_is ∙ ap (λ (b : Bool). get_or p.entries (cond b f.flow 0) no_entry) (lt-ltb f.flow n h)

    destination-is : e.destination ≡ (get_or p.entries f.flow no_entry).destination
    destination-is = ap (λ (y : Entry). y.destination) entry-there

    number_is : {g : Flow} → g ≡ flow_read s i → g.number ≡ expected
    number_is read =
        ap (λ (y : Flow). y.number) (read ∙ sym (flows-at s i (flow-few o h)) ∙ ap (λ (k : ℕ). get_or (flows_of s) k no_flow) (sym (flow_is x f o.fields_are)))
        ∙ sym (ap (λ (y : model.Flow). y.number) (read-flow (parts_in p s) (flow_of x) (rw (flow_is x f o.fields_are) below)))

    pub tests-9 : (f.destination ≡ e.destination → ⊥) → 9 ≡ tests_of (parts_in p s) x
    tests-9 d = word-9 x f o.fields_are p expected below (λ z. d (z ∙ sym destination-is))

    module _ (d : f.destination ≡ e.destination) where
      own-destination : f.destination ≡ (get_or p.entries f.flow no_entry).destination
      own-destination = d ∙ destination-is

      size_is : size_of w ≡ size_for p
      size_is = read-size (parts_in p s) o.state.window_is

      pub tests-10 : size_of w ≤ f.departure → 10 ≡ tests_of (parts_in p s) x
      tests-10 b = word-10 x f o.fields_are p expected below own-destination (rw (← size_is) b)

      module _ (b : f.departure < size_of w) {g : Flow} (read : g ≡ flow_read s i) where
        pub tests-24 : (f.quantum ≡ g.number → ⊥) → 24 ≡ tests_of (parts_in p s) x
        tests-24 q = word-24 x f o.fields_are p expected below own-destination (rw (← size_is) b) (λ z. q (z ∙ sym (number_is read)))

        pub tests-pass : f.quantum ≡ g.number → 0 ≡ tests_of (parts_in p s) x
        tests-pass q = word-passes x f o.fields_are p expected below own-destination (rw (← size_is) b) (q ∙ number_is read)

  -- ---- where the tests come to a number

  module _ {r : ℕ} (tests : r ≡ tests_of (parts_in p s) x) where
    -- refused by the tests before the search
    pub went-refused : (r ≡ 0 → ⊥) → {t : List ℕ} → t ≡ s → Went reply_of (request (read_in p s) x) p t (record { number = r; position = 0 })
    went-refused nonzero same = went-same o.state.sound same (request-refused hand x tests nonzero)

    module _ (z : r ≡ 0) where
      abbrev same : flow_of x ≡ i
      same = flow_is x f o.fields_are

      there : f.flow < n
      there = rw (o.count_is, ← flow_is x f o.fields_are) (words.flow_below (parts_in p s) x tests z)

      pub few : i < 16
      few = flow-few o there

      -- what is sought
      pub seek-in : {g : Flow} → g ≡ flow_read s i → SeekIn p e w i g f.departure s
      seek-in read = record {
        state = o.state;
        flow = flow_below o there;
        entry_is = entry-there there;
        flow_is = read;
        departure = rw (← departure-is x f o.fields_are, read-size (parts_in p s) o.state.window_is) (departure-below (parts_in p s) x tests z);
      }

      -- it is sought of the word's flow, for the word's departure
      pub sought-of : sought (read_in p s) i f.departure ≡ sought (read_in p s) i (departure_of x)
      sought-of = ap (sought (read_in p s) i) (sym (departure-is x f o.fields_are))

      -- what `seek` comes to is what is sought
      module _ {g : Flow} (read : g ≡ flow_read s i) {y : Result Place Missed}
          (ensures : (p : Plan) → SeekIn p e w i g f.departure s → y ≡ sought_in (read_in p s) i f.departure) where
        sought-is : y ≡ sought_in (read_in p s) i (departure_of x)
        sought-is = ensures p (seek-in read) ∙ ap (sought_with (would_be_valid (read_in p s) i)) sought-of

        pub place-found : {place : Place} → y ≡ Ok place → found place.frame place.left place.position ≡ sought (read_in p s) i (departure_of x)
        place-found is = found_from (would_be_valid (read_in p s) i) (sought (read_in p s) i (departure_of x)) (sym is ∙ sought-is)

        pub none-found : {missed : Missed} → y ≡ Err missed
            → Stopped (would_be_valid (read_in p s) i) (sought (read_in p s) i (departure_of x)) missed.left missed.number
        none-found is = nowhere-from (would_be_valid (read_in p s) i) (sought (read_in p s) i (departure_of x)) (sym is ∙ sought-is)

      module _ {g : Flow} (read : g ≡ flow_read s i) (fits : FitsBytes g) where
        stored_is : g ≡ get_or (flows_of s) i no_flow
        stored_is = read ∙ sym (flows-at s i few)

        pub number_below : g.number < 1024
        number_below = rw stored_is (o.state.sound.parts.flows i (flow_below o there)).number

        -- the flow in the newest frame is stored
        module _ (c : ℕ) (is : nowhere c ≡ sought (read_in p s) i (departure_of x)) (last : ℕ) (newest-is : last ≡ newest (window_of w)) where
          abbrev stopped_here : Flow
          stopped_here = moved_to g last c

          stopped-is : stopped_here ≡ moved_to (get_or (flows_of s) i no_flow) (newest (model.window (read_in p s))) c
          stopped-is k = moved_to (stored_is k) ((newest-is ∙ ap newest o.state.window_is) k) c

          pub stopped-few : FitsBytes stopped_here
          stopped-few = rw stopped-is (stopped-fits hand x tests z same c is (rw (← stored_is) fits.remainder))

          pub went-stopped : {t : List ℕ} → t ≡ with_flow_at s i stopped_here
              → Went reply_of (request (read_in p s) x) p t (record { number = first_of (newest_tests (would_be_valid (read_in p s) i) c); position = 0 })
          went-stopped stored =
              rw stored (went-by o.state.sound (flow-rest p s o.state.sound.whole i few stopped_here)
              (bounds-beside (beside-flow s i stopped_here) (omega arith) (λ k l₁ h₁ l₂ h₂. omega (arith, few)) o.state.sound.bounds)
              (parts-flow p s o.state.sound.whole i few stopped_here)
              (rw stopped-is (request-stopped hand x tests z same c is)))

        -- the flow is stored, and the position is booked
        module _ (j c q : ℕ) (is : found j c q ≡ sought (read_in p s) i (departure_of x)) where
          abbrev granted_here : Flow
          granted_here = granted_in g j c

          granted_is : granted_here ≡ granted_in (get_or (flows_of s) i no_flow) j c
          granted_is k = granted_in (stored_is k) j c

          pub granted-few : FitsBytes granted_here
          granted-few = rw granted_is (granted-fits hand x tests z same j c q is (rw (← stored_is) fits.remainder))

          pub in_frame : InFrame w j q
          in_frame = granted-in-frame hand x tests z same j c q is

          pub byte-position : q < 256
          byte-position = position-few hand x tests z same j c q is

          frame-few : j < 8
          frame-few = omega (arith, in_frame.frame, o.state.proper.measures.frames_most)

          module _ {t : List ℕ} (flow-stored : t ≡ with_flow_at s i granted_here) {v : List ℕ} (b : BookedIn w i j q t v) where
            abbrev owned : List ℕ
            owned = set t (4096 + q) i

            abbrev u : List ℕ
            u = b.masked

            rest₁ : Beside 0 4496 s t
            rest₁ = rw flow-stored (flow-rest p s o.state.sound.whole i few granted_here)

            whole₁ : Whole t
            whole₁ = rest₁.long ∙ o.state.sound.whole

            rest₂ : Beside 0 4496 s owned
            rest₂ = beside-both rest₁ (owner-rest p t whole₁ q i byte-position)

            whole₂ : Whole owned
            whole₂ = rest₂.long ∙ o.state.sound.whole

            rest₃ : Beside 0 4496 s u
            rest₃ = beside-both rest₂ (mask-rest p owned whole₂ j b.booked.mask frame-few b.booked.is)

            whole₃ : Whole u
            whole₃ = rest₃.long ∙ o.state.sound.whole

            rest₄ : Beside 0 4496 s v
            rest₄ = beside-both rest₃ (raised-rest p u whole₃ w i q few b.is)

            parts₂ : parts_in p owned ≡ with_owners (with_flows (parts_in p s) (set (parts_in p s).flows i granted_here)) (set (parts_in p s).owner q i) (masks_of s)
            parts₂ =
                parts-owner p t whole₁ q i byte-position
                ∙ ap (λ (l : Parts). with_owners l (set l.owner q i) l.unbooked)
                (ap (parts_in p) flow-stored ∙ parts-flow p s o.state.sound.whole i few granted_here)

            as-word : masks.Booked w.slots j q (masks_of s) (masks_of u)
            as-word =
                let same-masks : masks_of owned ≡ masks_of s = ap (λ (l : Parts). l.unbooked) parts₂ in
                rw same-masks at (booked-as-word whole₂ frame-few w.slots q b.booked)

            -- the bounds after each store
            bounds₁ : Bounds (size_of w) t
            bounds₁ = rw flow-stored (bounds-beside (beside-flow s i granted_here) (omega arith) (λ k l₁ h₁ l₂ h₂. omega (arith, few)) (bounds-in o.state))

            bounds₂ : Bounds (size_of w) owned
            bounds₂ = bounds-beside (beside-set t (4096 + q) i 4096 4352 (omega (arith, byte-position)) (omega (arith, byte-position))) (omega arith) (λ k l₁ h₁ l₂ h₂. omega arith) bounds₁

            bounds₃ : Bounds (size_of w) u
            bounds₃ = rw b.booked.is (bounds-beside (beside-mask owned j b.booked.mask) (omega arith) (λ k l₁ h₁ l₂ h₂. omega (arith, frame-few)) bounds₂)

            pub went-granted : Went reply_of (request (read_in p s) x) p v (record { number = 0; position = q })
            went-granted =
                went-by o.state.sound rest₄ (bounds-out o.state (rw b.is (bounds-raised o.state.proper whole₃ bounds₃ i q few)))
                (parts-raised p u whole₃ w i q few b.is
                ∙ ap (λ (l : Parts). with_holdings l (shifted (window_of w) 1 i q l.held))
                (parts-mask p owned whole₂ j b.booked.mask frame-few b.booked.is
                ∙ ap (λ (l : Parts). with_owners l l.owner (masks_of u)) parts₂))
                (rw granted_is (request-granted hand x tests z same j c q is as-word))
