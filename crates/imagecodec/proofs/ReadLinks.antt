-- A taken image read as a link. Assumes nothing.
use Prim.Native.Nat.{ℕ, ◌+◌, ◌*◌, ◌≤◌, ◌<◌}
use mathlib.Core.Path.{◌≡◌, sym, ap, ap₂, ◌∙◌, subst}
use mathlib.Core.List.{List}
use mathlib.Core.Bool.{Bool, true, not}
use native.Mathlib.Decide.{dec_lt, ℕ_discrete}
use native.Mathlib.Omega.{arith}
use lib.ListN.{length, get_or}
use lib.Dec.{eqb}
use borrow.Author.Tests.{ltb-true}
use Rattle.model.specs.Tables.{table}
use Rattle.model.specs.Plan.{field16}
use Rattle.model.specs.Plan as model
use Rattle.model.specs.Link as reference
use Rattle.plan.specs.declared.Plan.{Plan}
use Rattle.plan.specs.Reading.{plan_for, Valid}
use Rattle.window.proofs.Tabulated.{get_d-table, table_same}
use Rattle.window.specs.declared.Window.{Window}
use Rattle.window.specs.Window.{window_of, Measures, Proper}
use Rattle.model.specs.Window as seen
use Rattle.state.specs.State.{Whole, held_of, masks_of}
use Rattle.state.proofs.State.{held-beside}
use Rattle.unbooked.specs.Words.{Words}
use Rattle.tables.specs.Owners.{nobody, owner_of, unbooked_at, WordsOf}
use Rattle.tables.specs.Rows.{row}
use Rattle.tables.specs.Holdings.{nothing_held}
use Rattle.tables.proofs.Bounds.{bounds_unknown}
use Rattle.link.specs.Layout.{no_flow, flow_row}
use Rattle.link.specs.Parts.{Parts, FitsBytes, flows_of, parts_in}
use Rattle.link.specs.Changes.{FlowsNow}
use Rattle.link.specs.Resumed.{empty, Resumed}
use Rattle.link.specs.Reading.{flow_of, link_of}
use Rattle.link.specs.Sound.{Sound, SoundState}
use Rattle.link.specs.Given.{StateIn}
use Rattle.link.specs.Steps.{read_in}
use Rattle.link.proofs.Given.{window_for, state-in}
use Rattle.link.proofs.FlowBytes.{flows-beside}
use Rattle.link.proofs.Resumed.{whole-empty, held-empty, flows-empty}
use Rattle.fields.specs.Fields.{ByteFields}
use Rattle.imagemodel.specs.Image.{field_at, image_length, plan_in, owner_in, flow_field, flow_in, link_from, link_in}
use Rattle.imagemodel.specs.Consistent.{known, ConsistentFlow, Consistent}
use Rattle.imagemodel.specs.ValidImage.{ValidImage}
use Rattle.imagecheck.specs.declared.layout.Layout.{Layout}
use Rattle.imagecheck.specs.Layout.{LaidOut}
use Rattle.imagecheck.specs.Asked.{PlanOn}
use Rattle.imagecheck.proofs.Owners.{flow-known}
use Rattle.imagecheck.proofs.Layouts.{count_is, count-few, total_is, positions-at, size_is, flows-at, flows_are, sized}
use Rattle.imagecheck.proofs.LinkFields.{owners_there}
use Rattle.imagecheck.proofs.FlowFields.{part, field_is, owner-is}
use Rattle.imagecodec.specs.Reading.{owners_from, part_at, flow_from, flows_over, flows_from, row_from, held_from, HeldRead}
use Rattle.imagecodec.specs.Asked.{FlowsOn, HoldingsOn}
use Rattle.imagecodec.proofs.ReadTables.{length_from, from_in, from_past, nothing-past, flows-in, flows-past, length-flows, length-held, rows_in, rows-past}

-- an owner that is known is a byte
known-most : (n x : ℕ) → known n (owner_in x) ≡ true → n ≤ 16 → x ≤ 16
known-most n x e few = go (ℕ_discrete x 16)
  where
    go : Dec (x ≡ 16) → x ≤ 16
    go (yes d) = omega arith
    go (no d) = omega (arith, ltb-true x n (sym (flow-known n x d) ∙ e))

-- the parts of the link as it is made
abbrev link_read : List ℕ → Plan → Layout → (unbooked : List ℕ) → Parts
link_read b p y u = record {
  plan = p;
  current = field16 b 12;
  owner = owners_from b y;
  unbooked = u;
  flows = flows_from b y;
  held = held_from b y;
  marked = eqb (field16 b 14) 1;
  turn = field16 b 16;
}

-- the words of a window are those of its plan
words-read : (w : Window) {F W current : ℕ} {t : ℕ → Bool} {words : List ℕ} → window_of w ≡ record { slots = F; frames = W; current = current }
    → Words w.slots w.frames t words → Words F W t words
words-read w {t = t} {words = words} is = subst (λ x. Words x.slots x.frames t words) is

-- a mark of at most 1
mark-read : (m : ℕ) → m ≤ 1 → not (eqb m 0) ≡ eqb m 1
mark-read m h = go (ℕ_discrete m 0)
  where
    go : Dec (m ≡ 0) → not (eqb m 0) ≡ eqb m 1
    go (yes d) = rw d
    go (no d) = let one : m ≡ 1 = omega arith in rw one

module _ {b : List ℕ} (t : ValidImage b) (p : Plan) (v : Valid p) (is : plan_for p ≡ plan_in b) (y : Layout) (laid : LaidOut (plan_for p) y) where
  abbrev P : model.Plan
  P = plan_for p

  abbrev T : ℕ
  T = p.slots * p.frames

  -- ---- the image is there

  count : y.count ≡ p.count
  count = flows_are laid ∙ count_is p

  few : y.count ≤ 16
  few = omega (arith, count, count-few p v)

  size_most : y.size ≤ 256
  size_most = omega (arith, size_is laid, v.accepted.positions_most)

  image_there : image_length P ≤ length b
  image_there = omega (arith, t.total_is, ap image_length is, t.image_there)

  plan-on : PlanOn b y p
  plan-on = record { valid = v; laid = laid; there = image_there }

  -- ---- what its link meets

  met : Consistent (link_from b P)
  unfolding link_in
  met = subst (λ Q. Consistent (link_from b Q)) (sym is) t.link_consistent

  owner-known : (q : ℕ) → q < T → known p.count (owner_in (field_at b y.positions q)) ≡ true
  owner-known q l =
      let at = positions-at laid in
      let n = sym (count_is p) in
      (λ k. known (n k) (owner_in (field_at b (at k) q)))
      ∙ ap (known (model.flow_count P)) (sym (owner-is b P v.accepted 0 0 q l))
      ∙ met.owners_known q l

  owner-most : (q : ℕ) → q < T → field_at b y.positions q ≤ 16
  owner-most q l = known-most p.count (field_at b y.positions q) (owner-known q l) (count-few p v)

  module _ (i : ℕ) (h : i < p.count) where
    below : i < model.flow_count P
    below = omega (arith, count_is p)

    flow-met : ConsistentFlow P (field16 b 12) (link_from b P).owners i (flow_in b P i)
    flow-met =
        subst (ConsistentFlow P (field16 b 12) (link_from b P).owners i) (get_d-table (model.flow_count P) (flow_in b P) i reference.no_flow below)
        (met.each_flow i below)

    part-is : part_at y i ≡ part b P v.accepted 0 i
    part-is = rw (flows-at laid, laid.fields_are)

    -- field k of its part
    part_field : (k at : ℕ) → at ≡ part_at y i + 2 * k → field16 b at ≡ flow_field b P i k
    part_field k at e = sym (field_is b P v.accepted 0 i k at (omega (arith, part-is)))

    holding-is : (q : ℕ) → field_at b (part_at y i + 4) q ≡ flow_field b P i (2 + q)
    holding-is q = part_field (2 + q) (part_at y i + 4 + 2 * q) (omega arith)

    number : field16 b (part_at y i + 4 + 2 * y.size) ≡ flow_field b P i (2 + T)
    number = part_field (2 + T) (part_at y i + 4 + 2 * y.size) (omega (arith, size_is laid))

    holding-most : (q : ℕ) → q < T → field_at b (part_at y i + 4) q < 256
    holding-most q l =
        let held = get_d-table T (λ q. flow_field b P i (2 + q)) q 0 l in
        omega (arith, holding-is q, held, flow-met.within_cells q l, (v.accepted.entries_fit i below).cells_most)

    -- what is read of it fits its bytes
    flow-fits : FitsBytes (flow_from b y.size (part_at y i))
    flow-fits =
        let injection = part_field 0 (part_at y i) (omega arith) in
        let remainder = part_field 1 (part_at y i + 2) (omega arith) in
        let a = v.accepted in
        record {
          injection = omega (arith, injection, flow-met.injection_below, a.frames_most);
          remainder = omega (arith, remainder, flow-met.spent, (a.entries_fit i below).share_most, a.slots_most);
          number = omega (arith, number, flow-met.number_below);
        }

  -- ---- what reading asks

  pub owners-on : ByteFields b y.positions y.size
  owners-on = record {
    few = size_most;
    there = owners_there plan-on;
    bytes = λ q l. let h : q < T = omega (arith, size_is laid) in omega (arith, owner-most q h);
  }

  pub flows-on : FlowsOn b y
  flows-on = record {
    sized = sized laid;
    few = few;
    fields_are = omega (arith, laid.fields_are, size_is laid);
    there = omega (arith, total_is laid, image_there);
    fits = λ i h. flow-fits i (omega (arith, count));
  }

  pub holdings-on : HoldingsOn b y
  holdings-on = record {
    on = flows-on;
    size_most = size_most;
    bytes = λ i q h l. holding-most i (omega (arith, count)) q (omega (arith, size_is laid));
  }

  pub measures_read : Measures p.slots p.frames (field16 b 12)
  measures_read = let a = v.accepted in record {
    some_slot = a.some_slot;
    slots_most = a.slots_most;
    two_frames = a.two_frames;
    frames_most = a.frames_most;
    positions_most = a.positions_most;
    current_below = met.current_below;
  }

  -- the mark and the flow to look from are bytes
  pub mark-most : field16 b 14 ≤ 1
  mark-most = t.mark_is_bit

  pub turn-most : field16 b 16 < 256
  turn-most = omega (arith, met.turn_below, count_is p, count-few p v)

  -- the latter by its low byte
  pub turn_byte : get_or b 16 0 ≡ field16 b 16
  turn_byte = omega (arith, turn-most)

  -- ---- how it is read

  row_is : (i : ℕ) → i < p.count → (q : ℕ) → q < T → get_or (row_from b y i) q 0 ≡ flow_field b P i (2 + q)
  row_is i h q l = from_in b (part_at y i + 4) y.size 0 q (omega (arith, size_is laid)) (omega (arith, size_is laid, size_most)) ∙ holding-is i h q

  read-link : (u : List ℕ) → link_of (link_read b p y u) ≡ link_in b
  unfolding link_of link_in
  read-link u =
      (λ k. record { plan = P; current = field16 b 12; owners = owners k; flows = flows k; marked = eqb (field16 b 14) 1; turn = field16 b 16 })
      ∙ ap (link_from b) is
    where
      owners : table T (λ q. owner_of (get_or (owners_from b y) q 0)) ≡ (link_from b P).owners
      owners = table_same T _ _ λ q l.
          ap owner_in (from_in b y.positions y.size nobody q (omega (arith, size_is laid)) (omega (arith, size_is laid, size_most)))
          ∙ ap (λ at. owner_in (field_at b at q)) (positions-at laid)

      flow : (i : ℕ) → i < p.count → flow_of T (flow_row (get_or (flows_from b y) i no_flow) (row (held_from b y) i)) ≡ flow_in b P i
      flow i h =
          let injection = part_field i h 0 (part_at y i) (omega arith) in
          let remainder = part_field i h 1 (part_at y i + 2) (omega arith) in
          let held = table_same T (λ q. get_or (row_from b y i) q 0) (λ q. flow_field b P i (2 + q)) (row_is i h) in
          ap₂ (λ f r. flow_of T (flow_row f r)) (flows-in b y few i (omega (arith, count))) (rows_in b y few i (omega (arith, count)))
          ∙ (λ k. record { injection = injection k; remainder = remainder k; held = held k; number = number i h k })

      flows : table p.count (λ i. flow_of T (flow_row (get_or (flows_from b y) i no_flow) (row (held_from b y) i))) ≡ (link_from b P).flows
      flows = table_same p.count _ (flow_in b P) flow ∙ ap (λ n. table n (flow_in b P)) (sym (count_is p))

  sound-read : {u : List ℕ} → WordsOf p.slots p.frames (owners_from b y) u → Sound (link_read b p y u)
  sound-read words = record {
    plan = v;
    current = met.current_below;
    owners_long = length_from b y.positions y.size nobody;
    owners = λ q l some. owner q l some (dec_lt q T);
    spare_owners = λ q h l. from_past b y.positions y.size nobody q (omega (arith, size_is laid)) l;
    unbooked = words;
    flows_long = length-flows b y few;
    held_long = length-held b y few;
    flows = λ i h.
        let injection = part_field i h 0 (part_at y i) (omega arith) in
        rw (flows-in b y few i (omega (arith, count)), rows_in b y few i (omega (arith, count)))
        (record {
          frame = omega (arith, injection, (flow-met i h).injection_below);
          number = omega (arith, number i h, (flow-met i h).number_below);
          spare = λ q l. nothing-past b (part_at y i + 4) y.size q (omega (arith, size_is laid));
        });
    spare_flows = λ i h l. rw (flows-past b y few i (omega (arith, count)) l, rows-past b y few i (omega (arith, count)) l);
    turn = omega (arith, count_is p, met.turn_below);
  }
    where
      owner : (q : ℕ) → q < 256 → (get_or (owners_from b y) q 0 ≡ nobody → ⊥) → Dec (q < T) → get_or (owners_from b y) q 0 < p.count
      owner q l some (yes h) =
          let here = from_in b y.positions y.size nobody q (omega (arith, size_is laid)) l in
          let x = field_at b y.positions q in
          rw here (ltb-true x p.count (sym (flow-known p.count x (λ z. some (here ∙ z))) ∙ owner-known q h))
      owner q l some (no h) = absurd (some (from_past b y.positions y.size nobody q (omega (arith, size_is laid)) l))

  -- ---- the state that is made

  module _ {s₀ s₁ : List ℕ} (blank : s₀ ≡ empty) (flows : FlowsNow s₀ s₁ (flows_over b y (flows_of s₀))) where
    pub whole-flows : Whole s₁
    whole-flows = flows.beside.long ∙ ap length blank ∙ whole-empty

    pub nothing_yet : held_of s₁ ≡ nothing_held
    nothing_yet = held-beside flows.beside (omega arith) ∙ ap held_of blank ∙ held-empty

    module _ {s₂ : List ℕ} (held : HeldRead b y s₁ s₂) where
      pub whole-held : Whole s₂
      whole-held = held.beside.long ∙ whole-flows

      flows-made : flows_of s₂ ≡ flows_from b y
      flows-made = flows-beside held.beside (λ k l₁ h₁ l₂ h₂. omega arith) ∙ flows.flows_are
          ∙ ap (flows_over b y) (ap flows_of blank ∙ flows-empty)

      module _ {current : ℕ} (current-field-is : current ≡ field16 b 12) {w : Window} (window_is : window_of w ≡ record { slots = p.slots; frames = p.frames; current = current })
          {owners : List ℕ} (owned : owners ≡ owners_from b y) {mark turn : ℕ} (mark_is : mark ≡ field16 b 14) (turn_is : turn ≡ field16 b 16)
          {s : List ℕ} (r : Resumed w owners mark turn s₂ s) where
        parts_are : parts_in p s ≡ link_read b p y (masks_of s)
        parts_are = λ k. record {
          plan = p;
          current = (r.current_is ∙ ap (λ (x : seen.Window). x.current) window_is ∙ current-field-is) k;
          owner = (r.owners_are ∙ owned) k;
          unbooked = masks_of s;
          flows = (r.flows_stay ∙ flows-made) k;
          held = (r.held_stays ∙ held.held_is) k;
          marked = (ap (λ x. not (eqb x 0)) (r.mark_is ∙ mark_is) ∙ mark-read (field16 b 14) mark-most) k;
          turn = (r.turn_is ∙ turn_is) k;
        }

        pub made-link : read_in p s ≡ link_in b
        made-link = ap link_of parts_are ∙ read-link (masks_of s)

        made-sound : SoundState p s
        made-sound = record {
          whole = r.whole;
          mark = omega (arith, r.mark_is, mark_is, mark-most);
          bounds = bounds_unknown r.bounds_unknown;
          parts = subst Sound (sym parts_are) (sound-read (words-read w window_is (subst (λ x. Words w.slots w.frames (unbooked_at x) (masks_of s)) owned r.masks_are)));
        }

        -- and w is its window
        pub made_in : Proper w → StateIn p w s
        made_in proper =
            let current = r.current_is ∙ ap (λ (x : seen.Window). x.current) window_is in
            state-in made-sound (window_is ∙ ap (window_for p) (sym current)) proper
