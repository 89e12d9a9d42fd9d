-- A link with something changed: how it is read, and that it is sound again. Assumes nothing.
use Prim.Native.Nat.{ℕ, ◌+◌, ◌*◌, ◌≤◌, ◌<◌}
use mathlib.Core.Path.{◌≡◌, refl, ap, ◌∙◌}
use mathlib.Core.List.{List}
use mathlib.Core.Option.{some}
use mathlib.Core.Bool.{Bool, true, false, cond}
use native.Mathlib.Decide.{ℕ_discrete}
use native.Mathlib.Omega.{arith}
use lib.ListN.{length, get_or, set, length-set}
use lib.Seq.{get_or-set_same, get_or-set_other}
use lib.Dec.{eqb}
use borrow.Author.Tests.{eq-eqb, ne_eqb, lt-ltb, le-ltb}
use Rattle.model.specs.Tables.{table}
use Rattle.model.specs.Window.{Window}
use Rattle.model.specs.Link as model
use Rattle.plan.specs.declared.Plan.{Plan}
use Rattle.window.specs.Ranges.{replaced}
use Rattle.window.specs.Window.{from_in}
use Rattle.window.proofs.Tabulated.{table_same}
use Rattle.window.proofs.Ranges.{length-replaced, replaced-at, replaced-off}
use Rattle.unbooked.specs.Words.{Booked}
use Rattle.tables.specs.Owners.{nobody, owner_of, WordsOf}
use Rattle.tables.specs.Rows.{Sixteen}
use Rattle.tables.proofs.UnbookedSlots.{words-owned}
use Rattle.tables.proofs.Rows.{length-row, length-with-row, row-with-same, row-with-other}
use Rattle.link.specs.declared.Flow.{Flow}
use Rattle.link.specs.Parts.{Parts}
use Rattle.link.specs.Layout.{FlowRow, size_for, size_of, flow_row, flow_in, flow_at, no_flow}
use Rattle.link.specs.Updates.{link_with, with_owners, with_turn, with_flow}
use Rattle.link.specs.Reading.{spare_flow, flow_of, link_of}
use Rattle.link.specs.Sound.{Sound, SoundFlow}
use Rattle.link.proofs.Readings.{read_count, read-flow, read-holding, read-owner, flows_most, size_most}

-- ---- the invariant, by what may change

-- of the owners of a link with this plan, and their words
pub record SoundOwners (plan : Plan) (owner unbooked : List ℕ) : Type 0 where
  pub long : length owner ≡ 256
  pub owned : (p : ℕ) → p < 256 → (get_or owner p 0 ≡ nobody → ⊥) → get_or owner p 0 < plan.count
  pub spare : (p : ℕ) → size_for plan ≤ p → p < 256 → get_or owner p 0 ≡ nobody
  pub words : WordsOf plan.slots plan.frames owner unbooked

-- of its flows and holdings
pub record SoundFlows (plan : Plan) (flows : List Flow) (held : List ℕ) : Type 0 where
  pub long : length flows ≡ 16
  pub rows : length held ≡ 4096
  pub each : (i : ℕ) → i < plan.count → SoundFlow plan (flow_in flows held i)
  pub spare : (i : ℕ) → plan.count ≤ i → i < 16 → flow_in flows held i ≡ spare_flow

-- ---- a link changed

module _ (l : Parts) (s : Sound l) where
  -- another current position, other owners, flows and holdings, each sound, and any mark
  pub sound-with : {p : ℕ} {o u : List ℕ} {fs : List Flow} {h : List ℕ} {t : Bool} → p < size_of l → SoundOwners l.plan o u → SoundFlows l.plan fs h
      → Sound (link_with l p o u fs h t)
  sound-with current owners flows = record {
    plan = s.plan;
    current = current;
    owners_long = owners.long;
    owners = owners.owned;
    spare_owners = owners.spare;
    unbooked = owners.words;
    flows_long = flows.long;
    held_long = flows.rows;
    flows = flows.each;
    spare_flows = flows.spare;
    turn = s.turn;
  }

  -- another flow to lend from
  pub sound-first : {i : ℕ} → i < l.plan.count → Sound (with_turn l i)
  sound-first below = record {
    plan = s.plan;
    current = s.current;
    owners_long = s.owners_long;
    owners = s.owners;
    spare_owners = s.spare_owners;
    unbooked = s.unbooked;
    flows_long = s.flows_long;
    held_long = s.held_long;
    flows = s.flows;
    spare_flows = s.spare_flows;
    turn = below;
  }

  pub sound-owners : SoundOwners l.plan l.owner l.unbooked
  sound-owners = record { long = s.owners_long; owned = s.owners; spare = s.spare_owners; words = s.unbooked }

  pub sound-flows : SoundFlows l.plan l.flows l.held
  sound-flows = record { long = s.flows_long; rows = s.held_long; each = s.flows; spare = s.spare_flows }

  -- ---- flow i replaced

  module _ (i : ℕ) (hi : i < l.plan.count) (f : FlowRow) (long : length f.held ≡ 256) where
    below : i < 16
    below = omega (arith, flows_most l s)

    sixteen : Sixteen l.held
    sixteen = omega (arith, s.held_long)

    same-flow-at : flow_at (with_flow l i f) i ≡ f
    same-flow-at =
        let e = get_or-set_same l.flows i f.flow no_flow (omega (arith, s.flows_long, below)) in
        rw (e, row-with-same l.held i f.held sixteen below long)

    other-flow-at : (j : ℕ) → (j ≡ i → ⊥) → flow_at (with_flow l i f) j ≡ flow_at l j
    other-flow-at j d = rw (get_or-set_other l.flows i j f.flow no_flow d, row-with-other l.held i f.held j d)

    set-flow : (j : ℕ) → flow_at (with_flow l i f) j ≡ cond (eqb j i) f (flow_at l j)
    set-flow j = go (ℕ_discrete j i)
      where
        go : Dec (j ≡ i) → flow_at (with_flow l i f) j ≡ cond (eqb j i) f (flow_at l j)
        go (yes d) = ap (flow_at (with_flow l i f)) d ∙ same-flow-at ∙ rw (eq-eqb j i d)
        go (no d) = other-flow-at j d ∙ rw (ne_eqb j i d)

    pub read-with-flow : link_of (with_flow l i f) ≡ model.with_flow (link_of l) i (flow_of (size_of l) f)
    unfolding link_of
    read-with-flow =
        let e =
        table_same l.plan.count (λ j. flow_of (size_of l) (flow_at (with_flow l i f) j))
        (λ j. cond (eqb j i) (flow_of (size_of l) f) (model.flow (link_of l) j))
        (λ j h. ap (flow_of (size_of l)) (set-flow j) ∙ either (eqb j i) (flow_at l j) ∙ rw (read-flow l j h)) in
        cc (e, read_count l)
      where
        either : (b : Bool) (g : FlowRow) → flow_of (size_of l) (cond b f g) ≡ cond b (flow_of (size_of l) f) (flow_of (size_of l) g)
        either true g = refl
        either false g = refl

    pub sound-with-flow : SoundFlow l.plan f → Sound (with_flow l i f)
    sound-with-flow v = sound-with s.current sound-owners (record {
      long = length-set l.flows i f.flow ∙ s.flows_long;
      rows = length-with-row l.held i f.held ∙ s.held_long;
      each = λ j h. each j h (ℕ_discrete j i);
      spare = λ j h b. other-flow-at j (λ e. omega arith) ∙ s.spare_flows j h b;
    })
      where
        each : (j : ℕ) → j < l.plan.count → Dec (j ≡ i) → SoundFlow l.plan (flow_at (with_flow l i f) j)
        each j h (yes e) = rw (e, same-flow-at) v
        each j h (no e) = rw (other-flow-at j e) (s.flows j h)

  -- ---- flow i books position p of frame j

  module _ (p i : ℕ) (hp : p < size_of l) (hi : i < l.plan.count) where
    no-flow-nobody : i ≡ nobody → ⊥
    no-flow-nobody e = omega (arith, flows_most l s)

    owner-there : p < length l.owner
    owner-there = omega (arith, s.owners_long, size_most l s)

    pub read-with-owner : (u : List ℕ) → link_of (with_owners l (set l.owner p i) u)
        ≡ model.with_owners (link_of l) (λ q. cond (eqb q p) (some i) (model.owner (link_of l) q))
    unfolding link_of
    read-with-owner u =
        let e =
        table_same (size_of l) (λ q. owner_of (get_or (set l.owner p i) q 0)) (λ q. cond (eqb q p) (some i) (model.owner (link_of l) q))
        (λ q b. go q b (ℕ_discrete q p)) in
        cc e
      where
        go : (q : ℕ) → q < size_of l → Dec (q ≡ p) → owner_of (get_or (set l.owner p i) q 0) ≡ cond (eqb q p) (some i) (model.owner (link_of l) q)
        go q b (yes d) =
            rw (eq-eqb q p d, d, get_or-set_same l.owner p i 0 owner-there, ne_eqb i nobody no-flow-nobody)
        go q b (no d) = rw (ne_eqb q p d, get_or-set_other l.owner p q i 0 d, read-owner l q b)

    pub sound-with-owner : {u : List ℕ} (j : ℕ) → j < l.plan.frames → j * l.plan.slots ≤ p → p < j * l.plan.slots + l.plan.slots
        → Booked l.plan.slots j p l.unbooked u → Sound (with_owners l (set l.owner p i) u)
    sound-with-owner {u} j hj low high x = sound-with s.current (record {
      long = length-set l.owner p i ∙ s.owners_long;
      owned = λ q b n. go q b n (ℕ_discrete q p);
      spare = λ q h b. get_or-set_other l.owner p q i 0 (λ e. omega arith) ∙ s.spare_owners q h b;
      words = words-then;
    }) sound-flows
      where
        words-then : WordsOf l.plan.slots l.plan.frames (set l.owner p i) u
        words-then =
            words-owned l.plan.slots l.plan.frames s.plan.accepted.frames_most l.owner s.unbooked j hj
            p i owner-there no-flow-nobody low high x

        go : (q : ℕ) → q < 256 → (get_or (set l.owner p i) q 0 ≡ nobody → ⊥) → Dec (q ≡ p)
            → get_or (set l.owner p i) q 0 < l.plan.count
        go q b n (yes d) = rw (d, get_or-set_same l.owner p i 0 owner-there) hi
        go q b n (no d) = let e = get_or-set_other l.owner p q i 0 d in rw e (s.owners q b (λ z. n (e ∙ z)))

  -- ---- flow i as f, which reads as y, with its holdings changed from position p on

  module _ (v : Window) (is : v ≡ model.window (link_of l)) (i p : ℕ) (hi : i < l.plan.count) (g : ℕ → ℕ)
      (h : List ℕ) (from-p : h ≡ replaced (from_in v p) (λ q. g) (flow_at l i).held) (f : Flow) where
    at_position : (q : ℕ) → get_or h q 0 ≡ get_or (replaced (from_in (model.window (link_of l)) p) (λ q. g) (flow_at l i).held) q 0
    at_position q = ap (λ (xs : List ℕ). get_or xs q 0) (from-p ∙ ap (λ (x : Window). replaced (from_in x p) (λ q. g) (flow_at l i).held) is)

    held-from : table (size_of l) (λ q. get_or h q 0) ≡ model.held_from (link_of l) i p g
    unfolding link_of from_in
    held-from = table_same (size_of l) _ _ λ q b.
        at_position q
        ∙ replaced-at _ _ (flow_at l i).held q 0 (omega (arith, length-row l.held i, size_most l s))
        ∙ rw (lt-ltb q (size_of l) b, read-holding l i q hi b)

    long-from : length h ≡ 256
    long-from = ap length from-p ∙ length-replaced _ _ (flow_at l i).held ∙ length-row l.held i

    pub read-from : {y : model.Flow} → flow_of (size_of l) (flow_row f (flow_at l i).held) ≡ y
        → link_of (with_flow l i (flow_row f h)) ≡ model.with_flow (link_of l) i (model.with_held y (model.held_from (link_of l) i p g))
    read-from reads = read-with-flow i hi _ long-from ∙ (λ k. model.with_flow (link_of l) i (model.with_held (reads k) (held-from k)))

    pub sound-from : f.injection < l.plan.frames → f.number < 1024 → Sound (with_flow l i (flow_row f h))
    unfolding link_of from_in
    sound-from hj hk = sound-with-flow i hi _ long-from (record {
      frame = hj;
      number = hk;
      spare = λ q b. at_position q ∙ replaced-off _ _ (flow_at l i).held q 0 (rw (le-ltb q (size_of l) b)) ∙ (s.flows i hi).spare q b;
    })
