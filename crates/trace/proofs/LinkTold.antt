-- What is told of a link, read in a state of it: at each of 256 positions. Assumes nothing.
use Prim.Native.Nat.{ℕ, zero, suc, ◌+◌, ◌-◌, ◌*◌, ◌%◌, ◌≤◌, ◌<◌}
use mathlib.Core.Path.{◌≡◌, refl, sym, ap, ◌∙◌}
use mathlib.Core.List.{List, ◌∷◌, [], ◌++◌, append-nil}
use mathlib.Core.Bool.{Bool, true, false, not, cond}
use native.Mathlib.Decide.{ℕ_discrete}
use native.Mathlib.Nat.{mod-lt}
use native.Mathlib.Omega.{arith}
use lib.ListN.{get_or}
use lib.Dec.{eqb, ltb}
use borrow.Author.Tests.{eq-eqb, ne_eqb, lt-ltb, le-ltb, ltb-true, not-false}
use Rattle.model.specs.Tables.{ahead}
use Rattle.model.specs.Plan as reference
use Rattle.model.specs.Window as seen
use Rattle.model.specs.Link as model
use Rattle.model.specs.Refusals.{first_of}
use Rattle.model.specs.Credit.{credit_tests, credit, credit_after}
use Rattle.model.specs.Tick.{next_position}
use Rattle.model.proofs.Tests.{line-passed}
use Rattle.plan.specs.declared.Plan.{Plan}
use Rattle.plan.specs.Reading.{Valid, plan_for, entry_for, no_entry}
use Rattle.calls.specs.declared.Answer.{Answer}
use Rattle.window.specs.declared.Window.{Window}
use Rattle.window.specs.Window.{size_of, base_of, Proper, Ticked}
use Rattle.window.proofs.Tabulated.{get_d-table, length-table}
use Rattle.state.proofs.State.{owners-at}
use Rattle.state.proofs.Parts.{part_at}
use Rattle.tables.specs.Rows.{row}
use Rattle.tables.proofs.Rows.{row-of-rows}
use Rattle.tables.proofs.HeldRows.{row-held}
use Rattle.link.specs.declared.Flow.{Flow}
use Rattle.link.specs.Given.{StateIn}
use Rattle.link.specs.Layout.{no_flow}
use Rattle.link.specs.Parts.{Parts, parts_in, flow_read}
use Rattle.link.specs.Reading.{link_of, stored, stored_owner, stored_flow}
use Rattle.link.specs.Steps.{read_in, number_of}
use Rattle.link.proofs.FlowBytes.{flows-at}
use Rattle.link.proofs.Readings.{read_count}
use Rattle.link.proofs.Stored.{stored-reading}
use Rattle.trace.specs.declared.told.Said.{Said}
use Rattle.trace.specs.Trace.{bit, line_of, about, answered, flow_numbers, held_last, flow_line, nobodys, call_numbers, credit_line, flow_lines, tick_line, tick_lines, reset_lines, said_for}

bit-back : (x : ℕ) → x ≤ 1 → x ≡ bit (not (eqb x 0))
bit-back x h = go (ℕ_discrete x 0)
  where
    go : Dec (x ≡ 0) → x ≡ bit (not (eqb x 0))
    go (yes z) = rw (eq-eqb x 0 z) z
    go (no n) = rw (ne_eqb x 0 n) (omega arith)

pub current-few : {w : Window} → Proper w → w.current < 256
current-few v = omega (arith, v.measures.current_below, v.measures.positions_most)

pub last-few : {w : Window} → Proper w → {r : ℕ} → r ≡ (base_of w + size_of w - 1) % size_of w → r < 256
last-few {w} v e =
    let m = v.measures in
    let below : (base_of w + size_of w - 1) % size_of w < size_of w = mod-lt _ (omega (arith, m.current_below)) in
    omega (arith, e, below, m.positions_most)

-- ---- a line, said in another way

pub answered-as : (l : model.Link) {a a' : Said} {c c' : List ℕ} {i i' p p' : ℕ} → a ≡ a' → c ≡ c' → i ≡ i' → p ≡ p'
    → answered a.letter a.number a.value c l i p ≡ answered a'.letter a'.number a'.value c' l i' p'
answered-as l e f g h = λ k. answered (e k).letter (e k).number (e k).value (f k) l (g k) (h k)

-- ---- a credit that is taken is dated a position

pub dated-below : (l : model.Link) (i p : ℕ) → number_of (credit l i p).answer ≡ 0 → p < reference.positions l.plan
unfolding credit credit_after
dated-below l i p z = ltb-true p (reference.positions l.plan) (not-false (ltb p (reference.positions l.plan)) tests.1)
  where
    none : (n : ℕ) → number_of (credit_after n l i p).answer ≡ 0 → n ≡ 0
    none zero e = refl
    none (suc n) e = e

    tests : (not (ltb i (reference.flow_count l.plan)) ≡ false) × (not (ltb p (reference.positions l.plan)) ≡ false)
    tests =
        let first = line-passed _ _ _ (none (first_of (credit_tests l i p)) z) in
        (first.0, (line-passed _ _ _ first.1).0)

-- the line of a credit that is refused, and of one that is taken
module _ (i p : ℕ) (l : model.Link) (n : ℕ) where
  pub refused-line : (n ≡ 0 → ⊥) → answered 82 n 0 (call_numbers 2 i p) l i l.current ≡ credit_line i p l n
  unfolding credit_line
  refused-line h = rw (ne_eqb n 0 h)

  pub accepted-line : n ≡ 0 → answered 67 0 0 (call_numbers 2 i p) l i p ≡ credit_line i p l n
  unfolding credit_line
  accepted-line h = rw (eq-eqb n 0 h)

-- ---- the lines of a tick and of a reset: one line, or the flows after it

pub tick-alone : (l : model.Link) {b : Bool} → b ≡ false → tick_line l 0 ≡ tick_lines l b
unfolding tick_lines
tick-alone l e = sym (append-nil (tick_line l 0)) ∙ sym (ap (tick_lines l) e)

pub tick-changed : (l : model.Link) {b : Bool} → b ≡ true → {n : ℕ} → n ≡ nobodys l → tick_line l 1 ++ flow_lines l n ≡ tick_lines l b
unfolding tick_lines
tick-changed l e h = ap (λ n. tick_line l 1 ++ flow_lines l n) h ∙ sym (ap (tick_lines l) e)

module _ (l : model.Link) (a : Answer) {r : Said} (e : r ≡ said_for a) where
  -- the line of a reset, and what follows it where there is no refusal, or one
  abbrev first : List ℕ
  first = answered (said_for a).letter (said_for a).number (said_for a).value (call_numbers 5 0 0) l (nobodys l) l.current

  abbrev all : Bool → List ℕ
  all b = first ++ cond b (flow_lines l (nobodys l)) []

  pub reset-alone : (r.number ≡ 0 → ⊥) → first ≡ reset_lines l a
  unfolding reset_lines
  reset-alone n = sym (append-nil first) ∙ sym (ap all (ne_eqb _ 0 (λ z. n (ap (λ (x : Said). x.number) e ∙ z))))

  pub reset-all : r.number ≡ 0 → {n : ℕ} → n ≡ nobodys l → first ++ flow_lines l n ≡ reset_lines l a
  unfolding reset_lines
  reset-all z h = ap (λ n. first ++ flow_lines l n) h ∙ sym (ap all (eq-eqb _ 0 (sym (ap (λ (x : Said). x.number) e) ∙ z)))

-- ---- a plan's entries

module _ (p : Plan) where
  pub plan-count : reference.flow_count (plan_for p) ≡ p.count
  plan-count = length-table p.count _

  pub plan-entry : (i : ℕ) → i < p.count → reference.entry (plan_for p) i ≡ entry_for (get_or p.entries i no_entry)
  plan-entry i h = get_d-table p.count _ i _ h

  pub count_most : Valid p → p.count ≤ 16
  count_most v = rw (← plan-count) v.accepted.flows_most

-- ---- a frame change

module _ {plan : Plan} {w on : Window} {s : List ℕ} (o : StateIn plan w s) (t : Ticked w on) where
  next-told : on.current ≡ next_position (read_in plan s)
  next-told =
      ap (λ (v : seen.Window). v.current) t.window_is
      ∙ ap (λ (v : seen.Window). (v.current + 1) % (v.slots * v.frames)) o.window_is

  within-frame : on.current % w.slots ≡ next_position (read_in plan s) % (read_in plan s).plan.slots
  within-frame = λ k. next-told k % (o.window_is k).slots

  pub no_change : on.head ≡ w.head → eqb (next_position (read_in plan s) % (read_in plan s).plan.slots) 0 ≡ false
  no_change e = ne_eqb _ 0 (λ z. t.stays e (within-frame ∙ z))

  pub change : (on.head ≡ w.head → ⊥) → eqb (next_position (read_in plan s) % (read_in plan s).plan.slots) 0 ≡ true
  change n = eq-eqb _ 0 (sym within-frame ∙ (t.leaves n).0)

module _ {plan : Plan} {w : Window} {s : List ℕ} (o : StateIn plan w s) where
  -- the parts, as the link stores them
  back : stored (read_in plan s) ≡ parts_in plan s
  back = stored-reading (parts_in plan s) o.sound.parts

  pub owner-told : (p : ℕ) → p < 256 → get_or s (4096 + p) 0 ≡ stored_owner (model.owner (read_in plan s) p)
  unfolding stored
  owner-told p h =
      sym (owners-at s p h) ∙ sym (ap (λ (x : Parts). get_or x.owner p 0) back) ∙ get_d-table 256 (λ q. stored_owner (model.owner (read_in plan s) q)) p 0 h

  pub flow-told : (i : ℕ) → i < 16 → flow_read s i ≡ stored_flow (model.flow (read_in plan s) i)
  unfolding stored
  flow-told i h =
      sym (flows-at s i h)
      ∙ sym (ap (λ (x : Parts). get_or x.flows i no_flow) back)
      ∙ get_d-table 16 (λ j. stored_flow (model.flow (read_in plan s) j)) i no_flow h

  pub held-told : (i p : ℕ) → i < 16 → p < 256 → get_or s (256 * i + p) 0 ≡ model.holding (read_in plan s) i p
  unfolding stored row
  held-told i p h b =
      sym (part_at s (256 * i) 256 p b)
      ∙ sym (ap (λ (r : List ℕ). get_or r p 0) (row-held s i h))
      ∙ sym (ap (λ (x : Parts). get_or (row x.held i) p 0) back)
      ∙ ap (λ (r : List ℕ). get_or r p 0) (row-of-rows (model.holding (read_in plan s)) i h)
      ∙ get_d-table 256 (model.holding (read_in plan s) i) p 0 b

  -- ---- CP, the mark, and the flow to lend from

  pub current-told : w.current ≡ (read_in plan s).current
  current-told = ap (λ (v : seen.Window). v.current) o.window_is

  pub mark-told : get_or s 4497 0 ≡ bit (read_in plan s).marked
  unfolding link_of
  mark-told = bit-back (get_or s 4497 0) o.sound.mark

  pub turn-told : get_or s 4498 0 ≡ (read_in plan s).turn
  unfolding link_of
  turn-told = refl

  -- ---- places

  pub last-told : (base_of w + size_of w - 1) % size_of w ≡ seen.last (model.window (read_in plan s))
  last-told = ap (λ h. (h * w.slots + size_of w - 1) % size_of w) o.proper.head_is ∙ ap seen.last o.window_is

  pub ahead-told : (p : ℕ) → (p + size_of w - w.current) % size_of w ≡ ahead (reference.positions (read_in plan s).plan) (read_in plan s).current p
  unfolding ahead
  ahead-told p = ap (λ (v : seen.Window). (p + v.slots * v.frames - v.current) % (v.slots * v.frames)) o.window_is

  -- ---- all of it

  -- the part of flow i, from what is read of it
  pub part-told : (i p : ℕ) {f : Flow} {owner held last : ℕ} → i < 16 → p < 256 → f ≡ flow_read s i → owner ≡ get_or s (4096 + p) 0
      → held ≡ get_or s (256 * i + p) 0 → last ≡ held_last (read_in plan s) i
      → f.injection ∷ f.remainder ∷ f.number ∷ (p + size_of w - w.current) % size_of w ∷ owner ∷ held ∷ last ∷ [] ≡ flow_numbers (read_in plan s) i p
  part-told i p few b e x h z =
      let g = e ∙ flow-told i few in
      λ k. (g k).injection ∷ (g k).remainder ∷ (g k).number ∷ ahead-told p k ∷ (x ∙ owner-told p b) k ∷ (h ∙ held-told i p few b) k ∷ z k ∷ []

  pub flow-line-told : (i : ℕ) {f : Flow} {last : ℕ} → i < 16 → f ≡ flow_read s i → last ≡ held_last (read_in plan s) i
      → line_of 70 (i ∷ f.injection ∷ f.remainder ∷ last ∷ []) ≡ flow_line (read_in plan s) i
  flow-line-told i few e z = let g = e ∙ flow-told i few in λ k. line_of 70 (i ∷ (g k).injection ∷ (g k).remainder ∷ z k ∷ [])

  -- no flow of the plan has the number of its flows
  pub count-told : plan.count ≡ nobodys (read_in plan s)
  count-told = sym (read_count (parts_in plan s))

  module _ {mark turn : ℕ} (m : mark ≡ get_or s 4497 0) (t : turn ≡ get_or s 4498 0) where
    pub about-short : {i : ℕ} (p : ℕ) → plan.count ≤ i → w.current ∷ mark ∷ turn ∷ [] ≡ about (read_in plan s) i p
    unfolding about
    about-short {i} p h =
        rw (read_count (parts_in plan s), le-ltb i plan.count h)
        (λ k. current-told k ∷ (m ∙ mark-told) k ∷ (t ∙ turn-told) k ∷ [])

    pub about-long : {i : ℕ} (p : ℕ) {part : List ℕ} → i < plan.count → part ≡ flow_numbers (read_in plan s) i p
        → w.current ∷ mark ∷ turn ∷ part ≡ about (read_in plan s) i p
    unfolding about
    about-long {i} p n e =
        rw (read_count (parts_in plan s), lt-ltb i plan.count n)
        (λ k. current-told k ∷ (m ∙ mark-told) k ∷ (t ∙ turn-told) k ∷ e k)
