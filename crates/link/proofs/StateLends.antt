-- A lend and a reset on a state: the rows that are looked at are those of its holdings, and what is stored. Assumes nothing.
use Prim.Native.Nat.{ℕ, ◌+◌, ◌%◌, ◌^◌, ◌≤◌, ◌<◌}
use mathlib.Core.Path.{◌≡◌, refl, sym, ap, ◌∙◌}
use mathlib.Core.List.{List, ◌∷◌, []}
use mathlib.Core.Bool.{Bool, true, not, ◌&&◌, ◌||◌}
use native.Mathlib.Nat.{mod-lt}
use native.Mathlib.Omega.{arith}
use lib.Dec.{leb, eqb}
use lib.ListN.{get_or, set, length-set}
use lib.Seq.{get_or-set_same, get_or-set_other}
use borrow.Author.Tests.{eq-eqb, ne_eqb}
use Rattle.model.specs.Refusals.{first_of, ◌when◌}
use Rattle.model.specs.Calls.{in_mask}
use Rattle.model.specs.Window as seen
use Rattle.model.specs.Window.{every_from}
use Rattle.model.specs.Link as model
use Rattle.model.proofs.Tables.{first_from-same}
use Rattle.plan.specs.declared.Plan.{Plan}
use Rattle.plan.specs.Reading.{no_entry}
use Rattle.window.specs.declared.Window.{Window}
use Rattle.window.specs.Window.{window_of}
use Rattle.window.proofs.Tabulated.{every-same}
use Rattle.state.specs.Parts.{Beside}
use Rattle.state.specs.State.{Whole, held_of, owners_of, with_owners, masks_of, MasksNow}
use Rattle.state.proofs.Parts.{beside-set, beside-both, beside-wider}
use Rattle.state.proofs.State.{owners-at, owners-with, beside-owners, owners-beside, masks-beside, held-beside}
use Rattle.unbooked.specs.Words.{Words}
use Rattle.tables.specs.Owners.{nobody, everywhere, none_later}
use Rattle.tables.proofs.FreshTables.{length-everywhere}
use Rattle.tables.specs.Holdings.{room_at, shifted}
use Rattle.tables.specs.Bounds.{raised}
use Rattle.tables.proofs.HeldRows.{row-held}
use Rattle.tables.proofs.Bounds.{bounds-beside, bounds-raised}
use Rattle.link.specs.Changes.{FlowsNow, ResetTables}
use Rattle.link.specs.Given.{StateIn}
use Rattle.link.specs.Layout.{owner_at}
use Rattle.link.specs.Lend.{takes_in, flow_found, first_taker}
use Rattle.link.specs.Parts.{Parts, parts_in, flows_of}
use Rattle.link.specs.Reading.{link_of}
use Rattle.link.specs.Reset.{quiet_in}
use Rattle.link.specs.Started.{started_flows}
use Rattle.link.specs.Steps.{Went, SteppedParts}
use Rattle.link.specs.Updates.{link_with, with_turn, with_mark, with_holdings}
use Rattle.link.proofs.FlowBytes.{flows-beside}
use Rattle.link.proofs.Given.{in_hand, bounds-in, bounds-out}
use Rattle.link.proofs.Lends.{taker-below}
use Rattle.link.proofs.Plans.{count-some, count_most}
use Rattle.std.specs.Prelude.{Option, Some}
use Rattle.link.proofs.StateParts.{raised-rest, parts-raised}

-- ---- the rows that are looked at

module _ (plan : Plan) (w : Window) (s : List ℕ) (mask from : ℕ) (some : 0 < plan.count) (few : plan.count ≤ 16) where
  pub taker-same : first_taker (takes_in plan w s mask) plan.count from ≡ first_taker (takes_in plan w (held_of s) mask) plan.count from
  unfolding first_taker
  taker-same = ap (flow_found plan.count) (first_from-same plan.count from _ _ λ k low high.
      let i = k % plan.count in
      let below : i < 16 = omega (arith, mod-lt k some) in
      ap (λ (h : List ℕ). in_mask mask i && every_from (window_of w) w.current (room_at h (get_or plan.entries i no_entry).cells)) (sym (row-held s i below)))

pub quiet_same : (w : seen.Window) (n : ℕ) (s : List ℕ) → n ≤ 16 → quiet_in w n (owners_of s) s ≡ quiet_in w n (owners_of s) (held_of s)
quiet_same w n s few = ap (λ (b : Bool). none_later w (owners_of s) && b) (every-same n _ _ (λ i h. ap (λ (r : List ℕ). every_from w w.current (room_at r 1)) (sym (row-held s i (omega arith)))))

-- ---- what is stored

pub current-of : {plan : Plan} {w : Window} {s : List ℕ} → StateIn plan w s → w.current ≡ get_or s 4496 0
unfolding link_of
current-of o = ap (λ (x : seen.Window). x.current) o.window_is

-- the owner of the current position, as the code reads it
pub owner_of : {plan : Plan} {w : Window} {s : List ℕ} → StateIn plan w s → get_or s (4096 + w.current) 0 ≡ owner_at (parts_in plan s) (get_or s 4496 0)
owner_of {s = s} o =
    let few : get_or s 4496 0 < 256 = omega (arith, current-of o, o.proper.measures.current_below, o.proper.measures.positions_most) in
    rw (current-of o) (sym (owners-at s (get_or s 4496 0) few))

-- the mark and the turn of a state
module _ (plan : Plan) (t : List ℕ) (whole : Whole t) (on : ℕ) where
  abbrev lent : List ℕ
  lent = set (set t 4497 1) 4498 on

  after : Beside 4497 4499 t lent
  after = beside-both (beside-set t 4497 1 4497 4499 (omega arith) (omega arith)) (beside-set (set t 4497 1) 4498 on 4497 4499 (omega arith) (omega arith))

  mark_is : get_or lent 4497 0 ≡ 1
  mark_is = get_or-set_other (set t 4497 1) 4498 4497 on 0 (λ z. omega arith) ∙ get_or-set_same t 4497 1 0 (omega (arith, whole))

  turn_is : get_or lent 4498 0 ≡ on
  turn_is = get_or-set_same (set t 4497 1) 4498 on 0 (rw length-set (omega (arith, whole)))

  parts-lent : parts_in plan lent ≡ with_turn (with_mark (parts_in plan t) true) on
  parts-lent =
      let owners = owners-beside after (λ k l₁ h₁ l₂ h₂. omega arith) in
      let masks = masks-beside after (λ k l₁ h₁ l₂ h₂. omega arith) in
      let flows = flows-beside after (λ k l₁ h₁ l₂ h₂. omega arith) in
      let held = held-beside after (omega arith) in
      let current : get_or lent 4496 0 ≡ get_or t 4496 0 = after.kept 4496 (λ low _. omega arith) in
      rw (mark_is, turn_is, owners, masks, flows, held, current)

module _ {plan : Plan} {w : Window} {s : List ℕ} (o : StateIn plan w s) where
  -- a flow was lent the slot
  pub went-lent : (i on : ℕ) → i < 16 → {t : List ℕ} → t ≡ raised w i w.current s
      → {A B : Type 0} {to_answer : A → B} {m : model.Step A} {a : B}
      → SteppedParts to_answer m (with_turn (with_mark (with_holdings (parts_in plan s) (shifted (window_of w) 1 i (get_or s 4496 0) (held_of s))) true) on) a
      → Went to_answer m plan (set (set t 4497 1) 4498 on) a
  went-lent i on few {t} e x =
      let whole = o.sound.whole in
      let rest = raised-rest plan s whole w i w.current few e in
      let whole₁ : Whole t = rest.long ∙ whole in
      let is =
      parts-lent plan t whole₁ on
      ∙ ap (λ (l : Parts). with_turn (with_mark l true) on) (parts-raised plan s whole w i w.current few e)
      ∙ ap (λ (q : ℕ). with_turn (with_mark (with_holdings (parts_in plan s) (shifted (window_of w) 1 i q (held_of s))) true) on) (current-of o) in
      record {
        link_is = ap link_of is ∙ x.link_is;
        answer_is = x.answer_is;
        sound = record {
          whole = (after plan t whole₁ on).long ∙ whole₁;
          mark = rw (mark_is plan t whole₁ on) (omega arith);
          bounds =
              bounds-beside (after plan t whole₁ on) (omega arith) (λ k l₁ h₁ l₂ h₂. omega arith)
              (bounds-out o (rw e (bounds-raised o.proper whole (bounds-in o) i w.current few)));
          parts = rw is x.sound;
        };
      }

  -- ---- a reset, after the mark

  module _ {t : List ℕ} (marked : Beside 4497 4498 s t) (mark : get_or t 4497 0 ≤ 1) {u : List ℕ} (tables-reset : ResetTables plan w.head t u) where
    whole₁ : Whole t
    whole₁ = marked.long ∙ o.sound.whole

    whole₂ : Whole u
    whole₂ = tables-reset.beside.long ∙ whole₁

    last : Beside 4498 4499 u (set u 4498 0)
    last = beside-set u 4498 0 4498 4499 (omega arith) (omega arith)

    mark-stays : get_or (set u 4498 0) 4497 0 ≡ get_or t 4497 0
    mark-stays = last.kept 4497 (λ low _. omega arith) ∙ tables-reset.beside.kept 4497 (λ _ high. omega arith)

    parts-reset : parts_in plan (set u 4498 0)
        ≡ with_turn (link_with (parts_in plan s) (get_or s 4496 0) (owners_of u) (masks_of u) (flows_of u) (held_of s) (not (eqb (get_or t 4497 0) 0))) 0
    parts-reset =
        let owners = owners-beside last (λ k l₁ h₁ l₂ h₂. omega arith) in
        let masks = masks-beside last (λ k l₁ h₁ l₂ h₂. omega arith) in
        let flows = flows-beside last (λ k l₁ h₁ l₂ h₂. omega arith) in
        let held = held-beside last (omega arith) ∙ held-beside tables-reset.beside (omega arith) ∙ held-beside marked (omega arith) in
        let current : get_or (set u 4498 0) 4496 0 ≡ get_or s 4496 0 =
        last.kept 4496 (λ low _. omega arith) ∙ tables-reset.beside.kept 4496 (λ _ high. omega arith) ∙ marked.kept 4496 (λ low _. omega arith) in
        let turn : get_or (set u 4498 0) 4498 0 ≡ 0 = get_or-set_same u 4498 0 0 (omega (arith, whole₂)) in
        rw (mark-stays, turn, owners, masks, flows, held, current)

    pub flows-reset : flows_of t ≡ flows_of s
    flows-reset = flows-beside marked (λ k l₁ h₁ l₂ h₂. omega arith)

    pub went-reset : {A B : Type 0} {to_answer : A → B} {m : model.Step A} {a : B}
        → SteppedParts to_answer m (with_turn (link_with (parts_in plan s) (get_or s 4496 0) (owners_of u) (masks_of u) (flows_of u) (held_of s) (not (eqb (get_or t 4497 0) 0))) 0) a
        → Went to_answer m plan (set u 4498 0) a
    went-reset x = record {
      link_is = ap link_of parts-reset ∙ x.link_is;
      answer_is = x.answer_is;
      sound = record {
        whole = last.long ∙ whole₂;
        mark = rw mark-stays mark;
        bounds =
            bounds-beside last (omega arith) (λ k l₁ h₁ l₂ h₂. omega arith)
            (bounds-beside tables-reset.beside (omega arith) (λ k l₁ h₁ l₂ h₂. omega arith)
            (bounds-beside marked (omega arith) (λ k l₁ h₁ l₂ h₂. omega arith) o.sound.bounds));
        parts = rw parts-reset x.sound;
      };
    }

-- the mark: the slot was booked, or it keeps its mark
module _ {plan : Plan} {w : Window} {s : List ℕ} (o : StateIn plan w s) where
  abbrev pub Marked : List ℕ → Type 0
  Marked t =
      Beside 4497 4498 s t × (get_or t 4497 0 ≤ 1)
      × (not (eqb (get_or t 4497 0) 0) ≡ not (eqb (owner_at (parts_in plan s) (get_or s 4496 0)) nobody) || (parts_in plan s).marked)

  pub marked-booked : (get_or s (4096 + w.current) 0 ≡ 16 → ⊥) → {t : List ℕ} → t ≡ set s 4497 1 → Marked t
  marked-booked n e =
      let is : get_or (set s 4497 1) 4497 0 ≡ 1 = get_or-set_same s 4497 1 0 (omega (arith, o.sound.whole)) in
      rw e (
        beside-set s 4497 1 4497 4498 (omega arith) (omega arith),
        rw is (omega arith),
        rw (is, ← owner_of o, ne_eqb _ _ n),
      )

  pub marked-kept : get_or s (4096 + w.current) 0 ≡ 16 → {t : List ℕ} → t ≡ s → Marked t
  marked-kept e same = rw same (record { long = refl; kept = λ k _. refl }, o.sound.mark, rw (← owner_of o, eq-eqb _ _ e))

-- ---- the tests of a lend, as the code reads the owner

pub tests-of : {plan : Plan} {w : Window} {s : List ℕ} → StateIn plan w s → (mask : ℕ) (marked : Bool) {n : ℕ}
    → n ≡ first_of (8 when leb (2 ^ plan.count) mask ∷ 17 when (not (eqb (get_or s (4096 + w.current) 0) nobody) || marked) ∷ [])
    → n ≡ first_of (8 when leb (2 ^ plan.count) mask ∷ 17 when (not (eqb (owner_at (parts_in plan s) (get_or s 4496 0)) nobody) || marked) ∷ [])
tests-of {plan} o mask marked e =
    e ∙ ap (λ (x : ℕ). first_of (8 when leb (2 ^ plan.count) mask ∷ 17 when (not (eqb x nobody) || marked) ∷ [])) (owner_of o)

-- ---- what a search for a flow to lend to finds, read of the parts of the state

module _ {plan : Plan} {w : Window} {s : List ℕ} (o : StateIn plan w s) (mask : ℕ) {from : ℕ} (turn : from ≡ get_or s 4498 0) {t : Option ℕ}
    (found : t ≡ first_taker (takes_in plan w s mask) plan.count from) where
  pub found-read : t ≡ first_taker (takes_in plan w (held_of s) mask) plan.count (get_or s 4498 0)
  found-read =
      let v = o.sound.parts.plan in
      rw turn at found ∙ taker-same plan w s mask _ (count-some _ v) (count_most _ v)

  -- it is one of the plan's flows
  pub found-below : {n : ℕ} → n ≡ first_of (8 when leb (2 ^ plan.count) mask ∷ 17 when (not (eqb (get_or s (4096 + w.current) 0) nobody) || not (eqb (get_or s 4497 0) 0)) ∷ [])
      → n ≡ 0 → {i : ℕ} → t ≡ Some i → i < plan.count
  found-below tests zero is = taker-below (in_hand o) _ (tests-of o _ _ tests) zero found-read is

-- ---- the owners, the masks and the flows of a reset

module _ (plan : Plan) (frame : ℕ) (s : List ℕ) (whole : Whole s) {t₁ : List ℕ} (owners : t₁ ≡ with_owners s (everywhere nobody)) where
  beside₁ : Beside 4096 4352 s t₁
  beside₁ = rw owners (beside-owners s _)

  pub whole-disowned : Whole t₁
  whole-disowned = beside₁.long ∙ whole

  module _ {u t₂ : List ℕ} (masks : MasksNow t₁ t₂ u) where
    pub whole-masked : Whole t₂
    whole-masked = masks.beside.long ∙ whole-disowned

    pub reset-tables-by : Words plan.slots plan.frames (λ p. true) u
        → {t₃ : List ℕ} → FlowsNow t₂ t₃ (started_flows frame plan.entries plan.count (flows_of t₂)) → ResetTables plan frame s t₃
    reset-tables-by words flows = record {
      owners_are =
          owners-beside flows.beside (λ k l₁ h₁ l₂ h₂. omega arith)
          ∙ owners-beside masks.beside (λ k l₁ h₁ l₂ h₂. omega arith)
          ∙ ap owners_of owners
          ∙ owners-with s _ whole (length-everywhere nobody);
      masks_are = rw (masks-beside flows.beside (λ k l₁ h₁ l₂ h₂. omega arith) ∙ masks.masks_are) words;
      flows_are =
          flows.flows_are
          ∙ ap (started_flows frame plan.entries plan.count)
          (flows-beside masks.beside (λ k l₁ h₁ l₂ h₂. omega arith) ∙ flows-beside beside₁ (λ k l₁ h₁ l₂ h₂. omega arith));
      beside =
          beside-both (beside-wider (omega arith) (omega arith) beside₁)
          (beside-both (beside-wider (omega arith) (omega arith) masks.beside) (beside-wider (omega arith) (omega arith) flows.beside));
    }
