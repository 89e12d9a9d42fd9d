-- A tick on a state: a frame change, and the current position stored. Assumes nothing.
use Prim.Native.Nat.{ℕ, ◌+◌, ◌≤◌, ◌<◌}
use mathlib.Core.Path.{◌≡◌, refl, sym, ap, ◌∙◌}
use mathlib.Core.List.{List}
use mathlib.Core.Bool.{false}
use native.Mathlib.Omega.{arith}
use lib.ListN.{get_or, set, length-set}
use lib.Seq.{get_or-set_same, get_or-set_other}
use Rattle.model.specs.Tick as tick
use Rattle.plan.specs.declared.Plan.{Plan}
use Rattle.calls.specs.Reading.{answer_to_tick}
use Rattle.window.specs.declared.Window.{Window}
use Rattle.window.specs.Window.{Ticked}
use Rattle.state.specs.Parts.{Beside}
use Rattle.state.specs.State.{Whole, held_of, owners_of, masks_of}
use Rattle.state.specs.State as state
use Rattle.state.proofs.Parts.{beside-set, beside-both, beside-wider}
use Rattle.state.proofs.State.{length-owners, owners-at, owners-with, beside-owners, owners-beside, masks-beside, held-beside, beside-mask}
use Rattle.window.proofs.Ranges.{length-replaced}
use Rattle.tables.specs.Owners.{owner_of, emptied}
use Rattle.tables.specs.Holdings.{last_of, carried}
use Rattle.tables.specs.Bounds.{Bounds}
use Rattle.tables.specs.Masks.{Recycled}
use Rattle.tables.proofs.Bounds.{bounds-beside, bounds-carried}
use Rattle.tables.proofs.Masks.{mask-as-word}
use Rattle.tables.proofs.HeldRows.{beside-carried, held_carried}
use Rattle.tables.proofs.HoldingChanges.{last-below}
use Rattle.link.specs.Given.{StateIn}
use Rattle.link.specs.Layout.{size_for}
use Rattle.link.specs.Parts.{parts_in, flows_of}
use Rattle.link.specs.Changes.{FlowsNow, FrameLeft, ChangeIn}
use Rattle.link.specs.Reading.{link_of}
use Rattle.link.specs.Sound.{SoundState}
use Rattle.link.specs.Steps.{read_in, Went}
use Rattle.link.specs.Updates.{left_heads, with_current, with_mark}
use Rattle.link.proofs.Plans.{count_most}
use Rattle.link.proofs.Given.{AtHand, at-hand-ticked, in_hand, bounds-in, bounds-out}
use Rattle.link.proofs.FlowBytes.{flows-beside}
use Rattle.link.proofs.Ticks.{Advanced, head-stays, head-left, ticked}

-- ---- a frame change: the owners, a mask, the holdings and the flows, one after the other

module _ {plan : Plan} {w : Window} {on : ℕ} {s : List ℕ} (o : ChangeIn plan w on s)
    {t₁ : List ℕ} (owners : t₁ ≡ state.with_owners s (emptied w (owners_of s)))
    {t₂ : List ℕ} (masks : Recycled w.slots w.head t₁ t₂)
    {t₃ : List ℕ} (held : t₃ ≡ carried w plan.count t₂) where
  beside₁ : Beside 4096 4352 s t₁
  beside₁ = rw owners (beside-owners s _)

  whole₁ : Whole t₁
  whole₁ = beside₁.long ∙ o.whole

  head_few : w.head < 8
  head_few = omega (arith, o.proper.head_below, o.proper.measures.frames_most)

  beside₂ : Beside 4352 4416 t₁ t₂
  beside₂ = rw masks.is (beside-wider (omega arith) (omega arith) (beside-mask t₁ w.head masks.mask))

  whole₂ : Whole t₂
  whole₂ = beside₂.long ∙ whole₁

  few : plan.count ≤ 16
  few = count_most plan o.valid

  beside₃ : Beside 0 4096 t₂ t₃
  beside₃ = rw held (beside-carried plan.count (last_of w) _ _ t₂ few)

  pub whole-carried : Whole t₃
  whole-carried = beside₃.long ∙ whole₂

  pub frame-left : {t₄ : List ℕ} → FlowsNow t₃ t₄ (left_heads plan w.head on (flows_of t₃)) → FrameLeft plan w on s t₄
  frame-left flows = record {
    owners_are =
        owners-beside flows.beside (λ k l₁ h₁ l₂ h₂. omega arith)
        ∙ owners-beside beside₃ (λ k l₁ h₁ l₂ h₂. omega arith)
        ∙ owners-beside beside₂ (λ k l₁ h₁ l₂ h₂. omega arith)
        ∙ ap owners_of owners
        ∙ owners-with s _ o.whole (length-replaced _ _ (owners_of s) ∙ length-owners s);
    masks_are =
        let before = masks-beside beside₁ (λ k l₁ h₁ l₂ h₂. omega arith) in
        let after = masks-beside flows.beside (λ k l₁ h₁ l₂ h₂. omega arith) ∙ masks-beside beside₃ (λ k l₁ h₁ l₂ h₂. omega arith) in
        rw (after, ← before) (mask-as-word whole₁ head_few masks);
    held_is =
        held-beside flows.beside (omega arith)
        ∙ ap held_of held
        ∙ held_carried plan.count (last_of w) _ _ t₂ few whole₂ (last-below w o.proper plan.count t₂ (omega (arith, whole₂)))
        ∙ ap (carried w plan.count) (held-beside beside₂ (omega arith) ∙ held-beside beside₁ (omega arith));
    flows_are =
        flows.flows_are
        ∙ ap (left_heads plan w.head on)
        (flows-beside beside₃ (λ k l₁ h₁ l₂ h₂. omega arith) ∙ flows-beside beside₂ (λ k l₁ h₁ l₂ h₂. omega arith) ∙ flows-beside beside₁ (λ k l₁ h₁ l₂ h₂. omega arith));
    beside =
        beside-both (beside-both (beside-wider (omega arith) (omega arith) beside₁) (beside-wider (omega arith) (omega arith) beside₂))
        (beside-both (beside-wider (omega arith) (omega arith) beside₃) (beside-wider (omega arith) (omega arith) flows.beside));
  }

-- ---- the mark is off, and the current position is stored

module _ (plan : Plan) (s : List ℕ) (whole : Whole s) (c : ℕ) where
  abbrev pub ticked_state : List ℕ
  ticked_state = set (set s 4497 0) 4496 c

  after : Beside 4496 4498 s ticked_state
  after = beside-both (beside-set s 4497 0 4496 4498 (omega arith) (omega arith)) (beside-set (set s 4497 0) 4496 c 4496 4498 (omega arith) (omega arith))

  current_is : get_or ticked_state 4496 0 ≡ c
  current_is = get_or-set_same (set s 4497 0) 4496 c 0 (rw length-set (omega (arith, whole)))

  mark_is : get_or ticked_state 4497 0 ≡ 0
  mark_is = get_or-set_other (set s 4497 0) 4496 4497 c 0 (λ z. omega arith) ∙ get_or-set_same s 4497 0 0 (omega (arith, whole))

  parts-ticked : parts_in plan ticked_state ≡ with_current (with_mark (parts_in plan s) false) c
  parts-ticked =
      let owners = owners-beside after (λ k l₁ h₁ l₂ h₂. omega arith) in
      let masks = masks-beside after (λ k l₁ h₁ l₂ h₂. omega arith) in
      let flows = flows-beside after (λ k l₁ h₁ l₂ h₂. omega arith) in
      let held = held-beside after (omega arith) in
      let first : get_or ticked_state 4498 0 ≡ get_or s 4498 0 = after.kept 4498 (λ _ high. omega arith) in
      rw (mark_is, current_is, owners, masks, flows, held, first)

module _ {plan : Plan} {w on : Window} {s : List ℕ} (o : StateIn plan w s) (t : Ticked w on) where
  abbrev hand : AtHand (parts_in plan s) plan w
  hand = in_hand o

  -- what a tick that ends in this state comes to
  abbrev pub TickedTo : List ℕ → Type 0
  TickedTo v =
      Went answer_to_tick (tick.tick (read_in plan s)) plan v (answer_to_tick (owner_of (get_or v (4096 + on.current) 0))) × StateIn plan on v

  went : (u : List ℕ) → Whole u → Bounds (size_for plan) u → Advanced (parts_in plan s) (with_mark (parts_in plan u) false) on.current → TickedTo (set (set u 4497 0) 4496 on.current)
  went u whole bounds a =
      let few : on.current < 256 = omega (arith, t.proper.measures.current_below, t.proper.measures.positions_most) in
      let is = parts-ticked plan u whole on.current in
      let owner = (after plan u whole on.current).kept (4096 + on.current) (λ low _. omega arith) ∙ sym (owners-at u on.current few) in
      let x = ticked hand t a (ap (λ (y : ℕ). answer_to_tick (owner_of y)) owner) in
      let sound : SoundState plan (set (set u 4497 0) 4496 on.current) = record {
        whole = (after plan u whole on.current).long ∙ whole;
        mark = rw (mark_is plan u whole on.current) (omega arith);
        bounds = bounds-beside (after plan u whole on.current) (omega arith) (λ k l₁ h₁ l₂ h₂. omega arith) bounds;
        parts = rw is x.sound;
      } in
      let there = at-hand-ticked hand sound.parts refl t (current_is plan u whole on.current) in (
        record { link_is = ap link_of is ∙ x.link_is; answer_is = x.answer_is; sound = sound },
        record { sound = sound; proper = there.proper; window_is = there.window_is },
      )

  pub went-stays : on.head ≡ w.head → TickedTo (set (set s 4497 0) 4496 on.current)
  went-stays e = went s o.sound.whole o.sound.bounds (head-stays hand t e refl)

  pub went-leaves : {u : List ℕ} → (on.head ≡ w.head → ⊥) → FrameLeft plan w on.head s u → TickedTo (set (set u 4497 0) 4496 on.current)
  went-leaves {u} n f =
      let first : get_or u 4498 0 ≡ get_or s 4498 0 = f.beside.kept 4498 (λ _ high. omega arith) in
      went u (f.beside.long ∙ o.sound.whole)
      (bounds-out o (bounds-carried o.proper o.sound.whole (bounds-in o) plan.count f.held_is f.beside))
      (head-left hand t n f.owners_are f.masks_are f.held_is f.flows_are (rw first))
