-- The parts of a state after each kind of store: one of them changes, and the others are as they were. Assumes nothing.
use Prim.Native.Nat.{ℕ, ◌+◌, ◌*◌, ◌<◌}
use mathlib.Core.Path.{◌≡◌, refl, ap, ◌∙◌}
use mathlib.Core.List.{List}
use mathlib.Core.Bool.{not}
use native.Mathlib.Omega.{arith}
use lib.ListN.{get_or, set}
use lib.Dec.{eqb}
use Rattle.model.specs.Window as seen
use Rattle.model.specs.Link as model
use Rattle.plan.specs.declared.Plan.{Plan}
use Rattle.state.specs.Parts.{Beside}
use Rattle.state.specs.State.{Whole, held_of, owners_of, masks_of, with_mask, with_bound}
use Rattle.state.proofs.Parts.{beside-set, beside-wider, beside-both}
use Rattle.state.proofs.State.{held-beside, owners-beside, owners-set, masks-beside, beside-mask}
use Rattle.window.specs.declared.Window.{Window}
use Rattle.window.specs.Window.{window_of}
use Rattle.tables.specs.Holdings.{shifted}
use Rattle.tables.specs.Bounds.{Bounds, raised, lowered}
use Rattle.tables.proofs.HeldRows.{held-shifted, beside-held}
use Rattle.link.specs.declared.Flow.{Flow}
use Rattle.link.specs.Layout.{size_for}
use Rattle.link.specs.Parts.{Parts, parts_in, flows_of, with_flow_at}
use Rattle.link.specs.Updates.{with_owners, with_flows, with_holdings}
use Rattle.link.specs.Reading.{link_of}
use Rattle.link.specs.Sound.{SoundState}
use Rattle.link.specs.Steps.{Went, SteppedParts}
use Rattle.link.proofs.FlowBytes.{beside-flow, flows-beside, flows-set}

-- only the owners, the masks, the flows and the holdings may differ
same_rest : (p : Plan) {s t : List ℕ} → Beside 0 4496 s t → {o u : List ℕ} {fs : List Flow} {h : List ℕ}
    → owners_of t ≡ o → masks_of t ≡ u → flows_of t ≡ fs → held_of t ≡ h
    → parts_in p t ≡ with_holdings (with_flows (with_owners (parts_in p s) o u) fs) h
same_rest p {s} {t} v o u fs h =
    let current : get_or t 4496 0 ≡ get_or s 4496 0 = v.kept 4496 (λ _ high. omega arith) in
    let mark : get_or t 4497 0 ≡ get_or s 4497 0 = v.kept 4497 (λ _ high. omega arith) in
    let first : get_or t 4498 0 ≡ get_or s 4498 0 = v.kept 4498 (λ _ high. omega arith) in
    λ k. record {
      plan = p;
      current = current k;
      owner = o k;
      unbooked = u k;
      flows = fs k;
      held = h k;
      marked = not (eqb (mark k) 0);
      turn = first k;
    }

module _ (p : Plan) (s : List ℕ) (whole : Whole s) where
  -- a flow
  module _ (i : ℕ) (few : i < 16) (f : Flow) where
    pub flow-rest : Beside 0 4496 s (with_flow_at s i f)
    flow-rest = beside-wider (omega arith) (omega arith) (beside-flow s i f)

    pub parts-flow : parts_in p (with_flow_at s i f) ≡ with_flows (parts_in p s) (set (flows_of s) i f)
    parts-flow =
        let v = beside-flow s i f in
        same_rest p flow-rest (owners-beside v (λ k l₁ h₁ l₂ h₂. omega arith)) (masks-beside v (λ k l₁ h₁ l₂ h₂. omega arith))
        (flows-set s i f whole few) (held-beside v (omega arith))

  -- the owner of a position
  module _ (q x : ℕ) (below : q < 256) where
    owner-beside : Beside (4096 + q) (4096 + q + 1) s (set s (4096 + q) x)
    owner-beside = beside-set s (4096 + q) x (4096 + q) (4096 + q + 1) (omega arith) (omega arith)

    pub owner-rest : Beside 0 4496 s (set s (4096 + q) x)
    owner-rest = beside-wider (omega arith) (omega arith) owner-beside

    pub parts-owner : parts_in p (set s (4096 + q) x) ≡ with_owners (parts_in p s) (set (owners_of s) q x) (masks_of s)
    parts-owner =
        let v = owner-beside in
        same_rest p owner-rest (owners-set s q x whole below) (masks-beside v (λ k l₁ h₁ l₂ h₂. omega arith))
        (flows-beside v (λ k l₁ h₁ l₂ h₂. omega arith)) (held-beside v (omega arith))

  -- the mask of a frame
  module _ (j x : ℕ) (few : j < 8) {t : List ℕ} (is : t ≡ with_mask s j x) where
    mask-changed : Beside (4352 + 8 * j) (4352 + 8 * j + 8) s t
    mask-changed = rw is (beside-mask s j x)

    pub mask-rest : Beside 0 4496 s t
    mask-rest = beside-wider (omega arith) (omega arith) mask-changed

    pub parts-mask : parts_in p t ≡ with_owners (parts_in p s) (owners_of s) (masks_of t)
    parts-mask =
        let v = mask-changed in
        same_rest p mask-rest (owners-beside v (λ k l₁ h₁ l₂ h₂. omega arith)) refl
        (flows-beside v (λ k l₁ h₁ l₂ h₂. omega arith)) (held-beside v (omega arith))

  -- what a flow holds from a position on, and its bound
  module _ (w : seen.Window) (by i q n : ℕ) (few : i < 16) {t : List ℕ} (is : t ≡ with_bound (shifted w by i q s) i n) where
    held-changed : Beside 0 4096 s (shifted w by i q s)
    held-changed = beside-held s i few _

    bound-changed : Beside 4480 4496 (shifted w by i q s) t
    bound-changed = rw is (beside-set _ (4480 + i) n 4480 4496 (omega arith) (omega arith))

    held-rest : Beside 0 4496 s t
    held-rest = beside-both (beside-wider (omega arith) (omega arith) held-changed) (beside-wider (omega arith) (omega arith) bound-changed)

    parts_held : parts_in p t ≡ with_holdings (parts_in p s) (shifted w by i q (held_of s))
    parts_held =
        let u = bound-changed in
        let v = held-changed in
        same_rest p held-rest (owners-beside u (λ k l₁ h₁ l₂ h₂. omega arith) ∙ owners-beside v (λ k l₁ h₁ l₂ h₂. omega arith))
        (masks-beside u (λ k l₁ h₁ l₂ h₂. omega arith) ∙ masks-beside v (λ k l₁ h₁ l₂ h₂. omega arith))
        (flows-beside u (λ k l₁ h₁ l₂ h₂. omega arith) ∙ flows-beside v (λ k l₁ h₁ l₂ h₂. omega arith))
        (held-beside u (omega arith) ∙ held-shifted s i few w by q whole)

  module _ (w : Window) (i q : ℕ) (few : i < 16) {t : List ℕ} where
    pub raised-rest : t ≡ raised w i q s → Beside 0 4496 s t
    unfolding raised
    raised-rest is = held-rest (window_of w) 1 i q _ few is

    pub parts-raised : t ≡ raised w i q s → parts_in p t ≡ with_holdings (parts_in p s) (shifted (window_of w) 1 i q (held_of s))
    unfolding raised
    parts-raised is = parts_held (window_of w) 1 i q _ few is

    pub lowered-rest : t ≡ lowered w i q s → Beside 0 4496 s t
    unfolding lowered
    lowered-rest is = held-rest (window_of w) 255 i q _ few is

    pub parts-lowered : t ≡ lowered w i q s → parts_in p t ≡ with_holdings (parts_in p s) (shifted (window_of w) 255 i q (held_of s))
    unfolding lowered
    parts-lowered is = parts_held (window_of w) 255 i q _ few is

-- ---- a rule that leaves the current position, the mark and the turn

-- nothing is stored
pub went-same : {p : Plan} {s t : List ℕ} → SoundState p s → t ≡ s
    → {A B : Type 0} {to_answer : A → B} {m : model.Step A} {a : B} → SteppedParts to_answer m (parts_in p s) a → Went to_answer m p t a
went-same sound e x = rw e (record {
  link_is = x.link_is;
  answer_is = x.answer_is;
  sound = record { whole = sound.whole; mark = sound.mark; bounds = sound.bounds; parts = x.sound };
})

pub went-by : {p : Plan} {s t : List ℕ} → SoundState p s → Beside 0 4496 s t → Bounds (size_for p) t → {l : Parts} → parts_in p t ≡ l
    → {A B : Type 0} {to_answer : A → B} {m : model.Step A} {a : B} → SteppedParts to_answer m l a → Went to_answer m p t a
went-by sound v b e x = record {
  link_is = ap link_of e ∙ x.link_is;
  answer_is = x.answer_is;
  sound = record {
    whole = v.long ∙ sound.whole;
    mark = rw (v.kept 4497 (λ _ high. omega arith)) sound.mark;
    bounds = b;
    parts = rw e x.sound;
  };
}
