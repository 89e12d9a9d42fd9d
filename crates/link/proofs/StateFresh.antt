-- The state of a fresh link, from its parts stored one after the other. Assumes nothing.
use Prim.Native.Nat.{ℕ, ◌<◌}
use mathlib.Core.Path.{◌≡◌, sym, ap, ◌∙◌}
use mathlib.Core.List.{List}
use mathlib.Core.Bool.{true}
use native.Mathlib.Omega.{arith}
use lib.ListN.{get_or, set, length-set, length-replicate, get_or-replicate}
use lib.Seq.{ext_get_or, get_or-set_same, get_or-set_other}
use Rattle.model.specs.Fresh.{fresh}
use Rattle.plan.specs.declared.Plan.{Plan}
use Rattle.plan.specs.Reading.{Valid, plan_for}
use Rattle.window.specs.Ranges.{in_range, replaced}
use Rattle.window.proofs.Ranges.{in-range, length-replaced, replaced-at}
use Rattle.state.specs.Parts.{Beside}
use Rattle.state.specs.State.{Whole, held_of, with_held, owners_of, with_owners, MasksNow}
use Rattle.state.proofs.Parts.{beside-set, beside-both}
use Rattle.state.proofs.State.{held-beside, held-with-all, beside-all-held, owners-beside, owners-with, beside-owners, masks-beside}
use Rattle.unbooked.specs.Words.{Words}
use Rattle.tables.specs.Owners.{nobody, everywhere}
use Rattle.tables.specs.Holdings.{nothing_held}
use Rattle.tables.proofs.Bounds.{bounds-nothing}
use Rattle.tables.proofs.FreshTables.{length-everywhere, length-nothing}
use Rattle.link.specs.Layout.{no_flow}
use Rattle.link.specs.Parts.{Parts, parts_in, flows_of}
use Rattle.link.specs.Changes.{FlowsNow}
use Rattle.link.specs.Sound.{SoundState}
use Rattle.link.specs.Started.{no_flows, started_flows}
use Rattle.link.specs.Steps.{read_in}
use Rattle.link.specs.Reading.{link_of}
use Rattle.link.proofs.FlowBytes.{length-flows, flows-beside}
use Rattle.link.proofs.FreshLinks.{fresh_link, read-fresh, sound-fresh}

-- sixteen flows all replaced by the spare one
pub all-spare : (s : List ℕ) → replaced (in_range 0 16) (λ i f. no_flow) (flows_of s) ≡ no_flows
all-spare s =
    ext_get_or no_flow _ _ (length-replaced _ _ (flows_of s) ∙ length-flows s ∙ sym (length-replicate 16 no_flow)) λ i l.
    let b : i < 16 = rw (length-replaced, length-flows) at l in
    replaced-at _ _ (flows_of s) i no_flow (rw length-flows b) ∙ rw (in-range 0 16 i (omega arith) b) (sym (get_or-replicate 16 i no_flow no_flow b))

module _ {plan : Plan} (v : Valid plan) (s : List ℕ) (whole : Whole s)
    {t₁ : List ℕ} (held : t₁ ≡ with_held s nothing_held)
    {t₂ : List ℕ} (owners : t₂ ≡ with_owners t₁ (everywhere nobody)) where
  beside₁ : Beside 0 4096 s t₁
  beside₁ = rw held (beside-all-held s nothing_held)

  whole₁ : Whole t₁
  whole₁ = beside₁.long ∙ whole

  beside₂ : Beside 4096 4352 t₁ t₂
  beside₂ = rw owners (beside-owners t₁ _)

  pub whole-owners : Whole t₂
  whole-owners = beside₂.long ∙ whole₁

  module _ {u : List ℕ} (words : Words plan.slots plan.frames (λ q. true) u) {t₃ : List ℕ} (masks : MasksNow t₂ t₃ u) where
    pub whole-masks : Whole t₃
    whole-masks = masks.beside.long ∙ whole-owners

    module _ {t₄ : List ℕ} (spare : FlowsNow t₃ t₄ no_flows) where
      pub whole-spare : Whole t₄
      whole-spare = spare.beside.long ∙ whole-masks

      module _ {t₅ : List ℕ} (flows : FlowsNow t₄ t₅ (started_flows 0 plan.entries plan.count (flows_of t₄))) where
        whole₅ : Whole t₅
        whole₅ = flows.beside.long ∙ whole-spare

        abbrev last : List ℕ
        last = set (set (set t₅ 4496 0) 4497 0) 4498 0

        ends : Beside 4496 4499 t₅ last
        ends =
            beside-both (beside-both (beside-set t₅ 4496 0 4496 4499 (omega arith) (omega arith)) (beside-set _ 4497 0 4496 4499 (omega arith) (omega arith)))
            (beside-set _ 4498 0 4496 4499 (omega arith) (omega arith))

        current_is : get_or last 4496 0 ≡ 0
        current_is =
            get_or-set_other (set (set t₅ 4496 0) 4497 0) 4498 4496 0 0 (λ z. omega arith)
            ∙ get_or-set_other (set t₅ 4496 0) 4497 4496 0 0 (λ z. omega arith)
            ∙ get_or-set_same t₅ 4496 0 0 (omega (arith, whole₅))

        mark_is : get_or last 4497 0 ≡ 0
        mark_is =
            get_or-set_other (set (set t₅ 4496 0) 4497 0) 4498 4497 0 0 (λ z. omega arith)
            ∙ get_or-set_same (set t₅ 4496 0) 4497 0 0 (rw length-set (omega (arith, whole₅)))

        turn_is : get_or last 4498 0 ≡ 0
        turn_is = get_or-set_same (set (set t₅ 4496 0) 4497 0) 4498 0 0 (rw (length-set, length-set) (omega (arith, whole₅)))

        parts-fresh : parts_in plan last ≡ fresh_link plan u
        parts-fresh =
            let held_is =
            held-beside ends (omega arith) ∙ held-beside flows.beside (omega arith) ∙ held-beside spare.beside (omega arith)
            ∙ held-beside masks.beside (omega arith) ∙ held-beside beside₂ (omega arith) ∙ ap held_of held ∙ held-with-all s nothing_held whole length-nothing in
            let owners_are =
            owners-beside ends (λ k l₁ h₁ l₂ h₂. omega arith) ∙ owners-beside flows.beside (λ k l₁ h₁ l₂ h₂. omega arith)
            ∙ owners-beside spare.beside (λ k l₁ h₁ l₂ h₂. omega arith) ∙ owners-beside masks.beside (λ k l₁ h₁ l₂ h₂. omega arith)
            ∙ ap owners_of owners ∙ owners-with t₁ _ whole₁ (length-everywhere nobody) in
            let masks_are =
            masks-beside ends (λ k l₁ h₁ l₂ h₂. omega arith) ∙ masks-beside flows.beside (λ k l₁ h₁ l₂ h₂. omega arith)
            ∙ masks-beside spare.beside (λ k l₁ h₁ l₂ h₂. omega arith) ∙ masks.masks_are in
            let flows_are =
            flows-beside ends (λ k l₁ h₁ l₂ h₂. omega arith) ∙ flows.flows_are ∙ ap (started_flows 0 plan.entries plan.count) spare.flows_are in
            rw (current_is, mark_is, turn_is, held_is, owners_are, masks_are, flows_are)

        pub fresh-read : read_in plan last ≡ fresh (plan_for plan)
        fresh-read = ap link_of parts-fresh ∙ read-fresh plan v u

        pub fresh-sound : SoundState plan last
        fresh-sound = record {
          whole = ends.long ∙ whole₅;
          mark = rw mark_is (omega arith);
          bounds = bounds-nothing (ap (λ (l : Parts). l.held) parts-fresh);
          parts = rw parts-fresh (sound-fresh plan v u words);
        }
