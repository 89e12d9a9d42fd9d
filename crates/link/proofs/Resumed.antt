-- A state taken up again: what the empty one has, and what is stored after its flows. Assumes nothing.
use Prim.Native.Nat.{ℕ, ◌+◌, ◌*◌, ◌<◌}
use mathlib.Core.Path.{◌≡◌, sym, ap, ◌∙◌}
use mathlib.Core.List.{List}
use native.Mathlib.Decide.{dec_lt}
use native.Mathlib.Omega.{arith}
use lib.ListN.{length, get_or, set, replicate, length-set, length-replicate, get_or-replicate, get_or-eq_default}
use lib.Seq.{get_or-set_same, get_or-set_other}
use Rattle.window.specs.Ranges.{in_range}
use Rattle.window.proofs.Ranges.{in-range, replaced-at}
use Rattle.window.proofs.Tabulated.{table_same, replicate-table}
use Rattle.window.specs.declared.Window.{Window}
use Rattle.state.specs.Parts.{part, Beside}
use Rattle.state.specs.State.{Whole, held_of, owners_of, with_owners, bound_at}
use Rattle.state.proofs.Parts.{beside-set, beside-both, beside-wider, beside-replaced}
use Rattle.state.proofs.State.{held-beside, owners-beside, owners-with, beside-owners, masks-beside}
use Rattle.tables.specs.Rows.{rows_of}
use Rattle.tables.specs.Holdings.{nothing_held}
use Rattle.link.specs.Layout.{no_flow}
use Rattle.link.specs.Parts.{flow_read, flows_of}
use Rattle.link.specs.Resumed.{empty, OwnersMasked, Unbounded, Resumed}
use Rattle.link.proofs.FlowBytes.{flows-beside}

-- ---- the empty state

pub whole-empty : Whole empty
unfolding empty
whole-empty = length-replicate {A = ℕ} 4499 0

zero-at : (k : ℕ) → k < 4499 → get_or empty k 0 ≡ 0
unfolding empty
zero-at k h = get_or-replicate {A = ℕ} 4499 k 0 0 h

empty-at : (k : ℕ) → get_or empty k 0 ≡ 0
empty-at k = go (dec_lt k 4499)
  where
    go : Dec (k < 4499) → get_or empty k 0 ≡ 0
    go (yes h) = zero-at k h
    go (no h) = get_or-eq_default empty 0 (omega (arith, whole-empty))

pub held-empty : held_of empty ≡ nothing_held
unfolding held_of part rows_of
held-empty = table_same 4096 _ _ (λ k _. empty-at (0 + k))

flow-empty : (i : ℕ) → flow_read empty i ≡ no_flow
unfolding flow_read part
flow-empty i =
    let a = 4416 + 4 * i in
    λ k. record { injection = empty-at (a + 0) k; remainder = empty-at (a + 1) k; number = empty-at (a + 2) k + 256 * empty-at (a + 3) k }

pub flows-empty : flows_of empty ≡ replicate 16 no_flow
unfolding flows_of
flows-empty = table_same 16 _ _ (λ i _. flow-empty i) ∙ sym (replicate-table 16 no_flow)

-- ---- what is stored after the flows and what they hold

module _ (s : List ℕ) (whole : Whole s) (owners : List ℕ) {t₁ : List ℕ} (owned : t₁ ≡ with_owners s owners) where
  beside₁ : Beside 4096 4352 s t₁
  beside₁ = rw owned (beside-owners s owners)

  pub whole-owned : Whole t₁
  whole-owned = beside₁.long ∙ whole

  owners_are : length owners ≡ 256 → owners_of t₁ ≡ owners
  owners_are long = ap owners_of owned ∙ owners-with s owners whole long

module _ (s : List ℕ) {t : List ℕ} (u : Unbounded s t) where
  beside-bounds : Beside 4480 4496 s t
  beside-bounds = rw u (beside-replaced 4480 4496 _ s)

  bound-unknown : Whole s → (i : ℕ) → i < 16 → bound_at t i ≡ 255
  bound-unknown whole i h =
      ap (λ (x : List ℕ). get_or x (4480 + i) 0) u
      ∙ replaced-at (in_range 4480 4496) (λ k x. 255) s (4480 + i) 0 (omega (arith, whole))
      ∙ rw (in-range 4480 4496 (4480 + i) (omega arith) (omega arith))

module _ (w : Window) (s : List ℕ) (whole : Whole s) (owners : List ℕ) (long : length owners ≡ 256) (mark turn : ℕ)
    {t₁ : List ℕ} (owned : t₁ ≡ with_owners s owners) {t₂ : List ℕ} (masked : OwnersMasked w t₁ t₂) {t₃ : List ℕ} (unbound : Unbounded t₂ t₃) where
  whole₂ : Whole t₂
  whole₂ = masked.beside.long ∙ whole-owned s whole owners owned

  whole₃ : Whole t₃
  whole₃ = (beside-bounds t₂ unbound).long ∙ whole₂

  abbrev last : List ℕ
  last = set (set (set t₃ 4496 w.current) 4497 mark) 4498 turn

  ends : Beside 4496 4499 t₃ last
  ends =
      beside-both (beside-both (beside-set t₃ 4496 w.current 4496 4499 (omega arith) (omega arith)) (beside-set _ 4497 mark 4496 4499 (omega arith) (omega arith)))
      (beside-set _ 4498 turn 4496 4499 (omega arith) (omega arith))

  -- what is stored after the masks
  rest : Beside 4480 4499 t₂ last
  rest = beside-both (beside-wider (omega arith) (omega arith) (beside-bounds t₂ unbound)) (beside-wider (omega arith) (omega arith) ends)

  owned-are : owners_of t₁ ≡ owners
  owned-are = owners_are s whole owners owned long

  pub resumed : Resumed w owners mark turn s last
  resumed = record {
    whole = ends.long ∙ whole₃;
    owners_are = owners-beside rest (λ k l₁ h₁ l₂ h₂. omega arith) ∙ owners-beside masked.beside (λ k l₁ h₁ l₂ h₂. omega arith) ∙ owned-are;
    masks_are = rw (masks-beside rest (λ k l₁ h₁ l₂ h₂. omega arith), ← owned-are) masked.masks_are;
    current_is =
        get_or-set_other (set (set t₃ 4496 w.current) 4497 mark) 4498 4496 turn 0 (λ z. omega arith)
        ∙ get_or-set_other (set t₃ 4496 w.current) 4497 4496 mark 0 (λ z. omega arith)
        ∙ get_or-set_same t₃ 4496 w.current 0 (omega (arith, whole₃));
    mark_is =
        get_or-set_other (set (set t₃ 4496 w.current) 4497 mark) 4498 4497 turn 0 (λ z. omega arith)
        ∙ get_or-set_same (set t₃ 4496 w.current) 4497 mark 0 (rw length-set (omega (arith, whole₃)));
    turn_is = get_or-set_same (set (set t₃ 4496 w.current) 4497 mark) 4498 turn 0 (rw (length-set, length-set) (omega (arith, whole₃)));
    bounds_unknown = λ i h. ends.kept (4480 + i) (λ low _. omega arith) ∙ bound-unknown t₂ unbound whole₂ i h;
    flows_stay =
        flows-beside rest (λ k l₁ h₁ l₂ h₂. omega arith) ∙ flows-beside masked.beside (λ k l₁ h₁ l₂ h₂. omega arith)
        ∙ flows-beside (beside₁ s whole owners owned) (λ k l₁ h₁ l₂ h₂. omega arith);
    held_stays = held-beside rest (omega arith) ∙ held-beside masked.beside (omega arith) ∙ held-beside (beside₁ s whole owners owned) (omega arith);
  }
