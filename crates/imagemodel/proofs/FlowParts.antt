-- The fields of a flow's part of an image. Assumes nothing.
use Prim.Native.Nat.{ℕ, suc, ◌+◌, ◌<◌}
use mathlib.Core.Path.{◌≡◌, ap, ◌∙◌}
use mathlib.Core.List.{◌∷◌, []}
use native.Mathlib.Omega.{arith}
use lib.ListN.{length, get_or, length-append, get_or-append}
use lib.Seq.{get_or-append-add}
use Rattle.model.specs.Link.{Flow}
use Rattle.imagemodel.specs.Image.{flow_part}

module _ (x : Flow) where
  -- IF, C, the holdings and the number
  pub part_length : length (flow_part x) ≡ 3 + length x.held
  part_length = omega (arith, length-append x.held (x.number ∷ []))

  pub part_held : (p : ℕ) → p < length x.held → get_or (flow_part x) (2 + p) 0 ≡ get_or x.held p 0
  part_held p lt =
      let two : 2 + p ≡ suc (suc p) = omega arith in
      ap (λ k. get_or (flow_part x) k 0) two ∙ get_or-append x.held (x.number ∷ []) 0 p lt

  pub part-number : (T : ℕ) → length x.held ≡ T → get_or (flow_part x) (2 + T) 0 ≡ x.number
  part-number T long =
      let last : 2 + T ≡ suc (suc (length x.held + 0)) = omega arith in
      ap (λ k. get_or (flow_part x) k 0) last ∙ get_or-append-add x.held (x.number ∷ []) 0 0
