-- A buffer that is refused comes back as it came. Assumes nothing.
use Prim.Native.Nat.{ℕ, zero, suc}
use mathlib.Core.Path.{◌≡◌, refl, sym, ap, ◌∙◌}
use mathlib.Core.List.{List}
use Rattle.model.specs.Calls.{Call}
use Rattle.imagemodel.specs.ValidImage.{refusal_of, ValidImage}
use Rattle.imagemodel.specs.Exports.{Called, HandsBack, refusal_number, called_on}
use Rattle.imagemodel.proofs.ValidImage.{valid-image}
use Rattle.imagemodel.proofs.Exports.{turned_back}

module _ {b : List ℕ} {n : ℕ} (e : n ≡ refusal_of b) where
  pub turned : (c : Call) {r : ℕ} → (n ≡ 0 → ⊥) → r ≡ refusal_number n → HandsBack (called_on b c) r b
  turned c {r} d number = go n e d number
    where
      go : (n : ℕ) → n ≡ refusal_of b → (n ≡ 0 → ⊥) → r ≡ refusal_number n → HandsBack (called_on b c) r b
      go zero q d number = absurd (d refl)
      go (suc n) q d number =
          let x = sym (turned_back b n (sym q) c) in
          (number ∙ ap (λ (y : Called). y.result) x, ap (λ (y : Called). y.buffer) x)

  pub is-valid : n ≡ 0 → ValidImage b
  is-valid z = (valid-image b).0 (sym e ∙ z)
