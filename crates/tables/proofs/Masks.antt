-- A mask replaced in the state, as a word replaced in the list of the masks. Assumes nothing.
use Prim.Native.Nat.{ℕ, ◌<◌}
use mathlib.Core.Path.{◌∙◌, ap}
use mathlib.Core.List.{List}
use mathlib.Core.Bool.{Bool}
use Rattle.state.specs.State.{Whole, masks_of}
use Rattle.state.proofs.State.{masks-set, masks-at}
use Rattle.unbooked.specs.Words as words
use Rattle.tables.specs.Masks.{WithMask, Booked}

module _ {before after : List ℕ} (whole : Whole before) {j : ℕ} (h : j < 8) where
  pub mask-as-word : {t : ℕ → Bool} → WithMask j t before after → words.WithWord j t (masks_of before) (masks_of after)
  mask-as-word v = record {
    word = v.mask;
    bits = v.bits;
    is = ap masks_of v.is ∙ masks-set before j v.mask whole h v.fits;
  }

  pub booked-as-word : (F p : ℕ) → Booked F j p before after → words.Booked F j p (masks_of before) (masks_of after)
  booked-as-word F p v = rw (masks-at before j h) (mask-as-word v)
