-- The masks of a state with one of them replaced: a position booked, and a frame recycled. Assumes nothing.
use Rattle.std.specs.Prelude.{ℕ, ◌-◌, ◌*◌, ◌<◌, ◌≡◌, List, Bool, not, ◌&&◌, ltb, eqb}
use Rattle.state.specs.State.{mask_at, with_mask}
use Rattle.unbooked.specs.Bits.{bit_at, Bits}

-- mask j is replaced by the one with the bits t, and nothing else changes
pub record WithMask (j : ℕ) (t : ℕ → Bool) (before after : List ℕ) : Type 0 where
  pub mask : ℕ
  pub bits : Bits t mask
  pub fits : mask < 18446744073709551616
  pub is : after ≡ with_mask before j mask

-- position p of frame j is booked
abbrev pub Booked : (F j p : ℕ) (before after : List ℕ) → Type 0
Booked F j p before after = WithMask j (λ i. not (eqb i (p - j * F)) && bit_at (mask_at before j) i) before after

-- nobody owns a slot of frame j
abbrev pub Recycled : (F j : ℕ) (before after : List ℕ) → Type 0
Recycled F j = WithMask j (λ i. ltb i F)
