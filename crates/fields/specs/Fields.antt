-- What reading and writing fields asks. Assumes nothing.
use Rattle.std.specs.Prelude.{ℕ, ◌+◌, ◌*◌, ◌≤◌, ◌<◌, List, ◌∷◌, [], length}
use Rattle.imagemodel.specs.Image.{field_at}

-- each of these numbers fits its 16 bits
abbrev pub AllFit : List ℕ → Type 0
AllFit [] = Unit
AllFit (x ∷ xs) = (x < 65536) × AllFit xs

-- so many fields stand from a place on, at most 256, and each of them is a byte
pub record ByteFields (b : List ℕ) (at count : ℕ) : Type 0 where
  pub few : count ≤ 256
  pub there : at + 2 * count ≤ length b
  pub bytes : (p : ℕ) → p < count → field_at b at p < 256
