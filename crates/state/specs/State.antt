-- The parts of a link's state: where each stands, its reader, and a store to it. Assumes nothing.
use Rattle.std.specs.Prelude.{ℕ, ◌+◌, ◌*◌, ◌≡◌, List, length, get_or, set}
use Rattle.model.specs.Tables.{table}
use Rattle.state.specs.Parts.{part, with_part, Beside, number_in, bytes_of}

-- a state has this many bytes
abbrev pub Whole : List ℕ → Type 0
Whole s = length s ≡ 4499

-- ---- what is held

unfoldable pub held_of : List ℕ → List ℕ
held_of s = part s 0 4096

unfoldable pub with_held : List ℕ → (held : List ℕ) → List ℕ
with_held s h = with_part s 0 4096 h

-- ---- the owners

unfoldable pub owners_of : List ℕ → List ℕ
owners_of s = part s 4096 256

unfoldable pub with_owners : List ℕ → (owners : List ℕ) → List ℕ
with_owners s o = with_part s 4096 256 o

-- ---- the masks

unfoldable pub mask_at : List ℕ → (j : ℕ) → ℕ
mask_at s j = number_in (part s (4352 + 8 * j) 8)

unfoldable pub with_mask : List ℕ → (j x : ℕ) → List ℕ
with_mask s j x = with_part s (4352 + 8 * j) 8 (bytes_of 8 x)

unfoldable pub masks_of : List ℕ → List ℕ
masks_of s = table 8 (mask_at s)

-- the masks are these, and nothing else changed
pub record MasksNow (before after : List ℕ) (masks : List ℕ) : Type 0 where
  pub masks_are : masks_of after ≡ masks
  pub beside : Beside 4352 4416 before after

-- ---- for each flow a bound of what it holds

abbrev pub bound_at : List ℕ → (i : ℕ) → ℕ
bound_at s i = get_or s (4480 + i) 0

abbrev pub with_bound : List ℕ → (i x : ℕ) → List ℕ
with_bound s i x = set s (4480 + i) x
