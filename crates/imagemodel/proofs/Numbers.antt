-- The numbers of a table of refusals, and answers that a 64-bit number can tell. Assumes nothing.
use Prim.Native.Nat.{ℕ, ◌^◌, ◌≤◌, ◌<◌}
use mathlib.Core.Path.{◌≡◌, refl}
use mathlib.Core.List.{List, ◌∷◌, []}
use mathlib.Core.Bool.{true, false}
use native.Mathlib.Omega.{arith}
use Rattle.model.specs.Refusals.{Line, ◌when◌, first_of}
use Rattle.model.specs.Calls.{Answer, accepted, refused}
use Rattle.model.proofs.Tallies.{All}

abbrev number : Line → ℕ
number (r when b) = r

-- no number of a table is above m
pub first_of-most : (m : ℕ) (lines : List Line) → All (λ line. number line ≤ m) lines → first_of lines ≤ m
unfolding first_of
first_of-most m [] below = omega arith
first_of-most m (r when true ∷ lines) below = below.0
first_of-most m (r when false ∷ lines) below = first_of-most m lines below.1

-- where all numbers of a table are m and one applies, m is returned
pub first_of-same : (m : ℕ) (lines : List Line) → All (λ line. number line ≡ m) lines → (first_of lines ≡ 0 → ⊥) → first_of lines ≡ m
unfolding first_of
first_of-same m [] same some = absurd (some refl)
first_of-same m (r when true ∷ lines) same some = same.0
first_of-same m (r when false ∷ lines) same some = first_of-same m lines same.1 some

-- a number of 32 bits
abbrev pub Word : ℕ → Type 0
Word w = w < 2 ^ 32

-- what is answered fits, or the refusal is not 0 and fits
abbrev pub Proper : {A : Type 0} → (A → Type 0) → Answer A → Type 0
Proper Fits (accepted x) = Fits x
Proper Fits (refused r) = (0 < r) × Word r
