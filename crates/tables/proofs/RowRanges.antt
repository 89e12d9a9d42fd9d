-- A range of a row's positions as a range of the table's places: tested there, and replaced. Assumes nothing.
use Prim.Native.Nat.{ℕ, ◌+◌, ◌-◌, ◌*◌, ◌≤◌, ◌<◌}
use mathlib.Core.Path.{◌≡◌}
use mathlib.Core.List.{List}
use mathlib.Core.Bool.{Bool, false, cond}
use native.Mathlib.Omega.{arith}
use Rattle.window.specs.Ranges.{in_range, replaced, All, LastIn}
use Rattle.state.proofs.PartRanges.{all-in-part, last-in-part, replaced-in-part}
use Rattle.tables.specs.Rows.{row, with_row}
use Rattle.tables.specs.Holdings.{room_at}
use Rattle.tables.proofs.Places.{row_at}

-- ---- room at a range of row i

module _ (h : List ℕ) (i cells a e : ℕ) (le : e ≤ 256) {f g : ℕ} (from : f ≡ 256 * i + a) (to : g ≡ 256 * i + e) where
  room-at : (q : ℕ) → q < e → room_at h cells (256 * i + q) ≡ room_at (row h i) cells q
  room-at q l = rw (row_at h i q (omega arith))

  pub all_room : {r : Bool} → All (room_at h cells) f g r → All (room_at (row h i) cells) a e r
  all_room x = all-in-part _ _ (256 * i) a e room-at from to x

  pub last-room : {k : ℕ} → LastIn (room_at h cells) f g k → LastIn (room_at (row h i) cells) a e (k - 256 * i)
  last-room x = last-in-part _ _ (256 * i) a e room-at from to x

-- ---- the positions of row i below `size` replaced by f, where f is g at the positions that pass t and leaves the others

module _ (h : List ℕ) (i size : ℕ) (t : ℕ → Bool) (f g : ℕ → ℕ → ℕ) (few : size ≤ 256)
    (same : (q x : ℕ) → q < size → f q x ≡ cond (t q) (g q x) x) (past : (q : ℕ) → size ≤ q → t q ≡ false) where
  pub replaced-in-row : replaced (in_range (256 * i) (256 * i + size)) (λ k x. f (k - 256 * i) x) h ≡ with_row h i (replaced t g (row h i))
  unfolding row with_row
  replaced-in-row =
      let first : 256 * i + 0 ≡ 256 * i = omega arith in
      rw first at (replaced-in-part h (256 * i) 256 0 size t f g few (λ q x _ l. same q x l) (λ q l. absurd (omega arith)) past)
