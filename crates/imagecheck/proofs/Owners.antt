-- An owner's field: known, and booked by a flow. Assumes nothing.
use Prim.Native.Nat.{ℕ, ◌<◌}
use mathlib.Core.Path.{◌≡◌}
use mathlib.Core.Bool.{true}
use native.Mathlib.Decide.{ℕ_discrete}
use native.Mathlib.Omega.{arith}
use lib.Dec.{ltb, eqb}
use borrow.Author.Tests.{eq-eqb, ne_eqb}
use Rattle.imagemodel.specs.Image.{owner_in}
use Rattle.imagemodel.specs.Consistent.{known, booked_by}

pub none-known : (n x : ℕ) → x ≡ 16 → known n (owner_in x) ≡ true
none-known n x e = rw (eq-eqb x 16 e)

pub flow-known : (n x : ℕ) → (x ≡ 16 → ⊥) → known n (owner_in x) ≡ ltb x n
flow-known n x d = rw (ne_eqb x 16 d)

pub booked-in : (i x : ℕ) → i < 16 → booked_by i (owner_in x) ≡ eqb x i
booked-in i x few = go (ℕ_discrete x 16)
  where
    go : Dec (x ≡ 16) → booked_by i (owner_in x) ≡ eqb x i
    go (yes e) = rw (eq-eqb x 16 e, ne_eqb x i (λ z. omega arith))
    go (no d) = rw (ne_eqb x 16 d)
