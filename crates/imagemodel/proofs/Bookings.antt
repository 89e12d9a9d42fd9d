-- A flow's bookings in a frame, and what a change of the owners does to them. Assumes nothing.
use Prim.Native.Nat.{ℕ, zero, suc, ◌+◌, ◌*◌, ◌<◌}
use mathlib.Core.Path.{◌≡◌, refl, sym, ap, ◌∙◌}
use mathlib.Core.List.{List}
use mathlib.Core.Option.{Option, none}
use native.Mathlib.Nat.{mul-le-mul_right}
use native.Mathlib.Decide.{ℕ_discrete}
use native.Mathlib.Omega.{arith}
use lib.ListN.{get_or}
use Rattle.model.specs.Tables.{sum, bit}
use Rattle.model.specs.Plan.{Plan, positions}
use Rattle.model.proofs.Tallies.{sum-const}
use Rattle.imagemodel.specs.Consistent.{booked_by, bookings_in}

-- ---- sums

sum_same : (m : ℕ) (f g : ℕ → ℕ) → ((x : ℕ) → x < m → g x ≡ f x) → sum m g ≡ sum m f
unfolding sum
sum_same zero f g h = refl
sum_same (suc m) f g h = omega (arith, h m (omega arith), sum_same m f g (λ x l. h x (omega arith)))

-- a term that is one more
sum-one-more : (m : ℕ) (f g : ℕ → ℕ) (y : ℕ) → y < m → g y ≡ suc (f y) → ((x : ℕ) → x < m → (x ≡ y → ⊥) → g x ≡ f x) → sum m g ≡ suc (sum m f)
unfolding sum
sum-one-more zero f g y l e h = absurd (omega arith)
sum-one-more (suc m) f g y l e h =
    go (λ l'. sum-one-more m f g y l' e (λ x k. h x (omega arith))) (ℕ_discrete y m)
  where
    go : (y < m → sum m g ≡ suc (sum m f)) → Dec (y ≡ m) → g m + sum m g ≡ suc (f m + sum m f)
    go rest (yes z) =
        let here : g m ≡ suc (f m) = ap g (sym z) ∙ e ∙ ap (λ k. suc (f k)) z in
        omega (arith, sum_same m f g (λ x k. h x (omega arith) (λ d. omega arith)))
    go rest (no d) = omega (arith, rest (omega arith), h m (omega arith) (λ z. d (sym z)))

-- ---- positions of a frame

-- slot x of frame j is a position
pub place-below : (P : Plan) (j x : ℕ) → j < P.frames → x < P.slots → j * P.slots + x < positions P
place-below P j x lj lx = omega (arith, mul-le-mul_right P.slots lj)

-- ---- bookings, where the owners are changed

-- whether flow i booked position p, as a number
abbrev pub booking : List (Option ℕ) → (i p : ℕ) → ℕ
booking owners i p = bit (booked_by i (get_or owners p none))

module _ (P : Plan) (old new : List (Option ℕ)) (i j : ℕ) where
  abbrev place : ℕ → ℕ
  place x = j * P.slots + x

  pub bookings-same : ((x : ℕ) → x < P.slots → booking new i (place x) ≡ booking old i (place x)) → bookings_in P new i j ≡ bookings_in P old i j
  unfolding bookings_in
  bookings-same h = sum_same P.slots (λ x. booking old i (place x)) (λ x. booking new i (place x)) h

  pub bookings-one-more : (y : ℕ) → y < P.slots → booking new i (place y) ≡ suc (booking old i (place y))
      → ((x : ℕ) → x < P.slots → (x ≡ y → ⊥) → booking new i (place x) ≡ booking old i (place x)) → bookings_in P new i j ≡ suc (bookings_in P old i j)
  unfolding bookings_in
  bookings-one-more y l e h = sum-one-more P.slots (λ x. booking old i (place x)) (λ x. booking new i (place x)) y l e h

pub bookings-none : (P : Plan) (owners : List (Option ℕ)) (i j : ℕ) → ((x : ℕ) → x < P.slots → booking owners i (j * P.slots + x) ≡ 0)
    → bookings_in P owners i j ≡ 0
unfolding bookings_in
bookings-none P owners i j h =
    sum_same P.slots (λ x. 0) (λ x. booking owners i (j * P.slots + x)) h ∙ (let z = sum-const P.slots 0 in omega arith)
