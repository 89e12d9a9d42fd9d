-- The plan's bytes where they are taken from a piece: first two, which say how long it is, and then the others. Assumes nothing.
use Prim.Native.Nat.{ℕ, ◌≤◌, ◌<◌}
use mathlib.Core.Path.{◌≡◌, sym, ap, ◌∙◌, subst}
use mathlib.Core.List.{List, ◌++◌}
use mathlib.Core.Bool.{true, false, not}
use native.Mathlib.Omega.{arith}
use lib.ListN.{length}
use Rattle.model.specs.Tables.{within}
use Rattle.model.specs.Listing.{plan_length}
use Rattle.model.proofs.Tests.{in-range}
use Rattle.program.specs.declared.Kept.{Kept}
use Rattle.program.specs.Stage.{plan_open}
use Rattle.program.specs.State.{bytes_in}
use Rattle.program.proofs.KeptBytes.{length_back, behind, Taken}
use Rattle.program.proofs.PlanStages.{Never, There, fewer-than-stated, open-fewer, same-stated, never_on}

module _ {kept two : Kept} {piece : List ℕ} (t : Taken kept 2 piece two) (there : 2 ≤ two.count) {total : ℕ} (is : total ≡ plan_length two.bytes) where
  two-there : 2 ≤ length (bytes_in two)
  two-there = omega (arith, t.kept.count_is)

  stated-is : total ≡ plan_length (bytes_in two)
  stated-is = is ∙ length_back t.kept two-there

  -- L is none of a plan
  pub never-one : not (within 12 76 total) ≡ true → Never (bytes_in kept ++ piece)
  never-one out =
      subst Never t.seam
      (never_on (bytes_in two) _ (record { two = two-there; out_of_range = ap (λ L. not (within 12 76 L)) (sym stated-is) ∙ out }))

  -- or it is one
  pub stated-range : not (within 12 76 total) ≡ false → (12 ≤ total) × (total ≤ 76)
  stated-range = in-range 12 76 total

  module _ (low : 12 ≤ total) (high : total ≤ 76) {whole : Kept} (w : Taken two total (behind kept two piece) whole) where
    total_is : plan_length (bytes_in whole) ≡ total
    total_is = ap plan_length w.bytes_are ∙ same-stated (bytes_in two) _ two-there ∙ sym stated-is

    pub still-open : whole.count < total → plan_open (bytes_in whole) ≡ true
    still-open few = fewer-than-stated (bytes_in whole) (omega (arith, total_is)) (omega (arith, total_is)) (omega (arith, total_is, w.kept.count_is))

    -- the piece ended before the plan did
    pub ended-within : whole.count < total → bytes_in whole ≡ bytes_in kept ++ piece
    ended-within few = w.piece_ended few ∙ t.seam

    pub all-behind : bytes_in whole ++ behind two whole (behind kept two piece) ≡ bytes_in kept ++ piece
    all-behind = w.seam ∙ t.seam

    module _ (opened : plan_open (bytes_in kept) ≡ true) (before : kept.count ≡ length (bytes_in kept)) where
      -- fewer were kept before
      pub fewer-before : kept.count < total
      fewer-before =
          let fewer = open-fewer (bytes_in kept) _ opened t.bytes_are (omega (arith, stated-is)) in
          omega (arith, stated-is, fewer)

      module _ (all : total ≤ whole.count) where
        pub exactly : plan_length (bytes_in whole) ≡ length (bytes_in whole)
        exactly = omega (arith, total_is, w.kept.count_is, w.most, t.most, fewer-before)

        pub is-there : There (bytes_in whole)
        is-there = record { low = omega (arith, total_is); high = omega (arith, total_is); all = omega (arith, exactly) }
