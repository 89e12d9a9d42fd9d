-- The bytes of an image's plan, as many as it states, or those that are there. Assumes nothing.
use Prim.Native.Nat.{ℕ, ◌+◌, ◌-◌, ◌≤◌, min}
use mathlib.Core.Path.{◌≡◌, sym, ◌∙◌}
use mathlib.Core.List.{List}
use native.Mathlib.Decide.{dec_le}
use native.Mathlib.Omega.{arith}
use lib.ListN.{length, take, drop, length-drop}
use lib.Seq.{take_all}
use Rattle.model.specs.Plan.{field16}
use Rattle.imagemodel.specs.Image.{plan_part}

pub plan-part : (b : List ℕ) (long end : ℕ) → long ≡ field16 b 18 → end ≡ min (18 + long) (length b) → take (end - 18) (drop 18 b) ≡ plan_part b
plan-part b long end is ends = go (dec_le (18 + long) (length b))
  where
    go : Dec (18 + long ≤ length b) → take (end - 18) (drop 18 b) ≡ plan_part b
    go (yes h) = let e : end - 18 ≡ long = omega arith in rw (e, is)
    go (no h) =
        take_all (end - 18) (drop 18 b) (omega (arith, length-drop 18 b))
        ∙ sym (rw (← is) (take_all long (drop 18 b) (omega (arith, length-drop 18 b))))
