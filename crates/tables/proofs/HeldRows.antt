-- The rows of a state are those of its holdings. Assumes nothing.
use Prim.Native.Nat.{ℕ, ◌+◌, ◌*◌, ◌/◌, ◌≤◌, ◌<◌}
use mathlib.Core.Path.{◌≡◌, sym, ◌∙◌}
use mathlib.Core.List.{List}
use native.Mathlib.Decide.{dec_lt}
use native.Mathlib.Omega.{arith}
use lib.Seq.{ext_get_or}
use borrow.Author.Tests.{le-ltb}
use Rattle.window.proofs.Ranges.{length-replaced, replaced-at, replaced-off}
use Rattle.model.specs.Window as model
use Rattle.state.specs.State.{Whole, held_of}
use Rattle.state.specs.Parts.{Beside}
use Rattle.state.proofs.Parts.{beside-wider}
use Rattle.state.proofs.State.{length-held, held_at, held_with}
use Rattle.tables.specs.Rows.{row, with_row}
use Rattle.tables.specs.Rows.{carried_rows}
use Rattle.tables.specs.Holdings.{shifted_row, shifted}
use Rattle.tables.proofs.Places.{same_row, beside-row}

module _ (s : List ℕ) (i : ℕ) (few : i < 16) where
  pub row-held : row (held_of s) i ≡ row s i
  row-held = same_row (held_of s) s i (λ p b. held_at s (256 * i + p) (omega arith))

  pub held-with-row : (r : List ℕ) → Whole s → held_of (with_row s i r) ≡ with_row (held_of s) i r
  unfolding with_row
  held-with-row r e = held_with s (256 * i) 256 r e (omega arith)

  pub held-shifted : (w : model.Window) (by p : ℕ) → Whole s → held_of (shifted w by i p s) ≡ shifted w by i p (held_of s)
  held-shifted w by p e =
      held-with-row (shifted_row w by p (row s i)) e ∙ rw row-held

  pub beside-held : (r : List ℕ) → Beside 0 4096 s (with_row s i r)
  beside-held r = beside-wider (omega arith) (omega arith) (beside-row s i r)

-- a range of each of the first n rows carried on
module _ (n last a e : ℕ) (s : List ℕ) (few : n ≤ 16) where
  pub beside-carried : Beside 0 4096 s (carried_rows n last a e s)
  unfolding carried_rows
  beside-carried = record {
    long = length-replaced _ _ s;
    kept = λ k out. replaced-off _ _ s k 0 (rw (le-ltb (k / 256) n (past k out (dec_lt k 4096))));
  }
    where
      past : (k : ℕ) → (0 ≤ k → k < 4096 → ⊥) → Dec (k < 4096) → n ≤ k / 256
      past k out (yes h) = absurd (out (omega arith) h)
      past k out (no h) = omega arith

  pub held_carried : Whole s → last < 256 → held_of (carried_rows n last a e s) ≡ carried_rows n last a e (held_of s)
  unfolding carried_rows
  held_carried whole lb =
      ext_get_or 0 _ _ (length-held _ ∙ sym (length-replaced _ _ (held_of s) ∙ length-held s)) λ k l.
      let b : k < 4096 = rw length-held at l in
      held_at _ k b
      ∙ replaced-at _ _ s k 0 (omega (arith, whole))
      ∙ rw (← held_at s k b, ← held_at s (256 * (k / 256) + last) (omega arith))
      (sym (replaced-at _ _ (held_of s) k 0 (rw length-held b)))
