-- How holdings change, for those who do not know how they are stored: one more or one fewer from a position on, and carried on at a frame
-- change. Assumes nothing.
use Prim.Native.Nat.{ℕ, suc, ◌+◌, ◌-◌, ◌≤◌, ◌<◌}
use mathlib.Core.Path.{◌≡◌}
use mathlib.Core.List.{List}
use mathlib.Core.Bool.{true}
use native.Mathlib.Nat.{mod-lt}
use native.Mathlib.Omega.{arith}
use lib.Dec.{ltb}
use borrow.Author.Tests.{ltb-true}
use Rattle.model.specs.Window.{every_from}
use Rattle.window.specs.declared.Window.{Window}
use Rattle.window.specs.Bytes.{wrapped}
use Rattle.window.specs.Ranges.{replaced}
use Rattle.window.specs.Window.{window_of, size_of, base_of, Proper, from_in}
use Rattle.window.proofs.Bytes.{wrapped-up, wrapped-down}
use Rattle.window.proofs.FromOn.{replaced-from}
use Rattle.tables.specs.Rows.{row, Sixteen}
use Rattle.tables.specs.Holdings.{some_held, room_at, shifted_row, last_of, carried_row, carried}
use Rattle.tables.proofs.CarriedRows.{row-of-carried, row-past-carried}

-- past the flows that it is carried on for
pub row-not-carried : (w : Window) (n : ℕ) (h : List ℕ) (i : ℕ) → n ≤ i → row (carried w n h) i ≡ row h i
row-not-carried w n h i b = row-past-carried n (last_of w) _ _ h i b

module _ (w : Window) (v : Proper w) where
  -- ---- from p on

  module _ (p : ℕ) (lp : p < size_of w) (held : List ℕ) where
    -- one more, where there is room
    pub one_more : (cells : ℕ) → cells ≤ 255 → every_from (window_of w) p (room_at held cells) ≡ true
        → shifted_row (window_of w) 1 p held ≡ replaced (from_in (window_of w) p) (λ q. suc) held
    one_more cells few room =
        replaced-from w v p lp (λ x. ltb x cells) (wrapped 1) suc held (λ x e. wrapped-up x (omega (arith, ltb-true x _ e))) room

    -- one fewer, where something is held
    pub one_fewer : every_from (window_of w) p (some_held held) ≡ true
        → shifted_row (window_of w) 255 p held ≡ replaced (from_in (window_of w) p) (λ q x. x - 1) held
    one_fewer some =
        replaced-from w v p lp (λ x. ltb 0 x) (wrapped 255) (λ x. x - 1) held (λ x e. wrapped-down x (ltb-true 0 x e)) some

  -- ---- at a frame change of n flows

  module _ (n : ℕ) (h : List ℕ) (long : Sixteen h) where
    pub last-below : last_of w < 256
    last-below =
        let some : 0 < size_of w = omega (arith, v.measures.current_below) in
        let below = mod-lt (base_of w + size_of w - 1) some in
        omega (arith, v.measures.positions_most)

    pub row_carried : (i : ℕ) → i < n → i < 16 → row (carried w n h) i ≡ carried_row w (row h i)
    row_carried i b l = row-of-carried n (last_of w) _ _ h i b l long last-below
