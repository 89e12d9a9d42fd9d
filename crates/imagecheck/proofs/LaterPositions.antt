-- Positions later than CP: those that are not passed; the position before one; and frames after another. Assumes nothing.
use Prim.Native.Nat.{ℕ, ◌-◌, ◌≤◌, ◌<◌}
use mathlib.Core.Path.{◌≡◌, sym, ap, ◌∙◌}
use mathlib.Core.Bool.{not}
use native.Mathlib.Decide.{dec_le}
use native.Mathlib.Omega.{arith}
use lib.Dec.{leb, ltb}
use borrow.Author.Tests.{le-leb, lt-leb, lt-ltb, le-ltb}
use Rattle.model.specs.Tables.{ahead}
use Rattle.model.specs.Window.{later, passed}
use Rattle.window.specs.declared.Window.{Window}
use Rattle.window.specs.Window.{window_of, size_of, base_of, Proper}
use Rattle.window.proofs.Ranks.{rank_in, rank-high, passed_is}
use Rattle.imagemodel.specs.Consistent.{frame_after}

more-or-less : (a b : ℕ) → ltb a b ≡ not (leb b a)
more-or-less a b = go (dec_le b a)
  where
    go : Dec (b ≤ a) → ltb a b ≡ not (leb b a)
    go (yes h) = rw (le-ltb a b h, le-leb b a h)
    go (no h) = rw (lt-ltb a b (omega arith), lt-leb b a (omega arith))

pub later-is : (w : Window) → Proper w → (p : ℕ) → p < size_of w → later (window_of w) p w.current ≡ not (passed (window_of w) p)
later-is w v p l =
    ap (λ r. ltb r (rank_in w p)) (rank-high w v w.current v.measures.current_below v.base_low)
    ∙ more-or-less (w.current - base_of w) (rank_in w p)
    ∙ ap not (sym (passed_is w v p l))

-- frame j comes after frame k
pub after_is : (w : Window) → Proper w → (j k : ℕ) {x y : ℕ} → x ≡ ahead w.frames w.head k → y ≡ ahead w.frames w.head j
    → frame_after (window_of w) j k ≡ ltb x y
unfolding frame_after
after_is w v j k ex ey = rw (ex, ey, v.head_is)
