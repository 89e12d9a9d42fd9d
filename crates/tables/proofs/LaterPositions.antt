-- The positions later than CP: two ranges, the one after CP up to the end of the table and the one before the head frame. Assumes nothing.
use Prim.Native.Nat.{ℕ, ◌+◌, ◌-◌, ◌≤◌, ◌<◌}
use mathlib.Core.Path.{◌≡◌, refl, sym}
use mathlib.Core.List.{List}
use mathlib.Core.Bool.{Bool, true, false, not, ◌||◌}
use native.Mathlib.Decide.{dec_lt}
use native.Mathlib.Omega.{arith}
use borrow.Author.Tests.{lt-ltb, le-ltb}
use Rattle.model.specs.Window as model
use Rattle.window.specs.declared.Window.{Window}
use Rattle.window.specs.Ranges.{All, Miss}
use Rattle.window.specs.Window.{window_of, size_of, base_of, Proper}
use Rattle.window.proofs.Tabulated.{every-intro, every-miss}
use Rattle.window.proofs.Ranks.{rank_in, rank-high, rank-low}
use Rattle.tables.specs.Owners.{unbooked_at, none_later}

module _ (w : Window) (v : Proper w) where
  -- later than CP
  abbrev later_than : ℕ → Bool
  later_than q = model.later (window_of w) q w.current

  current_below : w.current < size_of w
  current_below = v.measures.current_below

  current-rank : rank_in w w.current ≡ w.current - base_of w
  current-rank = rank-high w v w.current current_below v.base_low

  after-current : (q : ℕ) → w.current < q → q < size_of w → later_than q ≡ true
  after-current q h b =
      lt-ltb (rank_in w w.current) (rank_in w q)
      (omega (arith, current-rank, rank-high w v q b (omega (arith, v.base_low)), v.base_low))

  before_head : (q : ℕ) → q < base_of w → later_than q ≡ true
  before_head q h =
      lt-ltb (rank_in w w.current) (rank_in w q) (omega (arith, current-rank, rank-low w v q h, current_below, v.base_low))

  in_between : (q : ℕ) → base_of w ≤ q → q ≤ w.current → later_than q ≡ false
  in_between q h b =
      le-ltb (rank_in w w.current) (rank_in w q) (omega (arith, current-rank, rank-high w v q (omega (arith, current_below)) h))

  module _ (owners : List ℕ) where
    booked-later : (q : ℕ) → q < size_of w → later_than q ≡ true → unbooked_at owners q ≡ false → none_later (window_of w) owners ≡ false
    unfolding none_later
    booked-later q b late booked = every-miss (size_of w) _ q b (rw (late, booked))

    -- one of those after CP is booked
    pub booked_after : Miss (unbooked_at owners) (w.current + 1) (size_of w) → none_later (window_of w) owners ≡ false
    booked_after m = booked-later m.at m.below (after-current m.at (omega (arith, m.from)) m.below) m.fails

    -- none of those after CP is booked: it depends on those before the head frame
    module _ (none_after : (q : ℕ) → w.current + 1 ≤ q → q < size_of w → unbooked_at owners q ≡ true) where
      pub booked-before : (r : Bool) → All (unbooked_at owners) 0 (base_of w) r → r ≡ none_later (window_of w) owners
      unfolding none_later
      booked-before true x = sym (every-intro (size_of w) _ (λ q b. go q b (dec_lt q (base_of w)) (dec_lt w.current q)))
        where
          go : (q : ℕ) → q < size_of w → Dec (q < base_of w) → Dec (w.current < q) → not (later_than q) || unbooked_at owners q ≡ true
          go q b (yes h) d = rw (before_head q h, x.pass refl q (omega arith) h)
          go q b (no h) (yes d) = rw (after-current q d b, none_after q (omega arith) b)
          go q b (no h) (no d) = rw (in_between q (omega arith) (omega arith))
      booked-before false x =
          let m = x.miss refl in
          sym (booked-later m.at (omega (arith, m.below, v.base_fits)) (before_head m.at m.below) m.fails)
