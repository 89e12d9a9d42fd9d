-- What the tests leave of the numbers. Assumes nothing.
use Rattle.std.specs.Prelude.{ℕ, ◌≤◌}

-- so many links and such a burst can be asked about
pub record Asked (m burst : ℕ) : Type 0 where
  pub links_most : m ≤ 14
  pub burst_most : burst ≤ 999

-- a frame and a share that are not refused
pub record Passed (F share : ℕ) : Type 0 where
  pub some_slots : 1 ≤ F
  pub slots_most : F ≤ 64
  pub some_share : 1 ≤ share
  pub share_most : share ≤ F
