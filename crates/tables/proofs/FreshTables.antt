-- The tables of a fresh link: one value at every position, and a row of zeros for each flow. Assumes nothing.
use Prim.Native.Nat.{ℕ, ◌<◌}
use mathlib.Core.Path.{◌≡◌, sym, ◌∙◌}
use native.Mathlib.Decide.{dec_lt}
use native.Mathlib.Omega.{arith}
use lib.ListN.{length, get_or, length-replicate, get_or-replicate, get_or-eq_default}
use Rattle.window.proofs.Tabulated.{replicate-table}
use Rattle.tables.specs.Owners.{everywhere}
use Rattle.tables.specs.Rows.{row}
use Rattle.tables.specs.Holdings.{nothing_held}
use Rattle.tables.proofs.Rows.{length-rows-of, row-of-rows}

module _ (v : ℕ) where
  pub length-everywhere : length (everywhere v) ≡ 256
  unfolding everywhere
  length-everywhere = length-replicate 256 v

  pub everywhere-at : (q : ℕ) → q < 256 → get_or (everywhere v) q 0 ≡ v
  unfolding everywhere
  everywhere-at q h = get_or-replicate 256 q v 0 h

-- 0 is also read past the end
pub nothing-at : (q : ℕ) → get_or (everywhere 0) q 0 ≡ 0
nothing-at q = go (dec_lt q 256)
  where
    go : Dec (q < 256) → get_or (everywhere 0) q 0 ≡ 0
    go (yes h) = everywhere-at 0 q h
    go (no h) = get_or-eq_default (everywhere 0) 0 (omega (arith, length-everywhere 0))

pub length-nothing : length nothing_held ≡ 4096
length-nothing = length-rows-of _

pub row-of-nothing : (i : ℕ) → i < 16 → row nothing_held i ≡ everywhere 0
unfolding everywhere
row-of-nothing i h = row-of-rows _ i h ∙ sym (replicate-table 256 0)
