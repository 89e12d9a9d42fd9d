-- The records below i are taken apart.
use Rattle.std.proofs.Common.{◌≡◌, ℕ, ◌<◌, ◌≤◌, true, List}
use Rattle.timing.specs.File.{playable, kind_at, word_at, is_kind, filled}
use Rattle.timing.proofs.file.split.Given as goal

pub record Apart (records kinds₀ words₀ kinds words : List ℕ) (i : ℕ) : Type 0 where
  pub most : i ≤ playable records
  pub kinds_are : kinds ≡ filled (kind_at records) kinds₀ i
  pub words_are : words ≡ filled (word_at records) words₀ i
  pub known : (k : ℕ) → k < i → is_kind (kind_at records k) ≡ true

abbrev pub invariant-loop-i : goal.invariant-loop-i
invariant-loop-i l = Apart l.records l.fn.kinds l.fn.words l.kinds l.words l.i
