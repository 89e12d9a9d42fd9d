-- Numbers as a stored programme. Assumes nothing.
use Rattle.std.specs.Prelude.{ℕ, ◌+◌, ◌*◌, ◌≡◌, List, false, length, get_or, ltb}
use Rattle.model.specs.Tables.{table, any}
use Rattle.week.specs.declared.Entry.{Entry as CodeEntry}
use Rattle.week.specs.declared.Programme.{Programme}
use Rattle.programmewords.specs.Programmes.{entries_asked}

-- a minute, and three numbers for each of so many entries
pub record WholeEntries (numbers : List ℕ) (count : ℕ) : Type 0 where
  pub many : length numbers ≡ 1 + 3 * count

-- no plan's number has more than 16 bits
pub record NarrowPlans (numbers : List ℕ) (count : ℕ) : Type 0 where
  pub narrow : any count (λ i. ltb 65535 (get_or numbers (1 + 3 * i + 2) 0)) ≡ false

abbrev pub stored_entry : List ℕ → ℕ → CodeEntry
stored_entry numbers i = record { start = get_or numbers (1 + 3 * i) 0; end = get_or numbers (1 + 3 * i + 1) 0; plan = get_or numbers (1 + 3 * i + 2) 0 }

-- a stored programme has 64 places, whatever is asked about
unfoldable pub stored_asked : List ℕ → Programme
stored_asked numbers = record { count = entries_asked numbers; entries = table 64 (stored_entry numbers) }
