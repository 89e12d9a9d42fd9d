-- A call file in memory: its records taken apart, and calls of one kind in a row. Assumes nothing.
use Rattle.std.specs.Prelude.{◌≡◌, ℕ, zero, suc, ◌+◌, ◌*◌, ◌/◌, ◌<◌, ◌≤◌, min, ◌==◌, Bool, true, false, ◌&&◌, List, length, Option, Some, None, if◌then◌else◌, ◌≢◌, nat_le, nat_lt, slice_index, slice_set}
use Rattle.timing.specs.declared.file.Kind.{Kind}
use Rattle.timing.specs.declared.file.Kind.TheVariants.{Request, Credit, Tick}

-- the number of two bytes, low byte first
abbrev pub two_bytes : List ℕ → ℕ → ℕ
two_bytes bytes at = slice_index bytes at + 256 * slice_index bytes (at + 1)

-- ---- records

-- how many of the records are played
abbrev pub playable : List ℕ → ℕ
playable records = min (length records / 5) 4096

-- record k: its kind, and the number of the four bytes after
abbrev pub kind_at : List ℕ → ℕ → ℕ
kind_at records k = slice_index records (5 * k)

abbrev pub word_at : List ℕ → ℕ → ℕ
word_at records k = two_bytes records (5 * k + 1) + 65536 * two_bytes records (5 * k + 3)

-- a request, a credit or a tick
unfoldable pub is_kind : ℕ → Bool
is_kind x = nat_lt 0 x && nat_le x 3

-- the kind that a byte stands for
abbrev pub kind_of : ℕ → Option Kind
kind_of x = (if x == 1 then Some Request else (if x == 2 then Some Credit else (if x == 3 then Some Tick else None)))

-- xs with f 0, f 1 and so on at its first r places
unfoldable pub filled : (ℕ → ℕ) → List ℕ → ℕ → List ℕ
filled f xs zero = xs
filled f xs (suc r) = slice_set (filled f xs r) r (f r)

-- the first r records are taken apart, up to one that is of no kind
pub record Split (records kinds words kinds' words' : List ℕ) (r : ℕ) : Type 0 where
  pub most : r ≤ playable records
  pub kinds_are : kinds' ≡ filled (kind_at records) kinds r
  pub words_are : words' ≡ filled (word_at records) words r
  pub known : (k : ℕ) → k < r → is_kind (kind_at records k) ≡ true
  pub stops : r < playable records → is_kind (kind_at records r) ≡ false

-- ---- streaks

-- of the first `count` calls, those from `from` up to r are of one kind, and the next, if there is one, is of another
pub record Streak (kinds : List ℕ) (from count r : ℕ) : Type 0 where
  pub more : from < r
  pub most : r ≤ count
  pub same : (k : ℕ) → from ≤ k → k < r → slice_index kinds k ≡ slice_index kinds from
  pub stops : r < count → slice_index kinds r ≢ slice_index kinds from
