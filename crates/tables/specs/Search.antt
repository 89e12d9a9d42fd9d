-- The search of a request over the tables: valid positions, what it comes to, read as the model's, and a frame's valid slots in one word.
-- Assumes nothing.
use Rattle.std.specs.Prelude.{ℕ, ◌+◌, ◌≡◌, List, Bool, not, ◌&&◌, ltb, Result, Ok, Err}
use Rattle.tables.specs.declared.Place.{Place}
use Rattle.tables.specs.Owners.{unbooked_at}
use Rattle.tables.specs.Holdings.{room_at}
use Rattle.unbooked.specs.Bits.{bit_at}
use Rattle.model.specs.Tables.{ahead}
use Rattle.model.specs.Window.{Window, start, newest, passed, every_from}
use Rattle.model.specs.Request as model

abbrev pub found_of : Result Place ℕ → model.Found
found_of (Ok place) = model.found place.frame place.left place.position
found_of (Err left) = model.nowhere left

-- RULES 6.2: position p is late enough for a flow with these cells and these holdings: it is not passed, and from it on the flow has room
abbrev pub late_at : Window → (held : List ℕ) (cells p : ℕ) → Bool
late_at w held cells p = not (passed w p) && every_from w p (room_at held cells)

-- position p is valid: nobody booked it, and it is late enough
unfoldable pub valid_at : (owners : List ℕ) (late : ℕ → Bool) (p : ℕ) → Bool
valid_at owners late p = unbooked_at owners p && late p

-- RULES 6.3: position p is late enough, where it is if it passes `late`, and a tile with departure d can leave there
abbrev pub late_after : Window → (d : ℕ) (late : ℕ → Bool) (p : ℕ) → Bool
late_after w d late p = late p && model.can_leave w d p

-- the request rule from frame j with the remainder c up to the newest frame, where a position is valid if it passes `ok`
abbrev pub search_from : Window → (ok : ℕ → Bool) (share j c : ℕ) → model.Found
search_from w ok share j c = model.search w ok share (ahead w.frames j (newest w)) j c

-- ---- a frame's valid slots in one word

-- the word of frame j has a 1 for each of its F slots that is valid, and no other, where a position is valid if it passes `ok`
pub record ValidSlots (w : Window) (ok : ℕ → Bool) (j word : ℕ) : Type 0 where
  pub is : (i : ℕ) → bit_at word i ≡ ltb i w.slots && ok (start w j + i)
