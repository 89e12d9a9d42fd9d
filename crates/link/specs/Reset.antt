-- The local reset: what it is tested by. Assumes nothing.
use Rattle.std.specs.Prelude.{ℕ, List, Bool, ◌&&◌}
use Rattle.model.specs.Tables.{every}
use Rattle.model.specs.Window.{Window, every_from}
use Rattle.tables.specs.Rows.{row}
use Rattle.tables.specs.Owners.{none_later}
use Rattle.tables.specs.Holdings.{room_at}

-- each of n flows holds less than one at CP and at each later position
abbrev pub none_held_in : Window → (n : ℕ) → (held : List ℕ) → Bool
none_held_in w n held = every n (λ i. every_from w w.current (room_at (row held i) 1))

-- and nobody booked a later position
abbrev pub quiet_in : Window → (n : ℕ) → (owners held : List ℕ) → Bool
quiet_in w n owners held = none_later w owners && none_held_in w n held
