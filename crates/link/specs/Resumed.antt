-- A state taken up again: the empty one, its masks made from its owners, and what else of a link is stored to it. Assumes nothing.
use Rattle.std.specs.Prelude.{ℕ, ◌<◌, ◌≡◌, List, get_or, replicate}
use Rattle.window.specs.declared.Window.{Window}
use Rattle.window.specs.Ranges.{in_range, replaced}
use Rattle.state.specs.Parts.{Beside}
use Rattle.state.specs.State.{Whole, held_of, owners_of, masks_of, bound_at}
use Rattle.tables.specs.Owners.{WordsOf}
use Rattle.link.specs.Parts.{flows_of}

unfoldable pub empty : List ℕ
empty = replicate 4499 0

-- the masks are those of the owners, and nothing else changed
pub record OwnersMasked (w : Window) (before after : List ℕ) : Type 0 where
  pub masks_are : WordsOf w.slots w.frames (owners_of before) (masks_of after)
  pub beside : Beside 4352 4416 before after

-- no flow has a bound of what it holds, and nothing else changed
abbrev pub Unbounded : (before after : List ℕ) → Type 0
Unbounded before after = after ≡ replaced (in_range 4480 4496) (λ k x. 255) before

-- these are the owners, with their masks, and this is the current position, the mark and the turn; no bound is known, and the flows stay, and what they hold
pub record Resumed (w : Window) (owners : List ℕ) (mark turn : ℕ) (before after : List ℕ) : Type 0 where
  pub whole : Whole after
  pub owners_are : owners_of after ≡ owners
  pub masks_are : WordsOf w.slots w.frames owners (masks_of after)
  pub current_is : get_or after 4496 0 ≡ w.current
  pub mark_is : get_or after 4497 0 ≡ mark
  pub turn_is : get_or after 4498 0 ≡ turn
  pub bounds_unknown : (i : ℕ) → i < 16 → bound_at after i ≡ 255
  pub flows_stay : flows_of after ≡ flows_of before
  pub held_stays : held_of after ≡ held_of before
