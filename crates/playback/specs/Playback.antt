-- Call records of a slice played in place, whose lines go to the start of another slice. Assumes nothing.
use Rattle.std.specs.Prelude.{ℕ, ◌*◌, ◌/◌, ◌≤◌, min, ◌≡◌, List, length, take}
use Rattle.std.proofs.lemmas.List.Edits.{sets}
use Rattle.model.specs.Link.{Link}
use Rattle.model.specs.Listing.{listing, link_after}

-- how many whole records there are, and no more than there is room for, seven bytes a line
abbrev pub playable : (records out : List ℕ) → ℕ
playable records out = min (length records / 5) (length out / 7)

-- `used` bytes of the records are played from link l to link l', and their lines stand in the first `written` bytes of what was `out`,
-- the rest of which is unchanged.
pub record PlayedRecords (l : Link) (records out : List ℕ) (l' : Link) (used written : ℕ) (out' : List ℕ) : Type 0 where
  pub used_is : used ≡ 5 * playable records out
  pub link_is : l' ≡ link_after l (take used records)
  pub written_is : written ≡ length (listing l (take used records))
  pub out_is : out' ≡ sets out 0 (listing l (take used records))
  -- seven bytes a line at most; it is stated so that callers find it
  pub seven_most : 5 * written ≤ 7 * used
