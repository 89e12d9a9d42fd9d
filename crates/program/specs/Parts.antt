-- What the parts of `feed` ask for and promise. Assumes nothing.
use Rattle.std.specs.Prelude.{ℕ, ◌+◌, ◌*◌, ◌/◌, ◌≤◌, ◌≡◌, List, length}
use Rattle.std.proofs.lemmas.List.Edits.{sets}
use Rattle.model.specs.Plan.{refusal}
use Rattle.model.specs.Listing.{output_after}
use Rattle.program.specs.declared.Progress.{Progress}
use Rattle.program.specs.Stage.{Stage, whole_records, stage_with, stage_fed, written_fed}
use Rattle.program.specs.State.{Stands}

-- The lines of a piece have room.
abbrev pub RoomFor : (piece out : List ℕ) → Type 0
RoomFor piece out = length piece ≤ 5 * (length out / 7)

-- The program stands at stage s, and these lines stand in what was `out` from `at` on.
pub record Leaves (s : Stage) (lines out : List ℕ) (at : ℕ) (r : Progress) (out' : List ℕ) : Type 0 where
  pub stands : Stands r.state s
  pub written_is : r.written ≡ at + length lines
  pub out_is : out' ≡ sets out at lines
  pub room : r.written ≤ length out

-- after a piece that is fed at stage s
abbrev pub LeavesFed : (s : Stage) → (piece out : List ℕ) → (at : ℕ) → (r : Progress) → (out' : List ℕ) → Type 0
LeavesFed s piece = Leaves (stage_fed s piece) (written_fed s piece)

-- after a plan that is all there, and the records behind it
abbrev pub LeavesPlan : (plan rest out : List ℕ) → (at : ℕ) → (r : Progress) → (out' : List ℕ) → Type 0
LeavesPlan plan rest = Leaves (stage_with (refusal plan) plan rest) (output_after (refusal plan) plan (whole_records rest))
