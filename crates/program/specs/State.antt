-- The program's state read as a stage, and its invariant, which every call asks for and hands back. Assumes nothing.
use Rattle.std.specs.Prelude.{ℕ, ◌≤◌, ◌<◌, ◌≡◌, List, true, ⊤, length, take, replicate}
use Rattle.std.proofs.lemmas.List.Edits.{sets}
use Rattle.link.specs.Steps.{read_of}
use Rattle.program.specs.declared.Kept.{Kept}
use Rattle.program.specs.declared.State.{State}
use Rattle.program.specs.declared.State.TheVariants.{Reading, Playing, Ended}
use Rattle.program.specs.Stage.{Stage, reading, playing, ended, plan_open}

-- ---- bytes that are kept

abbrev pub bytes_in : Kept → List ℕ
bytes_in k = take k.count k.bytes

-- as many as the longest plan has: a header of 12 bytes and 16 entries of four
unfoldable pub zeros : List ℕ
zeros = replicate 76 0

-- k keeps these bytes, and zeros after them
pub record Keeps (k : Kept) (bytes : List ℕ) : Type 0 where
  pub count_is : k.count ≡ length bytes
  pub bytes_are : k.bytes ≡ sets zeros 0 bytes
  pub most : length bytes ≤ 76

-- ---- read as a stage

abbrev pub stage_of : State → Stage
stage_of (Reading kept) = reading (bytes_in kept)
stage_of (Playing link kept) = playing (read_of link) (bytes_in kept)
stage_of Ended = ended

-- ---- the invariant

-- bytes of the plan are still to come
pub record Awaits (kept : Kept) : Type 0 where
  pub kept_well : Keeps kept (bytes_in kept)
  pub still_open : plan_open (bytes_in kept) ≡ true

-- records are played
pub record Plays (kept : Kept) : Type 0 where
  pub kept_well : Keeps kept (bytes_in kept)
  pub not_whole : length (bytes_in kept) < 5

-- the invariant of a state
abbrev pub Regular : State → Type 0
Regular (Reading kept) = Awaits kept
Regular (Playing link kept) = Plays kept
Regular Ended = ⊤

-- a state in which the program stands at a stage
pub record Stands (state : State) (s : Stage) : Type 0 where
  pub stage_is : stage_of state ≡ s
  pub regular : Regular state
