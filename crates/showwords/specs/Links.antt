-- The line of a link whose plan was written into a buffer, or not. Assumes nothing.
use Rattle.std.specs.Prelude.{ℕ, List, [], ◌++◌}
use Rattle.model.specs.Plan as plan
use Rattle.model.specs.Listing.{text}
use Rattle.model.specs.Calls.{Answer, accepted, refused}
use Rattle.model.specs.WrittenPlan.{bytes_of}
use Rattle.mesh.specs.Mesh.{Link}
use Rattle.replies.specs.Lines.{hex}
use Rattle.showwords.specs.Answers.{nodes_text}

-- room for the longest answer: the first line, and 200 bytes for each of 256 places
abbrev pub room : ℕ
room = 51207

-- a link's line with some bytes
abbrev pub bytes_line : Link → List ℕ → List ℕ
bytes_line l bytes = nodes_text l ++ (hex bytes ++ text "\n")

abbrev pub written_line : Answer ℕ → Link → plan.Plan → List ℕ
written_line (accepted count) l P = bytes_line l (bytes_of P)
written_line (refused number) l P = []
