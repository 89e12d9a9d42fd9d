-- The words `mesh` and `mesh-over`: whether streams are admitted over the mesh, and which links are over. Assumes nothing.
use Rattle.std.specs.Prelude.{ℕ, zero, suc, ◌-◌, ◌%◌, Bool, true, false, not, cond, length, get_or, drop, eqb}
use mathlib.Core.List.{List, ◌∷◌, [], ◌++◌, flat_map}
use Rattle.model.specs.Listing.{text, refusal_line}
use Rattle.mesh.specs.Mesh.{Link}
use Rattle.mesh.specs.Streams.{Stream}
use Rattle.mesh.specs.Admission.{refusal_before_links, refusal, over_links, over_numbers}
use Rattle.mesh.specs.Reading.{streams_of}
use Rattle.replies.specs.Lines.{cannot, spaced}

-- RULES 20.4: whether a set is admitted, a word for yes, and the refusal for no
abbrev pub admission_line : (refusal : ℕ) → List ℕ
admission_line zero = text "ok\n"
admission_line (suc r) = refusal_line (suc r)

-- RULES 20.4: the links that are over, each with its two nodes and its load, or the word for none
abbrev pub links_line : List Stream → List Link → List ℕ
links_line streams [] = text "ok\n"
links_line streams (l ∷ ls) = text "over" ++ flat_map spaced (flat_map (over_numbers streams) (l ∷ ls)) ++ text "\n"

-- the refusals before the links come first
abbrev pub over_line : (before : ℕ) → (F : ℕ) → List Stream → List ℕ
over_line zero F streams = links_line streams (over_links F streams)
over_line (suc r) F streams = refusal_line (suc r)

-- the answer to F and streams
abbrev pub mesh_line : (over : Bool) → (F : ℕ) → List Stream → List ℕ
mesh_line false F streams = admission_line (refusal F streams)
mesh_line true F streams = over_line (refusal_before_links F streams) F streams

-- RULES 20.6: F, and three numbers for each stream
unfoldable pub mesh_answer : (over : Bool) → (numbers : List ℕ) → List ℕ
mesh_answer over numbers =
    cond (eqb (length numbers) 0) (cannot "F is missing")
    (cond (not (eqb ((length numbers - 1) % 3) 0)) (cannot "each stream has a source, a destination and a share: the numbers after F are no multiple of three")
    (mesh_line over (get_or numbers 0 0) (streams_of (drop 1 numbers))))

abbrev pub answer_to_mesh : (numbers : List ℕ) → List ℕ
answer_to_mesh = mesh_answer false

abbrev pub answer_to_over : (numbers : List ℕ) → List ℕ
answer_to_over = mesh_answer true
