-- The links of a table of loads that are over. Assumes nothing.
use Rattle.std.specs.Prelude.{ℕ, cond, get_or, ltb}
use mathlib.Core.List.{List, ◌∷◌, [], ◌++◌, flat_map}
use Rattle.model.specs.Tables.{table, any}
use Rattle.model.specs.Listing.{text}
use Rattle.mesh.specs.Mesh.{to}
use Rattle.mesh.specs.Reading.{link_at}
use Rattle.replies.specs.Lines.{spaced}

-- the link at a place, and a load: from node, to node and load
abbrev pub place_numbers : (k load : ℕ) → List ℕ
place_numbers k load = (link_at k).from ∷ to (link_at k) ∷ load ∷ []

-- the numbers of the links at the first places whose loads are above F
unfoldable pub overload_numbers : (F : ℕ) → (loads : List ℕ) → (places : ℕ) → List ℕ
overload_numbers F loads places = flat_map (λ k. cond (ltb F (get_or loads k 0)) (place_numbers k (get_or loads k 0)) []) (table places (λ k. k))

-- the line of a table of loads
abbrev pub table_line : (F : ℕ) → (loads : List ℕ) → List ℕ
table_line F loads =
    cond (any 256 (λ k. ltb F (get_or loads k 0)))
    (text "over" ++ flat_map spaced (overload_numbers F loads 256) ++ text "\n")
    (text "ok\n")
