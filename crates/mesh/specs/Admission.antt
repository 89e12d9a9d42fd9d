-- Which sets of streams are admitted, and the refusals of the others. RULES 16.3. Assumes nothing.
use Rattle.std.specs.Prelude.{ℕ, ◌≤◌, ◌<◌, ◌≡◌, List, ◌∷◌, [], ◌++◌, Bool, true, not, ◌&&◌, length, leb, ltb, eqb}
use Rattle.model.specs.Tables.{any, within}
use Rattle.model.specs.Refusals.{Line, first_of, ◌when◌}
use Rattle.mesh.specs.Mesh.{Link, to, in_mesh, links, keep, some_of}
use Rattle.mesh.specs.Streams.{Stream, stream, load}

-- RULES 16.3: a stream within its limits, a share of 1 to F, and the nodes of two boards of the mesh
unfoldable pub stream_fits : (F : ℕ) → Stream → Bool
stream_fits F s =
    within 1 F s.share && leb s.source 63 && leb s.destination 63 && not (eqb s.source s.destination)

-- RULES 16.3: a link carries more than F
abbrev pub over : (F : ℕ) → List Stream → Link → Bool
over F streams l = ltb F (load streams l)

-- RULES 16.3: the tests before the links are looked at
abbrev pub number_tests : (F : ℕ) → List Stream → List Line
number_tests F streams =
    -- the number of streams, before anything else is looked at
    25 when ltb 64 (length streams)
    -- F
    ∷ 3 when not (within 1 64 F)
    -- the streams, one by one
    ∷ 4 when any (length streams) (λ i. not (stream_fits F (stream streams i)))
    ∷ []

-- the number of the first of them that applies, and 0 where none does
unfoldable pub refusal_before_links : (F : ℕ) → List Stream → ℕ
refusal_before_links F streams = first_of (number_tests F streams)

-- RULES 16.3: the refusal of a set of streams, and 0 where it is admitted: after those tests, 25 for a link of the mesh that carries too much
unfoldable pub refusal : (F : ℕ) → List Stream → ℕ
refusal F streams = first_of (number_tests F streams ++ (25 when some_of (over F streams) links ∷ []))

-- the links that are over, by from and then to node
unfoldable pub over_links : (F : ℕ) → List Stream → List Link
over_links F streams = keep (over F streams) links

-- a link that is over, as numbers: from node, to node and load
abbrev pub over_numbers : List Stream → Link → List ℕ
over_numbers streams l = l.from ∷ to l ∷ load streams l ∷ []

-- ---- what admitted means

pub record FittingStream (F : ℕ) (s : Stream) : Type 0 where
  pub some_share : 1 ≤ s.share
  pub share_most : s.share ≤ F
  pub source_most : s.source ≤ 63
  pub destination_most : s.destination ≤ 63
  pub ends_differ : s.source ≡ s.destination → ⊥

-- at most 64 streams, each within its limits, and no link of the mesh that carries more than F
pub record Admitted (F : ℕ) (streams : List Stream) : Type 0 where
  pub few : length streams ≤ 64
  pub some_slot : 1 ≤ F
  pub slots_most : F ≤ 64
  pub streams_fit : (i : ℕ) → i < length streams → FittingStream F (stream streams i)
  pub none_over : (l : Link) → in_mesh l ≡ true → load streams l ≤ F
