-- Streams, the links that they use, and what a link carries. RULES 16.2. Assumes nothing.
use Rattle.std.specs.Prelude.{ℕ, List, Bool, ◌&&◌, cond, length, get_or, leb, ltb, eqb}
use Rattle.model.specs.Tables.{sum}
use Rattle.mesh.specs.Mesh.{Side, north, west, east, south, Link, column, row}

-- RULES 16.2: a stream, the nodes of the boards that it comes from and goes to, and its slots of a frame
pub record Stream : Type 0 where
  pub source : ℕ
  pub destination : ℕ
  pub share : ℕ

abbrev pub stream_with : (source destination share : ℕ) → Stream
stream_with source destination share = record { source = source; destination = destination; share = share }

abbrev pub no_stream : Stream
no_stream = stream_with 0 0 0

abbrev pub stream : List Stream → ℕ → Stream
stream streams i = get_or streams i no_stream

-- RULES 16.2, the row first and then the column: which of the links that leave a board on a side lie on the way. By where they lie, and not by a
-- walk: in the source's row between the two columns, and in the destination's column between the two rows.
abbrev pub on_way : (source destination : ℕ) → Side → (node : ℕ) → Bool
on_way s d east node = eqb (row node) (row s) && (leb (column s) (column node) && ltb (column node) (column d))
on_way s d west node = eqb (row node) (row s) && (ltb (column d) (column node) && leb (column node) (column s))
on_way s d south node = eqb (column node) (column d) && (leb (row s) (row node) && ltb (row node) (row d))
on_way s d north node = eqb (column node) (column d) && (ltb (row d) (row node) && leb (row node) (row s))

unfoldable pub uses : Stream → Link → Bool
uses s l = on_way s.source s.destination l.side l.from

-- what a stream takes of a link: its share where the link is on its way
abbrev pub share_on : Link → Stream → ℕ
share_on l s = cond (uses s l) s.share 0

-- RULES 16.3: what all streams take of a link together
unfoldable pub load : List Stream → Link → ℕ
load streams l = sum (length streams) (λ i. share_on l (stream streams i))
