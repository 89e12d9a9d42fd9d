-- `link::request::book` meets its contract. Assumes nothing.
use native.Mathlib.Omega.{arith}
use Rattle.unbooked.proofs.FrameWords.{in_window}
use Rattle.link.proofs.request.book.Statement.{statement}
use Rattle.link.proofs.request.book.Tie as tie

cast-s : tie.Need-overflow_cast-s
cast-s c = omega (arith, c.requires.1)

add-s : tie.Need-overflow_add-s
add-s c = let f = c.requires.0 in omega (arith, in_window f, f.proper.measures.positions_most)

element-write-s : tie.Need-bounds-s-position
element-write-s c = let f = c.requires.0 in omega (arith, in_window f, f.proper.measures.positions_most)

book-requires : tie.Need-book-requires
book-requires c κs = c.requires.0

raise-from-requires : tie.Need-raise_from-requires
raise-from-requires c κs =
    let s = c.before.before.before in
    record { proper = s.requires.0.proper; flow = s.requires.1; position = in_window s.requires.0 }

returns : tie.Need-returns
returns c = let b = c.before.before in record { masked = b.book.new.s; booked = b.book.ensures; is = c.raise_from.ensures }

pub book_spec : {M : Type 1} → statement M
book_spec = tie.close (tie.spec cast-s add-s element-write-s book-requires raise-from-requires returns)
