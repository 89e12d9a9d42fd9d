-- Lines at a place of a slice. Assumes nothing.
use Rattle.std.specs.Prelude.{ℕ, ◌+◌, ◌/◌, ◌%◌, ◌≡◌, List, ◌∷◌, [], ◌++◌, Bool, cond, length, leb, ltb}
use Rattle.std.proofs.lemmas.List.Edits.{sets}
use Rattle.model.specs.Listing.{text, digit, decimal}

-- whether the longest line has room at a place: a letter, a space, four digits and a newline
unfoldable pub room : List ℕ → ℕ → Bool
room out at = leb (at + 7) (length out)

-- the slice with a line stored from a place on, if there is room, and otherwise as it was
unfoldable pub out_with : (line out : List ℕ) → ℕ → List ℕ
out_with line out at = cond (room out at) (sets out at line) out

-- the place after a line
unfoldable pub next_after : (line out : List ℕ) → ℕ → ℕ
next_after line out at = cond (room out at) (at + length line) at

-- Bytes are stored from a place on, up to the next. That the length stays follows; it is stated so that callers find it.
pub record Puts (bytes before after : List ℕ) (at next : ℕ) : Type 0 where
  pub stored : after ≡ sets before at bytes
  pub up_to : next ≡ at + length bytes
  pub length_stays : length after ≡ length before

-- the digit of n at a place, a power of ten, if n has one there
unfoldable pub digit_at : ℕ → ℕ → List ℕ
digit_at place n = cond (ltb n place) [] (digit (n / place % 10) ∷ [])

-- a letter and a number
abbrev pub number_line : ℕ → ℕ → List ℕ
number_line letter n = letter ∷ text " " ++ decimal n ++ text "\n"
