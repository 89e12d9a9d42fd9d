-- What answers are made of. Assumes nothing.
use Rattle.std.specs.Prelude.{ℕ, ◌+◌, ◌-◌, ◌/◌, ◌%◌, ◌≤◌, ◌≡◌, cond, length, ltb}
use Prim.Native.Char.{code}
use Prim.Native.String.{String}
use mathlib.Core.List.{List, ◌∷◌, [], ◌++◌, flat_map}
use Rattle.std.proofs.lemmas.List.Edits.{sets}
use Rattle.model.specs.Listing.{text, decimal}
use Rattle.tokens.specs.declared.Fault.{Fault}
use Rattle.tokens.specs.declared.Fault.TheVariants.{Missing, NoDigit, LongNumber, NoHexDigit, OddDigits}

-- RULES 20.6: the answer to what is no question
abbrev pub cannot : String → List ℕ
cannot reason = text "? " ++ text reason ++ text "\n"

-- RULES 20.4: a hexadecimal digit, in small letters
abbrev pub hex_glyph : ℕ → ℕ
hex_glyph d = cond (ltb d 10) (code "0" + d) (code "a" + (d - 10))

-- two hexadecimal digits for each byte
unfoldable pub hex : List ℕ → List ℕ
hex bytes = flat_map (λ b. hex_glyph (b / 16) ∷ hex_glyph (b % 16) ∷ []) bytes

-- a number after a space
abbrev pub spaced : ℕ → List ℕ
spaced n = text " " ++ decimal n

-- three numbers
abbrev pub three_line : (first second third : ℕ) → List ℕ
three_line first second third = decimal first ++ spaced second ++ spaced third ++ text "\n"

-- RULES 20.6: what is wrong with a field, in words
unfoldable pub fault_line : Fault → List ℕ
fault_line Missing = cannot "a number is missing: words and numbers are set apart by single spaces"
fault_line NoDigit = cannot "a number has a byte that is no digit"
fault_line LongNumber = cannot "a number has more than nine digits"
fault_line NoHexDigit = cannot "a byte is no hexadecimal digit"
fault_line OddDigits = cannot "the number of hexadecimal digits is odd"

-- room for the longest answer
abbrev pub room : ℕ
room = 16384

-- An answer stands at the start of a slice, in which it has room.
pub record Says (answer before after : List ℕ) (count : ℕ) : Type 0 where
  pub stored : after ≡ sets before 0 answer
  pub many : count ≡ length answer
  pub fits : count ≤ length before
