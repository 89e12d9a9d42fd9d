-- Hexadecimal digits of either case, two to a byte. Assumes nothing.
use Rattle.std.specs.Prelude.{ℕ, ◌+◌, ◌-◌, ◌*◌, ◌/◌, ◌%◌, List, [], Bool, not, cond, length, get_or, eqb, Result, Ok, Err}
use Prim.Native.Char.{code}
use Rattle.model.specs.Tables.{table, within}
use Rattle.tokens.specs.declared.Fault.{Fault}
use Rattle.tokens.specs.declared.Fault.TheVariants.{NoHexDigit, OddDigits}
use Rattle.tokens.specs.Pieces.{each}

-- a byte as a digit, 0 to 15, and 16 where it is none
unfoldable pub hex_digit : ℕ → ℕ
hex_digit b =
    cond (within (code "0") (code "9") b) (b - code "0")
    (cond (within (code "A") (code "F") b) (b - code "A" + 10)
    (cond (within (code "a") (code "f") b) (b - code "a" + 10)
    16))

abbrev pub is_hex_digit : ℕ → Bool
is_hex_digit b = not (eqb (hex_digit b) 16)

-- the byte of the digits 2i and 2i + 1
abbrev pub byte_at : List ℕ → ℕ → ℕ
byte_at digits i = 16 * hex_digit (get_or digits (2 * i) 0) + hex_digit (get_or digits (2 * i + 1) 0)

-- RULES 20.5: the bytes of a line's digits
abbrev pub bytes_of : List ℕ → List ℕ
bytes_of digits = table (length digits / 2) (byte_at digits)

-- RULES 20.5 and 20.6: how many bytes some digits are, or what is wrong with them: a byte that is no digit, or a digit left over
unfoldable pub found_bytes : List ℕ → Result ℕ Fault
found_bytes digits =
    cond (not (each is_hex_digit digits)) (Err NoHexDigit)
    (cond (not (eqb (length digits % 2) 0)) (Err OddDigits)
    (Ok (length digits / 2)))

-- the bytes that are kept: none where something is wrong
abbrev pub kept_of : Result ℕ Fault → List ℕ → List ℕ
kept_of (Ok n) bytes = bytes
kept_of (Err fault) bytes = []
