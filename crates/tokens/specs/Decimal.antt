-- Decimal numbers of at most nine digits. Assumes nothing.
use Rattle.std.specs.Prelude.{ℕ, ◌+◌, ◌-◌, ◌*◌, List, ◌∷◌, [], Bool, not, cond, length, ltb, eqb, Result, Ok, Err}
use Prim.Native.Char.{code}
use Rattle.model.specs.Tables.{within}
use Rattle.tokens.specs.declared.Fault.{Fault}
use Rattle.tokens.specs.declared.Fault.TheVariants.{Missing, NoDigit, LongNumber}
use Rattle.tokens.specs.Pieces.{each}

abbrev pub is_digit : ℕ → Bool
is_digit = within (code "0") (code "9")

-- RULES 20.3: each digit adds to ten times the digits before it
unfoldable pub value_from : ℕ → List ℕ → ℕ
value_from v [] = v
value_from v (b ∷ rest) = value_from (v * 10 + (b - code "0")) rest

-- RULES 20.3 and 20.6: the number of a field, or what is wrong with it: it is empty, has a byte that is no digit, or more than nine
unfoldable pub number_of : List ℕ → Result ℕ Fault
number_of field =
    cond (eqb (length field) 0) (Err Missing)
    (cond (not (each is_digit field)) (Err NoDigit)
    (cond (ltb 9 (length field)) (Err LongNumber)
    (Ok (value_from 0 field))))

abbrev pub number_then : Result ℕ Fault → List ℕ → List ℕ
number_then (Ok n) rest = n ∷ rest
number_then (Err fault) rest = []

-- the numbers of some fields, up to the first that is none
unfoldable pub numbers_in : List (List ℕ) → List ℕ
numbers_in [] = []
numbers_in (field ∷ rest) = number_then (number_of field) (numbers_in rest)

-- so many numbers more
abbrev pub more : ℕ → Result ℕ Fault → Result ℕ Fault
more k (Ok n) = Ok (k + n)
more k (Err fault) = Err fault

abbrev pub found_then : Result ℕ Fault → Result ℕ Fault → Result ℕ Fault
found_then (Ok n) rest = more 1 rest
found_then (Err fault) rest = Err fault

-- how many numbers some fields are, or the first fault
unfoldable pub found_in : List (List ℕ) → Result ℕ Fault
found_in [] = Ok 0
found_in (field ∷ rest) = found_then (number_of field) (found_in rest)
