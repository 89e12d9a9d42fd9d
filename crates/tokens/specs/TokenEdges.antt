-- Edges of a line's word, fields, numbers and digits, a table each. Assumes nothing.
use Rattle.std.specs.Prelude.{ℕ, ◌≡◌, List, ◌∷◌, [], map, Result, Ok, Err}
use Prim.Native.String.{String}
use Rattle.model.specs.Listing.{text}
use Rattle.tokens.specs.declared.Fault.{Fault}
use Rattle.tokens.specs.declared.Fault.TheVariants.{Missing, NoDigit, LongNumber, NoHexDigit, OddDigits}
use Rattle.tokens.specs.Pieces.{word_of, fields_of, after_word}
use Rattle.tokens.specs.Decimal.{number_of, numbers_in, found_in}
use Rattle.tokens.specs.Hexadecimal.{bytes_of, found_bytes}

-- ---- a line's word and fields. RULES 20.2, and 20.5 for what stands after the word

pub record Parts : Type 0 where
  pub line : String
  pub word : String
  pub fields : List String
  pub after : String

abbrev parts : (line word : String) → (fields : List String) → (after : String) → Parts
parts line word fields after = record { line = line; word = word; fields = fields; after = after }

unfoldable pub part_edges : List Parts
part_edges =
    parts "plan 4 2" "plan" ("4" ∷ "2" ∷ []) "4 2"
    ∷ parts "read" "read" [] ""
    ∷ parts "" "" [] ""
    -- a blank at the end begins an empty field, and so does each of two blanks
    ∷ parts "plan " "plan" ("" ∷ []) ""
    ∷ parts "plan  4" "plan" ("" ∷ "4" ∷ []) " 4"
    -- a line that begins with a blank has an empty word
    ∷ parts " plan" "" ("plan" ∷ []) "plan"
    -- a tab and a carriage return set nothing apart
    ∷ parts "plan\t4 2\r" "plan\t4" ("2\r" ∷ []) "2\r"
    ∷ []

pub record PartsPass (edges : List Parts) : Type 0 where
  pub words : map (λ e. word_of (text e.line)) edges ≡ map (λ e. text e.word) edges
  pub fields : map (λ e. fields_of (text e.line)) edges ≡ map (λ e. map text e.fields) edges
  pub after : map (λ e. after_word (text e.line)) edges ≡ map (λ e. text e.after) edges

-- ---- a field as a number. RULES 20.3, 20.6.3

pub record Field : Type 0 where
  pub field : String
  pub number : Result ℕ Fault

abbrev is : String → ℕ → Field
is field n = record { field = field; number = Ok n }

unfoldable pub field_edges : List Field
field_edges =
    is "0" 0
    ∷ is "9" 9
    ∷ is "10" 10
    ∷ is "4095" 4095
    -- nine digits, zeros in front among them
    ∷ is "999999999" 999999999
    ∷ is "000000004" 4
    ∷ record { field = "0000000004"; number = Err LongNumber }
    ∷ record { field = "1000000000"; number = Err LongNumber }
    ∷ record { field = ""; number = Err Missing }
    -- a sign, a letter, and the two bytes beside the digits
    ∷ record { field = "+4"; number = Err NoDigit }
    ∷ record { field = "4a"; number = Err NoDigit }
    ∷ record { field = "/"; number = Err NoDigit }
    ∷ record { field = ":"; number = Err NoDigit }
    -- which is told before the number of digits
    ∷ record { field = "1234567890x"; number = Err NoDigit }
    ∷ []

abbrev pub FieldsPass : List Field → Type 0
FieldsPass edges = map (λ e. number_of (text e.field)) edges ≡ map (λ e. e.number) edges

-- ---- the numbers of a line, or the first fault from the left

pub record Numbered : Type 0 where
  pub line : String
  pub found : Result ℕ Fault
  pub numbers : List ℕ

unfoldable pub numbered_edges : List Numbered
numbered_edges =
    record { line = "plan"; found = Ok 0; numbers = [] }
    ∷ record { line = "plan 4 02 13"; found = Ok 3; numbers = 4 ∷ 2 ∷ 13 ∷ [] }
    ∷ record { line = "plan "; found = Err Missing; numbers = [] }
    ∷ record { line = "plan 4 x  5"; found = Err NoDigit; numbers = 4 ∷ [] }
    ∷ record { line = "plan 4 5  x"; found = Err Missing; numbers = 4 ∷ 5 ∷ [] }
    ∷ record { line = "plan 1234567890 x"; found = Err LongNumber; numbers = [] }
    ∷ []

pub record NumberedPass (edges : List Numbered) : Type 0 where
  pub found : map (λ e. found_in (fields_of (text e.line))) edges ≡ map (λ e. e.found) edges
  pub numbers : map (λ e. numbers_in (fields_of (text e.line))) edges ≡ map (λ e. e.numbers) edges

-- ---- hexadecimal digits. RULES 20.5, 20.6.2

pub record Digits : Type 0 where
  pub digits : String
  pub found : Result ℕ Fault

unfoldable pub digit_edges : List Digits
digit_edges =
    record { digits = ""; found = Ok 0 }
    ∷ record { digits = "0aA9fF"; found = Ok 3 }
    ∷ record { digits = "140"; found = Err OddDigits }
    -- the bytes beside the digits and the letters, and a blank
    ∷ record { digits = "0/"; found = Err NoHexDigit }
    ∷ record { digits = "0:"; found = Err NoHexDigit }
    ∷ record { digits = "0@"; found = Err NoHexDigit }
    ∷ record { digits = "0G"; found = Err NoHexDigit }
    ∷ record { digits = "0`"; found = Err NoHexDigit }
    ∷ record { digits = "0g"; found = Err NoHexDigit }
    ∷ record { digits = "0 "; found = Err NoHexDigit }
    -- which is told before an odd number of them
    ∷ record { digits = "g"; found = Err NoHexDigit }
    ∷ []

abbrev pub DigitsPass : List Digits → Type 0
DigitsPass edges = map (λ e. found_bytes (text e.digits)) edges ≡ map (λ e. e.found) edges

-- two to a byte, the high one first
abbrev pub BytesPass : Type 0
BytesPass = bytes_of (text "0aA0fF19") ≡ 10 ∷ 160 ∷ 255 ∷ 25 ∷ []
