-- Edges of what answers are made of, a table each. RULES 20.4, 20.6. Assumes nothing.
use Rattle.std.specs.Prelude.{ℕ, ◌≡◌, List, ◌∷◌, [], map}
use Prim.Native.String.{String}
use Rattle.model.specs.Listing.{text}
use Rattle.tokens.specs.declared.Fault.{Fault}
use Rattle.tokens.specs.declared.Fault.TheVariants.{Missing, NoDigit, LongNumber, NoHexDigit, OddDigits}
use Rattle.replies.specs.Lines.{hex, spaced, three_line, fault_line}

-- ---- bytes: "two hexadecimal digits each, in small letters and without blanks"

pub record Bytes : Type 0 where
  pub bytes : List ℕ
  pub digits : String

unfoldable pub hex_edges : List Bytes
hex_edges =
    record { bytes = []; digits = "" }
    ∷ record { bytes = 0 ∷ 9 ∷ 10 ∷ 15 ∷ 16 ∷ []; digits = "00090a0f10" }
    -- the high digit first
    ∷ record { bytes = 26 ∷ 161 ∷ []; digits = "1aa1" }
    ∷ record { bytes = 159 ∷ 160 ∷ 255 ∷ []; digits = "9fa0ff" }
    ∷ []

abbrev pub HexPass : List Bytes → Type 0
HexPass edges = map (λ e. hex e.bytes) edges ≡ map (λ e. text e.digits) edges

-- ---- numbers: "decimal without leading zeros, with one blank before each but the first thing of the line"

pub record Number : Type 0 where
  pub number : ℕ
  pub said : String

unfoldable pub number_edges : List Number
number_edges =
    record { number = 0; said = " 0" }
    ∷ record { number = 9; said = " 9" }
    ∷ record { number = 10; said = " 10" }
    ∷ record { number = 100; said = " 100" }
    ∷ record { number = 4095; said = " 4095" }
    ∷ []

abbrev pub NumbersPass : List Number → Type 0
NumbersPass edges = map (λ e. spaced e.number) edges ≡ map (λ e. text e.said) edges

-- in the order in which they are given
abbrev pub ThreePass : Type 0
ThreePass = three_line 12 0 345 ≡ text "12 0 345\n"

-- ---- what is wrong with a field, in words

pub record Wrong : Type 0 where
  pub fault : Fault
  pub said : String

unfoldable pub fault_edges : List Wrong
fault_edges =
    record { fault = Missing; said = "? a number is missing: words and numbers are set apart by single spaces\n" }
    ∷ record { fault = NoDigit; said = "? a number has a byte that is no digit\n" }
    ∷ record { fault = LongNumber; said = "? a number has more than nine digits\n" }
    ∷ record { fault = NoHexDigit; said = "? a byte is no hexadecimal digit\n" }
    ∷ record { fault = OddDigits; said = "? the number of hexadecimal digits is odd\n" }
    ∷ []

abbrev pub FaultsPass : List Wrong → Type 0
FaultsPass edges = map (λ e. fault_line e.fault) edges ≡ map (λ e. text e.said) edges
