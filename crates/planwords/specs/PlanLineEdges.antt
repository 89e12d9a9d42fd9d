-- Edges of the words `plan`, `room` and `read`: numbers or digits, and the line that answers them. Assumes nothing.
use Rattle.std.specs.Prelude.{ℕ, ◌≡◌}
use Prim.Native.String.{String}
use mathlib.Core.List.{List, ◌∷◌, [], map, flat_map}
use Rattle.model.specs.Tables.{table}
use Rattle.model.specs.Listing.{text}
use Rattle.planwords.specs.Plans.{answer_to_plan, answer_to_room}
use Rattle.planwords.specs.Reads.{digits_line}

-- ---- numbers, and the bytes of their plan. RULES 15, 20.4

pub record Numbers : Type 0 where
  pub numbers : List ℕ
  pub line : String

abbrev says : List ℕ → String → Numbers
says numbers line = record { numbers = numbers; line = line }

-- so many flows of share 1 with one cell, from the nodes 0, 1 and so on to 63
abbrev flows : ℕ → List ℕ
flows n = flat_map (λ i. 1 ∷ 1 ∷ i ∷ 63 ∷ []) (table n (λ i. i))

unfoldable pub plan_line_edges : List Numbers
plan_line_edges =
    -- length 16, one flow, offset 12, F, W and N; then share, cells, source and destination, in this order
    says (4 ∷ 2 ∷ 13 ∷ 3 ∷ 11 ∷ 5 ∷ 9 ∷ []) "100001000c00040002000d00030b0509\n"
    -- low byte first
    ∷ says (4 ∷ 2 ∷ 513 ∷ 1 ∷ 1 ∷ 1 ∷ 9 ∷ []) "100001000c0004000200010201010109\n"
    ∷ says (4 ∷ 2 ∷ 4 ∷ 2 ∷ 2 ∷ 1 ∷ 9 ∷ 2 ∷ 2 ∷ 2 ∷ 9 ∷ []) "140002000c000400020004000202010902020209\n"
    -- the refusals, the first that applies
    ∷ says (4 ∷ 2 ∷ 4 ∷ []) "R 2\n"
    ∷ says (0 ∷ 2 ∷ 4 ∷ flows 17) "R 2\n"
    ∷ says (65 ∷ 2 ∷ 4 ∷ 1 ∷ 1 ∷ 1 ∷ 9 ∷ []) "R 3\n"
    ∷ says (4 ∷ 2 ∷ 4 ∷ 5 ∷ 1 ∷ 1 ∷ 9 ∷ []) "R 4\n"
    ∷ says (4 ∷ 2 ∷ 4 ∷ 1 ∷ 256 ∷ 1 ∷ 9 ∷ []) "R 4\n"
    ∷ says (4 ∷ 2 ∷ 4 ∷ 4 ∷ 1 ∷ 1 ∷ 9 ∷ 4 ∷ 4 ∷ 1 ∷ 9 ∷ []) "R 5\n"
    ∷ says (4 ∷ 2 ∷ 4 ∷ 2 ∷ 2 ∷ 1 ∷ 9 ∷ 3 ∷ 3 ∷ 2 ∷ 9 ∷ []) "R 6\n"
    ∷ says (4 ∷ 2 ∷ 4 ∷ 2 ∷ 2 ∷ 1 ∷ 9 ∷ 2 ∷ 3 ∷ 2 ∷ 9 ∷ []) "R 7\n"
    -- no question, whatever the others are
    ∷ says (0 ∷ 2 ∷ []) "? F, W or N is missing\n"
    ∷ says (0 ∷ 2 ∷ 4 ∷ 1 ∷ 1 ∷ 1 ∷ []) "? each flow has a share, cells, a source and a destination: the numbers after N are no multiple of four\n"
    ∷ []

abbrev pub PlansPass : List Numbers → Type 0
PlansPass edges = map (λ e. answer_to_plan e.numbers) edges ≡ map (λ e. text e.line) edges

-- ---- the same, in a buffer of so many bytes. RULES 15, 20.4

unfoldable pub room_line_edges : List Numbers
room_line_edges =
    says (16 ∷ 4 ∷ 2 ∷ 13 ∷ 3 ∷ 11 ∷ 5 ∷ 9 ∷ []) "100001000c00040002000d00030b0509\n"
    ∷ says (15 ∷ 4 ∷ 2 ∷ 13 ∷ 3 ∷ 11 ∷ 5 ∷ 9 ∷ []) "R 19\n"
    -- 19 comes last
    ∷ says (0 ∷ 4 ∷ 2 ∷ 13 ∷ 3 ∷ 14 ∷ 5 ∷ 9 ∷ []) "R 7\n"
    ∷ says [] "? the buffer's size is missing\n"
    ∷ says (16 ∷ 4 ∷ 2 ∷ []) "? F, W or N is missing\n"
    ∷ says (16 ∷ 4 ∷ 2 ∷ 13 ∷ 3 ∷ []) "? each flow has a share, cells, a source and a destination: the numbers after N are no multiple of four\n"
    ∷ []

abbrev pub RoomsPass : List Numbers → Type 0
RoomsPass edges = map (λ e. answer_to_room e.numbers) edges ≡ map (λ e. text e.line) edges

-- ---- digits, and the question that asks for these bytes. RULES 2.3, 20.5

pub record Digits : Type 0 where
  pub digits : String
  pub line : String

unfoldable pub read_line_edges : List Digits
read_line_edges =
    record { digits = "100001000c00040002000d00030b0509"; line = "plan 4 2 13 3 11 5 9\n" }
    ∷ record { digits = "140002000C000400020004000202010902020209"; line = "plan 4 2 4 2 2 1 9 2 2 2 9\n" }
    -- no byte, a byte too few and one too many; no flow; F = 65
    ∷ record { digits = ""; line = "R 1\n" }
    ∷ record { digits = "100001000c00040002000d00030b05"; line = "R 1\n" }
    ∷ record { digits = "100001000c00040002000d00030b050900"; line = "R 1\n" }
    ∷ record { digits = "0c0000000c00040002000d00"; line = "R 2\n" }
    ∷ record { digits = "100001000c00410002000d00030b0509"; line = "R 3\n" }
    -- no digits
    ∷ record { digits = "1"; line = "? the number of hexadecimal digits is odd\n" }
    ∷ record { digits = " 10"; line = "? a byte is no hexadecimal digit\n" }
    ∷ []

abbrev pub ReadsPass : List Digits → Type 0
ReadsPass edges = map (λ e. digits_line (text e.digits)) edges ≡ map (λ e. text e.line) edges
