-- Edges of the word `faults`: numbers, and the line that answers them. RULES 15.4, 20.4 and 20.6. Assumes nothing.
--
-- What each comes to is worked out from the rules.
use Rattle.std.specs.Prelude.{ℕ, ◌≡◌}
use Prim.Native.String.{String}
use mathlib.Core.List.{List, ◌∷◌, [], ◌++◌, map, flat_map}
use Rattle.model.specs.Tables.{table}
use Rattle.model.specs.Listing.{text}
use Rattle.faultwords.specs.FaultsWord.{answer_to_faults}

pub record Case : Type 0 where
  pub numbers : List ℕ
  pub line : String

abbrev says : List ℕ → String → Case
says numbers line = record { numbers = numbers; line = line }

-- Every line comes out as expected.
abbrev pub Pass : List Case → Type 0
Pass cases = map (λ e. answer_to_faults e.numbers) cases ≡ map (λ e. text e.line) cases

-- ---- what is tried

abbrev flow : (share cells source destination : ℕ) → List ℕ
flow share cells source destination = share ∷ cells ∷ source ∷ destination ∷ []

-- one flow with share 1 and one cell, from node 1 to node 9
abbrev framed : (F W N : ℕ) → List ℕ
framed F W N = F ∷ W ∷ N ∷ flow 1 1 1 9

-- F = 4, W = 2, N = 8
abbrev small : (flows : List ℕ) → List ℕ
small flows = 4 ∷ 2 ∷ 8 ∷ flows

-- so many flows with share 1 and one cell, to node 63
abbrev many : ℕ → List ℕ
many n = flat_map (λ i. flow 1 1 i 63) (table n (λ i. i))

unfoldable pub faults_word_edges : List Case
faults_word_edges =
    says (4 ∷ 2 ∷ 4 ∷ flow 2 2 1 9 ++ flow 2 2 2 9) "ok\n"
    -- 2: no flow; 16 and 17 of them, of which the last is not looked at
    ∷ says (4 ∷ 2 ∷ 4 ∷ []) "2 0 0\n"
    ∷ says (16 ∷ 2 ∷ 16 ∷ many 16) "ok\n"
    ∷ says (16 ∷ 2 ∷ 16 ∷ many 17) "2 17 0\n"
    ∷ says (16 ∷ 2 ∷ 16 ∷ many 16 ++ flow 0 0 64 64) "2 17 0\n"
    ∷ says (15 ∷ 2 ∷ 16 ∷ many 17) "2 17 0 6 16 15\n"
    -- 3: F, of which the limit of a share goes on; W, T and N
    ∷ says (framed 0 2 4) "3 0 0 4 0 0 6 1 0\n"
    ∷ says (framed 1 2 4) "ok\n"
    ∷ says (framed 64 2 4) "ok\n"
    ∷ says (framed 65 2 4) "3 0 65\n"
    ∷ says (framed 4 1 4) "3 1 1\n"
    ∷ says (framed 4 8 4) "ok\n"
    ∷ says (framed 4 9 4) "3 1 9\n"
    ∷ says (framed 32 8 4) "ok\n"
    ∷ says (framed 43 6 8) "3 2 258\n"
    ∷ says (framed 4 2 0) "3 3 0 7 1 0\n"
    ∷ says (framed 4 2 4095) "ok\n"
    ∷ says (framed 4 2 4096) "3 3 4096\n"
    ∷ says (framed 65 9 0) "3 0 65 3 1 9 3 2 585 3 3 0 7 1 0\n"
    -- 4: a share, cells, a source, a destination, equal nodes; all five
    ∷ says (small (flow 0 1 1 9)) "4 0 0\n"
    ∷ says (small (flow 4 1 1 9)) "ok\n"
    ∷ says (small (flow 5 1 1 9)) "4 0 0 6 5 4\n"
    ∷ says (small (flow 1 0 1 9)) "4 0 1\n"
    ∷ says (4 ∷ 2 ∷ 4000 ∷ flow 1 255 1 9) "ok\n"
    ∷ says (4 ∷ 2 ∷ 4000 ∷ flow 1 256 1 9) "4 0 1\n"
    ∷ says (small (flow 1 300 1 9)) "4 0 1 7 300 8\n"
    ∷ says (small (flow 1 1 63 0)) "ok\n"
    ∷ says (small (flow 1 1 64 9)) "4 0 2\n"
    ∷ says (small (flow 1 1 9 64)) "4 0 3\n"
    ∷ says (small (flow 1 1 9 9)) "4 0 4\n"
    ∷ says (small (flow 0 0 64 64)) "4 0 0 4 0 1 4 0 2 4 0 3 4 0 4\n"
    -- by flow, and then by what is broken of it
    ∷ says (small (flow 1 0 1 9 ++ flow 0 1 2 9 ++ flow 0 1 3 3)) "4 0 1 4 1 0 4 2 0 4 2 4\n"
    -- 5: the first flow that is alike, of each later one; there and back
    ∷ says (small (flow 1 1 1 9 ++ flow 1 1 2 9 ++ flow 1 1 1 9 ++ flow 1 1 1 9)) "5 0 2 5 0 3\n"
    ∷ says (small (flow 1 1 1 9 ++ flow 1 1 2 9 ++ flow 1 1 2 9)) "5 1 2\n"
    ∷ says (small (flow 1 1 1 9 ++ flow 1 1 9 1 ++ flow 1 1 1 8)) "ok\n"
    -- 6 and 7, each and both
    ∷ says (small (flow 2 1 1 9 ++ flow 3 1 2 9)) "6 5 4\n"
    ∷ says (small (flow 1 4 1 9 ++ flow 1 5 2 9)) "7 9 8\n"
    ∷ says (small (flow 2 4 1 9 ++ flow 3 5 2 9)) "6 5 4 7 9 8\n"
    -- one of each
    ∷ says (2 ∷ 1 ∷ 3 ∷ flow 2 2 1 9 ++ flow 1 2 1 9 ++ flow 1 0 5 6) "3 1 1 4 2 1 5 0 1 6 4 2 7 4 3\n"
    -- no question
    ∷ says [] "? F, W or N is missing\n"
    ∷ says (4 ∷ 2 ∷ []) "? F, W or N is missing\n"
    ∷ says (4 ∷ 2 ∷ 8 ∷ 1 ∷ []) "? each flow has a share, cells, a source and a destination: the numbers after N are no multiple of four\n"
    ∷ []
