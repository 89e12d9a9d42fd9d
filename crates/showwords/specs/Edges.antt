-- Edges of the word `show`: numbers, and the lines that answer them. Assumes nothing.
use Rattle.std.specs.Prelude.{ℕ, ◌≡◌, List, ◌∷◌, [], map}
use Prim.Native.String.{String}
use Rattle.model.specs.Listing.{text}
use Rattle.showwords.specs.Answers.{answer_to_show}

pub record Case : Type 0 where
  pub numbers : List ℕ
  pub lines : String

abbrev says : List ℕ → String → Case
says numbers lines = record { numbers = numbers; lines = lines }

-- Every answer comes out as expected.
abbrev pub Pass : List Case → Type 0
Pass cases = map (λ e. answer_to_show e.numbers) cases ≡ map (λ e. text e.lines) cases

unfoldable pub edges : List Case
edges =
    -- F, W and N, and no stream
    says (16 ∷ 4 ∷ 255 ∷ []) "ok\n"
    ∷ says (65 ∷ 4 ∷ 255 ∷ []) "R 3\n"
    -- a stream from board 0 over board 1 to board 9, with share 1, 2 cells on the way and 3 on the last link
    ∷ says (2 ∷ 2 ∷ 8 ∷ 0 ∷ 9 ∷ 1 ∷ 2 ∷ 3 ∷ []) "ok\nlink 0 1 100001000c0002000200080001020009\nlink 1 9 100001000c0002000200080001030009\n"
    -- two streams over one link, whose shares, and whose cells, are too many
    ∷ says (2 ∷ 2 ∷ 8 ∷ 0 ∷ 1 ∷ 2 ∷ 0 ∷ 9 ∷ 1 ∷ 4 ∷ 4 ∷ 2 ∷ 2 ∷ []) "R 25\nlink 0 1 R 6\nlink 1 9 100001000c0002000200080001020009\n"
    ∷ says (4 ∷ 2 ∷ 8 ∷ 0 ∷ 1 ∷ 2 ∷ 0 ∷ 9 ∷ 1 ∷ 6 ∷ 6 ∷ 3 ∷ 2 ∷ []) "R 7\nlink 0 1 R 7\nlink 1 9 100001000c0004000200080001020009\n"
    -- F, W or N missing, and numbers left over
    ∷ says (2 ∷ 2 ∷ []) "? F, W or N is missing\n"
    ∷ says (2 ∷ 2 ∷ 8 ∷ 0 ∷ 9 ∷ 1 ∷ 2 ∷ [])
    "? each stream has a source, a destination and a share, and cells twice: the numbers after N are no multiple of five\n"
    ∷ []
