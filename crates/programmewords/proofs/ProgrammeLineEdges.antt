-- Every edge of the word `programme` comes out as expected. Assumes nothing.
use Prim.Native.Nat.{ℕ}
use mathlib.Core.Path.{◌≡◌, refl, ap, ap₂, ◌∙◌}
use mathlib.Core.List.{List, ◌∷◌, [], map, flat_map}
use Rattle.model.specs.Tables.{any}
use Rattle.model.specs.Refusals.{first_of}
use Rattle.model.specs.Listing.{digits, decimal}
use Rattle.week.specs.Week.{keeps_limits, running}
use Rattle.week.proofs.ByEnds.{answer_by_ends, answered-by-ends}
use Rattle.programmewords.specs.Programmes.{minute_asked, programme_asked, line_on, answer_to_programme}
use Rattle.programmewords.specs.ProgrammeLineEdges.{Case, Pass, programme_line_edges}

-- the line, by the starts and ends of the entries
abbrev line_by_ends : List ℕ → List ℕ
line_by_ends numbers = line_on numbers (answer_by_ends (programme_asked numbers) (minute_asked numbers))

lines-by-ends : (cases : List Case) → map (λ e. answer_to_programme e.numbers) cases ≡ map (λ e. line_by_ends e.numbers) cases
unfolding answer_to_programme
lines-by-ends [] = refl
lines-by-ends (e ∷ rest) =
    let numbers = e.numbers in
    ap₂ ◌∷◌ (ap (line_on numbers) (answered-by-ends (programme_asked numbers) (minute_asked numbers))) (lines-by-ends rest)

pub programme-lines-hold : Pass programme_line_edges
unfolding programme_line_edges any first_of keeps_limits running flat_map digits decimal
programme-lines-hold = lines-by-ends programme_line_edges ∙ refl
