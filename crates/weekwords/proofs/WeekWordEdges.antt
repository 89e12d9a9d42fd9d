-- Every edge of the word `week-faults` comes out as expected. Assumes nothing.
use Prim.Native.Nat.{ℕ}
use mathlib.Core.Path.{◌≡◌, refl, ap, ap₂, ◌∙◌}
use mathlib.Core.List.{List, ◌∷◌, [], ◌++◌, map, flat_map}
use lib.ListN.{length}
use Rattle.model.specs.Tables.{any, first_from}
use Rattle.model.specs.Listing.{digits, decimal}
use Rattle.week.specs.Week.{Entry, entry}
use Rattle.faults.specs.Told.{first_told, each_below}
use Rattle.weekwords.specs.WeekFaults.{entries_seen, entries_faults, count_faults, faults_of}
use Rattle.weekwords.specs.WeekWord.{week_asked, line_on, answer_to_week_faults}
use Rattle.weekwords.specs.WeekWordEdges.{Case, Pass, week_word_edges}
use Rattle.weekwords.proofs.SharedMinutes.{shared_by_start, share_is}

-- the faults by the later start, so that no edge goes through the minutes of the week
abbrev faults_by_start : List Entry → List ℕ
faults_by_start entries =
    entries_faults entries (entries_seen entries) ++ count_faults (length entries)
    ++ each_below (entries_seen entries) (λ j. first_told 29 (first_from j 0 (λ i. shared_by_start (entry entries i) (entry entries j))) j)

faults-are : (entries : List Entry) → faults_of entries ≡ faults_by_start entries
unfolding faults_of
faults-are entries = λ t.
    entries_faults entries (entries_seen entries) ++ count_faults (length entries)
    ++ each_below (entries_seen entries) (λ j. first_told 29 (first_from j 0 (λ i. share_is (entry entries i) (entry entries j) t)) j)

by-start : (cases : List Case)
    → map (λ e. answer_to_week_faults e.numbers) cases ≡ map (λ e. line_on e.numbers (faults_by_start (week_asked e.numbers))) cases
unfolding answer_to_week_faults
by-start [] = refl
by-start (c ∷ rest) = ap₂ ◌∷◌ (ap (line_on c.numbers) (faults-are (week_asked c.numbers))) (by-start rest)

pub week-word-holds : Pass week_word_edges
unfolding any first_from digits decimal flat_map week_word_edges
week-word-holds = by-start week_word_edges ∙ refl
