-- The word `delay`: when a tile arrives at the latest, and how many cells keep it so. Assumes nothing.
use Rattle.std.specs.Prelude.{ℕ, List, not, cond, length, get_or, eqb}
use Rattle.std.proofs.Math.Option.{Option, some, none}
use Rattle.model.specs.Listing.{refusal_line}
use Rattle.model.specs.Calls.{Answer, accepted, refused}
use Rattle.delay.specs.Bounds.{Bounds, answer_for}
use Rattle.replies.specs.Lines.{cannot, three_line}

-- RULES 20.4: the bound in slots, the cells, and the cells where they are given back when a tile was shown; or `R` and the refusal
abbrev pub line_for : Option (Answer Bounds) → List ℕ
line_for (some (accepted b)) = three_line b.slots b.cells b.shown
line_for (some (refused number)) = refusal_line number
line_for none = cannot "the links are 1 to 14, and the burst 0 to 999"

-- RULES 20.4: `delay F links share burst`, and nothing else
unfoldable pub answer_to_delay : (numbers : List ℕ) → List ℕ
answer_to_delay numbers =
    cond (not (eqb (length numbers) 4)) (cannot "the numbers are F, links, share and burst")
    (line_for (answer_for (get_or numbers 0 0) (get_or numbers 1 0) (get_or numbers 2 0) (get_or numbers 3 0)))
