-- The word `show`: the refusal of a show, and the plan or the refusal of each link that some stream uses. RULES 25.6. Assumes nothing.
use Rattle.std.specs.Prelude.{ℕ, zero, suc, ◌+◌, ◌-◌, ◌*◌, ◌/◌, ◌%◌, not, cond, length, get_or, take, drop, ltb, eqb}
use mathlib.Core.List.{List, [], ◌++◌, flat_map}
use Rattle.model.specs.Tables.{table}
use Rattle.model.specs.Plan as plan
use Rattle.model.specs.Listing.{text, refusal_line}
use Rattle.model.specs.WrittenPlan.{bytes_of}
use Rattle.mesh.specs.Mesh.{Link, to}
use Rattle.mesh.specs.Reading.{link_at}
use Rattle.replies.specs.Lines.{cannot, hex, spaced}
use Rattle.show.specs.declared.Dome.{Dome}
use Rattle.show.specs.Show.{Show, link_plan, used, plan_refusal, refusal}
use Rattle.show.specs.Reading.{show_of}

-- ---- what is answered

-- the first line: a word where there is no refusal
abbrev pub verdict_line : (refusal : ℕ) → List ℕ
verdict_line zero = text "ok\n"
verdict_line (suc r) = refusal_line (suc r)

-- how a link's line begins: the two boards that it joins
abbrev pub nodes_text : Link → List ℕ
nodes_text l = text "link" ++ spaced l.from ++ spaced (to l) ++ text " "

-- and how it ends: the plan's bytes, two hexadecimal digits each, or the refusal
abbrev pub plan_text : (refusal : ℕ) → plan.Plan → List ℕ
plan_text zero P = hex (bytes_of P) ++ text "\n"
plan_text (suc r) P = refusal_line (suc r)

-- a link that no stream uses has no line
unfoldable pub link_line : Show → Link → List ℕ
link_line show l = cond (used show l) (nodes_text l ++ plan_text (plan_refusal show l) (link_plan show l)) []

-- the lines of the links at the first places, by from and then to node
unfoldable pub link_lines : Show → (places : ℕ) → List ℕ
link_lines show places = flat_map (λ k. link_line show (link_at k)) (table places (λ k. k))

unfoldable pub show_lines : Show → List ℕ
show_lines show = verdict_line (refusal show) ++ link_lines show 256

-- ---- what is asked

-- how many streams, after F, W and N
abbrev pub streams_asked : (numbers : List ℕ) → ℕ
streams_asked numbers = (length numbers - 3) / 5

abbrev pub dome_asked : (numbers : List ℕ) → Dome
dome_asked numbers = record { slots = get_or numbers 0 0; frames = get_or numbers 1 0; buffer = get_or numbers 2 0 }

-- three numbers of each stream, and then two of each
abbrev pub show_asked : (numbers : List ℕ) → Show
show_asked numbers =
    show_of (dome_asked numbers) (take (3 * streams_asked numbers) (drop 3 numbers)) (drop (3 + 3 * streams_asked numbers) numbers)

-- RULES 25.6: the whole answer.
unfoldable pub answer_to_show : (numbers : List ℕ) → List ℕ
answer_to_show numbers =
    cond (ltb (length numbers) 3) (cannot "F, W or N is missing")
    (cond (not (eqb ((length numbers - 3) % 5) 0)) (cannot "each stream has a source, a destination and a share, and cells twice: the numbers after N are no multiple of five")
    (show_lines (show_asked numbers)))
