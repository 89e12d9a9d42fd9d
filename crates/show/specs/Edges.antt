-- Edges of shows: what each is refused with, and the plans of some links, worked out by hand. Assumes nothing.
--
-- Boards of the first rows:
--    0  1  2  3  4  5  6  7
--    8  9 10 11 12 13 14 15
use Rattle.std.specs.Prelude.{ℕ, ◌+◌, ◌≡◌, List, ◌∷◌, [], ◌++◌, map, replicate}
use Rattle.model.specs.Tables.{table}
use Rattle.model.specs.Plan as plan
use Rattle.mesh.specs.Mesh.{Link, link, east, south}
use Rattle.mesh.specs.Streams.{stream_with}
use Rattle.show.specs.Show.{Show, ShowStream, link_plan, refusal}

-- ---- ways to write them

-- a stream: source, destination, share, cells on the way and on the last link
abbrev pub sent : (source destination share cells last_cells : ℕ) → ShowStream
sent source destination share cells last_cells = record { stream = stream_with source destination share; cells = cells; last_cells = last_cells }

abbrev pub show_with : (F W N : ℕ) → List ShowStream → Show
show_with F W N streams = record { slots = F; frames = W; buffer = N; streams = streams }

-- streams of share 1 from board 0 to those after it in its row, and then in the second row: so many, all over the link from 0 to 1
abbrev pub fan : ℕ → List ShowStream
fan n = table n (λ i. sent 0 (i + 1) 1 1 1)

abbrev pub fan_below : ℕ → List ShowStream
fan_below n = table n (λ i. sent 0 (i + 9) 1 1 1)

-- ---- refusals

pub record Case : Type 0 where
  pub show : Show
  pub number : ℕ

-- Each case has its number.
abbrev pub Passes : List Case → Type 0
Passes cases = map (λ c. refusal c.show) cases ≡ map (λ c. c.number) cases

abbrev case : (number F W N : ℕ) → List ShowStream → Case
case number F W N streams = record { show = show_with F W N streams; number = number }

unfoldable pub cases : List Case
cases =
    -- no stream, no link: F alone counts
    case 0 16 4 255 []
    ∷ case 0 16 0 0 []
    ∷ case 3 0 4 255 []
    ∷ case 3 65 4 255 []
    -- the mesh's numbers first, in its order
    ∷ case 25 0 0 0 (replicate 65 (sent 5 5 0 0 0))
    ∷ case 3 0 0 0 (sent 5 5 0 0 0 ∷ [])
    ∷ case 4 4 0 0 (sent 5 5 1 0 0 ∷ sent 0 1 4 0 0 ∷ sent 0 1 4 0 0 ∷ [])
    ∷ case 25 4 0 0 (sent 0 1 4 0 0 ∷ sent 0 1 1 0 0 ∷ [])
    -- 17 streams of a link, and 16
    ∷ case 2 64 0 0 (fan 7 ++ fan_below 7 ++ (sent 0 17 1 1 1 ∷ sent 0 18 1 1 1 ∷ sent 0 19 1 1 1 ∷ []))
    ∷ case 0 64 4 16 (fan 7 ++ fan_below 7 ++ (sent 0 17 1 1 1 ∷ sent 0 18 1 1 1 ∷ []))
    -- W, N and F × W
    ∷ case 3 16 1 255 (sent 0 1 1 2 3 ∷ [])
    ∷ case 3 16 9 255 (sent 0 1 1 2 3 ∷ [])
    ∷ case 3 16 4 0 (sent 0 1 1 2 3 ∷ [])
    ∷ case 3 16 4 4096 (sent 0 1 1 2 3 ∷ [])
    ∷ case 3 64 5 255 (sent 0 1 1 2 3 ∷ [])
    ∷ case 0 64 4 255 (sent 0 1 1 2 3 ∷ [])
    -- cells of 0 and 256, before the last link and on it
    ∷ case 4 16 4 4095 (sent 0 2 1 0 3 ∷ [])
    ∷ case 4 16 4 4095 (sent 0 2 1 2 0 ∷ [])
    ∷ case 4 16 4 4095 (sent 0 2 1 256 3 ∷ [])
    ∷ case 4 16 4 4095 (sent 0 2 1 2 256 ∷ [])
    ∷ case 0 16 4 4095 (sent 0 2 1 255 255 ∷ [])
    -- a way of one link has no link before the last
    ∷ case 0 16 4 4095 (sent 0 1 1 0 3 ∷ [])
    -- the same ends, which the mesh takes
    ∷ case 5 16 4 255 (sent 0 1 1 2 3 ∷ sent 0 1 1 2 3 ∷ [])
    -- cells that add to N, and to one more
    ∷ case 0 16 4 6 (sent 0 1 1 2 3 ∷ sent 0 2 1 3 3 ∷ [])
    ∷ case 7 16 4 5 (sent 0 1 1 2 3 ∷ sent 0 2 1 3 3 ∷ [])
    -- of two links with a refusal the first, by from and then to node: 0 to 1 before 0 to 8, and that before 2 to 1, whatever the streams' order
    ∷ case 7 16 4 5 (sent 0 8 1 1 1 ∷ sent 0 8 1 1 1 ∷ sent 0 1 1 1 6 ∷ [])
    ∷ case 5 16 4 5 (sent 2 1 1 1 6 ∷ sent 0 8 1 1 1 ∷ sent 0 8 1 1 1 ∷ [])
    ∷ []

-- ---- plans

-- two streams of one link, where both end, and the link before it
unfoldable pub two_streams : Show
two_streams = show_with 16 4 255 (sent 0 2 1 2 3 ∷ sent 9 8 4 1 1 ∷ sent 1 2 2 4 6 ∷ [])

abbrev flow : (share cells source destination : ℕ) → plan.Entry
flow share cells source destination = record { share = share; cells = cells; source = source; destination = destination }

-- The plans of some links have these flows.
abbrev pub FlowsAre : Show → List Link → List (List plan.Entry) → Type 0
FlowsAre show ls flows = map (λ l. (link_plan show l).entries) ls ≡ flows

abbrev pub some_links : List Link
some_links = link east 0 ∷ link east 1 ∷ link south 1 ∷ []

abbrev pub some_flows : List (List plan.Entry)
some_flows = (flow 1 2 0 2 ∷ []) ∷ (flow 1 3 0 2 ∷ flow 2 6 1 2 ∷ []) ∷ [] ∷ []
