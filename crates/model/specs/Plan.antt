-- The plan, its bytes and refusals 1 to 7. RULES 2.1 to 2.4. Assumes nothing.
use Rattle.std.specs.Prelude.{ℕ, ◌+◌, ◌*◌, ◌≤◌, ◌<◌, ◌≡◌, List, ◌∷◌, [], Bool, not, ◌&&◌, ◌||◌, length, get_or, drop, ltb, eqb}
use Rattle.model.specs.Tables.{table, any, sum, within}
use Rattle.model.specs.Refusals.{Line, first_of, ◌when◌}

-- ---- the plan

-- RULES 2.1: what a flow has
pub record Entry : Type 0 where
  pub share : ℕ
  pub cells : ℕ
  pub source : ℕ
  pub destination : ℕ

-- RULES 2.1: what a plan has
pub record Plan : Type 0 where
  pub slots : ℕ  -- F, the slots of a frame
  pub frames : ℕ  -- W, the frames of the window
  pub buffer : ℕ  -- N, the quanta that the next board's buffer holds
  pub entries : List Entry

abbrev pub no_entry : Entry
no_entry = record { share = 0; cells = 0; source = 0; destination = 0 }

-- RULES 1.4: T, which is F × W
abbrev pub positions : Plan → ℕ
positions P = P.slots * P.frames

-- RULES 1.4: n, the number of flows
abbrev pub flow_count : Plan → ℕ
flow_count P = length P.entries

-- RULES 2.1: flow i is that of entry i
abbrev pub entry : Plan → ℕ → Entry
entry P i = get_or P.entries i no_entry

-- ---- the bytes

-- RULES 2.2: the six fields that a file begins with
pub record Header : Type 0 where
  pub total : ℕ
  pub count : ℕ
  pub offset : ℕ
  pub slots : ℕ
  pub frames : ℕ
  pub buffer : ℕ

-- RULES 1.2: the field at a place
abbrev pub field16 : List ℕ → ℕ → ℕ
field16 b at = get_or b at 0 + 256 * get_or b (at + 1) 0

abbrev pub header_of : List ℕ → Header
header_of b = record {
  total = field16 b 0;
  count = field16 b 2;
  offset = field16 b 4;
  slots = field16 b 6;
  frames = field16 b 8;
  buffer = field16 b 10;
}

-- RULES 2.2: the bytes of entry i, where the entries begin
abbrev pub entry_of : List ℕ → ℕ → Entry
entry_of part i = record {
  share = get_or part (4 * i) 0;
  cells = get_or part (4 * i + 1) 0;
  source = get_or part (4 * i + 2) 0;
  destination = get_or part (4 * i + 3) 0;
}

-- RULES 2.2: n entries, each read from its own four bytes
abbrev pub entries_of : ℕ → List ℕ → List Entry
entries_of n part = table n (entry_of part)

-- the plan of a header and its entries
abbrev pub plan_with : Header → List Entry → Plan
plan_with h es = record { slots = h.slots; frames = h.frames; buffer = h.buffer; entries = es }

-- RULES 2.2: the plan of a file, whose entries begin at byte 12
abbrev pub plan_of : List ℕ → Plan
plan_of b = plan_with (header_of b) (entries_of (header_of b).count (drop 12 b))

-- ---- the limits, by name. RULES 2.3

abbrev pub most_flows : ℕ
most_flows = 16

abbrev pub most_slots : ℕ
most_slots = 64

abbrev pub most_frames : ℕ
most_frames = 8

abbrev pub most_buffer : ℕ
most_buffer = 4095

abbrev pub most_positions : ℕ
most_positions = 256

abbrev pub most_cells : ℕ
most_cells = 255

abbrev pub last_node : ℕ
last_node = 63

-- ---- and what keeps them

abbrev pub count_fits : (n : ℕ) → Bool
count_fits n = within 1 most_flows n

abbrev pub slots_fit : (F : ℕ) → Bool
slots_fit F = within 1 most_slots F

abbrev pub frames_fit : (W : ℕ) → Bool
frames_fit W = within 2 most_frames W

abbrev pub buffer_fits : (N : ℕ) → Bool
buffer_fits N = within 1 most_buffer N

abbrev pub many_positions : (T : ℕ) → Bool
many_positions T = ltb most_positions T

abbrev pub share_fits : (F share : ℕ) → Bool
share_fits F share = within 1 F share

abbrev pub cells_fit : (cells : ℕ) → Bool
cells_fit cells = within 1 most_cells cells

abbrev pub node_fits : (node : ℕ) → Bool
node_fits node = within 0 last_node node

-- the two nodes of an entry are equal
abbrev pub same_nodes : Entry → Bool
same_nodes e = eqb e.source e.destination

-- ---- the refusals

-- RULES 2.3: what test 4 asks of one entry
unfoldable pub entry_fits : ℕ → Entry → Bool
entry_fits F e = share_fits F e.share && cells_fit e.cells && node_fits e.source && node_fits e.destination && not (same_nodes e)

-- RULES 2.3: the two entries of test 5
abbrev pub same_pair : Entry → Entry → Bool
same_pair a b = eqb a.source b.source && eqb a.destination b.destination

-- RULES 2.3: tests 2 to 7 need no bytes, only a header and a plan, so that a writer makes them on the same numbers.

-- RULES 2.3: test 2, on the header alone
abbrev pub count_test : Header → Line
count_test h = 2 when (not (count_fits h.count) || not (eqb h.offset 12) || not (eqb h.total (12 + 4 * h.count)))

-- RULES 2.3: test 3, on F, W, N and T
abbrev pub frame_test : ℕ → ℕ → ℕ → Line
frame_test F W N = 3 when (not (slots_fit F) || not (frames_fit W) || not (buffer_fits N) || many_positions (F * W))

-- RULES 2.3: tests 3 to 7
abbrev pub limit_tests : Plan → List Line
limit_tests P =
    frame_test P.slots P.frames P.buffer
    -- an entry doesn't fit
    ∷ 4 when any (flow_count P) (λ i. not (entry_fits P.slots (entry P i)))
    -- two entries alike
    ∷ 5 when any (flow_count P) (λ i. any i (λ j. same_pair (entry P j) (entry P i)))
    -- the shares don't fit a frame
    ∷ 6 when ltb P.slots (sum (flow_count P) (λ i. (entry P i).share))
    -- the cells don't fit the buffer
    ∷ 7 when ltb P.buffer (sum (flow_count P) (λ i. (entry P i).cells))
    ∷ []

-- RULES 2.3: test 1, on the length
abbrev pub length_test : List ℕ → Line
length_test b = 1 when (ltb (length b) 12 || not (eqb (length b) (header_of b).total))

-- RULES 2.4: the refusal of a plan's bytes, and 0 where the plan is accepted
unfoldable pub refusal : List ℕ → ℕ
refusal b = first_of (length_test b ∷ count_test (header_of b) ∷ limit_tests (plan_of b))

-- ---- what is known of an accepted plan

pub record FittingEntry (P : Plan) (e : Entry) : Type 0 where
  pub some_share : 1 ≤ e.share
  pub share_most : e.share ≤ P.slots
  pub some_cell : 1 ≤ e.cells
  pub cells_most : e.cells ≤ most_cells
  pub source_most : e.source ≤ last_node
  pub destination_most : e.destination ≤ last_node
  pub ends_differ : e.source ≡ e.destination → ⊥

pub record Accepted (P : Plan) : Type 0 where
  pub some_flow : 1 ≤ flow_count P
  pub flows_most : flow_count P ≤ most_flows
  pub some_slot : 1 ≤ P.slots
  pub slots_most : P.slots ≤ most_slots
  pub two_frames : 2 ≤ P.frames
  pub frames_most : P.frames ≤ most_frames
  pub some_place : 1 ≤ P.buffer
  pub buffer_most : P.buffer ≤ most_buffer
  pub positions_most : positions P ≤ most_positions
  pub entries_fit : (i : ℕ) → i < flow_count P → FittingEntry P (entry P i)
  pub pairs_differ : (i j : ℕ) → i < flow_count P → j < i → (entry P j).source ≡ (entry P i).source → (entry P j).destination ≡ (entry P i).destination → ⊥
  pub shares_fit : sum (flow_count P) (λ i. (entry P i).share) ≤ P.slots
  pub cells_fit : sum (flow_count P) (λ i. (entry P i).cells) ≤ P.buffer
