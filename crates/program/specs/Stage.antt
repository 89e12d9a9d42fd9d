-- Where the program stands after an input so far, and what it has written by then. RULES 13.2 and 13.3. Assumes nothing.
use Rattle.std.specs.Prelude.{ℕ, zero, suc, ◌*◌, ◌/◌, List, ◌∷◌, [], ◌++◌, Bool, ◌&&◌, ◌||◌, cond, length, take, drop, ltb}
use Rattle.model.specs.Tables.{within}
use Rattle.model.specs.Plan.{plan_of, refusal}
use Rattle.model.specs.Link.{Link}
use Rattle.model.specs.Fresh.{fresh}
use Rattle.model.specs.Listing.{listing, link_after, refusal_line, plan_line, plan_length, plan_missing, output_after}

-- ---- records, of which the last may not be whole yet

-- the bytes of the whole records
abbrev pub whole_records : List ℕ → List ℕ
whole_records bytes = take (5 * (length bytes / 5)) bytes

-- the bytes after them
abbrev pub cut_off : List ℕ → List ℕ
cut_off bytes = drop (5 * (length bytes / 5)) bytes

-- ---- where the program stands

pub data Stage : Type 0 where
  -- bytes of the plan are still to come; these have come
  reading : (plan : List ℕ) → Stage
  -- after an accepted plan: the link after the whole records, and the bytes of a record that is cut off
  playing : (link : Link) → (cut : List ℕ) → Stage
  -- nothing more is read
  ended : Stage

-- whether bytes of the plan are still to come: fewer than two stand there, or L is 12 to 76 and fewer than L stand there
unfoldable pub plan_open : List ℕ → Bool
plan_open input = ltb (length input) 2 || (within 12 76 (plan_length input) && ltb (length input) (plan_length input))

-- RULES 13.2: the program goes on only with an accepted plan
unfoldable pub stage_with : (number : ℕ) → (plan rest : List ℕ) → Stage
stage_with zero plan rest = playing (link_after (fresh (plan_of plan)) (whole_records rest)) (cut_off rest)
stage_with (suc r) plan rest = ended

-- where the program stands after an input so far
unfoldable pub stage_after : List ℕ → Stage
stage_after input =
    let plan = take (plan_length input) input in
    cond (plan_open input) (reading input) (cond (plan_missing input) ended (stage_with (refusal plan) plan (drop (plan_length input) input)))

-- ---- what it has written

-- what it has written after an input so far: nothing while the plan is open, then what `output` writes of the plan and the whole records
unfoldable pub written_after : List ℕ → List ℕ
written_after input =
    let plan = take (plan_length input) input in
    cond (plan_open input) [] (cond (plan_missing input) (plan_line 1) (output_after (refusal plan) plan (whole_records (drop (plan_length input) input))))

-- RULES 13.2 and 13.3: what it writes at the end of the input: `P 1` where the plan is missing, and `R 16` where a few bytes are left
abbrev pub at_end : Stage → List ℕ
at_end (reading plan) = plan_line 1
at_end (playing link []) = []
at_end (playing link (b ∷ rest)) = refusal_line 16
at_end ended = []

-- ---- one piece of input more

-- where the program stands then
unfoldable pub stage_fed : Stage → List ℕ → Stage
stage_fed (reading plan) piece = stage_after (plan ++ piece)
stage_fed (playing link cut) piece = playing (link_after link (whole_records (cut ++ piece))) (cut_off (cut ++ piece))
stage_fed ended piece = ended

-- what it writes for that piece
unfoldable pub written_fed : Stage → List ℕ → List ℕ
written_fed (reading plan) piece = written_after (plan ++ piece)
written_fed (playing link cut) piece = listing link (whole_records (cut ++ piece))
written_fed ended piece = []
