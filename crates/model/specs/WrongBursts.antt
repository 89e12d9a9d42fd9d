-- Bursts that are answered wrongly (RULES 11.1 and 11.2). Each is the model's burst but for one fault. Assumes nothing.
use Rattle.std.specs.Prelude.{ℕ, List, ◌∷◌, [], ◌++◌, take, drop}
use Rattle.model.specs.Calls.{Grant, accepted, refused}
use Rattle.model.specs.Link.{Link}
use Rattle.model.specs.Request.{request}
use Rattle.model.specs.Burst.{BurstRecord, Burst, filled, in_front, in_order, burst}

-- the first n records are handled
abbrev handles : ℕ → Link → List BurstRecord → Burst
handles n l xs =
    let handled = in_order l (take n xs) in
    record { link = handled.link; records = handled.records ++ drop n xs }

abbrev pub handles_seventeen : Link → List BurstRecord → Burst
handles_seventeen = handles 17

abbrev pub handles_fifteen : Link → List BurstRecord → Burst
handles_fifteen = handles 15

-- each request is made on the link of before the burst, and the last one's is handed back
abbrev pub on_one_link : Link → List BurstRecord → Burst
on_one_link l [] = record { link = l; records = [] }
on_one_link l (x ∷ []) = in_order l (x ∷ [])
on_one_link l (x ∷ y ∷ xs) = in_front (filled x (request l x.word).answer) (on_one_link l (y ∷ xs))

-- nothing is asked after the first refusal
abbrev goes_on : Link → BurstRecord → List BurstRecord → Grant → Burst → Burst
goes_on next x xs (accepted v) rest = in_front (filled x (accepted v)) rest
goes_on next x xs (refused r) rest = record { link = next; records = filled x (refused r) ∷ xs }

abbrev pub stops_at_refusal : Link → List BurstRecord → Burst
stops_at_refusal l [] = record { link = l; records = [] }
stops_at_refusal l (x ∷ xs) =
    let first = request l x.word in
    goes_on first.link x xs first.answer (stops_at_refusal first.link xs)

-- the records stay as they were lent
abbrev pub writes_no_result : Link → List BurstRecord → Burst
writes_no_result l xs = record { link = (burst l xs).link; records = xs }
