-- Call records, and the calls that they can make. RULES 13.3 and 13.4. Assumes nothing.
use Rattle.std.specs.Prelude.{ℕ, ◌+◌, ◌*◌, ◌/◌, ◌%◌, List, ◌∷◌, [], Bool, ◌&&◌, cond, length, get_or, leb, eqb}
use Rattle.std.proofs.Math.Option.{Option, some, none}
use Rattle.model.specs.Plan.{field16}
use Rattle.model.specs.Calls.{Call}

-- ---- the calls that a record can make

pub data RecordCall : Type 0 where
  request : (word : ℕ) → RecordCall
  credit : (flow position : ℕ) → RecordCall
  tick : RecordCall

-- such a call as one of demand 3's list, where calls may stand that no record makes
abbrev pub as_call : RecordCall → Call
as_call (RecordCall.request word) = Call.request word
as_call (RecordCall.credit flow position) = Call.credit flow position
as_call RecordCall.tick = Call.tick

-- ---- records

-- RULES 13.3: records of five bytes, of which the last may be short
unfoldable pub records : List ℕ → List (List ℕ)
records [] = []
records (a ∷ []) = (a ∷ []) ∷ []
records (a ∷ b ∷ []) = (a ∷ b ∷ []) ∷ []
records (a ∷ b ∷ c ∷ []) = (a ∷ b ∷ c ∷ []) ∷ []
records (a ∷ b ∷ c ∷ d ∷ []) = (a ∷ b ∷ c ∷ d ∷ []) ∷ []
records (a ∷ b ∷ c ∷ d ∷ e ∷ rest) = (a ∷ b ∷ c ∷ d ∷ e ∷ []) ∷ records rest

-- the 32-bit field at a place, low byte first
abbrev pub field32 : List ℕ → ℕ → ℕ
field32 r at = field16 r at + 65536 * field16 r (at + 2)

-- whether a record has its five bytes, and the kind k
abbrev pub is_kind : ℕ → List ℕ → Bool
is_kind k r = leb 5 (length r) && eqb (get_or r 0 0) k

-- RULES 13.4: the call that a record makes, and none where 16 applies
unfoldable pub call_of : List ℕ → Option RecordCall
call_of r =
    -- a request
    cond (is_kind 1 r) (some (RecordCall.request (field32 r 1)))
    -- a credit
    (cond (is_kind 2 r && eqb (get_or r 4 0) 0) (some (RecordCall.credit (get_or r 1 0) (field16 r 2)))
    -- a tick
    (cond (is_kind 3 r && eqb (field32 r 1) 0) (some RecordCall.tick) none))

-- the record of a call
unfoldable pub record_of : RecordCall → List ℕ
record_of (RecordCall.request w) = 1 ∷ w % 256 ∷ w / 256 % 256 ∷ w / 65536 % 256 ∷ w / 16777216 ∷ []
record_of (RecordCall.credit i p) = 2 ∷ i ∷ p % 256 ∷ p / 256 ∷ 0 ∷ []
record_of RecordCall.tick = 3 ∷ 0 ∷ 0 ∷ 0 ∷ 0 ∷ []
