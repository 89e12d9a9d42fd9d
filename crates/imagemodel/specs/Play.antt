-- Records played on an image. RULES 12.8 and 12.9. Assumes nothing.
use Rattle.std.specs.Prelude.{ℕ, zero, suc, ◌+◌, ◌*◌, ◌/◌, ◌%◌, ◌≡◌, not, ◌&&◌, cond, length, drop, ltb, eqb}
use mathlib.Core.List.{List, ◌∷◌, [], flat_map}
use Rattle.std.proofs.Math.Option.{Option, some, none}
use Rattle.std.proofs.lemmas.List.Edits.{sets}
use Rattle.model.specs.Refusals.{Line, first_of, ◌when◌}
use Rattle.model.specs.Plan.{field16}
use Rattle.model.specs.Record as model
use Rattle.model.specs.Record.{RecordCall, as_call, records, is_kind, field32}
use Rattle.model.specs.Calls.{Call, History}
use Rattle.model.specs.Link.{Link}
use Rattle.imagemodel.specs.Image.{fields}
use Rattle.imagemodel.specs.ValidImage.{refusal_of}
use Rattle.imagemodel.specs.Exports.{Called, Done, refusal_number, on_link, called_on}
use Rattle.imagemodel.specs.Chain.{event_of}

-- ---- a record

-- RULES 12.8: a lend or a reset
unfoldable pub other_call : List ℕ → Option Call
other_call r =
    cond (is_kind 4 r && eqb (field16 r 3) 0) (some (Call.lend (field16 r 1)))
    (cond (is_kind 5 r && eqb (field32 r 1) 0) (some Call.reset) none)

-- RULES 12.8: or a call that domelink has a record of
abbrev pub or_other : Option RecordCall → Option Call → Option Call
or_other (some c) other = some (as_call c)
or_other none other = other

-- the call that a record makes, and none where 16 applies
abbrev pub call_of : List ℕ → Option Call
call_of r = or_other (model.call_of r) (other_call r)

-- RULES 12.8: a record on a buffer is its call there; one that makes none is refused with 16 and leaves each byte
abbrev pub record_on : List ℕ → Option Call → Called
record_on b (some c) = called_on b c
record_on b none = record { buffer = b; result = refusal_number 16 }

-- ---- records one after another

-- the buffer that is left, and each record's number
pub record Results : Type 0 where
  pub buffer : List ℕ
  pub numbers : List ℕ

-- RULES 12.8: each on the buffer that the one before left
unfoldable pub one_by_one : List ℕ → List (List ℕ) → Results
one_by_one b [] = record { buffer = b; numbers = [] }
one_by_one b (r ∷ rs) =
    let x = record_on b (call_of r) in
    let y = one_by_one x.buffer rs in
    record { buffer = y.buffer; numbers = x.result ∷ y.numbers }

-- RULES 12.9: a number as eight bytes: four fields, the lowest first
abbrev pub four_fields : ℕ → List ℕ
four_fields x = x % 65536 ∷ x / 65536 % 65536 ∷ x / 4294967296 % 65536 ∷ x / 281474976710656 ∷ []

unfoldable pub eight : ℕ → List ℕ
eight x = fields (four_fields x)

-- ---- the exported play

-- RULES 12.9: the image's own tests, and then 19 by the room for the numbers
abbrev pub play_tests : (b stream out : List ℕ) → List Line
play_tests b stream out =
    refusal_of b when not (eqb (refusal_of b) 0)
    ∷ 19 when ltb (length out) (8 * length (records stream))
    ∷ []

-- what it leaves in both buffers, and its answer
pub record Played : Type 0 where
  pub image : List ℕ
  pub out : List ℕ
  pub result : ℕ

-- RULES 12.9: what is handed back, where the tests gave the number r, which leaves each byte of both
unfoldable pub played_back : ℕ → (b stream out : List ℕ) → Played
played_back zero b stream out =
    let y = one_by_one b (records stream) in
    record { image = y.buffer; out = sets out 0 (flat_map eight y.numbers); result = 0 }
played_back (suc r) b stream out = record { image = b; out = out; result = refusal_number (suc r) }

unfoldable pub play_on : (b stream out : List ℕ) → Played
play_on b stream out = played_back (first_of (play_tests b stream out)) b stream out

-- this number and these buffers are what was handed back
abbrev pub PlaysBack : Played → (r : ℕ) (image out : List ℕ) → Type 0
PlaysBack played r image out = (r ≡ played.result) × (image ≡ played.image) × (out ≡ played.out)

-- ---- the same on the link itself

abbrev pub made_on : Link → Option Call → Done
made_on l (some c) = on_link l c
made_on l none = record { link = l; number = refusal_number 16 }

-- the last link, and each record's number
pub record DoneAll : Type 0 where
  pub link : Link
  pub numbers : List ℕ

unfoldable pub in_order : Link → List (List ℕ) → DoneAll
in_order l [] = record { link = l; numbers = [] }
in_order l (r ∷ rs) =
    let x = made_on l (call_of r) in
    let y = in_order x.link rs in
    record { link = y.link; numbers = x.number ∷ y.numbers }

-- ---- what a host sees of it

-- the number that eight bytes stand for, and so many of them
abbrev pub number_at : List ℕ → ℕ
number_at out = field32 out 0 + 4294967296 * field32 out 4

unfoldable pub numbers_in : List ℕ → ℕ → List ℕ
numbers_in out zero = []
numbers_in out (suc n) = number_at out ∷ numbers_in (drop 8 out) n

-- the event of a record with its number, on top of those before it; one that makes no call has none
abbrev pub with_event : Option Call → (number : ℕ) → History → History
with_event (some c) number h = event_of c number ∷ h
with_event none number h = h

-- RULES 12.10: a play counts as the calls that its records make, each with the number in `out`
unfoldable pub events_of : List (List ℕ) → List ℕ → History → History
events_of [] numbers h = h
events_of (r ∷ rs) [] h = h
events_of (r ∷ rs) (number ∷ numbers) h = events_of rs numbers (with_event (call_of r) number h)
