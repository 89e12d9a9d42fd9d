-- The writer's refusals are the reader's from 2 to 7, and then 19. RULES 15.1. Assumes nothing.
use Prim.Native.Nat.{ℕ, zero, suc, ◌≤◌, ◌<◌}
use mathlib.Core.Path.{◌≡◌, refl, sym, ap, ◌∙◌, subst}
use mathlib.Core.List.{List, ◌∷◌, [], ◌++◌, flat_map}
use mathlib.Core.Bool.{Bool, true, false, cond}
use native.Mathlib.Omega.{arith}
use lib.ListN.{length, get_or, drop}
use lib.Dec.{ltb}
use borrow.Author.Tests.{ltb-false, lt-ltb, le-ltb}
use Rattle.model.specs.Refusals.{Line, ◌when◌, first_of}
use Rattle.model.specs.Plan.{Plan, Entry, flow_count, entry, no_entry, plan_of, refusal, FittingEntry, Accepted}
use Rattle.model.specs.Calls.{accepted, refused}
use Rattle.model.specs.WrittenPlan.{written_after, written}
use Rattle.model.specs.WrittenPlan.{field, entry_bytes, bytes_of, number_tests, room_test, write_refusal, AllBytes, ByteEntry, FitsFields}
use Rattle.model.proofs.Plan.{accepted as accepted-bytes}
use Rattle.model.proofs.WrittenPlan.{read_back, same_tests}

-- ---- tests one after another

-- the first of two refusals
abbrev pub or_else : ℕ → ℕ → ℕ
or_else zero next = next
or_else (suc r) next = suc r

-- the lines of one table and then those of another
record Then (lines rest : List Line) : Type 0 where
  pub is : first_of (lines ++ rest) ≡ or_else (first_of lines) (first_of rest)

none : (rest : List Line) → Then [] rest
unfolding first_of
none rest = record { is = refl }

one_more : {r : ℕ} {b : Bool} {lines rest : List Line} → Then lines rest → Then (suc r when b ∷ lines) rest
unfolding first_of
one_more {b = true} t = record { is = refl }
one_more {b = false} t = record { is = t.is }

-- the number that a buffer's room gives
abbrev pub room_number : Plan → List ℕ → ℕ
room_number P out = first_of (room_test P out ∷ [])

by_tests : (P : Plan) (out : List ℕ) → write_refusal P out ≡ or_else (first_of (number_tests P)) (room_number P out)
unfolding write_refusal
by_tests P out =
    let tests : Then (number_tests P) (room_test P out ∷ []) = one_more (one_more (one_more (one_more (one_more (one_more (none _)))))) in
    tests.is

pub refused-by : (P : Plan) (out : List ℕ) → write_refusal P out ≡ or_else (refusal (bytes_of P)) (room_number P out)
refused-by P out = by_tests P out ∙ ap (λ r. or_else r (room_number P out)) (sym (same_tests P))

-- ---- what is written, by the first test that applies

module _ (P : Plan) (out : List ℕ) where
  pub refused-writes : (r : ℕ) → 0 < r → write_refusal P out ≡ r → written P out ≡ record { answer = refused r; out = out }
  unfolding written written_after
  refused-writes zero some e = absurd (omega arith)
  refused-writes (suc r) some e = ap (λ q. written_after q P out) e

  pub by_number : (r : ℕ) → 0 < r → first_of (number_tests P) ≡ r → write_refusal P out ≡ r
  by_number zero some e = absurd (omega arith)
  by_number (suc r) some e = by_tests P out ∙ ap (λ q. or_else q (room_number P out)) e

  module _ (passed : first_of (number_tests P) ≡ 0) where
    by-room : write_refusal P out ≡ room_number P out
    by-room = by_tests P out ∙ ap (λ q. or_else q (room_number P out)) passed

    pub no_room : length out < length (bytes_of P) → write_refusal P out ≡ 19
    unfolding first_of
    no_room h = by-room ∙ rw (lt-ltb (length out) (length (bytes_of P)) h)

    pub with-room : length (bytes_of P) ≤ length out → write_refusal P out ≡ 0
    unfolding first_of
    with-room h = by-room ∙ rw (le-ltb (length out) (length (bytes_of P)) h)

  pub accepted-writes : write_refusal P out ≡ 0
      → written P out ≡ record { answer = accepted (length (bytes_of P)); out = bytes_of P ++ drop (length (bytes_of P)) out }
  unfolding written written_after
  accepted-writes e = ap (λ q. written_after q P out) e

-- ---- a plan that is written

-- 19 applies or nothing does
room-number : (P : Plan) (out : List ℕ) (r : ℕ) → room_number P out ≡ r → r ≤ 7 → (r ≡ 0) × (length (bytes_of P) ≤ length out)
unfolding first_of
room-number P out r = go (ltb (length out) (length (bytes_of P))) refl
  where
    go : (b : Bool) → ltb (length out) (length (bytes_of P)) ≡ b → cond b 19 0 ≡ r → r ≤ 7 → (r ≡ 0) × (length (bytes_of P) ≤ length out)
    go true e f small = absurd (omega arith)
    go false e f small = (sym f, ltb-false (length out) (length (bytes_of P)) e)

pub record Accepts (P : Plan) (out : List ℕ) : Type 0 where
  pub read_too : refusal (bytes_of P) ≡ 0
  pub has_room : length (bytes_of P) ≤ length out

-- where the first refusal is 0, both are
pub accepts : (P : Plan) (out : List ℕ) → write_refusal P out ≡ 0 → Accepts P out
accepts P out e = go (refusal (bytes_of P)) refl (sym (refused-by P out) ∙ e)
  where
    go : (r : ℕ) → refusal (bytes_of P) ≡ r → or_else r (room_number P out) ≡ 0 → Accepts P out
    go zero q f = record { read_too = q; has_room = (room-number P out 0 f (omega arith)).1 }
    go (suc r) q f = absurd (omega arith)

-- a plan whose numbers pass tests 2 to 7
pub within-limits : (P : Plan) → first_of (number_tests P) ≡ 0 → Accepted P
within-limits P e = subst Accepted (read_back P) (accepted-bytes (bytes_of P) (same_tests P ∙ e))

-- RULES 15.3: what is written is read as the plan it was made of
pub read-as-written : (P : Plan) (out : List ℕ) → write_refusal P out ≡ 0 → (refusal (bytes_of P) ≡ 0) × (plan_of (bytes_of P) ≡ P)
read-as-written P out e = ((accepts P out e).read_too, read_back P)

-- ---- numbers that fit their fields

one_byte : {x : ℕ} {rest : List ℕ} → x < 256 → AllBytes rest → AllBytes (x ∷ rest)
one_byte {x} {rest} h bytes = record { byte = go }
  where
    go : (i : ℕ) → get_or (x ∷ rest) i 0 < 256
    go zero = h
    go (suc i) = bytes.byte i

one_field : {x : ℕ} {rest : List ℕ} → x < 65536 → AllBytes rest → AllBytes (field x ++ rest)
one_field h bytes = one_byte (omega arith) (one_byte (omega arith) bytes)

part_bytes : (es : List Entry) → ((i : ℕ) → i < length es → ByteEntry (get_or es i no_entry)) → AllBytes (flat_map entry_bytes es)
unfolding flat_map
part_bytes [] h = record { byte = λ i. omega arith }
part_bytes (e ∷ es) h =
    let first = h 0 (omega arith) in
    let rest = part_bytes es (λ i l. h (suc i) (omega arith)) in
    one_byte first.share_fits (one_byte first.cells_fit (one_byte first.source_fits (one_byte first.destination_fits rest)))

file-bytes : (P : Plan) → FitsFields P → AllBytes (bytes_of P)
unfolding bytes_of
file-bytes P fits =
    let part = part_bytes P.entries fits.entries_fit in
    let limits = one_field fits.slots_fit (one_field fits.frames_fit (one_field fits.buffer_fits part)) in
    let count : flow_count P < 65536 = omega (arith, fits.total_fits) in
    one_field fits.total_fits (one_field count (one_field {x = 12} (omega arith) limits))

pub accepted-fits : (P : Plan) → Accepted P → FitsFields P
accepted-fits P ok = record {
  total_fits = omega (arith, ok.flows_most);
  slots_fit = omega (arith, ok.slots_most);
  frames_fit = omega (arith, ok.frames_most);
  buffer_fits = omega (arith, ok.buffer_most);
  entries_fit = λ i l. byte-entry (entry P i) (ok.entries_fit i l);
}
  where
    byte-entry : (e : Entry) → FittingEntry P e → ByteEntry e
    byte-entry e h = record {
      share_fits = omega (arith, h.share_most, ok.slots_most);
      cells_fit = omega (arith, h.cells_most);
      source_fits = omega (arith, h.source_most);
      destination_fits = omega (arith, h.destination_most);
    }

-- The bytes that would be written are a file, and its reader and the writer refuse by the same number from 2 to 7, whatever the buffer.
pub record SameRefusals (P : Plan) : Type 0 where
  pub bytes : AllBytes (bytes_of P)
  pub by_writer : (out : List ℕ) (r : ℕ) → 2 ≤ r → r ≤ 7 → refusal (bytes_of P) ≡ r → write_refusal P out ≡ r
  pub by_reader : (out : List ℕ) (r : ℕ) → 2 ≤ r → r ≤ 7 → write_refusal P out ≡ r → refusal (bytes_of P) ≡ r

pub same-refusals : (P : Plan) → FitsFields P → SameRefusals P
same-refusals P fits = record { bytes = file-bytes P fits; by_writer = by_writer; by_reader = by_reader }
  where
    by_writer : (out : List ℕ) (r : ℕ) → 2 ≤ r → r ≤ 7 → refusal (bytes_of P) ≡ r → write_refusal P out ≡ r
    by_writer out zero low high e = absurd (omega arith)
    by_writer out (suc r) low high e = refused-by P out ∙ ap (λ q. or_else q (room_number P out)) e

    by_reader : (out : List ℕ) (r : ℕ) → 2 ≤ r → r ≤ 7 → write_refusal P out ≡ r → refusal (bytes_of P) ≡ r
    by_reader out r low high e = go (refusal (bytes_of P)) refl (sym (refused-by P out) ∙ e)
      where
        go : (q : ℕ) → refusal (bytes_of P) ≡ q → or_else q (room_number P out) ≡ r → refusal (bytes_of P) ≡ r
        go zero e f = absurd (omega (arith, (room-number P out r f high).0))
        go (suc q) e f = e ∙ f
