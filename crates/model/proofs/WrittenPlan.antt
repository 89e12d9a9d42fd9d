-- What is written is read as the plan it was made of, and an accepted file that is read and written again has the same bytes. RULES 15.3. Assumes
-- nothing.
use Prim.Native.Nat.{ℕ, zero, suc, ◌+◌, ◌*◌, ◌/◌, ◌%◌, ◌≤◌}
use mathlib.Core.Path.{◌≡◌, refl, sym, ap, ◌∙◌}
use mathlib.Core.List.{List, ◌∷◌, [], ◌++◌, flat_map}
use mathlib.Core.Bool.{not}
use native.Mathlib.Omega.{arith}
use lib.ListN.{length, get_or, drop}
use lib.Seq.{get_or-drop}
use lib.Dec.{ltb, eqb}
use borrow.Author.Tests.{le-ltb, eq-eqb, eqb-true, not-false}
use Rattle.model.specs.Tables.{table}
use Rattle.model.specs.Refusals.{first_of}
use Rattle.model.specs.Plan.{Plan, Entry, Header, no_entry, flow_count, field16, header_of, entry_of, plan_of, count_test, limit_tests, refusal}
use Rattle.model.specs.WrittenPlan.{field, header_bytes, entry_bytes, header_for, bytes_of, number_tests, AllBytes}
use Rattle.model.proofs.Tests.{or-false, line-passed}
use Rattle.model.proofs.Plan.{Counted, counts-passed}
use Rattle.model.proofs.Tables.{length-table, table-get_d, table-append, table_same}

-- ---- the entries

pub part_length : (es : List Entry) → length (flat_map entry_bytes es) ≡ 4 * length es
unfolding flat_map
part_length [] = refl
part_length (e ∷ es) = omega (arith, part_length es)

-- the bytes after a part's first entry
after_first : (a b c d : ℕ) (rest : List ℕ) (j k : ℕ) → j ≡ 4 + k → get_or (a ∷ b ∷ c ∷ d ∷ rest) j 0 ≡ get_or rest k 0
after_first a b c d rest j k e = let f : j ≡ suc (suc (suc (suc k))) = omega arith in ap (λ i. get_or (a ∷ b ∷ c ∷ d ∷ rest) i 0) f

entry_read : (es : List Entry) (i : ℕ) → entry_of (flat_map entry_bytes es) i ≡ get_or es i no_entry
unfolding flat_map
entry_read [] i = refl
entry_read (e ∷ es) zero = refl
entry_read (e ∷ es) (suc i) = next (flat_map entry_bytes es) ∙ entry_read es i
  where
    next : (rest : List ℕ) → entry_of (entry_bytes e ++ rest) (suc i) ≡ entry_of rest i
    next rest =
        let byte = after_first e.share e.cells e.source e.destination rest in
        let share = byte (4 * suc i) (4 * i) (omega arith) in
        let cells = byte (4 * suc i + 1) (4 * i + 1) (omega arith) in
        let source = byte (4 * suc i + 2) (4 * i + 2) (omega arith) in
        let destination = byte (4 * suc i + 3) (4 * i + 3) (omega arith) in
        λ k. record { share = share k; cells = cells k; source = source k; destination = destination k }

-- ---- the header

field-read : (x : ℕ) → x % 256 + 256 * (x / 256) ≡ x
field-read x = omega arith

header_read : (P : Plan) → header_of (bytes_of P) ≡ header_for P
unfolding bytes_of
header_read P = λ k. record {
  total = field-read (12 + 4 * flow_count P) k;
  count = field-read (flow_count P) k;
  offset = 12;
  slots = field-read P.slots k;
  frames = field-read P.frames k;
  buffer = field-read P.buffer k;
}

pub length-is : (P : Plan) → length (bytes_of P) ≡ 12 + 4 * flow_count P
unfolding bytes_of
length-is P = omega (arith, part_length P.entries)

pub read_back : (P : Plan) → plan_of (bytes_of P) ≡ P
unfolding bytes_of
read_back P =
    let part = flat_map entry_bytes P.entries in
    let read : table (flow_count P) (entry_of part) ≡ P.entries
    = table_same (flow_count P) _ _ (λ i l. entry_read P.entries i) ∙ table-get_d P.entries no_entry in
    let entries = ap (λ n. table n (entry_of part)) (field-read (flow_count P)) ∙ read in
    λ k. record { slots = field-read P.slots k; frames = field-read P.frames k; buffer = field-read P.buffer k; entries = entries k }

-- ---- the reader's tests of what is written

pub same_tests : (P : Plan) → refusal (bytes_of P) ≡ first_of (number_tests P)
unfolding refusal first_of
same_tests P =
    let long : 12 ≤ length (bytes_of P) = omega (arith, length-is P) in
    let stated = length-is P ∙ ap (λ (h : Header). h.total) (sym (header_read P)) in
    rw (le-ltb (length (bytes_of P)) 12 long, eq-eqb (length (bytes_of P)) (header_of (bytes_of P)).total stated)
    (λ k. first_of (count_test (header_read P k) ∷ limit_tests (read_back P k)))

-- ---- an accepted file

abbrev entry_from : (ℕ → ℕ) → ℕ → Entry
entry_from g i = record { share = g (4 * i); cells = g (4 * i + 1); source = g (4 * i + 2); destination = g (4 * i + 3) }

-- the bytes of entries whose bytes are g 0, g 1, and so on
part-again : (n : ℕ) (g : ℕ → ℕ) → flat_map entry_bytes (table n (entry_from g)) ≡ table (4 * n) g
unfolding flat_map
part-again zero g = refl
part-again (suc n) g =
    ap (λ rest. entry_bytes (entry_from g 0) ++ rest) (ap (flat_map entry_bytes) (table_same n _ _ (λ i l. next i)) ∙ part-again n (λ k. g (4 + k)))
    ∙ sym (table-append 4 (4 * n) g)
    ∙ (let e : 4 + 4 * n ≡ 4 * suc n = omega arith in ap (λ m. table m g) e)
  where
    at : {j k : ℕ} → j ≡ k → g j ≡ g k
    at e = ap g e

    next : (i : ℕ) → entry_from g (suc i) ≡ entry_from (λ k. g (4 + k)) i
    next i =
        let share : g (4 * suc i) ≡ g (4 + 4 * i) = at (omega arith) in
        let cells : g (4 * suc i + 1) ≡ g (4 + (4 * i + 1)) = at (omega arith) in
        let source : g (4 * suc i + 2) ≡ g (4 + (4 * i + 2)) = at (omega arith) in
        let destination : g (4 * suc i + 3) ≡ g (4 + (4 * i + 3)) = at (omega arith) in
        λ k. record { share = share k; cells = cells k; source = source k; destination = destination k }

field-again : (b : List ℕ) (at : ℕ) → AllBytes b → field (field16 b at) ≡ get_or b at 0 ∷ get_or b (at + 1) 0 ∷ []
field-again b at bytes =
    let low = get_or b at 0 in
    let high = get_or b (at + 1) 0 in
    let e : (low + 256 * high) % 256 ≡ low = omega (arith, bytes.byte at) in
    let f : (low + 256 * high) / 256 ≡ high = omega (arith, bytes.byte at) in
    λ k. e k ∷ f k ∷ []

header-again : (b : List ℕ) → AllBytes b → header_bytes (header_of b) ≡ table 12 (λ k. get_or b k 0)
header-again b bytes =
    let f0 = field-again b 0 bytes in
    let f2 = field-again b 2 bytes in
    let f4 = field-again b 4 bytes in
    let f6 = field-again b 6 bytes in
    let f8 = field-again b 8 bytes in
    let f10 = field-again b 10 bytes in
    λ k. f0 k ++ f2 k ++ f4 k ++ f6 k ++ f8 k ++ f10 k

-- tests 1 and 2 leave the header of the plan that is read
pub same-header : (b : List ℕ) → Counted (header_of b) → header_for (plan_of b) ≡ header_of b
same-header b n =
    let count : flow_count (plan_of b) ≡ (header_of b).count = length-table (header_of b).count (entry_of (drop 12 b)) in
    let total : 12 + 4 * flow_count (plan_of b) ≡ (header_of b).total = omega (arith, n.total_is) in
    λ k. record {
      total = total k;
      count = count k;
      offset = sym n.offset_is k;
      slots = (header_of b).slots;
      frames = (header_of b).frames;
      buffer = (header_of b).buffer;
    }

pub written-again : (b : List ℕ) → refusal b ≡ 0 → AllBytes b → bytes_of (plan_of b) ≡ b
unfolding refusal bytes_of
written-again b e bytes =
    let l1 = line-passed _ 0 _ e in
    let l2 = line-passed _ 1 _ l1.1 in
    let counted = counts-passed (header_of b) l2.0 in
    let long = or-false (ltb (length b) 12) (not (eqb (length b) (header_of b).total)) l1.0 in
    let stated = eqb-true (length b) (header_of b).total (not-false _ long.1) in
    let n = (header_of b).count in
    let byte : ℕ → ℕ = λ k. get_or b k 0 in
    let header = ap header_bytes (same-header b counted) ∙ header-again b bytes in
    let part = part-again n (λ k. get_or (drop 12 b) k 0) ∙ table_same (4 * n) _ (λ k. byte (12 + k)) (λ k l. get_or-drop 12 b k 0) in
    (λ k. header k ++ part k)
    ∙ sym (table-append 12 (4 * n) byte)
    ∙ ap (λ m. table m byte) (sym (stated ∙ counted.total_is))
    ∙ table-get_d b 0
