-- The lines of a file that the reader takes: `plan` with its numbers is answered with its bytes, and `read` with these bytes with that line. RULES 20.4,
-- 20.5. Assumes nothing.
use Prim.Native.Nat.{ℕ, suc, ◌+◌, ◌*◌, ◌/◌, ◌%◌, ◌≤◌, ◌<◌}
use mathlib.Core.Path.{◌≡◌, refl, sym, ap, ◌∙◌}
use mathlib.Core.List.{List, ◌∷◌, [], ◌++◌, map, flat_map}
use mathlib.Core.Bool.{true, not, ◌&&◌}
use native.Mathlib.Omega.{arith}
use lib.ListN.{length, get_or, drop, replicate, length-append, length-replicate}
use lib.Seq.{get_or-drop}
use lib.Dec.{eqb}
use borrow.Author.Tests.{ne_eqb}
use Rattle.model.specs.Tables.{table}
use Rattle.model.specs.Listing.{text, decimal}
use Rattle.model.specs.Refusals.{first_of}
use Rattle.model.specs.Plan.{Plan, flow_count, header_of, entry_of, entries_of, plan_of, refusal, Accepted}
use Rattle.model.specs.WrittenPlan.{bytes_of, number_tests, write_refusal, written, AllBytes}
use Rattle.model.proofs.Tables.{table_same}
use Rattle.model.proofs.WrittenPlan.{part_length, length-is, read_back, same_tests, written-again}
use Rattle.model.proofs.WriteRefusals.{within-limits, with-room, accepted-writes, accepted-fits, same-refusals}
use Rattle.tokens.specs.Pieces.{is_space, piece_length, tail, fields_of, after_word, each}
use Rattle.tokens.specs.Decimal.{numbers_in, found_in}
use Rattle.tokens.specs.Hexadecimal.{is_hex_digit}
use Rattle.replies.specs.Lines.{hex_glyph, hex, spaced}
use Rattle.replies.proofs.PutOn.{hex-length}
use Rattle.planwords.specs.Plans.{flows_asked, entry_asked, plan_asked, file_line, answer_to_plan}
use Rattle.planwords.specs.Drafts.{WholeFlows}
use Rattle.planwords.specs.Reads.{plan_numbers, question, digits_line}
use Rattle.planwords.specs.PlanLines.{asking_line, reading_line, ThereAndBack}
use Rattle.planwords.proofs.FileLines.{whole}
use Rattle.planwords.proofs.FieldsRead.{AllShort, one-short, one_piece, fields_are, decimals-read, spaced-most}
use Rattle.planwords.proofs.RoundTrip.{digit-back, plan-read}

-- ---- the bytes in digits

glyph-passes : (d : ℕ) → d < 16 → is_hex_digit (hex_glyph d) ≡ true
glyph-passes d h = ap not (ap (λ x. eqb x 16) (digit-back d h) ∙ ne_eqb d 16 (λ e. absurd (omega arith)))

pub hex-digits : (b : List ℕ) → AllBytes b → each is_hex_digit (hex b) ≡ true
unfolding hex flat_map
hex-digits [] bytes = refl
hex-digits (x ∷ b) bytes =
    let small : x < 256 = bytes.byte 0 in
    let high = glyph-passes (x / 16) (omega arith) in
    let low = glyph-passes (x % 16) (omega arith) in
    let rest = hex-digits b (record { byte = λ i. bytes.byte (suc i) }) in
    λ k. high k && (low k && rest k)

-- ---- the plan that its numbers ask for

-- F, W and N, and four numbers for each flow
numbers-long : (P : Plan) → length (plan_numbers P) ≡ 3 + 4 * flow_count P
unfolding plan_numbers
numbers-long P = omega (arith, part_length P.entries)

whole-flows : (P : Plan) → WholeFlows (plan_numbers P)
whole-flows P = record { header = omega (arith, numbers-long P); fours = omega (arith, numbers-long P) }

asked-back : (P : Plan) → plan_asked (plan_numbers P) ≡ P
unfolding plan_numbers bytes_of
asked-back P =
    let numbers = plan_numbers P in
    let count : flows_asked numbers ≡ (header_of (bytes_of P)).count = omega (arith, numbers-long P) in
    let read : entries_of (header_of (bytes_of P)).count (drop 12 (bytes_of P)) ≡ P.entries = ap (λ (Q : Plan). Q.entries) (read_back P) in
    let entries = ap (λ m. table m (entry_asked numbers)) count ∙ table_same (header_of (bytes_of P)).count _ _ (λ i l. entry_at i) ∙ read in
    λ k. record { slots = P.slots; frames = P.frames; buffer = P.buffer; entries = entries k }
  where
    at : (j k : ℕ) → j ≡ 3 + k → get_or (plan_numbers P) j 0 ≡ get_or (drop 3 (plan_numbers P)) k 0
    at j k e = ap (λ i. get_or (plan_numbers P) i 0) e ∙ sym (get_or-drop 3 (plan_numbers P) k 0)

    entry_at : (i : ℕ) → entry_asked (plan_numbers P) i ≡ entry_of (drop 3 (plan_numbers P)) i
    entry_at i =
        let share = at (3 + 4 * i) (4 * i) (omega arith) in
        let cells = at (3 + 4 * i + 1) (4 * i + 1) (omega arith) in
        let source = at (3 + 4 * i + 2) (4 * i + 2) (omega arith) in
        let destination = at (3 + 4 * i + 3) (4 * i + 3) (omega arith) in
        λ k. record { share = share k; cells = cells k; source = source k; destination = destination k }

-- ---- what is answered, of a plan whose bytes the reader takes

module _ (P : Plan) (taken : refusal (bytes_of P) ≡ 0) where
  passed : first_of (number_tests P) ≡ 0
  passed = sym (same_tests P) ∙ taken

  fits : Accepted P
  fits = within-limits P passed

  bytes : AllBytes (bytes_of P)
  bytes = (same-refusals P (accepted-fits P fits)).bytes

  written-to : write_refusal P (replicate 76 0) ≡ 0
  written-to = with-room P (replicate 76 0) passed (omega (arith, length-is P, fits.flows_most, length-replicate {A = ℕ} 76 0))

  pub plan-answer : answer_to_plan (plan_numbers P) ≡ hex (bytes_of P) ++ text "\n"
  plan-answer =
      sym (whole 76 (plan_numbers P) (whole-flows P))
      ∙ ap (λ Q. file_line (written Q (replicate 76 0)).answer Q) (asked-back P)
      ∙ ap (λ w. file_line w.answer P) (accepted-writes P (replicate 76 0) written-to)

  pub read_answer : digits_line (hex (bytes_of P)) ≡ question P
  read_answer = plan-read P (replicate 76 0) written-to (hex-digits (bytes_of P) bytes)

  -- the numbers of the entries are bytes
  pub short-numbers : AllShort (plan_numbers P)
  unfolding plan_numbers bytes_of
  short-numbers =
      let entry-short : (i : ℕ) → get_or (drop 12 (bytes_of P)) i 0 < 1000000000 = λ i. omega (arith, get_or-drop 12 (bytes_of P) i 0, bytes.byte (12 + i)) in
      let with-buffer = one-short {x = P.buffer} (omega (arith, fits.buffer_most)) (record { short = entry-short }) in
      one-short (omega (arith, fits.slots_most)) (one-short (omega (arith, fits.frames_most)) with-buffer)

  -- the line's fields are those numbers
  pub line-fields : fields_of (asking_line P) ≡ map decimal (plan_numbers P)
  unfolding asking_line
  line-fields =
      let fields = fields_are (plan_numbers P) short-numbers in
      ap tail (one_piece (λ b. not (is_space b)) refl (text "plan") (flat_map spaced (plan_numbers P)) (map decimal (plan_numbers P)) plan-is-a-word fields)
    where
      plan-is-a-word : each (λ b. not (is_space b)) (text "plan") ≡ true
      plan-is-a-word = refl

  -- it is no long line
  pub asking-most : length (asking_line P) ≤ 674
  unfolding asking_line
  asking-most =
      omega (arith, length-append (text "plan") (flat_map spaced (plan_numbers P)), spaced-most (plan_numbers P) short-numbers, numbers-long P, fits.flows_most)

  pub reading-most : length (reading_line (bytes_of P)) ≤ 157
  unfolding reading_line
  reading-most = omega (arith, length-append (text "read ") (hex (bytes_of P)), hex-length (bytes_of P), length-is P, fits.flows_most)

question-line : (P : Plan) → question P ≡ asking_line P ++ text "\n"
unfolding question asking_line
question-line P = refl

after_read : (b : List ℕ) → after_word (reading_line b) ≡ hex b
unfolding reading_line piece_length
after_read b = refl

-- ---- both lines

pub there_and_back : (b : List ℕ) → AllBytes b → refusal b ≡ 0 → ThereAndBack b
there_and_back b bytes taken =
    let P = plan_of b in
    let same : bytes_of P ≡ b = written-again b taken bytes in
    let read : refusal (bytes_of P) ≡ 0 = ap refusal same ∙ taken in
    let fields = line-fields P read in
    let numbers = decimals-read (plan_numbers P) (short-numbers P read) in
    record {
      found = ap found_in fields ∙ numbers.found;
      planned = ap (λ fs. answer_to_plan (numbers_in fs)) fields ∙ ap answer_to_plan numbers.are ∙ plan-answer P read ∙ ap (λ l. hex l ++ text "\n") same;
      read = ap digits_line (after_read b ∙ ap hex (sym same)) ∙ read_answer P read ∙ question-line P;
    }
