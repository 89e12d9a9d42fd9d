-- `read` of what `plan` answers gives the question back. Assumes nothing.
use Prim.Native.Nat.{ℕ, zero, suc, ◌+◌, ◌-◌, ◌*◌, ◌/◌, ◌%◌, ◌≤◌, ◌<◌}
use mathlib.Core.Path.{◌≡◌, refl, sym, ap, ap₂, ◌∙◌}
use mathlib.Core.List.{List, ◌∷◌, [], ◌++◌, flat_map}
use mathlib.Core.Bool.{Bool, true, false, ◌&&◌}
use native.Mathlib.Decide.{dec_le, ℕ_discrete}
use native.Mathlib.Omega.{arith}
use lib.ListN.{length, get_or, replicate, length-append}
use borrow.Author.Tests.{eq-eqb}
use Rattle.model.specs.Tables.{table}
use Rattle.model.specs.Listing.{text}
use Rattle.model.specs.Plan.{Plan, Entry}
use Rattle.model.specs.Calls.{Answer, accepted, refused}
use Rattle.model.specs.WrittenPlan as writer
use Rattle.model.specs.WrittenPlan.{write_refusal, written_after, written, AllBytes}
use Rattle.model.proofs.Tables.{get_d-table, table-get_d, table-append, table_same}
use Rattle.model.proofs.WrittenPlan.{same_tests}
use Rattle.model.proofs.WriteRefusals.{read-as-written, within-limits, accepted-fits, same-refusals}
use Rattle.tokens.specs.Pieces.{tail, each}
use Rattle.tokens.specs.Hexadecimal.{hex_digit, is_hex_digit, byte_at, bytes_of, found_bytes}
use Rattle.replies.specs.Lines.{hex_glyph, hex, spaced}
use Rattle.replies.proofs.PutOn.{hex-length}
use Rattle.planwords.specs.Plans.{flows_asked, entry_asked, plan_asked, file_line, answer_to_plan}
use Rattle.planwords.specs.Drafts.{WholeFlows}
use Rattle.planwords.specs.Reads.{entry_numbers, plan_numbers, question, read_line, bytes_line, digits_line}
use Rattle.planwords.proofs.FileLines.{header-missing, no-fours, whole}

-- ---- digits of bytes, read back

sixteen : table 16 (λ d. hex_digit (hex_glyph d)) ≡ table 16 (λ d. d)
unfolding hex_digit
sixteen = refl

pub digit-back : (d : ℕ) → d < 16 → hex_digit (hex_glyph d) ≡ d
digit-back d h =
    sym (get_d-table 16 (λ k. hex_digit (hex_glyph k)) d 0 h) ∙ ap (λ l. get_or l d 0) sixteen ∙ get_d-table 16 (λ k. k) d 0 h

-- the digits of byte i
high : (b : List ℕ) (i : ℕ) → i < length b → get_or (hex b) (2 * i) 0 ≡ hex_glyph (get_or b i 0 / 16)
unfolding hex flat_map
high [] i h = absurd (omega arith)
high (x ∷ b) zero h = refl
high (x ∷ b) (suc i) h =
    let at : 2 * suc i ≡ suc (suc (2 * i)) = omega arith in
    ap (λ k. get_or (hex (x ∷ b)) k 0) at ∙ high b i (omega arith)

low : (b : List ℕ) (i : ℕ) → i < length b → get_or (hex b) (2 * i + 1) 0 ≡ hex_glyph (get_or b i 0 % 16)
unfolding hex flat_map
low [] i h = absurd (omega arith)
low (x ∷ b) zero h = refl
low (x ∷ b) (suc i) h =
    let at : 2 * suc i + 1 ≡ suc (suc (2 * i + 1)) = omega arith in
    ap (λ k. get_or (hex (x ∷ b)) k 0) at ∙ low b i (omega arith)

bytes_back : (b : List ℕ) → AllBytes b → bytes_of (hex b) ≡ b
bytes_back b bytes =
    ap (λ n. table n (byte_at (hex b))) many ∙ table_same (length b) (byte_at (hex b)) (λ i. get_or b i 0) each_back ∙ table-get_d b 0
  where
    many : length (hex b) / 2 ≡ length b
    many = omega (arith, hex-length b)

    each_back : (i : ℕ) → i < length b → byte_at (hex b) i ≡ get_or b i 0
    each_back i h =
        let x = get_or b i 0 in
        let small = bytes.byte i in
        let first = ap hex_digit (high b i h) ∙ digit-back (x / 16) (omega arith) in
        let second = ap hex_digit (low b i h) ∙ digit-back (x % 16) (omega arith) in
        (λ k. 16 * first k + second k) ∙ omega arith

-- ---- the numbers of the plan that is asked for

-- entries whose numbers are g 0, g 1, and so on
abbrev entry_from : (ℕ → ℕ) → ℕ → Entry
entry_from g i = record { share = g (4 * i); cells = g (4 * i + 1); source = g (4 * i + 2); destination = g (4 * i + 3) }

fours : (n : ℕ) (g : ℕ → ℕ) → flat_map entry_numbers (table n (entry_from g)) ≡ table (4 * n) g
unfolding flat_map
fours zero g = refl
fours (suc n) g =
    ap (λ rest. entry_numbers (entry_from g 0) ++ rest) (ap (flat_map entry_numbers) (table_same n _ _ (λ i l. next i)) ∙ fours n (λ k. g (4 + k)))
    ∙ sym (table-append 4 (4 * n) g)
    ∙ (let e : 4 + 4 * n ≡ 4 * suc n = omega arith in ap (λ m. table m g) e)
  where
    at : {j k : ℕ} → j ≡ k → g j ≡ g k
    at e = ap g e

    next : (i : ℕ) → entry_from g (suc i) ≡ entry_from (λ k. g (4 + k)) i
    next i =
        let share : g (4 * suc i) ≡ g (4 + 4 * i) = at (omega arith) in
        let cells : g (4 * suc i + 1) ≡ g (4 + (4 * i + 1)) = at (omega arith) in
        let source : g (4 * suc i + 2) ≡ g (4 + (4 * i + 2)) = at (omega arith) in
        let destination : g (4 * suc i + 3) ≡ g (4 + (4 * i + 3)) = at (omega arith) in
        λ k. record { share = share k; cells = cells k; source = source k; destination = destination k }

numbers-back : (numbers : List ℕ) → WholeFlows numbers → plan_numbers (plan_asked numbers) ≡ numbers
unfolding plan_numbers
numbers-back numbers w =
    let g : ℕ → ℕ = λ k. get_or numbers (3 + k) 0 in
    let n = flows_asked numbers in
    let same = table_same n (entry_asked numbers) (entry_from g) (λ i l. entry i) in
    let long : 3 + 4 * n ≡ length numbers = omega (arith, w.header, w.fours) in
    ap (λ es. get_or numbers 0 0 ∷ get_or numbers 1 0 ∷ get_or numbers 2 0 ∷ flat_map entry_numbers es) same
    ∙ ap (λ l. get_or numbers 0 0 ∷ get_or numbers 1 0 ∷ get_or numbers 2 0 ∷ l) (fours n g)
    ∙ sym (table-append 3 (4 * n) (λ k. get_or numbers k 0)) ∙ ap (λ m. table m (λ k. get_or numbers k 0)) long ∙ table-get_d numbers 0
  where
    at : {j k : ℕ} → j ≡ k → get_or numbers j 0 ≡ get_or numbers k 0
    at e = ap (λ j. get_or numbers j 0) e

    entry : (i : ℕ) → entry_asked numbers i ≡ entry_from (λ k. get_or numbers (3 + k) 0) i
    entry i =
        let cells : get_or numbers (3 + 4 * i + 1) 0 ≡ get_or numbers (3 + (4 * i + 1)) 0 = at (omega arith) in
        let source : get_or numbers (3 + 4 * i + 2) 0 ≡ get_or numbers (3 + (4 * i + 2)) 0 = at (omega arith) in
        let destination : get_or numbers (3 + 4 * i + 3) 0 ≡ get_or numbers (3 + (4 * i + 3)) 0 = at (omega arith) in
        λ k. record { share = get_or numbers (3 + 4 * i) 0; cells = cells k; source = source k; destination = destination k }

-- ---- what `plan` answers

-- a line of hexadecimal digits begins with one, or is empty
no-such-line : (b : ℕ) (rest digits : List ℕ) → b ∷ rest ≡ digits ++ text "\n" → is_hex_digit b ≡ false → (b ≡ 10 → ⊥) → each is_hex_digit digits ≡ true → ⊥
no-such-line b rest [] e f n all = n (ap (λ l. get_or l 0 0) e)
no-such-line b rest (d ∷ digits) e f n all =
    let same : b ≡ d = ap (λ l. get_or l 0 0) e in
    let z : ◌≡◌ {A = Bool} false true = sym (ap (◌&& each is_hex_digit digits) (ap is_hex_digit (sym same) ∙ f)) ∙ all in
    let y : ◌≡◌ {A = ℕ} 0 1 = cc in
    absurd (omega arith)

-- a refusal's first byte, and that of a line that is no question
letter-R : is_hex_digit 82 ≡ false
unfolding hex_digit
letter-R = refl

question-mark : is_hex_digit 63 ≡ false
unfolding hex_digit
question-mark = refl

same_digits : (xs ys : List ℕ) → xs ++ text "\n" ≡ ys ++ text "\n" → xs ≡ ys
same_digits [] [] e = refl
same_digits [] (y ∷ ys) e = absurd (omega (arith, ap length e, length-append ys (text "\n")))
same_digits (x ∷ xs) [] e = absurd (omega (arith, ap length e, length-append xs (text "\n")))
same_digits (x ∷ xs) (y ∷ ys) e = ap₂ ◌∷◌ (ap (λ l. get_or l 0 0) e) (same_digits xs ys (ap tail e))

-- a plan whose bytes are answered passes its tests
none-refused : (P : Plan) (out : List ℕ) (count : ℕ) → (written P out).answer ≡ accepted count → write_refusal P out ≡ 0
unfolding written written_after
none-refused P out count e = go (write_refusal P out) e
  where
    go : (r : ℕ) → (written_after r P out).answer ≡ accepted count → r ≡ 0
    go zero p = refl
    go (suc r) p = let z : ◌≡◌ {A = ℕ} 0 1 = cc in absurd (omega arith)

-- the digits of a plan that is accepted are read as its question
pub plan-read : (P : Plan) (out : List ℕ) → write_refusal P out ≡ 0 → each is_hex_digit (hex (writer.bytes_of P)) ≡ true → digits_line (hex (writer.bytes_of P)) ≡ question P
unfolding digits_line found_bytes read_line
plan-read P out passed all =
    let b = writer.bytes_of P in
    let read = read-as-written P out passed in
    let fits = accepted-fits P (within-limits P (sym (same_tests P) ∙ read.0)) in
    let bytes = bytes_back b (same-refusals P fits).bytes in
    let even : length (hex b) % 2 ≡ 0 = omega (arith, hex-length b) in
    ap (λ l. bytes_line (found_bytes (hex b)) l) bytes ∙ rw (all, eq-eqb (length (hex b) % 2) 0 even)
    ((λ k. read_line (read.0 k) (read.1 k)))

-- the question of numbers: the word, and each after a blank
abbrev pub question_of : (numbers : List ℕ) → List ℕ
question_of numbers = text "plan" ++ flat_map spaced numbers ++ text "\n"

module _ (numbers digits : List ℕ) (e : answer_to_plan numbers ≡ digits ++ text "\n") (all : each is_hex_digit digits ≡ true) where
  abbrev asked : Plan
  asked = plan_asked numbers

  by_answer : WholeFlows numbers → (a : Answer ℕ) → (written asked (replicate 76 0)).answer ≡ a → file_line a asked ≡ digits ++ text "\n"
      → digits_line digits ≡ question_of numbers
  unfolding question
  by_answer w (refused number) t f = absurd (no-such-line 82 _ digits f letter-R (λ z. absurd (omega arith)) all)
  by_answer w (accepted count) t f =
      let same : hex (writer.bytes_of asked) ≡ digits = same_digits (hex (writer.bytes_of asked)) digits f in
      ap digits_line (sym same) ∙ plan-read asked (replicate 76 0) (none-refused asked (replicate 76 0) count t) (ap (each is_hex_digit) same ∙ all)
      ∙ ap question_of (numbers-back numbers w)

  by-numbers : Dec (3 ≤ length numbers) → Dec ((length numbers - 3) % 4 ≡ 0) → digits_line digits ≡ question_of numbers
  by-numbers (no h) m = absurd (no-such-line 63 _ digits (header-missing 76 numbers (omega arith) ∙ e) question-mark (λ z. absurd (omega arith)) all)
  by-numbers (yes h) (no m) = absurd (no-such-line 63 _ digits (no-fours 76 numbers h m ∙ e) question-mark (λ z. absurd (omega arith)) all)
  by-numbers (yes h) (yes m) =
      let w : WholeFlows numbers = record { header = h; fours = m } in
      by_answer w (written asked (replicate 76 0)).answer refl (whole 76 numbers w ∙ e)

-- Where `plan` answers with hexadecimal digits, `read` of these digits answers with the question.
pub read-of-plan : (numbers digits : List ℕ) → answer_to_plan numbers ≡ digits ++ text "\n" → each is_hex_digit digits ≡ true
    → digits_line digits ≡ question_of numbers
read-of-plan numbers digits e all = by-numbers numbers digits e all (dec_le 3 (length numbers)) (ℕ_discrete ((length numbers - 3) % 4) 0)
