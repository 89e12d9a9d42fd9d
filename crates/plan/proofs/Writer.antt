-- What the writer answers and leaves, by the place where it returns. Assumes nothing.
use Prim.Native.Nat.{ℕ, zero, suc, ◌+◌, ◌-◌, ◌*◌, ◌≤◌, ◌<◌}
use mathlib.Core.Path.{◌≡◌, refl, sym, ap, ◌∙◌, subst}
use mathlib.Core.List.{List, [], ◌++◌, append-nil, append_assoc}
use native.Mathlib.Omega.{arith}
use lib.ListN.{length, take, drop, length-append, length-take, length-drop, drop_of_length-le}
use lib.Seq.{sets, length-sets, take_at, drop_at, drop-drop, take_all}
use borrow.Rule.Slice.PartMut.{put_mid}
use Rattle.std.proofs.Common.{Result, Ok, Err, IfOk}
use Rattle.plan.specs.declared.header.Header.{Header}
use Rattle.limits.specs.declared.Draft.{Draft}
use Rattle.limits.specs.declared.refusal.Refusal.{Refusal}
use Rattle.limits.specs.declared.refusal.Refusal.TheVariants.{NoRoom}
use Rattle.limits.specs.Refusals.{number}
use Rattle.limits.proofs.Refusals.{some-number}
use Rattle.model.specs.Calls.{Answer, accepted, refused}
use Rattle.limits.specs.Reading.{draft_for}
use Rattle.model.specs.Refusals.{first_of}
use Rattle.model.specs.Plan as model
use Rattle.model.specs.WrittenPlan as writer
use Rattle.model.specs.WrittenPlan.{header_bytes, bytes_of, number_tests, write_refusal}
use Rattle.model.proofs.Tables.{length-table, get_d-table}
use Rattle.model.proofs.WrittenPlan.{length-is, same_tests}
use Rattle.model.proofs.WriteRefusals.{accepts, refused-writes, accepted-writes, by_number, no_room, with-room, within-limits, accepted-fits}
use Rattle.plan.specs.Reading.{header_for}
use Rattle.plan.specs.Writing.{answer_of, begun, flow_part, HeaderFits, ByteEntries}
use Rattle.plan.proofs.FlowPart.{begun_more}

-- ---- where the answer is a count of bytes

module _ (P : model.Plan) (before : List ℕ) (n : ℕ) where
  -- the plan was not refused, and the count is that of its bytes
  pub counted : (writer.written P before).answer ≡ accepted n → (write_refusal P before ≡ 0) × (length (bytes_of P) ≡ n)
  counted e = go (write_refusal P before) refl
    where
      go : (r : ℕ) → write_refusal P before ≡ r → (write_refusal P before ≡ 0) × (length (bytes_of P) ≡ n)
      go zero z = (z, bytes_inside (ap (λ (w : writer.Written). w.answer) (sym (accepted-writes P before z)) ∙ e))
        where
          bytes_inside : accepted (length (bytes_of P)) ≡ accepted n → length (bytes_of P) ≡ n
          bytes_inside f = cc
      go (suc r) z = never (ap (λ (w : writer.Written). w.answer) (sym (refused-writes P before (suc r) (omega arith) z)) ∙ e)
        where
          never : ◌≡◌ {A = Answer ℕ} (refused (suc r)) (accepted n) → (write_refusal P before ≡ 0) × (length (bytes_of P) ≡ n)
          never f = cc

  count_most : (writer.written P before).answer ≡ accepted n → (n ≤ 76) × (n ≤ length before)
  count_most e =
      let c = counted e in
      let a = accepts P before c.0 in
      let ok = within-limits P (sym (same_tests P) ∙ a.read_too) in
      (omega (arith, c.1, length-is P, ok.flows_most), omega (arith, c.1, a.has_room))

-- ---- the promise

-- what the writer promises of its answer and of the buffer, for a plan and a buffer
abbrev pub Writes : model.Plan → (before : List ℕ) → Result ℕ Refusal → (after : List ℕ) → Type 0
Writes P before r after =
    (answer_of r ≡ (writer.written P before).answer)
    × ((after ≡ (writer.written P before).out) × IfOk r (λ n. (n ≤ 76) × (n ≤ length before)))

most : (P : model.Plan) (before : List ℕ) (r : Result ℕ Refusal) → answer_of r ≡ (writer.written P before).answer → IfOk r (λ n. (n ≤ 76) × (n ≤ length before))
most P before (Ok n) e = count_most P before n (sym e)
most P before (Err refusal) e = tt

promised : (P : model.Plan) (before : List ℕ) {w : writer.Written} → writer.written P before ≡ w → (r : Result ℕ Refusal) {after : List ℕ}
    → answer_of r ≡ w.answer → after ≡ w.out → Writes P before r after
promised P before w r e f =
    let answer = e ∙ ap (λ (x : writer.Written). x.answer) (sym w) in
    (answer, (f ∙ ap (λ (x : writer.Written). x.out) (sym w), most P before r answer))

-- ---- a refusal

refused-as : (P : model.Plan) (before : List ℕ) (r : Refusal) → write_refusal P before ≡ number r → Writes P before (Err r) before
refused-as P before r e = promised P before (refused-writes P before (number r) (some-number r) e) (Err r) refl refl

pub refused-by-number : (d : Draft) (before : List ℕ) (r : Refusal) → number r ≡ first_of (number_tests (draft_for d)) → Writes (draft_for d) before (Err r) before
refused-by-number d before r e = refused-as (draft_for d) before r (by_number (draft_for d) before (number r) (some-number r) (sym e))

-- ---- a plan whose numbers pass tests 2 to 7

pub record Passes (d : Draft) : Type 0 where
  pub tests : first_of (number_tests (draft_for d)) ≡ 0

pub passes : (d : Draft) → 0 ≡ first_of (number_tests (draft_for d)) → Passes d
passes d e = record { tests = sym e }

-- the header that is stored for it, where it has n flows
abbrev header_over : Draft → ℕ → Header
header_over d n = record { total = 12 + 4 * n; count = n; offset = 12; slots = d.slots; frames = d.frames; buffer = d.buffer }

abbrev pub header_with : Draft → Header
header_with d = header_over d d.count

count_is : (d : Draft) → model.flow_count (draft_for d) ≡ d.count
count_is d = length-table d.count _

total_is : (d : Draft) → length (bytes_of (draft_for d)) ≡ 12 + 4 * d.count
total_is d = length-is (draft_for d) ∙ ap (λ n. 12 + 4 * n) (count_is d)

module _ {d : Draft} (p : Passes d) where
  fits : writer.FitsFields (draft_for d)
  fits = accepted-fits (draft_for d) (within-limits (draft_for d) p.tests)

  pub few : d.count ≤ 16
  few = omega (arith, (within-limits (draft_for d) p.tests).flows_most, count_is d)

  pub header-fits : HeaderFits (header_with d)
  header-fits = record {
    total_fits = omega (arith, few);
    count_fits = omega (arith, few);
    offset_fits = omega arith;
    slots_fit = fits.slots_fit;
    frames_fit = fits.frames_fit;
    buffer_fits = fits.buffer_fits;
  }

  pub entries_fit : ByteEntries d.entries d.count
  entries_fit = record {
    few = few;
    bytes = λ i l. subst writer.ByteEntry (get_d-table d.count _ i model.no_entry l) (fits.entries_fit i (omega (arith, count_is d)));
  }

  pub refused-19 : (before : List ℕ) → length before < 12 + 4 * d.count → Writes (draft_for d) before (Err NoRoom) before
  refused-19 before h =
      let P = draft_for d in
      refused-as P before NoRoom (no_room P before p.tests (omega (arith, total_is d)))

-- ---- the bytes that are stored

-- the header's bytes, and then the flow part's
bytes_are : (d : Draft) → header_bytes (header_for (header_with d)) ++ flow_part d.entries d.count ≡ bytes_of (draft_for d)
unfolding bytes_of flow_part
bytes_are d = ap (λ n. header_bytes (header_for (header_over d n)) ++ flow_part d.entries d.count) (sym (count_is d))

-- the part from byte 12 on has room for the entries
pub part_room : (d : Draft) (before middle : List ℕ) → 12 + 4 * d.count ≤ length before
    → middle ≡ sets before 0 (header_bytes (header_for (header_with d)))
    → 4 * d.count ≤ length (take (length middle - 12) (drop 12 middle))
part_room d before middle room m =
    let same : length middle ≡ length before = ap length m ∙ length-sets before 0 (header_bytes (header_for (header_with d))) in
    simp (length-take, length-drop) (omega arith)

-- a part from place a on that is begun anew, and put back
part-back : (a : ℕ) (first more before middle : List ℕ) → length first ≡ a → middle ≡ begun first before
    → put_mid a (length middle - a) middle (begun more (take (length middle - a) (drop a middle))) ≡ begun (first ++ more) before
part-back a first more before middle e m =
    let rest = drop (length first) before in
    let size = length middle - a in
    let long : length rest ≤ size = omega (arith, ap length m, length-append first rest) in
    let front : take a middle ≡ first = ap (take a) m ∙ take_at first rest a e in
    let back : drop a middle ≡ rest = ap (drop a) m ∙ drop_at first rest a e in
    let part : take size (drop a middle) ≡ rest = ap (take size) back ∙ take_all size rest long in
    let none : drop size (drop a middle) ≡ [] = ap (drop size) back ∙ drop_of_length-le rest long in
    let left : drop (length more) rest ≡ drop (length (first ++ more)) before
    = drop-drop (length more) (length first) before ∙ ap (λ n. drop n before) (sym (length-append first more)) in
    (λ k. front k ++ (begun more (part k) ++ none k))
    ∙ ap (first ++◌) (append-nil (begun more rest))
    ∙ sym (append_assoc first more (drop (length more) rest))
    ∙ ap (λ r. first ++ more ++ r) left

-- what is left of the buffer, where the header was stored, and then the flow part in the part from byte 12 on
pub written : {d : Draft} (p : Passes d) (before middle part : List ℕ) → 12 + 4 * d.count ≤ length before
    → middle ≡ sets before 0 (header_bytes (header_for (header_with d)))
    → part ≡ begun (flow_part d.entries d.count) (take (length middle - 12) (drop 12 middle))
    → Writes (draft_for d) before (Ok (12 + 4 * d.count)) (put_mid 12 (length middle - 12) middle part)
written {d} p before middle part room m e =
    let P = draft_for d in
    let header = header_bytes (header_for (header_with d)) in
    let flows = flow_part d.entries d.count in
    let long : length (bytes_of P) ≤ length before = omega (arith, total_is d) in
    let w = accepted-writes P before (with-room P before p.tests long) in
    let middle-is = m ∙ begun_more [] header before (omega arith) in
    let put_back = ap (put_mid 12 (length middle - 12) middle) e ∙ part-back 12 header flows before middle refl middle-is in
    promised P before w (Ok (12 + 4 * d.count)) (ap accepted (sym (total_is d))) (put_back ∙ ap (λ b. begun b before) (bytes_are d))
