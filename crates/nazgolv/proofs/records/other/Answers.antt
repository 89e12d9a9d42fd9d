use Rattle.std.proofs.Common.{ℕ, List, ◌≡◌, ◌+◌, ◌≤◌, length, get_or, take, drop, sym, ap, ◌∙◌, arith}
use Rattle.model.specs.Plan.{field16}
use Rattle.imagemodel.specs.Play.{other_call}
use Rattle.nazgolv.specs.Calls.{found_for}
use Rattle.nazgolv.proofs.PlayRecords.{by_parts, short, parts, filled, is-lend, other-kind, no_reset, is-reset}
use Rattle.nazgolv.proofs.records.other.Goals as goal
use Rattle.nazgolv.proofs.records.other.Goals.{then-records-lt-RECORD-via-then-records-lt-RECORD, then-records-lt-RECORD-via-else-records-lt-RECORD+then-records-at}

-- the record, by what was read of it
known : (b : List ℕ) (at : ℕ) {first second : ℕ} → at + 5 ≤ length b → first ≡ field16 b (at + 1) → second ≡ field16 b (at + 3)
    → other_call (take 5 (drop at b)) ≡ by_parts (get_or b at 0) first second
known b at h e f = parts b at h ∙ (λ j. by_parts (get_or b at 0) (sym e j) (sym f j))

pub returns-then-records-lt-RECORD : goal.returns-then-records-lt-RECORD
returns-then-records-lt-RECORD c =
    elim c.then-records-lt-RECORD.branch [
      | then-records-lt-RECORD-via-then-records-lt-RECORD w ↦ sym (ap found_for (short c.args.records.now c.args.at (omega arith)))
      | then-records-lt-RECORD-via-else-records-lt-RECORD+then-records-at w ↦
          sym (ap found_for (short c.args.records.now c.args.at (omega arith)))
    ]

pub returns-then-field-ne0 : goal.returns-then-field-ne0
returns-then-field-ne0 c =
    let kind = get_or c.args.records.now c.args.at 0 in
    let is = known c.args.records.now c.args.at (omega arith) c.field-first.ensures.is c.field.ensures.is in
    sym (ap found_for (is ∙ filled kind c.field-first.result c.field.result c.if-field-ne0.true))

pub returns-in-4 : goal.returns-in-4
returns-in-4 c =
    let kind = get_or c.args.records.now c.args.at 0 in
    let is = known c.args.records.now c.args.at (omega arith) c.field-first.ensures.is c.field.ensures.is in
    sym (ap found_for (is ∙ is-lend kind c.field-first.result c.field.result c.in-4.is c.if-field-ne0.false))

pub returns-in-5 : goal.returns-in-5
returns-in-5 c =
    let kind = get_or c.args.records.now c.args.at 0 in
    let is = known c.args.records.now c.args.at (omega arith) c.field-first.ensures.is c.field.ensures.is in
    sym (ap found_for (is ∙ is-reset kind c.field-first.result c.field.result c.in-5.is c.if-first-eq0.true c.if-field-ne0.false))

pub returns-in_default : goal.returns-in_default
returns-in_default c =
    let kind = get_or c.args.records.now c.args.at 0 in
    let is = known c.args.records.now c.args.at (omega arith) c.field-first.ensures.is c.field.ensures.is in
    sym (ap found_for (is ∙ no_reset kind c.field-first.result c.field.result c.in-5.is c.if-first-eq0.false))

pub returns-in_default-2 : goal.returns-in_default-2
returns-in_default-2 c =
    let kind = get_or c.args.records.now c.args.at 0 in
    let is = known c.args.records.now c.args.at (omega arith) c.field-first.ensures.is c.field.ensures.is in
    sym (ap found_for (is ∙ other-kind kind c.field-first.result c.field.result (λ e. omega arith) (λ e. omega arith)))
