-- What `write` writes, `read` reads back; what `read` accepts, `write` writes again. By their contracts. Assumes nothing.
use Prim.Native.Nat.{ℕ, ◌≤◌}
use mathlib.Core.Path.{◌≡◌, sym, ap, ◌∙◌}
use mathlib.Core.List.{List, ◌++◌}
use native.Mathlib.Omega.{arith}
use lib.ListN.{length, take, drop}
use lib.Seq.{take_at}
use Rattle.std.proofs.Common.{Result, Ok, Err}
use Rattle.plan.specs.declared.Plan.{Plan}
use Rattle.limits.specs.declared.refusal.Refusal.{Refusal}
use Rattle.model.specs.Calls.{accepted}
use Rattle.limits.specs.declared.Draft.{Draft}
use Rattle.limits.specs.Reading.{draft_for}
use Rattle.model.specs.Refusals.{first_of}
use Rattle.model.specs.Plan.{flow_count, plan_of, refusal}
use Rattle.model.specs.WrittenPlan as writer
use Rattle.model.specs.WrittenPlan.{bytes_of, number_tests, AllBytes}
use Rattle.model.proofs.Tables.{length-table}
use Rattle.model.proofs.Plan as of_plan
use Rattle.model.proofs.WrittenPlan.{same_tests, written-again}
use Rattle.model.proofs.WriteRefusals.{accepted-writes, read-as-written, with-room}
use Rattle.plan.specs.Reading.{plan_for, stored, draft_of, ReadAs}
use Rattle.plan.specs.Writing.{answer_of}
use Rattle.plan.proofs.Stored.{drafted}
use Rattle.plan.proofs.Laws.{is-plan}
use Rattle.plan.proofs.Writer.{Writes, counted}

-- ---- written and read

-- What `write` left where it answered a count n: its first n bytes are accepted, and read as the plan that was asked for.
pub read-of-written : (d : Draft) (before after : List ℕ) (n : ℕ) → Writes (draft_for d) before (Ok n) after → ReadAs (take n after) (Ok (stored (draft_for d)))
read-of-written d before after n w =
    let P = draft_for d in
    let c = counted P before n (sym w.0) in
    let stored-out = w.1.0 ∙ ap (λ (x : writer.Written). x.out) (accepted-writes P before c.0) in
    let bytes : take n after ≡ bytes_of P = ap (take n) stored-out ∙ take_at (bytes_of P) _ n c.1 in
    let read = read-as-written P before c.0 in
    (ap refusal bytes ∙ read.0, ap stored (sym (ap plan_of bytes ∙ read.1)))

-- ---- read and written

-- the plan that `read` accepted, as `draft` hands it over
drafted-of-read : (b : List ℕ) (p : Plan) → ReadAs b (Ok p) → draft_for (draft_of p) ≡ plan_of b
drafted-of-read b p r =
    let plan : plan_for p ≡ plan_of b = is-plan b p r in
    let count = sym (length-table p.count _) ∙ ap flow_count plan in
    drafted p (omega (arith, count, (of_plan.accepted b r.0).flows_most)) ∙ plan

answered : (r : Result ℕ Refusal) (n : ℕ) → answer_of r ≡ accepted n → r ≡ Ok n
answered (Ok m) n e = let same : m ≡ n = cc in ap Ok same
answered (Err refusal) n e = cc

-- What `read` accepted, as `draft` hands it over, `write` writes as the same bytes.
pub written-of-read : (b : List ℕ) → AllBytes b → (p : Plan) → ReadAs b (Ok p) → (before after : List ℕ) (r : Result ℕ Refusal)
    → Writes (draft_for (draft_of p)) before r after → length b ≤ length before
    → (r ≡ Ok (length b)) × (after ≡ b ++ drop (length b) before)
written-of-read b bytes p is before after r w room =
    let P = plan_of b in
    let again : bytes_of P ≡ b = written-again b is.0 bytes in
    let passed : first_of (number_tests P) ≡ 0 = sym (same_tests P) ∙ ap refusal again ∙ is.0 in
    let long : length (bytes_of P) ≤ length before = omega (arith, ap length again) in
    let wrote = ap (λ Q. writer.written Q before) (drafted-of-read b p is) ∙ accepted-writes P before (with-room P before passed long) in (
      answered r (length b) (w.0 ∙ ap (λ (x : writer.Written). x.answer) wrote ∙ ap (λ x. accepted (length x)) again),
      w.1.0 ∙ ap (λ (x : writer.Written). x.out) wrote ∙ ap (λ x. x ++ drop (length x) before) again,
    )
