-- What `show::write` leaves for a show without a refusal, and what `plan::read` reads of it. By their contracts. Assumes nothing.
use Prim.Native.Nat.{ℕ, ◌≤◌}
use mathlib.Core.Path.{◌≡◌, refl, sym, ap, ◌∙◌}
use mathlib.Core.List.{List, map}
use mathlib.Core.Bool.{true, false}
use native.Mathlib.Omega.{arith}
use lib.ListN.{length, take}
use lib.Seq.{take_at}
use Rattle.std.proofs.Common.{Result, Ok, Err}
use Rattle.limits.specs.declared.refusal.Refusal.{Refusal}
use Rattle.limits.specs.declared.refusal.Refusal.TheVariants.{Counts}
use Rattle.limits.specs.Refusals.{number}
use Rattle.limits.proofs.Refusals.{one-number}
use Rattle.plan.specs.Reading.{stored, ReadAs}
use Rattle.plan.specs.Writing.{answer_of}
use Rattle.model.specs.Plan as plan
use Rattle.model.specs.Refusals.{first_of}
use Rattle.model.specs.Calls.{accepted, refused}
use Rattle.model.specs.WrittenPlan as writer
use Rattle.model.specs.WrittenPlan.{bytes_of, number_tests}
use Rattle.model.proofs.WriteRefusals.{refused-writes, by_number}
use Rattle.mesh.specs.Mesh.{Link}
use Rattle.mesh.proofs.Admitted.{none_kept}
use Rattle.show.specs.Show.{Show, ShowStream, uses_link, entry_on, link_plan, used, refusal}
use Rattle.show.specs.Promises.{Wrote}
use Rattle.show.proofs.Claim.{planned}

-- a plan without a flow
no_flow : (P : plan.Plan) → plan.flow_count P ≡ 0 → first_of (number_tests P) ≡ 2
unfolding first_of
no_flow P e = rw e

unused-plan : (show : Show) (l : Link) → used show l ≡ false → plan.flow_count (link_plan show l) ≡ 0
unfolding used link_plan
unused-plan show l u = ap (λ (xs : List ShowStream). length (map (entry_on l) xs)) (none_kept (uses_link l) show.streams u)

-- what is written for such a link, whatever the show: 2, and the buffer as it came
pub unused-written : (show : Show) (l : Link) (out : List ℕ) → used show l ≡ false → writer.written (link_plan show l) out ≡ record { answer = refused 2; out = out }
unused-written show l out u =
    let P = link_plan show l in
    refused-writes P out 2 (omega arith) (by_number P out 2 (omega arith) (no_flow P (unused-plan show l u)))

-- what an answer of the writer is of the model's
wrote-count : (r : Result ℕ Refusal) (n : ℕ) → answer_of r ≡ accepted n → r ≡ Ok n
wrote-count (Ok m) n e = let same : m ≡ n = cc in ap Ok same
wrote-count (Err f) n e = cc

wrote-none : (r : Result ℕ Refusal) (f : Refusal) → answer_of r ≡ refused (number f) → r ≡ Err f
wrote-none (Ok m) f e = cc
wrote-none (Err g) f e = let same : number g ≡ number f = cc in ap Err (one-number g f same)

module _ {show : Show} {l : Link} {before after : List ℕ} {r : Result ℕ Refusal} (w : Wrote show l before r after) where
  -- a link that is used, and 76 bytes of room: its plan is written, and the reader accepts it
  pub read-of-used : refusal show ≡ 0 → used show l ≡ true → 76 ≤ length before
      → (r ≡ Ok (length (bytes_of (link_plan show l)))) × ReadAs (take (length (bytes_of (link_plan show l))) after) (Ok (stored (link_plan show l)))
  read-of-used none u room =
      let P = link_plan show l in
      let good = (planned show none).each_link l u in
      let whole = good.written_whole before (omega (arith, good.small)) in
      let bytes : take (length (bytes_of P)) after ≡ bytes_of P = ap (take (length (bytes_of P))) (w.left ∙ ap (λ (x : writer.Written). x.out) whole) ∙ take_at (bytes_of P) _ (length (bytes_of P)) refl in (
        wrote-count r (length (bytes_of P)) (w.answered ∙ ap (λ (x : writer.Written). x.answer) whole),
        (ap plan.refusal bytes ∙ good.accepted_by_reader, ap stored (sym (ap plan.plan_of bytes ∙ good.read_back))),
      )

  -- any other link, whatever the show
  pub unused-is-2 : used show l ≡ false → (r ≡ Err Counts) × (after ≡ before)
  unused-is-2 u =
      let two = unused-written show l before u in
      (wrote-none r Counts (w.answered ∙ ap (λ (x : writer.Written). x.answer) two), w.left ∙ ap (λ (x : writer.Written). x.out) two)
