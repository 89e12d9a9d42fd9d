-- However the input is cut into pieces, what is to be written, in order, is the model's output of the input. Assumes nothing.
use Prim.Native.Nat.{ℕ, zero, suc, ◌*◌, ◌/◌, ◌≤◌}
use mathlib.Core.Path.{◌≡◌, refl, sym, ap, ◌∙◌}
use mathlib.Core.List.{List, [], ◌++◌, append-nil, append_assoc}
use mathlib.Core.Bool.{true}
use mathlib.Core.Logic.{⊎_elim}
use native.Mathlib.Omega.{arith}
use lib.ListN.{length, take, drop}
use lib.Seq.{take_all}
use Rattle.model.specs.Plan.{plan_of, refusal}
use Rattle.model.specs.Fresh.{fresh}
use Rattle.model.specs.Listing.{listing, link_after, plan_line, plan_length, output_after, output}
use Rattle.calls.proofs.Stores.{out-in-room, next-in-room}
use Rattle.program.specs.declared.State.{State}
use Rattle.program.specs.declared.Fed.{Fed}
use Rattle.program.specs.Stage.{Stage, playing, whole_records, cut_off, plan_open}
use Rattle.program.specs.Stage.{stage_with, stage_after, written_after, at_end, stage_fed, written_fed}
use Rattle.program.specs.State.{stage_of}
use Rattle.program.specs.Promises.{FedPiece, Finished, Feeds, none, piece, joined, Runs}
use Rattle.program.proofs.Lists.{stored_back}
use Rattle.program.proofs.WholeRecords.{all_whole, whole-and-cut, cut-append, listing-on, link_on, listing-ends}
use Rattle.program.proofs.PlanStages.{fewer-than-two, cases, never_on, there-on, plan-on, rest-on}
use Rattle.program.proofs.PlanStages.{stage-open, stage-never, stage-there, written-open, written-never, written-there}
use Rattle.program.proofs.PlanStages.{output-open, output-never, output-there}

-- ---- behind a plan

module _ (plan rest more : List ℕ) where
  -- the whole records so far, and what comes after them
  seam : rest ++ more ≡ whole_records rest ++ (cut_off rest ++ more)
  seam = ap (◌++ more) (sym (whole-and-cut rest)) ∙ append_assoc (whole_records rest) (cut_off rest) more

  stage-behind : (n : ℕ) → stage_with n plan (rest ++ more) ≡ stage_fed (stage_with n plan rest) more
  unfolding stage_with stage_fed
  stage-behind zero =
      let l = fresh (plan_of plan) in
      λ i. playing
      ((ap (λ b. link_after l (whole_records b)) seam ∙ link_on l (whole_records rest) (cut_off rest ++ more) (all_whole rest)) i)
      ((ap cut_off seam ∙ cut-append (whole_records rest) (cut_off rest ++ more) (all_whole rest)) i)
  stage-behind (suc r) = refl

  written_behind : (n : ℕ)
      → output_after n plan (whole_records (rest ++ more)) ≡ output_after n plan (whole_records rest) ++ written_fed (stage_with n plan rest) more
  unfolding output_after stage_with written_fed
  written_behind zero =
      let l = fresh (plan_of plan) in
      ap (plan_line 0 ++◌) (ap (λ b. listing l (whole_records b)) seam ∙ listing-on l (whole_records rest) (cut_off rest ++ more) (all_whole rest))
      ∙ sym (append_assoc (plan_line 0) (listing l (whole_records rest)) _)
  written_behind (suc r) = sym (append-nil (plan_line (suc r)))

ends-behind : (plan rest : List ℕ) (n : ℕ) → output_after n plan rest ≡ output_after n plan (whole_records rest) ++ at_end (stage_with n plan rest)
unfolding output_after stage_with
ends-behind plan rest zero =
    let l = fresh (plan_of plan) in
    ap (plan_line 0 ++◌) (listing-ends l rest) ∙ sym (append_assoc (plan_line 0) (listing l (whole_records rest)) _)
ends-behind plan rest (suc r) = sym (append-nil (plan_line (suc r)))

-- ---- one piece more, and the end

module _ (input more : List ℕ) where
  pub stage-on : stage_after (input ++ more) ≡ stage_fed (stage_after input) more
  unfolding stage_fed
  stage-on =
      ⊎_elim (λ o. sym (ap (λ s. stage_fed s more) (stage-open input o)))
      (⊎_elim (λ n. stage-never (input ++ more) (never_on input more n) ∙ sym (ap (λ s. stage_fed s more) (stage-never input n)))
      (λ t.
      stage-there (input ++ more) (there-on input more t)
      ∙ (λ i. stage_with (refusal (plan-on input more t i)) (plan-on input more t i) (rest-on input more t i))
      ∙ stage-behind (take (plan_length input) input) (drop (plan_length input) input) more (refusal (take (plan_length input) input))
      ∙ sym (ap (λ s. stage_fed s more) (stage-there input t))))
      (cases input)

  pub written_on : written_after (input ++ more) ≡ written_after input ++ written_fed (stage_after input) more
  unfolding written_fed
  written_on =
      ⊎_elim (λ o. sym (λ i. written-open input o i ++ written_fed (stage-open input o i) more))
      (⊎_elim
      (λ n. written-never (input ++ more) (never_on input more n) ∙ sym (append-nil (plan_line 1))
      ∙ sym (λ i. written-never input n i ++ written_fed (stage-never input n i) more))
      (λ t.
      written-there (input ++ more) (there-on input more t)
      ∙ (λ i. output_after (refusal (plan-on input more t i)) (plan-on input more t i) (whole_records (rest-on input more t i)))
      ∙ written_behind (take (plan_length input) input) (drop (plan_length input) input) more (refusal (take (plan_length input) input))
      ∙ sym (λ i. written-there input t i ++ written_fed (stage-there input t i) more)))
      (cases input)

-- what is written so far and what is written at the end add up to the output
pub output-is : (input : List ℕ) → output input ≡ written_after input ++ at_end (stage_after input)
output-is input =
    ⊎_elim (λ o. output-open input o ∙ sym (λ i. written-open input o i ++ at_end (stage-open input o i)))
    (⊎_elim
    (λ n. output-never input n ∙ sym (append-nil (plan_line 1)) ∙ sym (λ i. written-never input n i ++ at_end (stage-never input n i)))
    (λ t. output-there input t ∙ ends-behind (take (plan_length input) input) (drop (plan_length input) input) (refusal (take (plan_length input) input))
    ∙ sym (λ i. written-there input t i ++ at_end (stage-there input t i))))
    (cases input)

-- ---- a run

-- where the program stands, and what it has written, once pieces are fed after an input `before`
record After (before : List ℕ) (pieces : List (List ℕ)) (lines : List ℕ) (t : State) : Type 0 where
  pub stage_is : stage_of t ≡ stage_after (before ++ joined pieces)
  pub written_is : written_after before ++ lines ≡ written_after (before ++ joined pieces)

fed-on : {s t : State} {pieces : List (List ℕ)} {lines : List ℕ} → Feeds s pieces lines t → (before : List ℕ) → stage_of s ≡ stage_after before
    → After before pieces lines t
fed-on none before e = record {
  stage_is = e ∙ ap stage_after (sym (append-nil before));
  written_is = append-nil (written_after before) ∙ ap written_after (sym (append-nil before));
}
fed-on {s} (piece {pieces} {lines} p out out' r f rest) before e =
    let part = take r.used p in
    let said = written_fed (stage_of s) part in
    let said_is : take r.written out' ≡ said =
    (λ i. take (f.written_is i) (f.out_is i)) ∙ stored_back out said (omega (arith, f.room, f.written_is)) in
    let on = fed-on rest (before ++ part) (f.stands.stage_is ∙ ap (λ x. stage_fed x part) e ∙ sym (stage-on before part)) in
    record {
      stage_is = on.stage_is ∙ ap stage_after (append_assoc before part (joined pieces));
      written_is =
          ap (λ x. written_after before ++ (x ++ lines)) (said_is ∙ ap (λ x. written_fed x part) e)
          ∙ sym (append_assoc (written_after before) (written_fed (stage_after before) part) lines)
          ∙ ap (◌++ lines) (sym (written_on before part)) ∙ on.written_is ∙ ap written_after (append_assoc before part (joined pieces));
    }

said-at-end : {s : Stage} {out : List ℕ} {n : ℕ} {out' : List ℕ} → 7 ≤ length out → Finished s out n out' → take n out' ≡ at_end s
said-at-end {s} {out} {n} {out'} room f =
    let long : n ≡ length (at_end s) = omega (arith, f.written_is, next-in-room (at_end s) out 0 (omega arith)) in
    (λ i. take (long i) ((f.out_is ∙ out-in-room (at_end s) out 0 (omega arith)) i)) ∙ stored_back out (at_end s) (omega (arith, f.room))

-- However the input is cut into pieces, all that is to be written, in order, is the model's output of the input.
-- Of the code it names the promises of `start`, `feed` and `finish` alone.
pub cut-anyhow : {pieces : List (List ℕ)} {lines : List ℕ} → Runs pieces lines → lines ≡ output (joined pieces)
cut-anyhow {pieces} r =
    let on = fed-on r.feeds [] (r.started.stage_is ∙ sym (stage-open [] nothing_yet)) in
    let so_far : r.fed ≡ written_after (joined pieces) = ap (◌++ r.fed) (sym (written-open [] nothing_yet)) ∙ on.written_is in
    let then : take r.written r.out' ≡ at_end (stage_after (joined pieces)) =
    said-at-end r.line_has_room r.finished ∙ ap at_end on.stage_is in
    r.lines_are ∙ (λ i. so_far i ++ then i) ∙ sym (output-is (joined pieces))
  where
    nothing_yet : plan_open [] ≡ true
    nothing_yet = fewer-than-two [] (omega arith)

-- A piece for whose lines there is room is taken whole.
pub taken-whole : {s : Stage} {p out out' : List ℕ} {r : Fed} → FedPiece s p out r out' → length p ≤ 5 * (length out / 7) → take r.used p ≡ p
taken-whole {s} {p} {out} {out'} {r} f room = take_all r.used p (omega (arith, f.used_is))
