-- An exported call's answer is one 64-bit number. Assumes nothing.
use Prim.Native.Nat.{ℕ, zero, suc, ◌^◌, ◌≤◌, ◌<◌}
use mathlib.Core.Path.{◌≡◌, refl}
use mathlib.Core.List.{List}
use mathlib.Core.Option.{some, none}
use mathlib.Core.Bool.{true}
use native.Mathlib.Omega.{arith}
use borrow.Author.Tests.{ltb-true}
use Rattle.model.specs.Refusals.{first_of}
use Rattle.model.specs.Plan.{flow_count, refusal}
use Rattle.model.specs.Calls.{Call, Answer, TickAnswer, accepted, refused}
use Rattle.model.specs.Link.{Link}
use Rattle.model.specs.Request.{request}
use Rattle.model.specs.Credit.{credit}
use Rattle.model.specs.Tick.{tick}
use Rattle.model.specs.Lend.{lend}
use Rattle.model.specs.Reset.{reset}
use Rattle.imagemodel.specs.Image.{link_in}
use Rattle.imagemodel.specs.Consistent.{known, Keepable}
use Rattle.imagemodel.specs.ValidImage.{image_tests, refusal_of}
use Rattle.imagemodel.specs.Exports.{number_of, tick_number, Done, on_link, handed_back, fresh_tests, fresh_on, called_on}
use Rattle.imagemodel.proofs.Numbers.{first_of-most, Word, Proper}
use Rattle.imagemodel.proofs.RequestLeaves.{request-proper}
use Rattle.imagemodel.proofs.Answers.{credit-proper, tick-known, lend-proper, reset-proper}
use Rattle.imagemodel.proofs.ImageValid.{read_kept}
use Rattle.imagemodel.proofs.ValidImage.{valid-image}

-- a number of 64 bits
abbrev pub Long : ℕ → Type 0
Long x = x < 2 ^ 64

answer-fits : {A : Type 0} (f : A → ℕ) (a : Answer A) → Proper (λ x. Word (f x)) a → Long (number_of f a)
answer-fits f (accepted x) h = omega arith
answer-fits f (refused r) h = omega arith

tick-answer-fits : (n : ℕ) → n ≤ 16 → (x : TickAnswer) → known n x ≡ true → Long (tick_number x)
tick-answer-fits n most none e = omega arith
tick-answer-fits n most (some i) e = omega (arith, ltb-true i n e)

done-fits : {l : Link} → Keepable l → (c : Call) → Long (on_link l c).number
done-fits {l} v (Call.request w) = answer-fits (λ x. x) (request l w).answer (request-proper v w)
done-fits {l} v (Call.credit i p) = answer-fits (λ _. 0) (credit l i p).answer (credit-proper l i p)
done-fits {l} v Call.tick = tick-answer-fits (flow_count l.plan) v.accepted.flows_most (tick l).answer (tick-known v)
done-fits {l} v (Call.lend mask) = answer-fits (λ x. x) (lend l mask).answer (lend-proper v mask)
done-fits {l} v Call.reset = answer-fits (λ _. 0) (reset l).answer (reset-proper l)

handed-fits : (r : ℕ) (b : List ℕ) (d : Done) → r ≤ 22 → (r ≡ 0 → Long d.number) → Long (handed_back r b d).result
unfolding handed_back
handed-fits zero b d most h = h refl
handed-fits (suc r) b d most h = omega arith

pub called-fits : (b : List ℕ) (c : Call) → Long (called_on b c).result
unfolding called_on refusal_of
called-fits b c =
    handed-fits (refusal_of b) b (on_link (link_in b) c) (first_of-most 22 (image_tests b) (omega arith)) (λ e. done-fits (read_kept b ((valid-image b).0 e)) c)

pub fresh-fits : (plan b : List ℕ) → Long (fresh_on plan b).result
unfolding fresh_on refusal
fresh-fits plan b =
    let most : refusal plan ≤ 7 = first_of-most 7 _ (omega arith) in
    handed-fits (first_of (fresh_tests plan b)) b _ (first_of-most 22 (fresh_tests plan b) (omega arith)) (λ e. omega arith)
