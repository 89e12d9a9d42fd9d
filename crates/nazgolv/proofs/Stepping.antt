-- A rule on the state of a link is the call; on the link of a taken image there is room for what that leaves, and it is the exported call's.
-- Assumes nothing.
use Prim.Native.Nat.{ℕ}
use mathlib.Core.Path.{◌≡◌, refl, sym, ap, ◌∙◌, subst}
use mathlib.Core.List.{List}
use mathlib.Core.Option.{some, none}
use mathlib.Core.Bool.{Bool, true, false, cond}
use native.Mathlib.Omega.{arith}
use lib.Dec.{eqb}
use borrow.Author.Tests.{eqb-true}
use Rattle.model.specs.Calls.{Call, Grant, CreditAnswer, TickAnswer, LendAnswer, ResetAnswer, accepted, refused}
use Rattle.model.specs.Link as model
use Rattle.model.specs.WrittenPlan.{AllBytes}
use Rattle.model.specs.Request as request
use Rattle.model.specs.Credit as credit
use Rattle.model.specs.Lend as lend
use Rattle.model.specs.Reset as reset
use Rattle.calls.specs.Reading.{answer_to_request, answer_to_credit, answer_to_tick, answer_to_lend, answer_to_reset}
use Rattle.calls.specs.declared.Answer.{Answer}
use Rattle.calls.specs.declared.Answer.TheVariants.{Accepted as AcceptedCredit, Refused}
use Rattle.plan.specs.declared.Plan.{Plan}
use Rattle.link.specs.declared.request.Reply.{Reply}
use Rattle.window.specs.declared.Window.{Window}
use Rattle.link.specs.Given.{StateIn}
use Rattle.link.specs.Steps.{read_in, Went, number_of, reply_of, credit_answer, request_answer}
use Rattle.link.proofs.Told.{request-told, credit-told}
use Rattle.link.proofs.Stays.{request-current, credit-current, lend-current, reset-current, still-in}
use Rattle.imagemodel.specs.Image.{image_length, link_in}
use Rattle.imagemodel.specs.ValidImage.{ValidImage}
use Rattle.imagemodel.specs.Exports.{Called, HandsBack, refusal_number, grant_number, credit_number, tick_number, lend_number, reset_number, done, on_link, written_to, handed_back, called_on}
use Rattle.imagemodel.proofs.ValidImage.{valid-image}
use Rattle.imagemodel.proofs.ImageValid.{read_kept}
use Rattle.imagemodel.proofs.Closed.{KeptAfter}
use Rattle.imagemodel.proofs.Exports.{done-kept, same-buffer}
use Rattle.imagecodec.specs.Asked.{Writable}
use Rattle.nazgolv.specs.Numbers.{number_for, leaves_all}
use Rattle.nazgolv.specs.Steps.{StepsTo}
use Rattle.nazgolv.proofs.Unmoved.{unmoved}

-- ---- the numbers of answers

grant-number : (a : Grant) → number_for (answer_to_request a) ≡ grant_number a
grant-number (accepted w) = refl
grant-number (refused n) = refl

credit-answer-number : (a : CreditAnswer) → number_for (answer_to_credit a) ≡ credit_number a
credit-answer-number (accepted x) = refl
credit-answer-number (refused n) = refl

tick-answer-number : (a : TickAnswer) → number_for (answer_to_tick a) ≡ tick_number a
tick-answer-number (some i) = refl
tick-answer-number none = refl

lend-answer-number : (a : LendAnswer) → number_for (answer_to_lend a) ≡ lend_number a
lend-answer-number (accepted i) = refl
lend-answer-number (refused n) = refl

reset-answer-number : (a : ResetAnswer) → number_for (answer_to_reset a) ≡ reset_number a
reset-answer-number (accepted x) = refl
reset-answer-number (refused n) = refl

-- a credit's number
pub credit-number : (k : ℕ) → refusal_number k ≡ number_for (credit_answer k)
credit-number k = go (eqb k 0) refl
  where
    go : (b : Bool) → eqb k 0 ≡ b → refusal_number k ≡ number_for (cond b AcceptedCredit (Refused k))
    go true e = rw (eqb-true k 0 e)
    go false e = refl

-- ---- a rule on a state is the call on its link

module _ {p : Plan} {w : Window} {s₀ : List ℕ} (o : StateIn p w s₀) where
  stepped : {A : Type 0} {to_answer : A → Answer} (number : A → ℕ) → ((a : A) → number_for (to_answer a) ≡ number a) → (m : model.Step A)
      → {v : Window} {s : List ℕ} {a : Answer} {r : ℕ} → Went to_answer m p s a → StateIn p v s → r ≡ number_for a → StepsTo (done number m) p v s r
  stepped number same m went hand is = record {
    link_is = went.link_is;
    number_is = is ∙ ap number_for went.answer_is ∙ same m.answer;
    hand = hand;
  }

  pub steps-request : (x : ℕ) {s : List ℕ} {a : Reply} {r : ℕ} → Went reply_of (request.request (read_in p s₀) x) p s a
      → r ≡ number_for (request_answer x a) → StepsTo (on_link (read_in p s₀) (Call.request x)) p w s r
  steps-request x went =
      stepped grant_number grant-number (request.request (read_in p s₀) x) (request-told o.sound x went) (still-in o went (request-current (read_in p s₀) x))

  pub steps-credit : (i q : ℕ) {s : List ℕ} {k r : ℕ} → Went number_of (credit.credit (read_in p s₀) i q) p s k
      → r ≡ refusal_number k → StepsTo (on_link (read_in p s₀) (Call.credit i q)) p w s r
  steps-credit i q {k = k} went is =
      stepped credit_number credit-answer-number (credit.credit (read_in p s₀) i q) (credit-told (read_in p s₀) i q went)
      (still-in o went (credit-current (read_in p s₀) i q)) (is ∙ credit-number k)

  pub steps-lend : (mask : ℕ) {s : List ℕ} {a : Answer} {r : ℕ} → Went answer_to_lend (lend.lend (read_in p s₀) mask) p s a
      → r ≡ number_for a → StepsTo (on_link (read_in p s₀) (Call.lend mask)) p w s r
  steps-lend mask went =
      stepped lend_number lend-answer-number (lend.lend (read_in p s₀) mask) went (still-in o went (lend-current (read_in p s₀) mask))

  pub steps-reset : {s : List ℕ} {a : Answer} {r : ℕ} → Went answer_to_reset (reset.reset (read_in p s₀)) p s a
      → r ≡ number_for a → StepsTo (on_link (read_in p s₀) Call.reset) p w s r
  steps-reset went = stepped reset_number reset-answer-number (reset.reset (read_in p s₀)) went (still-in o went (reset-current (read_in p s₀)))

-- ---- on an image that is taken

-- the link that was read is the image's
pub on_read : {l k : model.Link} → l ≡ k → (c : Call) {p : Plan} {w : Window} {s : List ℕ} {r : ℕ} → StepsTo (on_link l c) p w s r
    → StepsTo (on_link k c) p w s r
on_read e c {p} {w} {s} {r} v = subst (λ l. StepsTo (on_link l c) p w s r) e v

module _ {b : List ℕ} (t : ValidImage b) (c : Call) {p : Plan} {w : Window} {s : List ℕ} {r : ℕ} (v : StepsTo (on_link (link_in b) c) p w s r) where
  kept : KeptAfter (link_in b) (read_in p s)
  kept = subst (KeptAfter (link_in b)) (sym v.link_is) (done-kept (read_kept b t) c)

  pub writable : Writable p s b
  unfolding link_in
  writable = record {
    sound = v.hand.sound;
    keepable = kept.kept;
    there = omega (arith, ap image_length kept.same_plan, t.total_is, t.image_there);
  }

  -- a refusal that leaves all as it was: the image is the next link's as it stands
  pub stays : AllBytes b → leaves_all r ≡ true → b ≡ written_to b (read_in p s)
  stays bytes h =
      let same = unmoved (read_kept b t) c (ap leaves_all (sym v.number_is) ∙ h) in
      sym (same-buffer t bytes) ∙ ap (written_to b) (sym (v.link_is ∙ same))

  called : called_on b c ≡ record { buffer = written_to b (on_link (link_in b) c).link; result = (on_link (link_in b) c).number }
  unfolding called_on handed_back
  called = ap (λ q. handed_back q b (on_link (link_in b) c)) ((valid-image b).1 t)

  pub comes-to : {after : List ℕ} → after ≡ written_to b (read_in p s) → HandsBack (called_on b c) r after
  comes-to written =
      let x = sym called in (
        v.number_is ∙ ap (λ (y : Called). y.result) x,
        written ∙ ap (written_to b) v.link_is ∙ ap (λ (y : Called). y.buffer) x,
      )
