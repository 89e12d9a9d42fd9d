-- The answers to a request and a credit on a state, from the numbers that their functions hand back. Assumes nothing.
use Prim.Native.Nat.{ℕ, zero, suc, ◌<◌}
use mathlib.Core.Path.{◌≡◌, refl, sym, ap, ◌∙◌, subst}
use mathlib.Core.List.{List}
use mathlib.Core.Bool.{Bool, true, false, cond}
use native.Mathlib.Omega.{arith}
use lib.Dec.{eqb}
use borrow.Author.Tests.{ne_eqb}
use Rattle.model.specs.Refusals.{first_of}
use Rattle.model.specs.Word.{flow_of, departure_of, depart}
use Rattle.model.specs.Calls.{Grant}
use Rattle.model.specs.Link as model
use Rattle.model.specs.Request.{Found, found, nowhere, newest_tests, would_be_valid, sought, request}
use Rattle.model.specs.Credit.{credit_tests, credit_after, credit}
use Rattle.model.proofs.Word.{departure-depart}
use Rattle.model.proofs.NewestFrame.{newest-number}
use Rattle.plan.specs.declared.Plan.{Plan}
use Rattle.calls.specs.declared.Answer.TheVariants.{Granted, Refused}
use Rattle.calls.specs.Reading.{answer_to_request, answer_to_credit}
use Rattle.link.specs.declared.request.Reply.{Reply}
use Rattle.link.specs.Parts.{Parts}
use Rattle.link.specs.Layout.{size_of}
use Rattle.link.specs.Reading.{link_of}
use Rattle.link.specs.Sound.{Sound, SoundState}
use Rattle.link.specs.Given.{tests_of}
use Rattle.link.specs.Steps.{read_in, Went, number_of, reply_of, credit_answer, request_answer}
use Rattle.link.proofs.Readings.{read-size, measures}
use Rattle.link.proofs.Words.{word-refused, flow_below}
use Rattle.link.proofs.Searches.{found_at}
use Rattle.link.proofs.Replies.{request-found, request-nowhere}

-- ---- a credit

credit-number : (l : model.Link) (i p : ℕ) → credit_answer (number_of (credit l i p).answer) ≡ answer_to_credit (credit l i p).answer
unfolding credit credit_after
credit-number l i p = go (first_of (credit_tests l i p))
  where
    go : (n : ℕ) → credit_answer (number_of (credit_after n l i p).answer) ≡ answer_to_credit (credit_after n l i p).answer
    go zero = refl
    go (suc n) = rw (ne_eqb (suc n) 0 (λ z. omega arith))

pub credit-told : (l : model.Link) (i q : ℕ) {p : Plan} {t : List ℕ} {n : ℕ} → Went number_of (credit l i q) p t n → Went answer_to_credit (credit l i q) p t (credit_answer n)
credit-told l i q v = record { link_is = v.link_is; answer_is = ap credit_answer v.answer_is ∙ credit-number l i q; sound = v.sound }

-- ---- a request

-- a refusal in the newest frame has a number
newest-refused : (x : ℕ) (would : Bool) (c : ℕ) → request_answer x (record { number = first_of (newest_tests would c); position = 0 }) ≡ Refused (first_of (newest_tests would c))
newest-refused x would c = rw newest-number (go (eqb c 0) would)
  where
    go : (a b : Bool) → request_answer x (record { number = cond a 11 (cond b 20 12); position = 0 }) ≡ Refused (cond a 11 (cond b 20 12))
    go true b = refl
    go false true = refl
    go false false = refl

-- what a request comes to tells its answer
abbrev Tells : (x : ℕ) → model.Step Grant → Type 0
Tells x m = request_answer x (reply_of m.answer) ≡ answer_to_request m.answer

module _ (l : Parts) (s : Sound l) (x : ℕ) where
  request-number : Tells x (request (link_of l) x)
  request-number = go (tests_of l x) refl
    where
      searched : (f : Found) → f ≡ sought (link_of l) (flow_of x) (departure_of x) → 0 ≡ tests_of l x → Tells x (request (link_of l) x)
      searched (found j c p) e tests =
          let booking = found_at l s (model.window (link_of l)) refl (flow_of x) (flow_below l x tests refl) (departure_of x) j c p e in
          let below : p < size_of l = rw (read-size l refl) at booking.position in
          let small : p < 1024 = omega (arith, below, (measures l s).positions_most) in
          subst (Tells x) (sym (request-found l x tests refl refl j c p e)) (ap (λ (q : ℕ). Granted (depart x q)) (departure-depart x p small))
      searched (nowhere c) e tests =
          subst (Tells x) (sym (request-nowhere l x tests refl refl c e)) (newest-refused x (would_be_valid (link_of l) (flow_of x)) c)

      go : (n : ℕ) → n ≡ tests_of l x → Tells x (request (link_of l) x)
      go zero tests = searched (sought (link_of l) (flow_of x) (departure_of x)) refl tests
      go (suc n) tests =
          subst (Tells x) (sym (word-refused l x tests (λ z. omega arith))) (rw (ne_eqb (suc n) 0 (λ z. omega arith)))

pub request-told : {p : Plan} {s t : List ℕ} → SoundState p s → (x : ℕ) {r : Reply} → Went reply_of (request (read_in p s) x) p t r
    → Went answer_to_request (request (read_in p s) x) p t (request_answer x r)
request-told {p} {s} sound x v = record {
  link_is = v.link_is;
  answer_is = ap (request_answer x) v.answer_is ∙ request-number _ sound.parts x;
  sound = v.sound;
}
