-- A chain of exported calls (RULES 12.7) never meets 21 or 22, its answers are those of the reference scheduler, and demand 3 holds of them. Assumes
-- nothing.
use Prim.Native.Nat.{ℕ, zero, suc, ◌≤◌, ◌<◌}
use mathlib.Core.Path.{◌≡◌, refl, sym, ap, ◌∙◌, subst}
use mathlib.Core.List.{List, ◌∷◌, [], ◌++◌}
use mathlib.Core.Bool.{Bool, true, false, not}
use native.Mathlib.Omega.{arith}
use lib.ListN.{length, drop, take-append-drop}
use lib.Dec.{eqb}
use borrow.Author.Tests.{ltb-false, le-ltb, ne_eqb}
use Rattle.model.specs.Refusals.{Line, ◌when◌, first_of}
use Rattle.model.specs.Plan.{flow_count, plan_of, refusal}
use Rattle.model.specs.Calls.{Call, History}
use Rattle.model.specs.Fresh.{fresh}
use Rattle.model.specs.Claim.{Demand3}
use Rattle.model.specs.Fairness.{FairOn}
use Rattle.model.specs.QuantumNumbers.{InOrder}
use Rattle.model.specs.Scheduler.{Played, reference, step, play, started, run}
use Rattle.model.proofs.Tests.{line-passed}
use Rattle.model.proofs.Plan.{accepted}
use Rattle.model.proofs.Demand3.{meets}
use Rattle.model.proofs.Fairness.{fair}
use Rattle.model.proofs.QuantumNumbers.{numbers-in-order}
use Rattle.imagemodel.specs.Image.{image_length, image_of, header_field}
use Rattle.imagemodel.specs.Consistent.{Keepable}
use Rattle.imagemodel.specs.ValidImage.{refusal_of}
use Rattle.imagemodel.specs.Exports.{written_to, handed_back, fresh_tests, fresh_on, called_on}
use Rattle.imagemodel.specs.Chain.{event_of, image_in, Chain, starts, goes_on}
use Rattle.imagemodel.proofs.FreshKept.{fresh_kept}
use Rattle.imagemodel.proofs.Closed.{call_kept, kept_run}
use Rattle.imagemodel.proofs.ImageValid.{image-valid}
use Rattle.imagemodel.proofs.ValidImage.{valid-image}
use Rattle.imagemodel.proofs.Exports.{image-in, CalledAs, called-as}

-- ---- fresh

-- a line whose number is a refusal, where there is one
pub line-of-refusal : (r : ℕ) (rest : List Line) → first_of (r when not (eqb r 0) ∷ rest) ≡ 0 → (r ≡ 0) × (first_of rest ≡ 0)
unfolding first_of
line-of-refusal zero rest e = (refl, e)
line-of-refusal (suc r) rest e =
    let stands : not (eqb (suc r) 0) ≡ true = rw (ne_eqb (suc r) 0 (λ z. omega arith)) in
    let both : ◌≡◌ {A = Bool} true false = sym stands ∙ (line-passed (not (eqb (suc r) 0)) r rest e).0 in
    let no : ◌≡◌ {A = ℕ} 0 1 = cc in
    absurd (omega arith)

module _ (plan b : List ℕ) where
  -- the plan is accepted, and the buffer is long enough
  pub record Starts : Type 0 where
    pub plan_passes : refusal plan ≡ 0
    pub long_enough : image_length (plan_of plan) ≤ length b

  tests-passed : first_of (fresh_tests plan b) ≡ 0 → Starts
  tests-passed e =
      let first = line-of-refusal (refusal plan) _ e in
      record { plan_passes = first.0; long_enough = ltb-false (length b) (image_length (plan_of plan)) (line-passed _ 20 _ first.1).0 }

  tests-pass : Starts → first_of (fresh_tests plan b) ≡ 0
  unfolding first_of
  tests-pass s = rw (s.plan_passes, le-ltb (length b) (image_length (plan_of plan)) s.long_enough)

  -- fresh answers 0 exactly then, and writes the fresh link's image
  pub fresh-written : Starts → fresh_on plan b ≡ record { buffer = written_to b (fresh (plan_of plan)); result = 0 }
  unfolding fresh_on handed_back
  fresh-written s = ap (λ r. handed_back r b (record { link = fresh (plan_of plan); number = 0 })) (tests-pass s)

  pub fresh-starts : (fresh_on plan b).result ≡ 0 → Starts
  unfolding fresh_on handed_back
  fresh-starts e = go (first_of (fresh_tests plan b)) refl e
    where
      go : (r : ℕ) → first_of (fresh_tests plan b) ≡ r → (handed_back r b (record { link = fresh (plan_of plan); number = 0 })).result ≡ 0 → Starts
      go zero q f = tests-passed q
      go (suc r) q f = absurd (omega arith)

-- ---- the chain

play-more : (r : Played reference) (calls : List Call) (c : Call) → play reference r (calls ++ (c ∷ [])) ≡ step reference (play reference r calls) c
unfolding play
play-more r [] c = refl
play-more r (x ∷ calls) c = play-more (step reference r x) calls c

module _ (plan : List ℕ) where
  -- what the reference scheduler comes to after these calls
  abbrev scheduler_after : List Call → Played reference
  scheduler_after calls = run reference (plan_of plan) calls

  -- the chain's answers are the scheduler's, and its image is that of the scheduler's link
  pub record Follows (calls : List Call) (h : History) (b : List ℕ) : Type 0 where
    pub plan_passes : refusal plan ≡ 0
    pub history_is : h ≡ (scheduler_after calls).history
    pub image_is : image_in b ≡ image_of (scheduler_after calls).state

  -- a buffer with the image of a link is that image and some bytes past it
  image-and-rest : (c image : List ℕ) → image_in c ≡ image → c ≡ image ++ drop (header_field c 0) c
  image-and-rest c image e = sym (take-append-drop (header_field c 0) c) ∙ ap (◌++ drop (header_field c 0) c) e

  kept-after : refusal plan ≡ 0 → (calls : List Call) → Keepable (scheduler_after calls).state
  kept-after passes calls = (kept_run (plan_of plan) (accepted plan passes) calls).kept

  one_more : {calls : List Call} {h : History} {b : List ℕ} → Follows calls h b → (c : List ℕ) → image_in c ≡ image_in b → (call : Call)
      → Follows (calls ++ (call ∷ [])) (event_of call (called_on c call).result ∷ h) (called_on c call).buffer
  one_more {calls} {h} {b} f c same call = record {
    plan_passes = f.plan_passes;
    history_is = ap (event_of call (called_on c call).result ∷◌) f.history_is ∙ called.history_is ∙ ap (λ p. p.history) (sym more);
    image_is =
        ap image_in called.buffer_is ∙ image-in (call_kept r kept call).kept rest ∙ ap (λ p. image_of p.state) (sym more);
  }
    where
      r : Played reference
      r = scheduler_after calls

      more : scheduler_after (calls ++ (call ∷ [])) ≡ step reference r call
      more = play-more (started reference (plan_of plan)) calls call

      kept : Keepable r.state
      kept = kept-after f.plan_passes calls

      rest : List ℕ
      rest = drop (header_field c 0) c

      buffer_is : c ≡ image_of r.state ++ rest
      buffer_is = image-and-rest c (image_of r.state) (same ∙ f.image_is)

      called : CalledAs r kept rest call (called_on c call)
      called = subst (λ x. CalledAs r kept rest call (called_on x call)) (sym buffer_is) (called-as r kept rest call)

  first : (b : List ℕ) → Starts plan b → Follows [] [] (fresh_on plan b).buffer
  unfolding play
  first b s = record {
    plan_passes = s.plan_passes;
    history_is = refl;
    image_is = ap (λ x. image_in x.buffer) (fresh-written plan b s) ∙ image-in (fresh_kept (accepted plan s.plan_passes)) _;
  }

  pub chain-follows : {calls : List Call} {h : History} {b : List ℕ} → Chain plan calls h b → Follows calls h b
  chain-follows (starts b e) = first b (fresh-starts plan b e)
  chain-follows (goes_on ch c same call) = one_more (chain-follows ch) c same call

  -- it never meets 21 or 22
  pub chain-valid : {calls : List Call} {h : History} {b : List ℕ} → Chain plan calls h b → (c : List ℕ) → image_in c ≡ image_in b → refusal_of c ≡ 0
  chain-valid {calls} ch c same =
      let f = chain-follows ch in
      let image = image_of (scheduler_after calls).state in
      ap refusal_of (image-and-rest c image (same ∙ f.image_is)) ∙ (valid-image _).1 (image-valid (kept-after f.plan_passes calls) _)

  -- what holds of the model's every run holds of its answers
  pub chain-has : (Q : History → Type 0) → (refusal plan ≡ 0 → (calls : List Call) → Q (run reference (plan_of plan) calls).history)
      → {calls : List Call} {h : History} {b : List ℕ} → Chain plan calls h b → Q h
  chain-has Q has {calls} ch =
      let f = chain-follows ch in
      subst Q (sym f.history_is) (has f.plan_passes calls)

  -- they meet demand 3
  pub chain-meets : {calls : List Call} {h : History} {b : List ℕ} → Chain plan calls h b → (i : ℕ) → i < flow_count (plan_of plan)
      → Demand3 (plan_of plan) i h
  chain-meets ch i known = chain-has (Demand3 (plan_of plan) i) (λ passes calls. meets plan passes calls i known) ch

  -- its lends are fair
  pub chain-fair : {calls : List Call} {h : History} {b : List ℕ} → Chain plan calls h b → FairOn (plan_of plan) h
  chain-fair ch = chain-has (FairOn (plan_of plan)) (fair plan) ch

  -- and its granted words are numbered in order
  pub chain-numbers : {calls : List Call} {h : History} {b : List ℕ} → Chain plan calls h b → (i : ℕ) → i < flow_count (plan_of plan)
      → InOrder (plan_of plan) i h
  chain-numbers ch i known = chain-has (InOrder (plan_of plan) i) (λ passes calls. numbers-in-order plan passes calls i known) ch
