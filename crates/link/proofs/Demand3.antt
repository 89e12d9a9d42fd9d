-- Demand 3 of the code, that it lends in turn, and the numbers of the words that it grants: any list of calls on the link that fresh hands back for a plan
-- that the reader accepts. Assumes nothing.
use Prim.Native.Nat.{ℕ, ◌<◌}
use mathlib.Core.Path.{◌≡◌, refl, sym, ap, ◌∙◌, subst}
use mathlib.Core.List.{List, ◌∷◌, [], ◌++◌}
use mathlib.Core.Option.{some, none}
use Rattle.plan.specs.declared.Plan.{Plan}
use Rattle.std.specs.Prelude.{Ok}
use Rattle.plan.specs.Reading.{plan_for, ReadAs, Valid}
use Rattle.plan.proofs.Laws.{is-plan}
use Rattle.calls.specs.Reading.{answer_to_request, answer_to_credit, answer_to_tick, answer_to_lend, answer_to_reset}
use Rattle.model.specs.Plan as model
use Rattle.model.specs.Calls.{Call, Grant, CreditAnswer, TickAnswer, LendAnswer, ResetAnswer, Event, History, accepted, refused, requested, credited, ticked, lent}
use Rattle.model.specs.Claim.{Demand3}
use Rattle.model.specs.Scheduler.{Played, reference, step, play, started, run}
use Rattle.model.specs.Fairness.{FairOn}
use Rattle.model.specs.QuantumNumbers.{InOrder}
use Rattle.model.specs.CountedBursts.{several, counts_as, events_in}
use Rattle.model.proofs.AfterCalls.{Known, after-calls, after-fresh}
use Rattle.model.proofs.CountedBursts.{play-both, burst-played}
use Rattle.model.proofs.Demand3.{meets-accepted}
use Rattle.model.proofs.Fairness.{fair-accepted}
use Rattle.model.proofs.QuantumNumbers.{numbers-accepted}
use Rattle.link.specs.declared.Link.{Link}
use Rattle.link.specs.Steps.{read_of as link_read}
use Rattle.link.specs.Handed.{Handed}

-- ---- an answer of the code is made from one answer of the model

one-grant : (a b : Grant) → answer_to_request a ≡ answer_to_request b → a ≡ b
one-grant (accepted v) (accepted w) e = cc
one-grant (accepted v) (refused s) e = cc
one-grant (refused r) (accepted w) e = cc
one-grant (refused r) (refused s) e = cc

one-credit-answer : (a b : CreditAnswer) → answer_to_credit a ≡ answer_to_credit b → a ≡ b
one-credit-answer (accepted u) (accepted v) e = refl
one-credit-answer (accepted u) (refused s) e = cc
one-credit-answer (refused r) (accepted v) e = cc
one-credit-answer (refused r) (refused s) e = cc

one-tick-answer : (a b : TickAnswer) → answer_to_tick a ≡ answer_to_tick b → a ≡ b
one-tick-answer (some i) (some j) e = cc
one-tick-answer (some i) none e = cc
one-tick-answer none (some j) e = cc
one-tick-answer none none e = refl

pub one-lend-answer : (a b : LendAnswer) → answer_to_lend a ≡ answer_to_lend b → a ≡ b
one-lend-answer (accepted i) (accepted j) e = cc
one-lend-answer (accepted i) (refused s) e = cc
one-lend-answer (refused r) (accepted j) e = cc
one-lend-answer (refused r) (refused s) e = cc

one-reset-answer : (a b : ResetAnswer) → answer_to_reset a ≡ answer_to_reset b → a ≡ b
one-reset-answer (accepted u) (accepted v) e = refl
one-reset-answer (accepted u) (refused s) e = cc
one-reset-answer (refused r) (accepted v) e = cc
one-reset-answer (refused r) (refused s) e = cc

-- ---- the calls of the code are a run of the reference scheduler

-- one call more
play-more : (r : Played reference) (calls : List Call) (c : Call) → play reference r (calls ++ c ∷ []) ≡ step reference (play reference r calls) c
unfolding play
play-more r [] c = refl
play-more r (x ∷ calls) c = play-more (step reference r x) calls c

-- the calls that were made, played on the reference scheduler, come to this link with these events
pub record RunOf (P : model.Plan) (h : History) (l : Link) : Type 0 where
  pub calls : List Call
  pub played : run reference P calls ≡ record { state = link_read l; history = h }

module _ {P : model.Plan} {h : History} {l : Link} (made : RunOf P h l) where
  -- one call more, with the event and the link that the scheduler comes to
  one_more : (c : Call) (next : History) (k : Link) → step reference (record { state = link_read l; history = h }) c ≡ record { state = link_read k; history = next }
      → RunOf P next k
  one_more c next k e = record {
    calls = made.calls ++ c ∷ [];
    played = play-more (started reference P) made.calls c ∙ ap (λ r. step reference r c) made.played ∙ e;
  }

  -- several more
  several-more : (cs : List Call) (next : History) (k : Link)
      → play reference (record { state = link_read l; history = h }) cs ≡ record { state = link_read k; history = next } → RunOf P next k
  several-more cs next k e = record {
    calls = made.calls ++ cs;
    played = play-both (started reference P) made.calls cs ∙ ap (λ r. play reference r cs) made.played ∙ e;
  }

  known_of : model.Accepted P → Known P (record { state = link_read l; history = h })
  known_of ok = subst (Known P) made.played (after-calls (started reference P) made.calls (after-fresh ok))

pub run_of : {p : Plan} → model.Accepted (plan_for p) → {h : History} {l : Link} → Handed p h l → RunOf (plan_for p) h l
unfolding play
run_of ok (Handed.by_fresh is) = record { calls = []; played = λ k. record { state = sym is.0 k; history = [] } }
run_of ok (Handed.by_request {h} {l} g w r a s e) =
    let same = one-grant _ a (sym s.answer_is ∙ e) in
    one_more (run_of ok g) (Call.request w) _ r.link (λ k. record { state = sym s.link_is k; history = requested w (same k) ∷ h })
run_of ok (Handed.by_credit {h} {l} g i q r a s e) =
    let same = one-credit-answer _ a (sym s.answer_is ∙ e) in
    one_more (run_of ok g) (Call.credit i q) _ r.link (λ k. record { state = sym s.link_is k; history = credited i q (same k) ∷ h })
run_of ok (Handed.by_tick {h} {l} g r a s e) =
    let same = one-tick-answer _ a (sym s.answer_is ∙ e) in
    one_more (run_of ok g) Call.tick _ r.link (λ k. record { state = sym s.link_is k; history = ticked (same k) ∷ h })
run_of ok (Handed.by_lend {h} {l} g mask r a s e) =
    let same = one-lend-answer _ a (sym s.answer_is ∙ e) in
    one_more (run_of ok g) (Call.lend mask) _ r.link (λ k. record { state = sym s.link_is k; history = lent mask (same k) ∷ h })
run_of ok (Handed.by_reset {h} {l} g r a s e) =
    let same = one-reset-answer _ a (sym s.answer_is ∙ e) in
    one_more (run_of ok g) Call.reset _ r.link (λ k. record { state = sym s.link_is k; history = Event.reset (same k) ∷ h })
run_of ok (Handed.by_burst {h} {l} g xs ys r b) =
    let made = run_of ok g in
    several-more made (counts_as (several xs)) _ r
    (sym (burst-played (record { state = link_read l; history = h }) (known_of made ok) xs)
    ∙ λ k. record { state = sym b.link_is k; history = events_in (sym b.records_are k) ++ h })

-- ---- what holds of every run of the reference scheduler holds of the code

module _ (Q : model.Plan → History → Type 0) (runs : (P : model.Plan) → model.Accepted P → (calls : List Call) → Q P (run reference P calls).history) where
  handed-has : (p : Plan) → Valid p → {h : History} {l : Link} → Handed p h l → Q (plan_for p) h
  handed-has p valid g =
      let made = run_of valid.accepted g in
      subst (λ (r : Played reference). Q (plan_for p) r.history) made.played (runs (plan_for p) valid.accepted made.calls)

  pub code-has : (bytes : List ℕ) (p : Plan) → ReadAs bytes (Ok p) → Valid p
      → {h : History} {l : Link} → Handed p h l → Q (model.plan_of bytes) h
  code-has bytes p is valid {h} {l} g =
      let plan_is = is-plan bytes p is in
      subst (λ P. Q P h) plan_is (handed-has p valid g)

-- Bytes that `plan::read` accepts, the link that `Link::fresh` hands back, and any list of calls, each on the link that the one before handed back:
-- demand 3 of their events, for each flow of the plan.
pub code_meets : (bytes : List ℕ) (p : Plan) → ReadAs bytes (Ok p) → Valid p
    → {h : History} {l : Link} → Handed p h l → (i : ℕ) → i < model.flow_count (model.plan_of bytes) → Demand3 (model.plan_of bytes) i h
code_meets = code-has (λ P h. (i : ℕ) → i < model.flow_count P → Demand3 P i h) meets-accepted

-- and RULES 21.10: lending in turn is fair
pub code-fair : (bytes : List ℕ) (p : Plan) → ReadAs bytes (Ok p) → Valid p
    → {h : History} {l : Link} → Handed p h l → FairOn (model.plan_of bytes) h
code-fair = code-has FairOn fair-accepted

-- and RULES 5.3: what a flow is granted by these calls counts up from 0 modulo 1,024, grant after grant
pub code-numbers : (bytes : List ℕ) (p : Plan) → ReadAs bytes (Ok p) → Valid p
    → {h : History} {l : Link} → Handed p h l → (i : ℕ) → i < model.flow_count (model.plan_of bytes) → InOrder (model.plan_of bytes) i h
code-numbers = code-has (λ P h. (i : ℕ) → i < model.flow_count P → InOrder P i h) numbers-accepted
