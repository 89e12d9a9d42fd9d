-- What is known of each event of a run of the reference scheduler: of the counts before it and after it, of a granted word, and of a word refused with 11.
-- Assumes nothing.
use Prim.Native.Nat.{ℕ, zero, suc, ◌+◌, ◌-◌, ◌≤◌, ◌<◌}
use mathlib.Core.Path.{◌≡◌, refl, ap, ◌∙◌, subst}
use mathlib.Core.List.{List, [], ◌∷◌}
use mathlib.Core.Bool.{Bool, true, false, cond}
use native.Mathlib.Omega.{arith}
use lib.Dec.{eqb}
use borrow.Author.Tests.{ne_eqb}
use Rattle.model.specs.Refusals.{first_of, ◌when◌}
use Rattle.model.specs.Word.{flow_of}
use Rattle.model.specs.Plan.{Plan, flow_count, entry, Accepted}
use Rattle.model.specs.Calls.{Call, Grant, Event, History, requested, credited, ticked, lent, accepted, refused}
use Rattle.model.specs.Link.{Link, flow}
use Rattle.model.specs.Request.{word_tests, number_tests, request_after, request}
use Rattle.model.specs.History.{ticks, frame_of, well_formed, origin, grants_since, granted_in, refused_in}
use Rattle.model.specs.Claim.{Each, GrantedWordAt}
use Rattle.model.specs.Scheduler.{Played, reference, step, play, started, run}
use Rattle.model.proofs.Tallies.{All, all_map}
use Rattle.model.proofs.Invariant.{Begun}
use Rattle.model.proofs.LeastCount.{Full}
use Rattle.model.proofs.NewestFrame.{refused-number}
use Rattle.model.proofs.HistoryCounts.{well-formed-is, request-number}
use Rattle.model.proofs.AfterHistory.{AskedOn, After}
use Rattle.model.proofs.AfterCalls.{Known, after-step, after-fresh}

-- ---- the counts of a history that a run comes to

pub record Counts (P : Plan) (h : History) : Type 0 where
  pub begun : All (Begun P (ticks h)) (grants_since P h)
  pub in_frames : (i : ℕ) → i < flow_count P → (f : ℕ) → granted_in P h i f ≤ (entry P i).share
  pub after_a_change : (i : ℕ) → i < flow_count P → AskedOn P h i → origin P h < frame_of P (ticks h)
      → Full P (origin P h) (grants_since P h) i (frame_of P (ticks h) + P.frames - 1)
  pub after_a_refusal : (i : ℕ) → i < flow_count P → AskedOn P h i → 0 < refused_in P h i (frame_of P (ticks h))
      → Full P (origin P h) (grants_since P h) i (frame_of P (ticks h) + P.frames)

counts_of : (l : Link) (h : History) → After l.plan l h → Counts l.plan h
counts_of l h g = record {
  begun = all_map _ _ (λ m x. x.begun) (grants_since l.plan h) g.invariant.marks.grants_in;
  in_frames = λ i known. (g.invariant.injects i known).in_frames;
  after_a_change = λ i known asked. (g.least i known asked).after_a_change;
  after_a_refusal = λ i known asked. (g.least i known asked).after_a_refusal;
}

pub counts : {P : Plan} {l : Link} {h : History} → After P l h → Counts P h
counts {P} {l} {h} g = subst (λ Q. After Q l h → Counts Q h) g.plan_is (counts_of l h) g

-- ---- a word refused with 11

-- the word's own tests give no 11
not-11 : (a b c : Bool) → first_of (8 when a ∷ 9 when b ∷ 10 when c ∷ []) ≡ 11 → ⊥
unfolding first_of
not-11 true b c e = omega arith
not-11 false true c e = omega arith
not-11 false false true e = omega arith
not-11 false false false e = omega arith

well-formed-by-11 : (l : Link) (w : ℕ) → (request l w).answer ≡ refused 11 → well_formed l.plan w ≡ true
unfolding request request_after
well-formed-by-11 l w e = go (first_of (word_tests P w)) refl (rw (request-number P number w) at e)
  where
    P : Plan
    P = l.plan

    number : ℕ
    number = (flow l (flow_of w)).number

    go : (r : ℕ) → first_of (word_tests P w) ≡ r
        → (request_after (cond (eqb (first_of (word_tests P w)) 0) (first_of (number_tests number w)) (first_of (word_tests P w))) l w).answer ≡ refused 11
        → well_formed P w ≡ true
    go zero tests e = well-formed-is P w ∙ ap (λ x. eqb x 0) tests
    go (suc r) tests e =
        let refusal : (request_after (suc r) l w).answer ≡ refused 11 =
        rw (tests, ne_eqb (suc r) 0 (λ z. omega arith)) at e in
        absurd (not-11 _ _ _ (tests ∙ refused-number refusal))

-- Where the event is a refusal with 11, the word is well formed.
abbrev pub WellFormedIf11 : Plan → Event → Type 0
WellFormedIf11 P (requested w (accepted v)) = Unit {0}
WellFormedIf11 P (requested w (refused r)) = r ≡ 11 → well_formed P w ≡ true
WellFormedIf11 P (credited j p a) = Unit {0}
WellFormedIf11 P (ticked x) = Unit {0}
WellFormedIf11 P (lent m a) = Unit {0}
WellFormedIf11 P (Event.reset a) = Unit {0}

requested-11 : (l : Link) (w : ℕ) → WellFormedIf11 l.plan (requested w (request l w).answer)
requested-11 l w = go (request l w).answer refl
  where
    go : (a : Grant) → (request l w).answer ≡ a → WellFormedIf11 l.plan (requested w a)
    go (accepted v) e = tt
    go (refused r) e = λ is-11. well-formed-by-11 l w (e ∙ ap refused is-11)

-- ---- each event of a run

-- what is known of event e, after h
pub record Happened (P : Plan) (e : Event) (h : History) : Type 0 where
  pub counts_before : Counts P h
  pub counts_after : Counts P (e ∷ h)
  pub word : GrantedWordAt P e h
  pub well_formed_if_11 : WellFormedIf11 P e

module _ {P : Plan} where
  pub happens : {l k : Link} {e : Event} {h : History} → After P l h → After P k (e ∷ h) → WellFormedIf11 P e → Happened P e h
  happens g later if-11 = record { counts_before = counts g; counts_after = counts later; word = later.events.0.word; well_formed_if_11 = if-11 }

  pub one_more : (r : Played reference) (c : Call) → Known P r → Each (Happened P) r.history → Each (Happened P) (step reference r c).history
  one_more r (Call.request w) g each =
      let if-11 = subst (λ Q. WellFormedIf11 Q (requested w (request r.state w).answer)) g.plan_is (requested-11 r.state w) in
      (happens g (after-step r (Call.request w) g) if-11, each)
  one_more r (Call.credit i p) g each = (happens g (after-step r (Call.credit i p) g) tt, each)
  one_more r Call.tick g each = (happens g (after-step r Call.tick g) tt, each)
  one_more r (Call.lend m) g each = (happens g (after-step r (Call.lend m) g) tt, each)
  one_more r Call.reset g each = (happens g (after-step r Call.reset g) tt, each)

  go_on : (r : Played reference) (calls : List Call) → Known P r → Each (Happened P) r.history → Each (Happened P) (play reference r calls).history
  unfolding play
  go_on r [] g each = each
  go_on r (c ∷ calls) g each = go_on (step reference r c) calls (after-step r c g) (one_more r c g each)

pub each-happened : (P : Plan) → Accepted P → (calls : List Call) → Each (Happened P) (run reference P calls).history
each-happened P ok calls = go_on (started reference P) calls (after-fresh ok) tt

-- What holds at the start and is kept by each call, with what is known of the calls so far, holds after every list of calls.
pub by-calls : {P : Plan} → Accepted P → (Q : Played reference → Type 0)
    → ((r : Played reference) (c : Call) → Known P r → Each (Happened P) r.history → Q r → Q (step reference r c))
    → Q (started reference P) → (calls : List Call) → Q (run reference P calls)
unfolding play
by-calls {P} ok Q kept first calls = all (started reference P) calls (after-fresh ok) tt first
  where
    all : (r : Played reference) (calls : List Call) → Known P r → Each (Happened P) r.history → Q r → Q (play reference r calls)
    all r [] g each q = q
    all r (c ∷ calls) g each q = all (step reference r c) calls (after-step r c g) (one_more r c g each) (kept r c g each q)
