-- A list of calls with bursts is the list with each burst replaced by its requests: the same link and the same events, and so demand 3. Assumes nothing.
use Prim.Native.Nat.{ℕ, zero, suc, ◌<◌}
use mathlib.Core.Path.{◌≡◌, refl, sym, ap, ◌∙◌, subst}
use mathlib.Core.List.{List, ◌∷◌, [], ◌++◌, map, flat_map, reverse_aux, reverse_aux-eq}
use mathlib.Core.Bool.{Bool, true, false, cond}
use native.Mathlib.Nat.{suc-ne-zero}
use lib.ListN.{take, drop}
use lib.Dec.{eqb}
use borrow.Author.Tests.{ne_eqb}
use Rattle.model.specs.Refusals.{first_of}
use Rattle.model.specs.Word.{flow_of, departure_of, depart}
use Rattle.model.specs.Plan.{Plan, flow_count, plan_of, refusal}
use Rattle.model.specs.Calls.{Call, Grant, History, requested, accepted, refused}
use Rattle.model.specs.Link.{Link, flow}
use Rattle.model.specs.Request.{Found, found, nowhere, request_tests, sought, would_be_valid, answered, request_after, request}
use Rattle.model.specs.Claim.{GrantedWordAt, Demand3}
use Rattle.model.specs.Scheduler.{Played, reference, step, play, started}
use Rattle.model.specs.Burst.{BurstRecord, filled, in_order, burst}
use Rattle.model.specs.CountedBursts.{Item, single, several, counts_as, replaced, event_in, step_with, play_with, run_with, BurstsCounted}
use Rattle.model.proofs.AfterCalls.{Known, after-calls, after-fresh}
use Rattle.model.proofs.Plan as plan
use Rattle.model.proofs.Demand3.{meets}

-- ---- a refusal has a number, and so a record with result 0 was granted

abbrev Numbered : Grant → Type 0
Numbered (accepted v) = Unit {0}
Numbered (refused r) = r ≡ 0 → ⊥

-- 11, 20 or 12
newest-numbered : (spent would : Bool) → ◌≡◌ {A = ℕ} (cond spent 11 (cond would 20 12)) 0 → ⊥
newest-numbered true would e = suc-ne-zero 10 e
newest-numbered false true e = suc-ne-zero 19 e
newest-numbered false false e = suc-ne-zero 11 e

found-numbered : (l : Link) (w : ℕ) (f : Found) → Numbered (answered l w f).answer
unfolding answered first_of
found-numbered l w (found j c p) = tt
found-numbered l w (nowhere c) = newest-numbered (eqb c 0) (would_be_valid l (flow_of w))

request-numbered : (l : Link) (w : ℕ) → Numbered (request l w).answer
unfolding request request_after
request-numbered l w = go (first_of (request_tests l.plan (flow l (flow_of w)).number w))
  where
    go : (r : ℕ) → Numbered (request_after r l w).answer
    go zero = found-numbered l w (sought l (flow_of w) (departure_of w))
    go (suc r) = suc-ne-zero r

-- ---- the event of a request is the one that its record shows

event-shown : (P : Plan) (h : History) (x : BurstRecord) (a : Grant) → GrantedWordAt P (requested x.word a) h → Numbered a
    → event_in (filled x a) ≡ requested x.word a
event-shown P h x (accepted v) word numbered = ap (λ u. requested x.word (accepted u)) (sym word.same_but_departure)
event-shown P h x (refused r) word numbered =
    ap (λ b. requested x.word (cond b (accepted (depart x.word 0)) (refused r))) (ne_eqb r 0 numbered)

-- a link, after the events of a history
abbrev from : Link → History → Played reference
from l h = record { state = l; history = h }

asks : List BurstRecord → List Call
asks xs = map (λ x. Call.request x.word) xs

in-order-played : {P : Plan} (l : Link) (h : History) → Known P (from l h) → (xs : List BurstRecord)
    → play reference (from l h) (asks xs) ≡ from (in_order l xs).link (reverse_aux (map event_in (in_order l xs).records) h)
unfolding play in_order asks
in-order-played l h g [] = refl
in-order-played {P} l h g (x ∷ xs) =
    let first = request l x.word in
    let e = requested x.word first.answer in
    let rest = in_order first.link xs in
    let after = after-calls (from l h) (Call.request x.word ∷ []) g in
    let shown = event-shown P h x first.answer after.events.0.word (request-numbered l x.word) in
    in-order-played first.link (e ∷ h) after xs
    ∙ ap (λ f. from rest.link (reverse_aux (map event_in rest.records) (f ∷ h))) (sym shown)

-- ---- a burst counts as its requests

-- the records that were handled are the first ones
first-handled : (k : ℕ) (l : Link) (xs : List BurstRecord) → take k ((in_order l (take k xs)).records ++ drop k xs) ≡ (in_order l (take k xs)).records
unfolding in_order
first-handled zero l xs = refl
first-handled (suc k) l [] = refl
first-handled (suc k) l (x ∷ xs) =
    let first = request l x.word in
    ap (λ ys. filled x first.answer ∷ ys) (first-handled k first.link xs)

pub burst-played : {P : Plan} (r : Played reference) → Known P r → (xs : List BurstRecord) → step_with burst r (several xs) ≡ play reference r (counts_as (several xs))
unfolding burst asks
burst-played r g xs =
    let b = in_order r.state (take 16 xs) in
    ap (λ ys. from b.link (reverse_aux (map event_in ys) [] ++ r.history)) (first-handled 16 r.state xs)
    ∙ ap (from b.link) (sym (reverse_aux-eq (map event_in b.records) r.history))
    ∙ sym (in-order-played r.state r.history g (take 16 xs))

pub play-both : (r : Played reference) (xs ys : List Call) → play reference r (xs ++ ys) ≡ play reference (play reference r xs) ys
unfolding play
play-both r [] ys = refl
play-both r (x ∷ xs) ys = play-both (step reference r x) xs ys

items-counted : {P : Plan} (r : Played reference) → Known P r → (items : List Item) → play_with burst r items ≡ play reference r (replaced items)
unfolding play_with play flat_map
items-counted r g [] = refl
items-counted r g (single c ∷ items) = items-counted (step reference r c) (after-calls r (c ∷ []) g) items
items-counted r g (several xs ∷ items) =
    let cs = counts_as (several xs) in
    ap (λ q. play_with burst q items) (burst-played r g xs)
    ∙ items-counted (play reference r cs) (after-calls r cs g) items
    ∙ sym (play-both r cs (replaced items))

pub bursts-counted : BurstsCounted burst
bursts-counted P ok items = items-counted (started reference P) (after-fresh ok) items

-- and so demand 3 is met of what its caller sees
pub bursts-meet : (bytes : List ℕ) → refusal bytes ≡ 0 → (items : List Item) (i : ℕ) → i < flow_count (plan_of bytes)
    → Demand3 (plan_of bytes) i (run_with burst (plan_of bytes) items).history
bursts-meet bytes passes items i known =
    subst (λ r. Demand3 (plan_of bytes) i r.history) (sym (bursts-counted (plan_of bytes) (plan.accepted bytes passes) items))
    (meets bytes passes (replaced items) i known)
