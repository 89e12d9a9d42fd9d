-- Demand 3 of a host's calls: they are a chain, they never meet 21 or 22, and their answers meet the claim. Assumes nothing.
use Prim.Native.Nat.{ℕ, ◌<◌}
use mathlib.Core.Path.{◌≡◌, refl, sym, ◌∙◌, subst}
use mathlib.Core.List.{List, ◌∷◌, [], ◌++◌}
use mathlib.Core.Option.{Option, some, none}
use lib.ListN.{length}
use Rattle.model.specs.Record.{records}
use Rattle.model.specs.Plan.{flow_count, plan_of, refusal}
use Rattle.model.specs.Calls.{Call, History}
use Rattle.model.specs.Claim.{Demand3}
use Rattle.model.specs.Fairness.{FairOn}
use Rattle.model.specs.QuantumNumbers.{InOrder}
use Rattle.model.specs.Scheduler.{reference, run}
use Rattle.imagemodel.specs.ValidImage.{refusal_of}
use Rattle.imagemodel.specs.Exports.{Called, HandsBack, called_on}
use Rattle.imagemodel.specs.Chain.{event_of, image_in, Chain, starts, goes_on}
use Rattle.imagemodel.specs.Play.{call_of, record_on, Results, one_by_one, PlaysBack, play_on, numbers_in, with_event, events_of}
use Rattle.imagemodel.proofs.Chain.{chain-valid, chain-has, chain-meets, chain-fair, chain-numbers}
use Rattle.imagemodel.proofs.Play.{all-played}
use Rattle.nazgolv.specs.Hosted.{Hosted, by_fresh, by_request, by_credit, by_tick, by_lend, by_reset, by_play}

module _ (plan : List ℕ) where
  -- some calls make this chain, up to a buffer with the same image
  pub record Chained (h : History) (b : List ℕ) : Type 0 where
    pub calls : List Call
    pub buffer : List ℕ
    pub chain : Chain plan calls h buffer
    pub same : image_in b ≡ image_in buffer

  -- another buffer with it
  handed : {h : History} {b : List ℕ} → Chained h b → (c : List ℕ) → image_in c ≡ image_in b → Chained h c
  handed x c same = record { calls = x.calls; buffer = x.buffer; chain = x.chain; same = same ∙ x.same }

  goes : {h : History} {b : List ℕ} → Chained h b → (call : Call) → Chained (event_of call (called_on b call).result ∷ h) (called_on b call).buffer
  goes {h} {b} x call = record {
    calls = x.calls ++ (call ∷ []);
    buffer = (called_on b call).buffer;
    chain = goes_on x.chain b x.same call;
    same = refl;
  }

  one_more : {h : History} {b : List ℕ} → Chained h b → (c : List ℕ) → image_in c ≡ image_in b → (call : Call) {r : ℕ} {after : List ℕ}
      → HandsBack (called_on c call) r after → Chained (event_of call r ∷ h) after
  one_more {h} x c same call (number, buffer) =
      subst (λ (d : Called). Chained (event_of call d.result ∷ h) d.buffer) (λ k. record { result = sym number k; buffer = sym buffer k })
      (goes (handed x c same) call)

  -- records, one after another
  one-record : {h : History} {b : List ℕ} → Chained h b → (o : Option Call) → Chained (with_event o (record_on b o).result h) (record_on b o).buffer
  one-record x (some c) = goes x c
  one-record x none = x

  all-records : {h : History} {b : List ℕ} → Chained h b → (rs : List (List ℕ)) → Chained (events_of rs (one_by_one b rs).numbers h) (one_by_one b rs).buffer
  unfolding events_of one_by_one
  all-records x [] = x
  all-records {h} {b} x (r ∷ rs) =
      all-records {h = with_event (call_of r) (record_on b (call_of r)).result h} {b = (record_on b (call_of r)).buffer} (one-record x (call_of r)) rs

  one-play : {h : History} {b : List ℕ} → Chained h b → (c : List ℕ) → image_in c ≡ image_in b → (stream out : List ℕ) {after out' : List ℕ}
      → PlaysBack (play_on c stream out) 0 after out' → Chained (events_of (records stream) (numbers_in out' (length (records stream))) h) after
  one-play {h} x c same stream out {after} {out'} back =
      let p = all-played c stream out back in
      subst (λ (d : Results). Chained (events_of (records stream) d.numbers h) d.buffer)
      (λ k. record { numbers = sym p.numbers_are k; buffer = sym p.image_is k }) (all-records (handed x c same) (records stream))

  pub chained : {h : History} {b : List ℕ} → Hosted plan h b → Chained h b
  chained (by_fresh b {after} (number, buffer)) =
      record { calls = []; buffer = after; chain = subst (Chain plan [] []) (sym buffer) (starts b (sym number)); same = refl }
  chained (by_request x c same word r e) = one_more (chained x) c same (Call.request word) e
  chained (by_credit x c same flow position r e) = one_more (chained x) c same (Call.credit flow position) e
  chained (by_tick x c same r e) = one_more (chained x) c same Call.tick e
  chained (by_lend x c same mask r e) = one_more (chained x) c same (Call.lend mask) e
  chained (by_reset x c same r e) = one_more (chained x) c same Call.reset e
  chained (by_play x c same stream out e) = one-play (chained x) c same stream out e

  -- a buffer with the image in hand is never turned back
  pub host-valid : {h : History} {b : List ℕ} → Hosted plan h b → (c : List ℕ) → image_in c ≡ image_in b → refusal_of c ≡ 0
  host-valid x c same = let made = chained x in chain-valid plan made.chain c (same ∙ made.same)

  pub host-meets : {h : History} {b : List ℕ} → Hosted plan h b → (i : ℕ) → i < flow_count (plan_of plan) → Demand3 (plan_of plan) i h
  host-meets x = chain-meets plan (chained x).chain

  -- RULES 21.10: lending in turn is fair
  pub host-fair : {h : History} {b : List ℕ} → Hosted plan h b → FairOn (plan_of plan) h
  host-fair x = chain-fair plan (chained x).chain

  -- RULES 5.3: granted words count up from 0 modulo 1,024
  pub host-numbers : {h : History} {b : List ℕ} → Hosted plan h b → (i : ℕ) → i < flow_count (plan_of plan) → InOrder (plan_of plan) i h
  host-numbers x = chain-numbers plan (chained x).chain

  -- what holds of every run of the reference scheduler holds of the answers
  pub host-has : (Q : History → Type 0) → (refusal plan ≡ 0 → (calls : List Call) → Q (run reference (plan_of plan) calls).history) → {h : History} {b : List ℕ}
      → Hosted plan h b → Q h
  host-has Q runs x = chain-has plan Q runs (chained x).chain
