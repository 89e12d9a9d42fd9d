-- What a board keeps at a crossing, call by call. Assumes nothing.
use Prim.Native.Nat.{ℕ, suc, ◌+◌, ◌*◌, ◌/◌, ◌%◌, ◌≤◌, ◌<◌}
use mathlib.Core.Path.{◌≡◌, refl, sym, ap, ◌∙◌, subst}
use mathlib.Core.List.{List, ◌∷◌}
use mathlib.Core.Option.{Option, some, none}
use mathlib.Core.Bool.{true, false, ◌&&◌}
use native.Mathlib.Omega.{arith}
use lib.Dec.{leb, eqb}
use lib.ListN.{get_or, length}
use native.Mathlib.Nat.{mod-lt}
use borrow.Author.Tests.{le-leb, lt-leb, lt-ltb, eq-eqb}
use Rattle.model.specs.Tables.{ahead, tally}
use Rattle.model.specs.Word.{Fields, flow_of, destination_of, departure_of}
use Rattle.model.specs.Plan.{Plan, positions, flow_count, entry, Accepted}
use Rattle.model.specs.Calls.{Grant, CreditAnswer, Event, History, requested, credited, ticked, lent, accepted, refused}
use Rattle.model.specs.Link.{Link, flow}
use Rattle.model.specs.Scheduler.{Played, reference}
use Rattle.model.specs.History.{marks_of, refusal_at, at_slot, ticks, slot_after, has_come, well_formed, grants, credits, of_flow, granted_up_to}
use Rattle.model.specs.Claim.{Each, AtRequest}
use Rattle.arrival.specs.AcceptedCredits.{AtCredit, IsAccepted, GivesBackFrom}
use Rattle.model.specs.TwoHops.{InStep}
use Rattle.arrival.specs.SeveralLinks.{slots_of}
use Rattle.model.proofs.Word.{split-join}
use Rattle.model.proofs.Tallies.{tally-append}
use Rattle.model.proofs.Slots.{some-position, current-in-window}
use Rattle.model.proofs.Departures.{come-at}
use Rattle.model.proofs.AfterHistory.{After}
use Rattle.model.proofs.Marks.{up-to-skip}
use Rattle.arrival.proofs.EnoughCells.{up-to-more}
use Rattle.arrival.proofs.TileSlots.{slots-hit, slots-skip}
use Rattle.crossings.specs.Crossing.{Crossing, crossing_with, waits, asking}
use Rattle.crossings.specs.Claim.{AsksNow, Onward, refused_then}
use Rattle.crossings.proofs.OneLink.{Reached, up-to-most, slot-to-come}

-- ---- an event more on the in-link

-- it is no tick, and no credit of flow i
abbrev pub NotGiven : ℕ → Event → Type 0
NotGiven i (requested w a) = Unit {0}
NotGiven i (credited k p a) = k ≡ i → ⊥
NotGiven i (ticked x) = ⊥
NotGiven i (lent m a) = Unit {0}
NotGiven i (Event.reset a) = Unit {0}

pub record SameArriving (P : Plan) (i : ℕ) (e : Event) (h : History) : Type 0 where
  pub now : ticks (e ∷ h) ≡ ticks h
  pub dated : slots_of i (credits P (e ∷ h)) ≡ slots_of i (credits P h)
  pub came : granted_up_to P (e ∷ h) i (ticks h) ≡ granted_up_to P h i (ticks h)
  pub all_accepted : AtCredit (λ k p a h. k ≡ i → IsAccepted a) e h

pub same-arriving : (P : Plan) (i : ℕ) (e : Event) (h : History) → NotGiven i e → SameArriving P i e h
unfolding ticks credits grants
same-arriving P i (requested w (accepted v)) h n = record {
  now = refl;
  dated = refl;
  came = up-to-skip i (ticks h) _ (grants P h) (lt-leb (slot_after P (ticks h) (departure_of v)) (ticks h) (slot-to-come P (ticks h) (departure_of v)));
  all_accepted = tt;
}
same-arriving P i (requested w (refused r)) h n = record { now = refl; dated = refl; came = refl; all_accepted = tt }
same-arriving P i (credited k p (accepted u)) h n = record {
  now = refl;
  dated = slots-skip i _ (credits P h) n;
  came = refl;
  all_accepted = λ z. absurd
      (n z);
}
same-arriving P i (credited k p (refused r)) h n = record { now = refl; dated = refl; came = refl; all_accepted = λ z. absurd (n z) }
same-arriving P i (ticked x) h n = absurd n
same-arriving P i (lent m a) h n = record { now = refl; dated = refl; came = refl; all_accepted = tt }
same-arriving P i (Event.reset a) h n = record { now = refl; dated = refl; came = refl; all_accepted = tt }

-- ---- an event more on the out-link

-- it is no tick, and no grant of flow j
abbrev pub NoGrant : ℕ → Event → Type 0
NoGrant j (requested w (accepted v)) = flow_of w ≡ j → ⊥
NoGrant j (requested w (refused r)) = Unit {0}
NoGrant j (credited k p a) = Unit {0}
NoGrant j (ticked x) = ⊥
NoGrant j (lent m a) = Unit {0}
NoGrant j (Event.reset a) = Unit {0}

pub record SameLeaving (Q : Plan) (j : ℕ) (e : Event) (h : History) : Type 0 where
  pub now : ticks (e ∷ h) ≡ ticks h
  pub dated : slots_of j (grants Q (e ∷ h)) ≡ slots_of j (grants Q h)

pub same-leaving : (Q : Plan) (j : ℕ) (e : Event) (h : History) → NoGrant j e → SameLeaving Q j e h
unfolding ticks grants
same-leaving Q j (requested w (accepted v)) h n = record { now = refl; dated = slots-skip j _ (grants Q h) n }
same-leaving Q j (requested w (refused r)) h n = record { now = refl; dated = refl }
same-leaving Q j (credited k p a) h n = record { now = refl; dated = refl }
same-leaving Q j (ticked x) h n = absurd n
same-leaving Q j (lent m a) h n = record { now = refl; dated = refl }
same-leaving Q j (Event.reset a) h n = record { now = refl; dated = refl }

-- ---- what is kept of a flow

-- Of flow i, which goes on as flow j, `extra` tiles have come that don't wait yet.
pub record FlowKept (P Q : Plan) (i j extra : ℕ) (x : Crossing) : Type 0 where
  pub all_accepted : Each (AtCredit (λ k p a h. k ≡ i → IsAccepted a)) x.arriving.history
  pub dated : slots_of i (credits P x.arriving.history) ≡ slots_of j (grants Q x.leaving.history)
  pub none_lost :
      granted_up_to P x.arriving.history i (ticks x.arriving.history) ≡ waits x i + length (slots_of j (grants Q x.leaving.history)) + extra
  pub asks_now : Each (AtRequest (λ w h. flow_of w ≡ j → AsksNow Q j w h)) x.leaving.history

pub record Kept (P Q : Plan) (onward : List (Option ℕ)) (extra : ℕ → ℕ) (x : Crossing) : Type 0 where
  pub arriving : Reached P x.arriving
  pub leaving : Reached Q x.leaving
  pub in_step : ticks x.arriving.history ≡ ticks x.leaving.history
  pub onward_is : x.onward ≡ onward
  pub long : length x.waiting ≡ 16
  pub flows : (i j : ℕ) → get_or onward i none ≡ some j → FlowKept P Q i j (extra i) x

module _ {P Q : Plan} {onward : List (Option ℕ)} {extra : ℕ → ℕ} {x : Crossing} (k : Kept P Q onward extra x) where
  -- a call of others on the in-link
  pub by-arriving : (e : Event) (r : Played reference) → r.history ≡ e ∷ x.arriving.history → Reached P r
      → ticks (e ∷ x.arriving.history) ≡ ticks x.arriving.history
      → ((i j : ℕ) → get_or onward i none ≡ some j → NotGiven i e) → Kept P Q onward extra (crossing_with x r x.leaving x.waiting)
  by-arriving e r is reached still theirs = record {
    arriving = reached;
    leaving = k.leaving;
    in_step = ap ticks is ∙ still ∙ k.in_step;
    onward_is = k.onward_is;
    long = k.long;
    flows = λ i j goes.
        let f = k.flows i j goes in
        let s = same-arriving P i e x.arriving.history (theirs i j goes) in
        record {
          all_accepted = subst (Each (AtCredit (λ k p a h. k ≡ i → IsAccepted a))) (sym is) (s.all_accepted, f.all_accepted);
          dated = ap (λ h. slots_of i (credits P h)) is ∙ s.dated ∙ f.dated;
          none_lost =
              ap (λ h. granted_up_to P h i (ticks h)) is ∙ ap (λ t. granted_up_to P (e ∷ x.arriving.history) i t) s.now ∙ s.came ∙ f.none_lost;
          asks_now = f.asks_now;
        };
  }

  -- a call on the out-link that grants nothing to a flow that goes on here
  pub by-leaving : (e : Event) (r : Played reference) → r.history ≡ e ∷ x.leaving.history → Reached Q r
      → ticks (e ∷ x.leaving.history) ≡ ticks x.leaving.history
      → ((i j : ℕ) → get_or onward i none ≡ some j → NoGrant j e × AtRequest (λ w h. flow_of w ≡ j → AsksNow Q j w h) e x.leaving.history)
      → Kept P Q onward extra (crossing_with x x.arriving r x.waiting)
  by-leaving e r is reached still theirs = record {
    arriving = k.arriving;
    leaving = reached;
    in_step = k.in_step ∙ sym (ap ticks is ∙ still);
    onward_is = k.onward_is;
    long = k.long;
    flows = λ i j goes.
        let f = k.flows i j goes in
        let (none-granted, asks) = theirs i j goes in
        let same = ap (λ h. slots_of j (grants Q h)) is ∙ (same-leaving Q j e x.leaving.history none-granted).dated in
        record {
          all_accepted = f.all_accepted;
          dated = f.dated ∙ sym same;
          none_lost = f.none_lost ∙ ap (λ ss. waits x i + length ss + extra i) (sym same);
          asks_now = subst (Each (AtRequest (λ w h. flow_of w ≡ j → AsksNow Q j w h))) (sym is) (asks, f.asks_now);
        };
  }

-- ---- a tile that is granted a slot

-- F and W are equal on both links, and so are the slots of positions
module _ {P Q : Plan} (step : InStep P Q) where
  pub same-positions : positions P ≡ positions Q
  same-positions = λ k. step.slots k * step.frames k

  pub same_slot : (t p : ℕ) → slot_after P t p ≡ slot_after Q t p
  unfolding slot_after
  same_slot t p = ap (λ T. suc t + ahead T (suc t % T) p) same-positions

  pub same-come : (t p : ℕ) → has_come P t p ≡ has_come Q t p
  same-come t p = λ k. eqb (p / step.slots k) (t / step.slots k % step.frames k) && leb p (t % (step.slots k * step.frames k))

module _ {P Q : Plan} {onward : List (Option ℕ)} {extra : ℕ → ℕ} (ok-P : Accepted P) (ok-Q : Accepted Q) (in_step : InStep P Q)
    (goes_on : Onward P Q onward)
    {x : Crossing} (k : Kept P Q onward extra x) (i j : ℕ) (goes : get_or onward i none ≡ some j) (some-wait : 0 < waits x i) where
  abbrev t : ℕ
  t = ticks x.arriving.history

  -- its cell can be given back, dated any slot to come
  pub gives_back : (p : ℕ) → p < positions Q → has_come Q (ticks x.leaving.history) p ≡ false → GivesBackFrom P i p x.arriving.history
  gives_back p below later = record {
    known = (goes_on.known i j goes).0;
    position = rw (same-positions in_step) below;
    later = same-come in_step t p ∙ ap (λ n. has_come Q n p) k.in_step ∙ later;
    holds = λ r le.
        let f = k.flows i j goes in
        omega (
          arith,
          up-to-most i r (credits P x.arriving.history),
          ap length f.dated,
          f.none_lost,
          up-to-more i t r (omega (arith, slot-to-come P t p)) (grants P x.arriving.history),
        );
  }

-- the credit of a flow that is taken adds its date
pub credit-dated : (P : Plan) (i p : ℕ) (a : CreditAnswer) (h : History) → IsAccepted a
    → slots_of i (credits P (credited i p a ∷ h)) ≡ slot_after P (ticks h) p ∷ slots_of i (credits P h)
unfolding credits
credit-dated P i p (accepted u) h is = slots-hit i _ (credits P h) refl
credit-dated P i p (refused r) h is = absurd is

-- a grant adds its slot
pub grant-slot : (Q : Plan) (j w v : ℕ) (h : History) → flow_of w ≡ j
    → slots_of j (grants Q (requested w (accepted v) ∷ h)) ≡ slot_after Q (ticks h) (departure_of v) ∷ slots_of j (grants Q h)
unfolding grants
grant-slot Q j w v h e = slots-hit j _ (grants Q h) e

-- no credit changes what came
pub credit-came : (P : Plan) (i k p : ℕ) (a : CreditAnswer) (h : History)
    → granted_up_to P (credited k p a ∷ h) i (ticks (credited k p a ∷ h)) ≡ granted_up_to P h i (ticks h)
unfolding grants ticks
credit-came P i k p a h = refl

pub ticks-credited : (i p : ℕ) (a : CreditAnswer) (h : History) → ticks (credited i p a ∷ h) ≡ ticks h
unfolding ticks
ticks-credited i p a h = refl

pub ticks-requested : (w : ℕ) (a : Grant) (h : History) → ticks (requested w a ∷ h) ≡ ticks h
unfolding ticks
ticks-requested w a h = refl

-- ---- the word with which a board asks

pub record AskedAs (Q : Plan) (j w : ℕ) (h : History) : Type 0 where
  pub flow : flow_of w ≡ j
  pub well : well_formed Q w ≡ true
  pub now : AsksNow Q j w h
  pub departs : departure_of w ≡ ticks h % positions Q

well-formed : (Q : Plan) (w j : ℕ) → j < flow_count Q → flow_of w ≡ j → destination_of w ≡ (entry Q j).destination → departure_of w < positions Q
    → well_formed Q w ≡ true
unfolding well_formed
well-formed Q w j below flow destination departure =
    rw (
      lt-ltb (flow_of w) (flow_count Q) (omega arith),
      eq-eqb (destination_of w) (entry Q (flow_of w)).destination (destination ∙ ap (λ (i : ℕ). (entry Q i).destination) (sym flow)),
      lt-ltb (departure_of w) (positions Q) departure,
    )

-- its parts
abbrev fields_for : Link → (j : ℕ) → Fields
fields_for l j = record { destination = (entry l.plan j).destination; flow = j; quantum = (flow l j).number; departure = l.current }

asks-here : (l : Link) (h : History) (j : ℕ) → After l.plan l h → Accepted l.plan → j < flow_count l.plan → AskedAs l.plan j (asking l j) h
asks-here l h j g ok below =
    let T = positions l.plan in
    let t = ticks h in
    let current = g.invariant.current.current_is in
    let few : l.current < 256 = omega (arith, current, mod-lt t (some-position ok), ok.positions_most) in
    let number = g.numbers j below in
    let small : (flow l j).number < 1024 = omega (arith, number) in
    let parts = split-join (fields_for l j) (record {
      destination = omega (arith, (ok.entries_fit j below).destination_most);
      flow = omega (arith, ok.flows_most);
      quantum = small;
      departure = omega (arith, few);
    }) in
    record {
      flow = ap (λ (f : Fields). f.flow) parts;
      well = well-formed l.plan (asking l j) j below (ap (λ (f : Fields). f.flow) parts) (ap (λ (f : Fields). f.destination) parts)
          (omega (arith, ap (λ (f : Fields). f.departure) parts, current, mod-lt t (some-position ok)));
      now = record {
        come = ap (λ (f : Fields). has_come l.plan t f.departure) parts ∙ ap (has_come l.plan t) current
            ∙ come-at g.invariant.current t (current-in-window ok t) ∙ le-leb t t (omega arith);
        number = ap (λ (f : Fields). f.quantum) parts ∙ number;
      };
      departs = ap (λ (f : Fields). f.departure) parts ∙ current;
    }

pub asks-so : {Q : Plan} {l : Link} {h : History} (j : ℕ) → After Q l h → Accepted Q → j < flow_count Q → AskedAs Q j (asking l j) h
asks-so {Q} {l} {h} j g = subst (λ R. After R l h → Accepted R → j < flow_count R → AskedAs R j (asking l j) h) g.plan_is (asks-here l h j) g

-- ---- refusals

-- an event more takes none away, and a refused word of the flow is one more
pub refused-more : (Q : Plan) (j t : ℕ) (e : Event) (h : History) → refused_then Q j t h ≤ refused_then Q j t (e ∷ h)
unfolding marks_of
refused-more Q j t e h = omega (arith, tally-append (λ m. of_flow j m && at_slot t m) (refusal_at Q e h) (marks_of (refusal_at Q) h))

pub refused-now : (Q : Plan) (j w r : ℕ) (h : History) → well_formed Q w ≡ true → flow_of w ≡ j
    → 0 < refused_then Q j (ticks h) (requested w (refused r) ∷ h)
unfolding marks_of tally
refused-now Q j w r h well flow =
    rw (well, eq-eqb (flow_of w) j flow, eq-eqb (ticks h) (ticks h) refl) (omega arith)
