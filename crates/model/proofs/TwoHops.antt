-- On two boards in step a tile leaves the second after the slot in which it left the first. Assumes nothing.
use Prim.Native.Nat.{ℕ, ◌+◌, ◌%◌, ◌≤◌, ◌<◌}
use mathlib.Core.Path.{◌≡◌, refl, sym, ap, ◌∙◌, subst}
use mathlib.Core.List.{List, ◌∷◌, [], ◌++◌}
use mathlib.Core.Bool.{false}
use native.Mathlib.Nat.{mul-le-mul_right}
use native.Mathlib.Decide.{dec_le}
use native.Mathlib.Omega.{arith}
use borrow.Author.Tests.{lt-leb}
use Rattle.model.specs.Word.{departure_of}
use Rattle.model.specs.Plan.{Plan, positions, Accepted}
use Rattle.model.specs.Calls.{Call, Grant, Event, History, requested, accepted, refused}
use Rattle.model.specs.Link.{Link}
use Rattle.model.specs.Request.{request}
use Rattle.model.specs.History.{ticks, slot_after, frame_of, has_come, grants_since}
use Rattle.model.specs.Claim.{Each, AtGrant}
use Rattle.model.specs.Scheduler.{Played, reference, step, run}
use Rattle.model.specs.Holding.{frame_start, InWindow}
use Rattle.model.specs.TwoHops.{InStep, GrantedIn, LeavesAfter, LeavesAfterItCame}
use Rattle.model.proofs.Plan as plan
use Rattle.model.proofs.Slots.{frame-low, frame-begins, slot_after-first, slot_after-is}
use Rattle.model.proofs.Departures.{come-at}
use Rattle.model.proofs.AfterHistory.{After}
use Rattle.model.proofs.AfterRequest.{after-request}
use Rattle.model.proofs.AfterCalls.{Known}
use Rattle.model.proofs.EventsOfRuns.{by-calls}

-- ---- a grant after t ticks

-- w was answered with v: the slot lies in the window, and comes after that of w's departure where the tile has not come
pub record Grants (P : Plan) (t w v : ℕ) : Type 0 where
  pub position : departure_of v < positions P
  pub begun : slot_after P t (departure_of v) < frame_start P t + positions P
  pub after_departure : has_come P t (departure_of w) ≡ false → slot_after P t (departure_of w) < slot_after P t (departure_of v)

-- what every grant of the reference scheduler is
grants-are : (l : Link) (h : History) → After l.plan l h → (w v : ℕ) → (request l w).answer ≡ accepted v → Grants l.plan (ticks h) w v
unfolding ticks grants_since
grants-are l h g w v e =
    let known : After l.plan (request l w).link (requested w (accepted v) ∷ h) =
    subst (λ a. After l.plan (request l w).link (requested w a ∷ h)) e (after-request g w) in
    let claimed = known.events.0 in
    let s = slot_after l.plan (ticks h) (departure_of v) in
    record {
      position = claimed.word.position;
      begun = subst (λ (Q : Plan). s < frame_start Q (ticks h) + positions Q) known.plan_is known.invariant.marks.grants_in.0.begun;
      after_departure = claimed.after_departure claimed.word.asked_well_formed;
    }

-- ---- each grant of a run

abbrev GrantsAt : Plan → Event → History → Type 0
GrantsAt P = AtGrant (λ w v h. Grants P (ticks h) w v)

answered : (l : Link) (h : History) → After l.plan l h → (w : ℕ) → GrantsAt l.plan (requested w (request l w).answer) h
answered l h g w = go (request l w).answer refl
  where
    go : (a : Grant) → (request l w).answer ≡ a → GrantsAt l.plan (requested w a) h
    go (accepted v) e = grants-are l h g w v e
    go (refused r) e = tt

one_more : {P : Plan} (r : Played reference) (c : Call) → Known P r → Each (GrantsAt P) r.history → Each (GrantsAt P) (step reference r c).history
one_more {P} r (Call.request w) g each =
    (subst (λ Q. Known Q r → GrantsAt Q (requested w (request r.state w).answer) r.history) g.plan_is (λ k. answered r.state r.history k w) g, each)
one_more r (Call.credit i p) g each = (tt, each)
one_more r Call.tick g each = (tt, each)
one_more r (Call.lend m) g each = (tt, each)
one_more r Call.reset g each = (tt, each)

pub each-grant : {P : Plan} → Accepted P → (calls : List Call) → Each (GrantsAt P) (run reference P calls).history
each-grant {P} ok = by-calls ok (λ r. Each (GrantsAt P) r.history) (λ r c g happened. one_more r c g) tt

-- what holds of each event holds of one among them
one_of : (Q : Event → History → Type 0) (later : History) (e : Event) (early : History) → Each Q (later ++ e ∷ early) → Q e early
one_of Q [] e early each = each.0
one_of Q (x ∷ later) e early each = one_of Q later e early each.1

granted : {P : Plan} {h : History} {w v : ℕ} {early : History} → Each (GrantsAt P) h → GrantedIn h w v early → Grants P (ticks early) w v
granted {P} {h} {w} {v} {early} each x = one_of (GrantsAt P) x.later (requested w (accepted v)) early (subst (Each (GrantsAt P)) x.is each)

-- ---- two boards in step

-- the same slot after the same ticks
same_slot : {P Q : Plan} → InStep P Q → (t p : ℕ) → slot_after P t p ≡ slot_after Q t p
unfolding slot_after
same_slot step t p = rw (step.slots, step.frames)

module _ {P Q : Plan} (ok : Accepted Q) (step : InStep P Q) {t₁ t₂ w₁ v₁ w₂ v₂ : ℕ} where
  comes-first : Grants P t₁ w₁ v₁ → Grants Q t₂ w₂ v₂ → departure_of w₂ ≡ departure_of v₁ → t₁ ≤ t₂
      → slot_after P t₁ (departure_of v₁) < slot_after Q t₂ (departure_of v₂)
  comes-first one two same le = rw (same_slot step t₁ p) (go (dec_le s₁ t₂))
    where
      p : ℕ
      p = departure_of v₁

      T : ℕ
      T = positions Q

      s₁ : ℕ
      s₁ = slot_after Q t₁ p

      position : p < T
      position = rw (step.slots, step.frames) at one.position

      begun : s₁ < frame_start Q t₁ + T
      begun = rw (same_slot step t₁ p, step.slots, step.frames) at one.begun

      -- the slot is still to come when the second board is asked
      to_come : t₂ < s₁ → s₁ < slot_after Q t₂ (departure_of v₂)
      to_come after =
          let frames-go-on : frame_start Q t₁ ≤ frame_start Q t₂ =
          mul-le-mul_right Q.slots (frame-low ok (frame_of Q t₁) t₂ (omega (arith, frame-begins ok t₁))) in
          let at_p : s₁ % T ≡ p = (slot_after-first ok t₁ p position).position in
          let in_window : InWindow Q t₂ s₁ = record { low = omega (arith, frame-begins ok t₂); high = omega (arith, begun) } in
          let slot_is : slot_after Q t₂ p ≡ s₁ = ap (slot_after Q t₂) (sym at_p) ∙ slot_after-is ok t₂ s₁ in_window after in
          let yet : has_come Q t₂ p ≡ false =
          ap (has_come Q t₂) (sym at_p) ∙ come-at (record { accepted = ok; current_is = refl }) s₁ in_window ∙ lt-leb s₁ t₂ after in
          let later = two.after_departure (ap (has_come Q t₂) same ∙ yet) in
          omega (arith, slot_is, ap (slot_after Q t₂) same)

      go : Dec (s₁ ≤ t₂) → s₁ < slot_after Q t₂ (departure_of v₂)
      go (yes gone) = omega (arith, (slot_after-first ok t₂ (departure_of v₂) two.position).later)
      go (no n) = to_come (omega arith)

pub leaves_after : {P Q : Plan} → Accepted P → Accepted Q → InStep P Q → (calls₁ calls₂ : List Call)
    → LeavesAfter P Q (run reference P calls₁).history (run reference Q calls₂).history
leaves_after ok₁ ok₂ step calls₁ calls₂ w₁ v₁ w₂ v₂ early₁ early₂ one two =
    comes-first ok₂ step (granted (each-grant ok₁ calls₁) one) (granted (each-grant ok₂ calls₂) two)

pub leaves-after-it-came : LeavesAfterItCame reference
leaves-after-it-came first second passes₁ passes₂ = leaves_after (plan.accepted first passes₁) (plan.accepted second passes₂)
