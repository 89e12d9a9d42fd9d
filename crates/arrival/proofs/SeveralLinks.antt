-- The reference scheduler over several links: a tile comes up on link m in the m-th frame after the one in which it is due on the first, at the latest. Assumes
-- nothing.
use Prim.Native.Nat.{ℕ, ◌+◌, ◌*◌, ◌/◌, ◌≤◌, ◌<◌}
use mathlib.Core.Path.{◌≡◌, refl, sym, ap, ◌∙◌, subst}
use mathlib.Core.List.{List, [], ◌∷◌}
use mathlib.Core.Bool.{Bool, true, false}
use native.Mathlib.Nat.{mul-le-mul_right}
use native.Mathlib.Decide.{ℕ_discrete}
use native.Mathlib.Omega.{arith}
use lib.ListN.{length}
use Rattle.model.specs.Tables.{bit, tally}
use Rattle.model.specs.Word.{flow_of, departure_of}
use Rattle.model.specs.Plan.{Plan, entry, Accepted}
use Rattle.model.specs.Calls.{Call, Event, History, requested, credited, ticked, lent, accepted, refused}
use Rattle.model.specs.History.{ticks, slot_after, frame_of, well_formed, is_granted_reset, grants}
use Rattle.model.specs.Claim.{Each, GrantedWordAt}
use Rattle.model.specs.Scheduler.{reference, run}
use Rattle.arrival.specs.Delay.{due_slot, due_frame, due_in, AtAnswer, IsGranted, TimelyInOrder, AsksAt, Modest, ServedAt, SoonOn}
use Rattle.arrival.specs.SeveralLinks.{slots_of, sent_slots, dues, due_slots, tile, Board, plan_on, sent_on, due_on, Joined, Way, Within, AllGranted, EachGranted}
use Rattle.arrival.specs.SeveralLinks.{EachWithin, OverLinks}
use Rattle.model.proofs.Plan as plan
use Rattle.model.proofs.Slots.{frame-begins, frame-ends}
use Rattle.model.proofs.HistoryCounts.{NoneGranted}
use Rattle.model.proofs.Demand3.{each_map}
use Rattle.model.proofs.EventsOfRuns.{Happened, each-happened}
use Rattle.arrival.proofs.Soon.{soon-accepted}
use Rattle.arrival.proofs.TileSlots.{tile-newest, tile-older, tile-of-oldest, oldest-length}
use Rattle.arrival.proofs.GrantsInOrder.{FrameInOrderAt, frames-in-order}
use Rattle.arrival.proofs.NextLink.{sent-own, sent-other, due-own, due-other, as_many, since-all, Shared, shared, modest-on-next}

-- ---- one link: each tile comes up in the frame in which it is due, or in the next

module _ (P : Plan) (i : ℕ) where
  abbrev NextFrame : History → ℕ → Type 0
  NextFrame h n = frame_of P (tile n (sent_slots P h i)) ≤ frame_of P (tile n (due_slots P h i)) + 1

  -- a grant more
  grant-tile : (w v : ℕ) (h : History) → GrantedWordAt P (requested w (accepted v)) h → ServedAt P i (requested w (accepted v)) h
      → ((n : ℕ) → n < length (sent_slots P h i) → NextFrame h n)
      → (n : ℕ) → n < length (sent_slots P (requested w (accepted v) ∷ h) i) → NextFrame (requested w (accepted v) ∷ h) n
  grant-tile w v h word served rest n lt = go (ℕ_discrete (flow_of w) i)
    where
      own-tile : (own : flow_of w ≡ i) → Dec (n ≡ length (sent_slots P h i))
          → frame_of P (tile n (slot_after P (ticks h) (departure_of v) ∷ sent_slots P h i)) ≤ frame_of P (tile n (due_slot P w h ∷ due_slots P h i)) + 1
      own-tile own (yes e) =
          let x = served word.asked_well_formed own in
          let sent = ap (λ k. tile k (slot_after P (ticks h) (departure_of v) ∷ sent_slots P h i)) e ∙ tile-newest (slot_after P (ticks h) (departure_of v)) (sent_slots P h i) in
          let due = ap (λ k. tile k (due_slot P w h ∷ due_slots P h i)) (e ∙ sym (as_many P i h)) ∙ tile-newest (due_slot P w h) (due_slots P h i) in
          omega (arith, x.due_or_next, ap (frame_of P) sent, ap (frame_of P) due)
      own-tile own (no d) =
          let below : n < length (sent_slots P h i) = omega (arith, ap length (sent-own P w v h i own)) in
          let sent = tile-older (slot_after P (ticks h) (departure_of v)) (sent_slots P h i) n below in
          let due = tile-older (due_slot P w h) (due_slots P h i) n (omega (arith, as_many P i h)) in
          omega (arith, rest n below, ap (frame_of P) sent, ap (frame_of P) due)

      go : Dec (flow_of w ≡ i) → NextFrame (requested w (accepted v) ∷ h) n
      go (yes own) = rw (sent-own P w v h i own, due-own P w v h i own) (own-tile own (ℕ_discrete n (length (sent_slots P h i))))
      go (no other) = rw (sent-other P w v h i other, due-other P w v h i other) (rest n (omega (arith, ap length (sent-other P w v h i other))))

  next-frame : (h : History) → Each (GrantedWordAt P) h → Each (ServedAt P i) h → (n : ℕ) → n < length (sent_slots P h i) → NextFrame h n
  unfolding grants dues slots_of
  next-frame [] words served = λ n lt. absurd (omega arith)
  next-frame (requested w (accepted v) ∷ h) words served = grant-tile w v h words.0 served.0 (next-frame h words.1 served.1)
  next-frame (requested w (refused r) ∷ h) words served = next-frame h words.1 served.1
  next-frame (credited j p a ∷ h) words served = next-frame h words.1 served.1
  next-frame (ticked x ∷ h) words served = next-frame h words.1 served.1
  next-frame (lent m a ∷ h) words served = next-frame h words.1 served.1
  next-frame (Event.reset a ∷ h) words served = next-frame h words.1 served.1

-- ---- a board

pub none-granted : (h : History) → tally is_granted_reset h ≡ 0 → NoneGranted h
unfolding tally
none-granted [] e = tt
none-granted (x ∷ h) e = go (is_granted_reset x) refl (none-granted h (omega arith))
  where
    go : (b : Bool) → is_granted_reset x ≡ b → NoneGranted h → (is_granted_reset x ≡ false) × NoneGranted h
    go true r rest = absurd (omega (arith, ap bit r))
    go false r rest = (r, rest)

module _ (b : Board reference) where
  pub ok : Accepted (plan_on b)
  ok = plan.accepted b.bytes b.passes

  pub none : NoneGranted b.events
  none = none-granted b.events b.no_reset

  -- what holds of every run
  pub runs-have : (R : History → Type 0) → ((calls : List Call) → R (run reference (plan_on b) calls).history) → R b.events
  runs-have R all = subst R b.ran.is (all b.ran.calls)

  pub happened : Each (Happened (plan_on b)) b.events
  happened = runs-have (Each (Happened (plan_on b))) (each-happened (plan_on b) ok)

  pub ordered : Each (FrameInOrderAt (plan_on b)) b.events
  ordered = runs-have (Each (FrameInOrderAt (plan_on b))) (frames-in-order (plan_on b) ok)

  pub words : Each (GrantedWordAt (plan_on b)) b.events
  words = each_map _ (GrantedWordAt (plan_on b)) (λ e h x. x.word) b.events happened

  pub served : Modest TimelyInOrder 0 (plan_on b) b.stream b.events → Each (ServedAt (plan_on b) b.stream) b.events
  served m = since-all _ b.events none (runs-have (SoonOn TimelyInOrder 0 (plan_on b) b.stream) (λ calls. soon-accepted (plan_on b) ok calls b.stream b.known) m)

  one-frame : Modest TimelyInOrder 0 (plan_on b) b.stream b.events → (n : ℕ) → n < length (sent_on b)
      → frame_of (plan_on b) (tile n (sent_on b)) ≤ frame_of (plan_on b) (tile n (due_on b)) + 1
  one-frame m = next-frame (plan_on b) b.stream b.events words (served m)

-- ---- two boards

module _ (a b : Board reference) (joined : Joined a b) where
  pub both : Shared (ok a) (ok b) joined.in_step a.stream b.stream a.known joined.share_kept a.events b.events
  both =
      shared (ok a) (ok b) joined.in_step a.stream b.stream a.known joined.share_kept joined.together (happened a)
      (ordered a) (none a) (none b) (words b)

  pub next-modest : Modest TimelyInOrder 0 (plan_on b) b.stream b.events
  next-modest =
      modest-on-next (ok a) (ok b) joined.in_step a.stream b.stream a.known joined.share_kept a.events b.events both (happened a)
      (none a) (none b)

  -- a refusal would need the whole share due already
  all-granted : AllGranted b
  all-granted = each-granted b.events both.few (served b next-modest)
    where
      each-granted : (h : History)
          → Each (AsksAt (λ P i w h. due_in P h i (due_frame P w h) < (entry P i).share) (plan_on b) b.stream) h → Each (ServedAt (plan_on b) b.stream) h
          → Each (AtAnswer (λ w x h. well_formed (plan_on b) w ≡ true → flow_of w ≡ b.stream → IsGranted x)) h
      each-granted [] few served = tt
      each-granted (requested w (accepted v) ∷ h) few served = (λ well own. tt, each-granted h few.1 served.1)
      each-granted (requested w (refused r) ∷ h) few served =
          (λ well own. omega (arith, few.0 well own, served.0 well own), each-granted h few.1 served.1)
      each-granted (credited k p x ∷ h) few served = (tt, each-granted h few.1 served.1)
      each-granted (ticked x ∷ h) few served = (tt, each-granted h few.1 served.1)
      each-granted (lent m x ∷ h) few served = (tt, each-granted h few.1 served.1)
      each-granted (Event.reset x ∷ h) few served = (tt, each-granted h few.1 served.1)

-- ---- the way

abbrev FramesLater : (k : ℕ) (P : Plan) (from : List ℕ) → Board reference → Type 0
FramesLater k P from b = (n : ℕ) → n < length (sent_on b) → frame_of (plan_on b) (tile n (sent_on b)) ≤ frame_of P (tile n from) + k

module _ {P : Plan} (accepted_plan : Accepted P) (from : List ℕ) where
  -- frames and slots; the plans have the same F
  within : (k : ℕ) (b : Board reference) → P.slots ≡ (plan_on b).slots → FramesLater k P from b → Within k P from b
  within k b same later = record {
    frames_later = later;
    slots_later = λ n lt.
        let F = (plan_on b).slots in
        let s = tile n (sent_on b) in
        let d = tile n from in
        let ends : frame_of (plan_on b) s * F ≤ (frame_of P d + k) * F = mul-le-mul_right F (later n lt) in
        let begins : frame_of P d * F ≤ d = subst (λ x. frame_of P d * x ≤ d) same (frame-begins accepted_plan d) in
        omega (arith, frame-ends (ok b) s);
  }

  -- the next board adds a frame
  later-still : (k : ℕ) (b next : Board reference) → Joined b next → FramesLater k P from b → FramesLater (k + 1) P from next
  later-still k b next joined later n lt =
      let x = both b next joined in
      let due_below : n < length (due_on next) = omega (arith, as_many (plan_on next) next.stream next.events) in
      let same-tile : tile n (sent_on b) ≡ tile n (due_on next) = tile-of-oldest x.oldest n due_below in
      let sent-before = later n (omega (arith, oldest-length x.oldest)) in
      let same-frame : frame_of (plan_on b) (tile n (sent_on b)) ≡ frame_of (plan_on next) (tile n (due_on next)) =
      ap (frame_of (plan_on b)) same-tile ∙ ap (λ F. tile n (due_on next) / F) joined.in_step.slots in
      omega (arith, one-frame next (next-modest b next joined) n lt)

  each_within : (k : ℕ) (b : Board reference) (rest : List (Board reference)) → P.slots ≡ (plan_on b).slots → FramesLater k P from b → Way b rest
      → EachWithin (k + 1) P from rest
  each_within k b [] same later way = tt
  each_within k b (next ∷ rest) same later way =
      let same-too = same ∙ way.0.in_step.slots in
      let more = later-still k b next way.0 later in
      (within (k + 1) next same-too more, each_within (k + 1) next rest same-too more way.1)

each-granted : (b : Board reference) (rest : List (Board reference)) → Way b rest → EachGranted rest
each-granted b [] way = tt
each-granted b (next ∷ rest) way = (all-granted b next way.0, each-granted next rest way.1)

pub over-links : OverLinks reference
over-links a rest way = record {
  granted = each-granted a rest way;
  served = served a;
  from_first = each_within (ok a) (sent_on a) 0 a rest refl (λ n lt. omega arith) way;
  from_due = λ m. (within (ok a) (due_on a) 1 a refl (one-frame a m), each_within (ok a) (due_on a) 1 a rest refl (one-frame a m) way);
}
