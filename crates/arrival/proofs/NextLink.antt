-- A stream on two links in step: on the second it is modest, and no request of it is refused. Assumes nothing.
use Prim.Native.Nat.{ℕ, suc, ◌+◌, ◌*◌, ◌/◌, ◌≤◌, ◌<◌}
use mathlib.Core.Path.{◌≡◌, refl, sym, ap, ap₂, ◌∙◌, subst}
use mathlib.Core.List.{List, [], ◌∷◌, ◌++◌}
use mathlib.Core.Bool.{Bool, true, false, cond}
use native.Mathlib.Decide.{dec_lt, ℕ_discrete}
use native.Mathlib.Omega.{arith}
use lib.Dec.{leb, eqb}
use lib.ListN.{length}
use borrow.Author.Tests.{le-leb, lt-leb, eq-eqb}
use Rattle.model.specs.Tables.{tally}
use Rattle.model.specs.Word.{flow_of, departure_of}
use Rattle.model.specs.Plan.{Plan, positions, flow_count, entry, Accepted}
use Rattle.model.specs.Calls.{Event, History, requested, credited, ticked, lent, accepted, refused}
use Rattle.model.specs.History.{ticks, slot_after, frame_of, has_come, is_granted_reset, grants, grants_since, granted_in, in_frame}
use Rattle.model.specs.Holding.{frame_start, InWindow}
use Rattle.model.specs.Claim.{Each, EachSince, GrantedWordAt}
use Rattle.model.specs.TwoHops.{InStep}
use Rattle.arrival.specs.Delay.{due_slot, due_frame, due_since, due_in, TimelyInOrder, AsksAt, Modest}
use Rattle.arrival.specs.SeveralLinks.{slots_of, sent_slots, dues, due_slots, tile, next_tile, next_slot, Alone, ForNext, AsksForNext, AskedAt}
use Rattle.arrival.specs.SeveralLinks.{Together, start, both_tick, first_alone, second_alone}
use Rattle.model.proofs.Tallies.{All, tally-append, tally-hit}
use Rattle.model.proofs.Slots.{frame-begins, slot_after-is}
use Rattle.model.proofs.Departures.{come-at}
use Rattle.model.proofs.Marks.{mark}
use Rattle.model.proofs.Invariant.{Begun}
use Rattle.model.proofs.HistoryCounts.{NoneGranted, since-the-start}
use Rattle.model.proofs.AfterCalls.{after-fresh}
use Rattle.model.proofs.EventsOfRuns.{Counts, counts, Happened}
use Rattle.arrival.proofs.TimelyRequests.{due-if-come, due-if-not}
use Rattle.arrival.proofs.GrantsInOrder.{FrameInOrderAt}
use Rattle.arrival.proofs.TileSlots.{slots-hit, slots-skip, count-slots, of_frame, count-in-frame, all_slots, tile-all, Oldest, oldest-newer, oldest-one-more}

-- ---- without a granted reset, counts since the last one are over the whole list

module _ (P : Plan) (h : History) (none : NoneGranted h) where
  pub grants-are : grants_since P h ≡ grants P h
  unfolding grants_since grants
  grants-are = since-the-start _ h none

  dues-are : due_since P h ≡ dues P h
  unfolding due_since dues
  dues-are = since-the-start _ h none

  pub granted-in-is : (i f : ℕ) → granted_in P h i f ≡ tally (of_frame P f) (sent_slots P h i)
  granted-in-is i f = ap (tally (in_frame P i f)) grants-are ∙ count-in-frame P i f (grants P h)

  pub due-in-is : (i f : ℕ) → due_in P h i f ≡ tally (of_frame P f) (due_slots P h i)
  due-in-is i f = ap (tally (in_frame P i f)) dues-are ∙ count-in-frame P i f (dues P h)

-- what holds of each event holds of each since the last granted reset; and the other way round, where there is none
pub each-since : (R : Event → History → Type 0) (h : History) → Each R h → EachSince R h
each-since R [] a = tt
each-since R (e ∷ h) a = go (is_granted_reset e) (each-since R h a.1)
  where
    go : (b : Bool) → EachSince R h → cond b (Unit {0}) (R e h × EachSince R h)
    go true rest = tt
    go false rest = (a.0, rest)

pub since-all : (R : Event → History → Type 0) (h : History) → NoneGranted h → EachSince R h → Each R h
since-all R [] none a = tt
since-all R (e ∷ h) none a = let both = rw none.0 at a in (both.0, since-all R h none.1 both.1)

-- ---- the slots of one event more

module _ (P : Plan) (w v : ℕ) (h : History) (i : ℕ) where
  pub sent-own : flow_of w ≡ i → sent_slots P (requested w (accepted v) ∷ h) i ≡ slot_after P (ticks h) (departure_of v) ∷ sent_slots P h i
  unfolding grants
  sent-own = slots-hit i (mark (flow_of w) (slot_after P (ticks h) (departure_of v))) (grants P h)

  pub sent-other : (flow_of w ≡ i → ⊥) → sent_slots P (requested w (accepted v) ∷ h) i ≡ sent_slots P h i
  unfolding grants
  sent-other = slots-skip i (mark (flow_of w) (slot_after P (ticks h) (departure_of v))) (grants P h)

  pub due-own : flow_of w ≡ i → due_slots P (requested w (accepted v) ∷ h) i ≡ due_slot P w h ∷ due_slots P h i
  unfolding dues
  due-own = slots-hit i (mark (flow_of w) (due_slot P w h)) (dues P h)

  pub due-other : (flow_of w ≡ i → ⊥) → due_slots P (requested w (accepted v) ∷ h) i ≡ due_slots P h i
  unfolding dues
  due-other = slots-skip i (mark (flow_of w) (due_slot P w h)) (dues P h)

-- as many are due as are sent
pub as_many : (P : Plan) (i : ℕ) (h : History) → length (due_slots P h i) ≡ length (sent_slots P h i)
unfolding grants dues
as_many P i [] = refl
as_many P i (requested w (accepted v) ∷ h) = go (as_many P i h) (ℕ_discrete (flow_of w) i)
  where
    go : length (due_slots P h i) ≡ length (sent_slots P h i) → Dec (flow_of w ≡ i)
        → length (due_slots P (requested w (accepted v) ∷ h) i) ≡ length (sent_slots P (requested w (accepted v) ∷ h) i)
    go rest (yes own) = ap length (due-own P w v h i own) ∙ ap suc rest ∙ sym (ap length (sent-own P w v h i own))
    go rest (no other) = ap length (due-other P w v h i other) ∙ rest ∙ sym (ap length (sent-other P w v h i other))
as_many P i (requested w (refused r) ∷ h) = as_many P i h
as_many P i (credited j p a ∷ h) = as_many P i h
as_many P i (ticked x ∷ h) = as_many P i h
as_many P i (lent m a ∷ h) = as_many P i h
as_many P i (Event.reset a ∷ h) = as_many P i h

-- ---- on the first link, frames are in the order of the tiles

abbrev pub Descending : Plan → List ℕ → Type 0
Descending P [] = Unit {0}
Descending P (s ∷ older) = ((f : ℕ) → frame_of P s < f → tally (of_frame P f) older ≡ 0) × Descending P older

descending-oldest : (P : Plan) (later part : List ℕ) → Descending P (later ++ part) → Descending P part
descending-oldest P [] part x = x
descending-oldest P (s ∷ later) part x = descending-oldest P later part x.1

descending : (P : Plan) (i : ℕ) (h : History) → NoneGranted h → Each (FrameInOrderAt P) h → Descending P (sent_slots P h i)
unfolding grants slots_of
descending P i [] none ordered = tt
descending P i (requested w (accepted v) ∷ h) none ordered = go (descending P i h none.1 ordered.1) (ℕ_discrete (flow_of w) i)
  where
    go : Descending P (sent_slots P h i) → Dec (flow_of w ≡ i) → Descending P (sent_slots P (requested w (accepted v) ∷ h) i)
    go rest (yes own) =
        rw (sent-own P w v h i own)
        ((λ f later. sym (granted-in-is P h none.1 i f) ∙ ap (λ q. granted_in P h q f) (sym own) ∙ ordered.0 f later), rest)
    go rest (no other) = rw (sent-other P w v h i other) rest
descending P i (requested w (refused r) ∷ h) none ordered = descending P i h none.1 ordered.1
descending P i (credited j p a ∷ h) none ordered = descending P i h none.1 ordered.1
descending P i (ticked x ∷ h) none ordered = descending P i h none.1 ordered.1
descending P i (lent m a ∷ h) none ordered = descending P i h none.1 ordered.1
descending P i (Event.reset a ∷ h) none ordered = descending P i h none.1 ordered.1

pub counts-at : {P : Plan} → Accepted P → (h : History) → Each (Happened P) h → Counts P h
counts-at ok [] happened = counts (after-fresh ok)
counts-at ok (e ∷ h) happened = happened.0.counts_after

-- ---- the two links

module _ {P Q : Plan} (ok₁ : Accepted P) (ok₂ : Accepted Q) (step : InStep P Q) (i j : ℕ) (known : i < flow_count P)
    (share_kept : (entry P i).share ≤ (entry Q j).share) where
  same-frame-of : (s : ℕ) → frame_of P s ≡ frame_of Q s
  same-frame-of s = ap (s /◌) step.slots

  same-in-frame : (f : ℕ) (xs : List ℕ) → tally (of_frame P f) xs ≡ tally (of_frame Q f) xs
  same-in-frame f xs = ap (λ F. tally (λ s. eqb (s / F) f) xs) step.slots

  -- ---- a request for the next tile

  module _ (h₁ h₂ : History) (same : ticks h₁ ≡ ticks h₂) (c : Counts P h₁) (none₁ : NoneGranted h₁) (none₂ : NoneGranted h₂)
      (ordered : Each (FrameInOrderAt P) h₁) (oldest : Oldest (due_slots Q h₂ j) (sent_slots P h₁ i)) (w : ℕ) (x : ForNext P Q i j h₁ w h₂) where
    abbrev slot : ℕ
    slot = next_slot P Q i j h₁ h₂

    abbrev t : ℕ
    t = ticks h₂

    in_window : InWindow Q t slot
    in_window = record { low = omega (arith, frame-begins ok₂ t, x.not_late); high = subst (slot <◌) same_end begun }
      where
        same_end : frame_start P (ticks h₁) + positions P ≡ frame_start Q t + positions Q
        same_end = ap (λ u. frame_start P u + positions P) same ∙ ap₂ (λ F W. t / F * F + F * W) step.slots step.frames

        begun : slot < frame_start P (ticks h₁) + positions P
        begun =
            tile-all (λ s. s < frame_start P (ticks h₁) + positions P) (next_tile P Q i j h₂) (sent_slots P h₁ i)
            (all_slots i (λ s. s < frame_start P (ticks h₁) + positions P) (grants P h₁)
            (subst (All (Begun P (ticks h₁))) (grants-are P h₁ none₁) c.begun))
            x.sent

    come-is : has_come Q t (departure_of w) ≡ leb slot t
    come-is = ap (has_come Q t) x.departs ∙ come-at (record { accepted = ok₂; current_is = refl }) slot in_window

    -- the tile is due in the slot in which it comes up on the first link
    due-is : due_slot Q w h₂ ≡ slot
    due-is = go (dec_lt t slot)
      where
        go : Dec (t < slot) → due_slot Q w h₂ ≡ slot
        go (yes ahead) =
            due-if-not Q w h₂ (come-is ∙ lt-leb slot t ahead) ∙ ap (slot_after Q t) x.departs ∙ slot_after-is ok₂ t slot in_window ahead
        go (no here) =
            due-if-come Q w h₂ (come-is ∙ le-leb slot t (omega arith)) ∙ (let z : t ≡ slot = omega (arith, x.not_late) in z)

    next-oldest : Oldest (slot ∷ due_slots Q h₂ j) (sent_slots P h₁ i)
    next-oldest =
        let many : length (due_slots Q h₂ j) ≡ next_tile P Q i j h₂ = as_many Q j h₂ ∙ sym (count-slots j (grants Q h₂)) in
        subst (λ n. Oldest (tile n (sent_slots P h₁ i) ∷ due_slots Q h₂ j) (sent_slots P h₁ i)) many (oldest-one-more oldest (omega (arith, x.sent)))

    due-count : (f : ℕ) → due_in Q h₂ j f ≡ tally (of_frame P f) (due_slots Q h₂ j)
    due-count f = due-in-is Q h₂ none₂ j f ∙ sym (same-in-frame f (due_slots Q h₂ j))

    next-in-order : AsksForNext P Q i j h₁ w h₂ → TimelyInOrder Q j w h₂
    next-in-order y = record {
      timely = record { room = rw due-is y.room; number = y.number; in_time = rw due-is y.in_time };
      in_order = λ f lt. due-count f ∙ descends.0 f (omega (arith, same-frame-of slot, ap (frame_of Q) due-is));
    }
      where
        descends : Descending P (slot ∷ due_slots Q h₂ j)
        descends =
            descending-oldest P next-oldest.later (slot ∷ due_slots Q h₂ j)
            (subst (Descending P) next-oldest.whole_is (descending P i h₁ none₁ ordered))

    -- with this tile no more are due than come up in its frame on the first link
    pub few-due : due_in Q h₂ j (due_frame Q w h₂) < (entry Q j).share
    few-due = rw due-is (
        omega (
          arith,
          due-count f,
          tally-hit (of_frame P f) slot (due_slots Q h₂ j) (eq-eqb (frame_of P slot) f (same-frame-of slot)),
          tally-append (of_frame P f) next-oldest.later (slot ∷ due_slots Q h₂ j),
          ap (tally (of_frame P f)) next-oldest.whole_is,
          granted-in-is P h₁ none₁ i f,
          c.in_frames i known f,
        ))
      where
        f : ℕ
        f = frame_of Q slot

  -- ---- both histories

  -- fewer than flow j's share are due in the frame in which its word's tile is
  abbrev Few : Plan → (q w : ℕ) → History → Type 0
  Few R q w h = due_in R h q (due_frame R w h) < (entry R q).share

  pub record Shared (h₁ h₂ : History) : Type 0 where
    pub same_slot : ticks h₁ ≡ ticks h₂
    -- what is asked for on the second link is what comes up on the first
    pub oldest : Oldest (due_slots Q h₂ j) (sent_slots P h₁ i)
    pub asks : Each (AsksAt TimelyInOrder Q j) h₂
    pub few : Each (AsksAt Few Q j) h₂

  first_more : (h₁ h₂ : History) (e : Event) → Alone e → Shared h₁ h₂ → Shared (e ∷ h₁) h₂
  unfolding ticks grants
  first_more h₁ h₂ (requested w (accepted v)) alone s = record { same_slot = s.same_slot; oldest = go (ℕ_discrete (flow_of w) i); asks = s.asks; few = s.few }
    where
      go : Dec (flow_of w ≡ i) → Oldest (due_slots Q h₂ j) (sent_slots P (requested w (accepted v) ∷ h₁) i)
      go (yes own) = rw (sent-own P w v h₁ i own) (oldest-newer _ s.oldest)
      go (no other) = rw (sent-other P w v h₁ i other) s.oldest
  first_more h₁ h₂ (requested w (refused r)) alone s = record { same_slot = s.same_slot; oldest = s.oldest; asks = s.asks; few = s.few }
  first_more h₁ h₂ (credited k p a) alone s = record { same_slot = s.same_slot; oldest = s.oldest; asks = s.asks; few = s.few }
  first_more h₁ h₂ (ticked x) alone s = absurd alone
  first_more h₁ h₂ (lent m a) alone s = record { same_slot = s.same_slot; oldest = s.oldest; asks = s.asks; few = s.few }
  first_more h₁ h₂ (Event.reset a) alone s = record { same_slot = s.same_slot; oldest = s.oldest; asks = s.asks; few = s.few }

  second_more : (h₁ h₂ : History) (e : Event) → Alone e → AskedAt P Q i j (AsksForNext P Q i j) h₁ e h₂ → Counts P h₁ → NoneGranted h₁ → NoneGranted h₂
      → Each (FrameInOrderAt P) h₁ → GrantedWordAt Q e h₂ → Shared h₁ h₂ → Shared h₁ (e ∷ h₂)
  unfolding ticks dues
  second_more h₁ h₂ (requested w (accepted v)) alone next c none₁ none₂ ordered word s = record {
    same_slot = s.same_slot;
    oldest = go (ℕ_discrete (flow_of w) j);
    asks = (λ well own. next-in-order h₁ h₂ s.same_slot c none₁ none₂ ordered s.oldest w (next well own).for_next (next well own), s.asks);
    few = (λ well own. few-due h₁ h₂ s.same_slot c none₁ none₂ ordered s.oldest w (next well own).for_next, s.few);
  }
    where
      go : Dec (flow_of w ≡ j) → Oldest (due_slots Q (requested w (accepted v) ∷ h₂) j) (sent_slots P h₁ i)
      go (yes own) =
          let x = (next word.asked_well_formed own).for_next in
          rw (due-own Q w v h₂ j own, due-is h₁ h₂ s.same_slot c none₁ none₂ ordered s.oldest w x)
          (next-oldest h₁ h₂ s.same_slot c none₁ none₂ ordered s.oldest w x)
      go (no other) = rw (due-other Q w v h₂ j other) s.oldest
  second_more h₁ h₂ (requested w (refused r)) alone next c none₁ none₂ ordered word s = record {
    same_slot = s.same_slot;
    oldest = s.oldest;
    asks = (λ well own. next-in-order h₁ h₂ s.same_slot c none₁ none₂ ordered s.oldest w (next well own).for_next (next well own), s.asks);
    few = (λ well own. few-due h₁ h₂ s.same_slot c none₁ none₂ ordered s.oldest w (next well own).for_next, s.few);
  }
  second_more h₁ h₂ (credited k p a) alone next c none₁ none₂ ordered word s =
      record { same_slot = s.same_slot; oldest = s.oldest; asks = (tt, s.asks); few = (tt, s.few) }
  second_more h₁ h₂ (ticked x) alone next c none₁ none₂ ordered word s = absurd alone
  second_more h₁ h₂ (lent m a) alone next c none₁ none₂ ordered word s =
      record { same_slot = s.same_slot; oldest = s.oldest; asks = (tt, s.asks); few = (tt, s.few) }
  second_more h₁ h₂ (Event.reset a) alone next c none₁ none₂ ordered word s =
      record { same_slot = s.same_slot; oldest = s.oldest; asks = (tt, s.asks); few = (tt, s.few) }

  pub shared : {h₁ h₂ : History} → Together P Q i j (AsksForNext P Q i j) h₁ h₂ → Each (Happened P) h₁ → Each (FrameInOrderAt P) h₁ → NoneGranted h₁ → NoneGranted h₂
      → Each (GrantedWordAt Q) h₂ → Shared h₁ h₂
  unfolding ticks grants dues slots_of
  shared start happened ordered none₁ none₂ words = record { same_slot = refl; oldest = record { later = []; whole_is = refl }; asks = tt; few = tt }
  shared (both_tick x) happened ordered none₁ none₂ words =
      let s = shared x happened.1 ordered.1 none₁.1 none₂.1 words.1 in
      record { same_slot = ap suc s.same_slot; oldest = s.oldest; asks = (tt, s.asks); few = (tt, s.few) }
  shared (first_alone {h₁ = h₁} {h₂ = h₂} e alone x) happened ordered none₁ none₂ words =
      first_more h₁ h₂ e alone (shared x happened.1 ordered.1 none₁.1 none₂ words)
  shared (second_alone {h₁ = h₁} {h₂ = h₂} e alone next x) happened ordered none₁ none₂ words =
      second_more h₁ h₂ e alone next (counts-at ok₁ h₁ happened) none₁ none₂.1 ordered words.0 (shared x happened ordered none₁ none₂.1 words.1)

  -- on the second link the stream is modest
  pub modest-on-next : (h₁ h₂ : History) → Shared h₁ h₂ → Each (Happened P) h₁ → NoneGranted h₁ → NoneGranted h₂ → Modest TimelyInOrder 0 Q j h₂
  modest-on-next h₁ h₂ s happened none₁ none₂ = record { asks = each-since (AsksAt TimelyInOrder Q j) h₂ s.asks; within_share = within }
    where
      within : (f : ℕ) → due_in Q h₂ j f ≤ (entry Q j).share + 0
      within f =
          omega (
            arith,
            due-in-is Q h₂ none₂ j f,
            same-in-frame f (due_slots Q h₂ j),
            tally-append (of_frame P f) s.oldest.later (due_slots Q h₂ j),
            ap (tally (of_frame P f)) s.oldest.whole_is,
            granted-in-is P h₁ none₁ i f,
            (counts-at ok₁ h₁ happened).in_frames i known f,
          )
