-- The reference scheduler over several links on which the stream asks on arrival: with its cells it has room at each request on each link. Assumes nothing.
use Prim.Native.Nat.{ℕ, ◌%◌, ◌<◌}
use mathlib.Core.Path.{◌≡◌, refl, ap, ◌∙◌, subst}
use mathlib.Core.List.{List, [], ◌∷◌}
use mathlib.Core.Bool.{true}
use native.Mathlib.Omega.{arith}
use borrow.Author.Tests.{le-leb}
use Rattle.model.specs.Tables.{tally}
use Rattle.model.specs.Word.{departure_of}
use Rattle.model.specs.Plan.{Plan, positions, entry}
use Rattle.model.specs.Calls.{Event, History, requested, credited, ticked, lent}
use Rattle.model.specs.History.{ticks, frame_of, has_come, lend_at, lends, of_flow}
use Rattle.model.specs.Claim.{Each, EachSince, GrantedWordAt}
use Rattle.model.specs.Scheduler.{reference}
use Rattle.arrival.specs.Delay.{current_frame, made_in, due_in, GrantedSoonAt, TimelyInOrder, Modest, ServedAt}
use Rattle.arrival.specs.SeveralLinks.{ForNext, AsksForNext, Alone, AskedAt, Together, start, both_tick, first_alone, second_alone}
use Rattle.arrival.specs.SeveralLinks.{Ran, Board, plan_on, Joined, Way}
use Rattle.arrival.specs.SharesOfCells.{GivenBack, KeepsShares, EachGrantedNow}
use Rattle.arrival.specs.LinksOnArrival.{AsksOnArrival, JoinedOnArrival, WayOnArrival, OverLinksOnArrival}
use Rattle.model.proofs.Tallies.{tally-append}
use Rattle.model.proofs.Slots.{current-in-window}
use Rattle.model.proofs.Departures.{come-at}
use Rattle.model.proofs.HistoryCounts.{NoneGranted}
use Rattle.arrival.proofs.TimelyRequests.{due-if-come}
use Rattle.model.proofs.EventsOfRuns.{Happened}
use Rattle.arrival.proofs.Soon.{soon-accepted}
use Rattle.arrival.proofs.SoonOnArrival.{ComeAt, due-when-made, served-on-arrival}
use Rattle.arrival.proofs.GrantsInOrder.{FrameInOrderAt}
use Rattle.arrival.proofs.NextLink.{each-since, since-all, counts-at, few-due, Shared, shared, modest-on-next}
use Rattle.arrival.proofs.SeveralLinks.{ok, none, runs-have, happened, ordered, words, served, next-modest, over-links}
use Rattle.arrival.proofs.EnoughCells.{BeginningsRan, beginnings-ran}
use Rattle.arrival.proofs.HeldByFrames.{room_next}
use Rattle.arrival.proofs.SharesOfCells.{modest-of, timely-at-each, shares-of-cells-accepted}

module _ (a b : Board reference) (joined : JoinedOnArrival a b) where
  abbrev P : Plan
  P = plan_on a

  abbrev Q : Plan
  Q = plan_on b

  abbrev i : ℕ
  i = a.stream

  abbrev j : ℕ
  j = b.stream

  -- what is known of beginnings of the two boards' events
  record Known (h₁ h₂ : History) : Type 0 where
    happened₁ : Each (Happened P) h₁
    ordered₁ : Each (FrameInOrderAt P) h₁
    none₁ : NoneGranted h₁
    none₂ : NoneGranted h₂
    happened₂ : Each (Happened Q) h₂
    words₂ : Each (GrantedWordAt Q) h₂
    ran₂ : BeginningsRan Q h₂
    not_lent₂ : tally (of_flow j) (lends h₂) ≡ 0

  first_back : {h₁ h₂ : History} (e : Event) → Known (e ∷ h₁) h₂ → Known h₁ h₂
  first_back e k = record {
    happened₁ = k.happened₁.1;
    ordered₁ = k.ordered₁.1;
    none₁ = k.none₁.1;
    none₂ = k.none₂;
    happened₂ = k.happened₂;
    words₂ = k.words₂;
    ran₂ = k.ran₂;
    not_lent₂ = k.not_lent₂;
  }

  second_back : {h₁ h₂ : History} (e : Event) → Known h₁ (e ∷ h₂) → Known h₁ h₂
  unfolding lends
  second_back {h₁} {h₂} e k = record {
    happened₁ = k.happened₁;
    ordered₁ = k.ordered₁;
    none₁ = k.none₁;
    none₂ = k.none₂.1;
    happened₂ = k.happened₂.1;
    words₂ = k.words₂.1;
    ran₂ = k.ran₂.1;
    not_lent₂ = omega (arith, k.not_lent₂, tally-append (of_flow j) (lend_at e h₂) (lends h₂));
  }

  -- so far the stream asked with room, and on arrival
  record SoFar (h₁ h₂ : History) : Type 0 where
    together : Together P Q i j (AsksForNext P Q i j) h₁ h₂
    come : Each (ComeAt Q j) h₂

  -- ---- a request on arrival

  module _ (h₁ h₂ : History) (k : Known h₁ h₂) (ran : Ran reference Q h₂) (s : SoFar h₁ h₂) (w : ℕ) (x : AsksOnArrival (GivenBack joined.late) P Q i j h₁ w h₂) where
    for_next : ForNext P Q i j h₁ w h₂
    for_next = record { sent = x.sent; departs = x.departs; not_late = omega (arith, x.comes_now) }

    both : Shared (ok a) (ok b) joined.in_step i j a.known joined.share_kept h₁ h₂
    both =
        shared (ok a) (ok b) joined.in_step i j a.known joined.share_kept s.together k.happened₁ k.ordered₁ k.none₁ k.none₂ k.words₂

    come-so-far : EachSince (ComeAt Q j) h₂
    come-so-far = each-since (ComeAt Q j) h₂ s.come

    soon : EachSince (GrantedSoonAt Q j) h₂
    soon =
        let m = modest-on-next (ok a) (ok b) joined.in_step i j a.known joined.share_kept h₁ h₂ both k.happened₁ k.none₁ k.none₂ in
        served-on-arrival (ok b) j h₂ k.words₂ come-so-far
        (subst (λ h. Modest TimelyInOrder 0 Q j h → EachSince (ServedAt Q j) h) ran.is (soon-accepted Q (ok b) ran.calls j b.known) m)

    come-now : has_come Q (ticks h₂) (departure_of w) ≡ true
    come-now =
        ap (has_come Q (ticks h₂)) (x.departs ∙ ap (◌% positions Q) x.comes_now)
        ∙ come-at (record { accepted = ok b; current_is = refl }) (ticks h₂) (current-in-window (ok b) (ticks h₂)) ∙ le-leb (ticks h₂) (ticks h₂) (omega arith)

    few : made_in Q h₂ j (current_frame Q h₂) < (entry Q j).share
    few =
        let due = few-due (ok a) (ok b) joined.in_step i j a.known joined.share_kept h₁ h₂ both.same_slot (counts-at (ok a) h₁ k.happened₁)
        k.none₁ k.none₂ k.ordered₁ both.oldest w for_next in
        let now = ap (λ t. due_in Q h₂ j (frame_of Q t)) (due-if-come Q w h₂ come-now) in
        omega (arith, due-when-made (ok b) j (current_frame Q h₂) h₂ k.words₂ come-so-far)

    asks_now : AsksForNext P Q i j h₁ w h₂
    asks_now = record {
      for_next = for_next;
      in_time = omega (arith, ap (frame_of Q) x.comes_now, (ok b).two_frames);
      room =
          rw x.comes_now (room_next (ok b) j b.known joined.late h₂ k.none₂ soon x.given_back k.not_lent₂ (counts-at (ok b) h₂ k.happened₂)
          (omega (arith, joined.enough_cells)) few);
      number = x.number;
    }

  -- ---- both histories

  second_more : (h₁ h₂ : History) (e : Event) → Alone e → AskedAt P Q i j (AsksOnArrival (GivenBack joined.late) P Q i j) h₁ e h₂ → Known h₁ (e ∷ h₂) → SoFar h₁ h₂
      → SoFar h₁ (e ∷ h₂)
  second_more h₁ h₂ (requested w r) alone asks k s =
      let before = second_back (requested w r) k in
      let ran = k.ran₂.0 in
      record {
        together = second_alone (requested w r) alone (λ well own. asks_now h₁ h₂ before ran s w (asks well own)) s.together;
        come = (λ well own. come-now h₁ h₂ before ran s w (asks well own), s.come);
      }
  second_more h₁ h₂ (credited q p r) alone asks k s = record { together = second_alone (credited q p r) alone tt s.together; come = (tt, s.come) }
  second_more h₁ h₂ (ticked r) alone asks k s = absurd alone
  second_more h₁ h₂ (lent m r) alone asks k s = record { together = second_alone (lent m r) alone tt s.together; come = (tt, s.come) }
  second_more h₁ h₂ (Event.reset r) alone asks k s = record { together = second_alone (Event.reset r) alone tt s.together; come = (tt, s.come) }

  with-room : {h₁ h₂ : History} → Together P Q i j (AsksOnArrival (GivenBack joined.late) P Q i j) h₁ h₂ → Known h₁ h₂ → SoFar h₁ h₂
  with-room start k = record { together = start; come = tt }
  with-room (both_tick {x₁ = x₁} {x₂ = x₂} t) k =
      let s = with-room t (second_back (ticked x₂) (first_back (ticked x₁) k)) in
      record { together = both_tick s.together; come = (tt, s.come) }
  with-room (first_alone e alone t) k =
      let s = with-room t (first_back e k) in
      record { together = first_alone e alone s.together; come = s.come }
  with-room (second_alone {h₁ = h₁} {h₂ = h₂} e alone asks t) k = second_more h₁ h₂ e alone asks k (with-room t (second_back e k))

  so_far : SoFar a.events b.events
  so_far =
      with-room joined.together (record {
        happened₁ = happened a;
        ordered₁ = ordered a;
        none₁ = none a;
        none₂ = none b;
        happened₂ = happened b;
        words₂ = words b;
        ran₂ = runs-have b (BeginningsRan Q) (beginnings-ran Q (ok b));
        not_lent₂ = joined.not_lent;
      })

  -- so the boards are joined as `over-links` asks
  joined-with-room : Joined a b
  joined-with-room = record { in_step = joined.in_step; share_kept = joined.share_kept; together = so_far.together }

  -- and on the second the stream is granted each slot in the frame in which it asks, or in the next
  pub soon-on-next : Each (GrantedSoonAt Q j) b.events
  soon-on-next =
      since-all (GrantedSoonAt Q j) b.events (none b) (served-on-arrival (ok b) j b.events (words b) (each-since (ComeAt Q j) b.events so_far.come)
      (each-since (ServedAt Q j) b.events (served b (next-modest a b joined-with-room))))

pub way-with-room : (a : Board reference) (rest : List (Board reference)) → WayOnArrival a rest → Way a rest
way-with-room a [] way = tt
way-with-room a (b ∷ rest) way = (joined-with-room a b way.0, way-with-room b rest way.1)

-- on the first board it is modest
pub modest-first : (late : ℕ) (a : Board reference) → KeepsShares late 0 (plan_on a) a.stream a.events → Modest TimelyInOrder 0 (plan_on a) a.stream a.events
modest-first late a x =
    let ran = runs-have a (BeginningsRan (plan_on a)) (beginnings-ran (plan_on a) (ok a)) in
    modest-of (ok a) a.stream a.known late a.events (words a) (none a) x.asks
    (timely-at-each (ok a) a.stream a.known late a.events (words a) (none a) x.asks ran (happened a) x.not_lent x.enough_cells)

-- and each request there is granted
pub granted_first : (late : ℕ) (a : Board reference) → KeepsShares late 0 (plan_on a) a.stream a.events → EachGrantedNow (plan_on a) a.stream a.events
granted_first late a =
    runs-have a (λ h. KeepsShares late 0 (plan_on a) a.stream h → EachGrantedNow (plan_on a) a.stream h)
    (λ calls. shares-of-cells-accepted late (plan_on a) (ok a) calls a.stream a.known)

pub over-links-on-arrival : OverLinksOnArrival reference
over-links-on-arrival late a rest way =
    let x = over-links a rest (way-with-room a rest way) in
    record {
      granted = x.granted;
      served = granted_first late a;
      from_first = x.from_first;
      from_due = λ keeps. x.from_due (modest-first late a keeps);
    }
