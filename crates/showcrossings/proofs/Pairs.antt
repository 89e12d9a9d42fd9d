-- Two links in step and a stream that asks on arrival: what events of others leave as it is. Assumes nothing.
use Prim.Native.Nat.{ℕ, suc, ◌≤◌, ◌<◌}
use mathlib.Core.Path.{◌≡◌, refl, sym, ap, ◌∙◌, subst}
use mathlib.Core.List.{◌∷◌, []}
use mathlib.Core.Bool.{true, ◌&&◌}
use native.Mathlib.Decide.{ℕ_discrete}
use native.Mathlib.Omega.{arith}
use lib.Dec.{eqb}
use lib.ListN.{length}
use borrow.Author.Tests.{lt-ltb, ltb-true, ne_eqb}
use Rattle.model.specs.Tables.{tally}
use Rattle.model.specs.Word.{flow_of, departure_of}
use Rattle.model.specs.Plan.{Plan}
use Rattle.model.specs.Calls.{Event, History, requested, credited, ticked, lent, accepted, refused}
use Rattle.model.specs.History.{ticks, slot_after, grants, of_flow, at_slot}
use Rattle.model.specs.Claim.{Each}
use Rattle.arrival.specs.Delay.{AsksAt}
use Rattle.arrival.specs.SeveralLinks.{sent_slots, tile, next_tile, next_slot, Alone, AskedAt, Together, first_alone, second_alone}
use Rattle.arrival.specs.EnoughCells.{Return, return_at, returns}
use Rattle.arrival.specs.SharesOfCells.{GivenBack, AsksWithinShare}
use Rattle.arrival.specs.LinksOnArrival.{AsksOnArrival}
use Rattle.arrival.specs.CreditedByNext.{pass_at, passes, granted_then}
use Rattle.model.proofs.Tests.{and-true, and-false}
use Rattle.model.proofs.Tallies.{tally-append, tally-skip, tally-le}
use Rattle.arrival.proofs.TileSlots.{count-slots, Oldest, oldest-newer, tile-of-oldest, oldest-length}
use Rattle.arrival.proofs.NextLink.{sent-own, sent-other}
use Rattle.crossings.proofs.OneLink.{slot-to-come}
use Rattle.crossings.proofs.Kept.{NotGiven, NoGrant, same-leaving}
use Rattle.showcrossings.proofs.Growing.{ticks-alone}
use Rattle.showcrossings.proofs.Still.{NoAsk}

-- ---- an event more

pub given-alone : (i : ℕ) (e : Event) → NotGiven i e → Alone e
given-alone i (requested w a) n = tt
given-alone i (credited k p a) n = tt
given-alone i (ticked x) n = absurd n
given-alone i (lent m a) n = tt
given-alone i (Event.reset a) n = tt

ask-alone : (j : ℕ) (e : Event) → NoAsk j e → Alone e
ask-alone j (requested w a) n = tt
ask-alone j (credited k p a) n = tt
ask-alone j (ticked x) n = absurd n
ask-alone j (lent m a) n = tt
ask-alone j (Event.reset a) n = tt

ask-grant : (j : ℕ) (e : Event) → NoAsk j e → NoGrant j e
ask-grant j (requested w (accepted v)) n = n
ask-grant j (requested w (refused r)) n = tt
ask-grant j (credited k p a) n = tt
ask-grant j (ticked x) n = absurd n
ask-grant j (lent m a) n = tt
ask-grant j (Event.reset a) n = tt

-- a grant is of a slot to come
pub at-slot-stays : (P : Plan) (i t : ℕ) (e : Event) (h : History) → t ≤ ticks h
    → tally (λ m. of_flow i m && at_slot t m) (grants P (e ∷ h)) ≡ tally (λ m. of_flow i m && at_slot t m) (grants P h)
unfolding grants
at-slot-stays P i t (requested w (accepted v)) h le =
    tally-skip (λ m. of_flow i m && at_slot t m) _ (grants P h)
    (rw (ne_eqb (slot_after P (ticks h) (departure_of v)) t (λ e. omega (arith, slot-to-come P (ticks h) (departure_of v))), and-false (eqb (flow_of w) i)))
at-slot-stays P i t (requested w (refused r)) h le = refl
at-slot-stays P i t (credited k p a) h le = refl
at-slot-stays P i t (ticked x) h le = refl
at-slot-stays P i t (lent m a) h le = refl
at-slot-stays P i t (Event.reset a) h le = refl

-- what is sent goes on
sent-grows : (P : Plan) (i : ℕ) (e : Event) (h : History) → Oldest (sent_slots P h i) (sent_slots P (e ∷ h) i)
unfolding grants
sent-grows P i (requested w (accepted v)) h = go (ℕ_discrete (flow_of w) i)
  where
    same : Oldest (sent_slots P h i) (sent_slots P h i)
    same = record { later = []; whole_is = refl }

    go : Dec (flow_of w ≡ i) → Oldest (sent_slots P h i) (sent_slots P (requested w (accepted v) ∷ h) i)
    go (yes own) = subst (Oldest (sent_slots P h i)) (sym (sent-own P w v h i own)) (oldest-newer _ same)
    go (no other) = subst (Oldest (sent_slots P h i)) (sym (sent-other P w v h i other)) same
sent-grows P i (requested w (refused r)) h = record { later = []; whole_is = refl }
sent-grows P i (credited k p a) h = record { later = []; whole_is = refl }
sent-grows P i (ticked x) h = record { later = []; whole_is = refl }
sent-grows P i (lent m a) h = record { later = []; whole_is = refl }
sent-grows P i (Event.reset a) h = record { later = []; whole_is = refl }

-- ---- flow i of the first link goes on as flow j of the second

module _ (P Q : Plan) (i j : ℕ) where
  -- the cell of the tile that came in slot t is credited in it, dated a slot that the second link granted in it
  abbrev pub CreditedIn : (t : ℕ) (h₁ h₂ : History) → Type 0
  CreditedIn t h₁ h₂ =
      tally (λ m. of_flow i m && at_slot t m) (grants P h₁)
      ≤ tally (λ r. eqb r.flow i && eqb r.made t && granted_then Q j t r.dated h₂) (returns P h₁)

  pub credited-first : (t : ℕ) (e : Event) (h₁ h₂ : History) → t ≤ ticks h₁ → CreditedIn t h₁ h₂ → CreditedIn t (e ∷ h₁) h₂
  unfolding returns
  credited-first t e h₁ h₂ le c =
      omega (
        arith,
        c,
        at-slot-stays P i t e h₁ le,
        tally-append (λ r. eqb r.flow i && eqb r.made t && granted_then Q j t r.dated h₂) (return_at P e h₁) (returns P h₁),
      )

  granted-more : (t s : ℕ) (e : Event) (h₂ : History) → granted_then Q j t s h₂ ≡ true → granted_then Q j t s (e ∷ h₂) ≡ true
  unfolding passes
  granted-more t s e h₂ x =
      lt-ltb 0 (tally (λ g. eqb g.flow j && eqb g.made t && eqb g.slot s) (passes Q (e ∷ h₂)))
      (omega (
        arith,
        ltb-true 0 (tally (λ g. eqb g.flow j && eqb g.made t && eqb g.slot s) (passes Q h₂)) x,
        tally-append (λ g. eqb g.flow j && eqb g.made t && eqb g.slot s) (pass_at Q e h₂) (passes Q h₂),
      ))

  pub credited-second : (t : ℕ) (e : Event) (h₁ h₂ : History) → CreditedIn t h₁ h₂ → CreditedIn t h₁ (e ∷ h₂)
  credited-second t e h₁ h₂ c =
      omega (
        arith,
        c,
        tally-le (λ r. eqb r.flow i && eqb r.made t && granted_then Q j t r.dated h₂)
            (λ r. eqb r.flow i && eqb r.made t && granted_then Q j t r.dated (e ∷ h₂)) one (returns P h₁),
      )
    where
      one : (r : Return) → (eqb r.flow i && eqb r.made t && granted_then Q j t r.dated h₂) ≡ true
          → (eqb r.flow i && eqb r.made t && granted_then Q j t r.dated (e ∷ h₂)) ≡ true
      one r x =
          let both = and-true (eqb r.flow i && eqb r.made t) (granted_then Q j t r.dated h₂) x in
          rw (both.0, granted-more t r.dated e h₂ both.1)

  -- ---- the stream so far

  -- Cells are given back `late` frames late on the second link; the tiles that came before slot s were passed on.
  pub record Pair (late s : ℕ) (h₁ h₂ : History) : Type 0 where
    pub same_time : ticks h₁ ≡ ticks h₂
    pub up_to_now : s ≤ suc (ticks h₁)
    pub together : Together P Q i j (AsksOnArrival (GivenBack late) P Q i j) h₁ h₂
    pub asks : Each (AsksAt (AsksWithinShare late) Q j) h₂
    pub credited : (t : ℕ) → t < s → CreditedIn t h₁ h₂

  pub pair-first : {late s : ℕ} (e : Event) → NotGiven i e → (h₁ h₂ : History) → Pair late s h₁ h₂ → Pair late s (e ∷ h₁) h₂
  pair-first e n h₁ h₂ x =
      let same = ticks-alone e (given-alone i e n) h₁ in
      record {
        same_time = same ∙ x.same_time;
        up_to_now = omega (arith, same, x.up_to_now);
        together = first_alone e (given-alone i e n) x.together;
        asks = x.asks;
        credited = λ t lt. credited-first t e h₁ h₂ (omega (arith, x.up_to_now)) (x.credited t lt);
      }

  no-ask : (late : ℕ) (e : Event) → NoAsk j e → (h₁ h₂ : History)
      → AskedAt P Q i j (AsksOnArrival (GivenBack late) P Q i j) h₁ e h₂ × AsksAt (AsksWithinShare late) Q j e h₂
  no-ask late (requested w a) n h₁ h₂ = (λ well own. absurd (n own), λ well own. absurd (n own))
  no-ask late (credited k p a) n h₁ h₂ = (tt, tt)
  no-ask late (ticked x) n h₁ h₂ = absurd n
  no-ask late (lent m a) n h₁ h₂ = (tt, tt)
  no-ask late (Event.reset a) n h₁ h₂ = (tt, tt)

  pub pair-second : {late s : ℕ} (e : Event) → NoAsk j e → (h₁ h₂ : History) → Pair late s h₁ h₂ → Pair late s h₁ (e ∷ h₂)
  pair-second {late} e n h₁ h₂ x =
      let asked = no-ask late e n h₁ h₂ in
      record {
        same_time = x.same_time ∙ sym (ticks-alone e (ask-alone j e n) h₂);
        up_to_now = x.up_to_now;
        together = second_alone e (ask-alone j e n) asked.0 x.together;
        asks = (asked.1, x.asks);
        credited = λ t lt. credited-second t e h₁ h₂ (x.credited t lt);
      }

  -- ---- its tile that has just come

  -- it is the next to ask for, and the only one of its slot
  pub record Pending (h₁ h₂ : History) : Type 0 where
    pub sent : next_tile P Q i j h₂ < length (sent_slots P h₁ i)
    pub comes_now : next_slot P Q i j h₁ h₂ ≡ ticks h₁
    pub one : tally (λ m. of_flow i m && at_slot (ticks h₁) m) (grants P h₁) ≤ 1

  pub pending-first : (e : Event) → NotGiven i e → (h₁ h₂ : History) → Pending h₁ h₂ → Pending (e ∷ h₁) h₂
  pending-first e n h₁ h₂ x =
      let same = ticks-alone e (given-alone i e n) h₁ in
      let grows = sent-grows P i e h₁ in
      record {
        sent = omega (arith, x.sent, oldest-length grows);
        comes_now = tile-of-oldest grows (next_tile P Q i j h₂) x.sent ∙ x.comes_now ∙ sym same;
        one = subst (λ t. tally (λ m. of_flow i m && at_slot t m) (grants P (e ∷ h₁)) ≤ 1) (sym same)
            (omega (arith, x.one, at-slot-stays P i (ticks h₁) e h₁ (omega arith)));
      }

  pub pending-second : (e : Event) → NoAsk j e → (h₁ h₂ : History) → Pending h₁ h₂ → Pending h₁ (e ∷ h₂)
  pending-second e n h₁ h₂ x = record { sent = omega (arith, x.sent, same); comes_now = ap (λ k. tile k (sent_slots P h₁ i)) same ∙ x.comes_now; one = x.one }
    where
      same : next_tile P Q i j (e ∷ h₂) ≡ next_tile P Q i j h₂
      same =
          count-slots j (grants Q (e ∷ h₂)) ∙ ap length (same-leaving Q j e h₂ (ask-grant j e n)).dated ∙ sym (count-slots j (grants Q h₂))
