-- A booking keeps the invariant, and so does an injection frame that moves on. Assumes nothing.
use Prim.Native.Nat.{ℕ, suc, ◌+◌, ◌%◌, ◌≤◌, ◌<◌}
use mathlib.Core.Path.{◌≡◌, refl, sym, ap, ◌∙◌}
use mathlib.Core.List.{List, ◌∷◌}
use mathlib.Core.Option.{some}
use mathlib.Core.Bool.{Bool, true, false, not, ◌&&◌, cond}
use native.Mathlib.Nat.{mod-lt}
use native.Mathlib.Decide.{ℕ_discrete}
use native.Mathlib.Omega.{arith}
use lib.Dec.{ltb, eqb}
use borrow.Author.Tests.{leb-false, lt-ltb, lt-leb, eqb-true, eqb-false, eq-eqb, ne_eqb, not-true}
use Rattle.model.specs.Tables.{bit, tally}
use Rattle.model.specs.Plan.{Plan, positions, flow_count, entry}
use Rattle.model.specs.Window.{passed, every_from}
use Rattle.model.specs.Link.{Link, Flow, window, owner, flow, holding, cells, with_flow, moved_to}
use Rattle.model.specs.Request.{unbooked, valid, booked_flow, booked}
use Rattle.model.specs.History.{Mark, frame_of, at_slot}
use Rattle.model.specs.Holding.{InWindow}
use Rattle.model.proofs.Tests.{and-true}
use Rattle.model.proofs.Round.{mod-unique}
use Rattle.model.proofs.Slots.{some-position}
use Rattle.model.proofs.Window.{passed_is, every_from-intro}
use Rattle.model.proofs.LinkUpdates.{owner-with_owners, each_flow}
use Rattle.model.proofs.SlotOwners.{owner_in, unowned, unbooked-none, once_more}
use Rattle.model.proofs.Marks.{mark, marks_in, in-frame-hit, in-frame-skip, in-frame-other}
use Rattle.model.proofs.Invariant.{Ledger, with_grant, Spent, Injecting, Injects, Holds, Room, Owned, Invariant}
use Rattle.model.proofs.HeldFrom.{raise-own, raise-other, room-from}

-- a grant to another flow
injecting-other : {P : Plan} {k : ℕ} {G : List Mark} {i j c : ℕ} → Injecting P k G i j c
    → (m : Mark) → (m.flow ≡ i → ⊥) → Injecting P k (m ∷ G) i j c
injecting-other {P} {k} {G} {i} f m other = record {
  frame = f.frame;
  low = f.low;
  high = f.high;
  injection_is = f.injection_is;
  spends = record { spent = omega (arith, same f.frame, f.spends.spent); none_after = λ g l. same g ∙ f.spends.none_after g l };
  in_frames = λ g. omega (arith, same g, f.in_frames g);
}
  where
    same : (g : ℕ) → marks_in P i g (m ∷ G) ≡ marks_in P i g G
    same g = in-frame-other P i g m G other

module _ {l : Link} {L : Ledger} (v : Invariant l L) {i : ℕ} (known : i < flow_count l.plan) where
  open l use {plan as P}
  open L use {now as t}
  open v.current use {accepted as ok}

  abbrev T : ℕ
  T = positions P

  abbrev fewer : ℕ → Bool
  fewer q = ltb (holding l i q) (cells l i)

  -- ---- a position is valid exactly if its slot is open

  pub record Open (s : ℕ) : Type 0 where
    pub not_granted : tally (at_slot s) L.grants ≡ 0
    pub to_come : t < s
    pub room : Room P L.raises L.credits i s

  pub valid-open : (s : ℕ) → InWindow P t s → valid l i (s % T) ≡ true → Open s
  unfolding valid
  valid-open s w e =
      let both = and-true (unbooked (owner l (s % T)) && not (passed (window l) (s % T))) (every_from (window l) (s % T) fewer) e in
      let first = and-true (unbooked (owner l (s % T))) (not (passed (window l) (s % T))) both.0 in
      record {
        not_granted = (unowned s L.grants).0 (sym (v.bookings.owners_are s w) ∙ unbooked-none (owner l (s % T)) first.0);
        to_come = leb-false s t (sym (passed_is v.current s w) ∙ not-true (passed (window l) (s % T)) first.1);
        room = room-from v known w both.1;
      }

  pub open-valid : (s : ℕ) → InWindow P t s → Open s → valid l i (s % T) ≡ true
  unfolding valid
  open-valid s w o =
      rw (
        v.bookings.owners_are s w ∙ (unowned s L.grants).1 o.not_granted,
        passed_is v.current s w ∙ lt-leb s t o.to_come,
        every_from-intro v.current s fewer w
            (λ r wr le. lt-ltb (holding l i (r % T)) (cells l i) (omega (arith, (v.holds i known r).at_slot wr, o.room r le))),
      )

  -- ---- the injection frame moved on to frame a, and nothing else

  pub moved_keeps : (a c : ℕ) → frame_of P t ≤ a → a < frame_of P t + P.frames → Spent P L.grants i a c
      → Invariant (with_flow l i (moved_to (flow l i) (a % P.frames) c)) L
  moved_keeps a c low high sp = record {
    current = v.current;
    marks = v.marks;
    bookings = v.bookings;
    owned = v.owned;
    injects = each_flow l (Injects P (frame_of P t) L.grants) i x own (λ j h d. v.injects j h);
    holds = each_flow l (Holds P t L.raises L.credits) i x (v.holds i known) (λ j h d. v.holds j h);
  }
    where
      x : Flow
      x = moved_to (flow l i) (a % P.frames) c

      own : Injects P (frame_of P t) L.grants i x
      own = record { frame = a; low = low; high = high; injection_is = refl; spends = sp; in_frames = (v.injects i known).in_frames }

  -- ---- slot s, of frame a, booked

  module _ (a s c : ℕ) (w : InWindow P t s) (in-a : frame_of P s ≡ a) (sp : Spent P L.grants i a (suc c)) where
    abbrev m : Mark
    m = mark i s

    hits : (f : ℕ) → a ≡ f → marks_in P i f (m ∷ L.grants) ≡ suc (marks_in P i f L.grants)
    hits f e = in-frame-hit P i f m L.grants refl (in-a ∙ e)

    skips : (f : ℕ) → (a ≡ f → ⊥) → marks_in P i f (m ∷ L.grants) ≡ marks_in P i f L.grants
    skips f d = in-frame-skip P i f m L.grants (λ e. d (sym in-a ∙ e))

    spent-one-more : Spent P (m ∷ L.grants) i a c
    spent-one-more = record { spent = omega (arith, hits a refl, sp.spent); none_after = λ f h. skips f (λ e. omega arith) ∙ sp.none_after f h }

    share_kept : (f : ℕ) → Dec (a ≡ f) → marks_in P i f (m ∷ L.grants) ≤ (entry P i).share
    share_kept f (yes e) = rw (← e) (omega (arith, spent-one-more.spent))
    share_kept f (no d) = omega (arith, skips f d, (v.injects i known).in_frames f)

    owner-is : (r : ℕ) → InWindow P t r → (b : Bool) → eqb s r ≡ b
        → cond (eqb (r % T) (s % T)) (some i) (owner l (r % T)) ≡ cond (eqb s r) (some i) (owner_in L.grants r)
    owner-is r wr true e = rw (e, eq-eqb (r % T) (s % T) (ap (◌% T) (sym (eqb-true s r e))))
    owner-is r wr false e = rw (e, ne_eqb (r % T) (s % T) differ, v.bookings.owners_are r wr)
      where
        differ : r % T ≡ s % T → ⊥
        differ q = eqb-false s r e (mod-unique (some-position ok) w.low w.high wr.low wr.high (sym q))

    -- one mark more in both lists
    alike : (r : ℕ) → tally (at_slot r) L.raises ≡ tally (at_slot r) L.grants
        → tally (at_slot r) (m ∷ L.raises) ≡ tally (at_slot r) (m ∷ L.grants)
    unfolding tally
    alike r e = ap (bit (at_slot r m) +◌) e

    owned-more : Open s → Owned t (m ∷ L.grants) (m ∷ L.raises) l.marked
    owned-more o = record {
      one_owner = once_more m L.raises (v.owned.to_come s o.to_come ∙ o.not_granted) v.owned.one_owner;
      to_come = λ r lt. alike r (v.owned.to_come r lt);
      unmarked = λ e. alike t (v.owned.unmarked e);
    }

    pub booked-keeps : Open s → frame_of P t ≤ a → a < frame_of P t + P.frames → Invariant (booked l i (a % P.frames) c (s % T)) (with_grant L m)
    unfolding booked owner_in
    booked-keeps o low high = record {
      current = v.current;
      marks = record {
        origin_le = v.marks.origin_le;
        grants_in = (record { known = known; begun = w.high; since = omega (arith, v.marks.origin_le) }, v.marks.grants_in);
        raises_in = (w.high, v.marks.raises_in);
        credits_in = v.marks.credits_in;
      };
      bookings = record {
        owners_are = λ r wr. owner-with_owners l _ (r % T) (mod-lt r (some-position ok)) ∙ owner-is r wr (eqb s r) refl;
        once = once_more m L.grants o.not_granted v.bookings.once;
      };
      owned = owned-more o;
      injects = each_flow l (Injects P (frame_of P t) (m ∷ L.grants)) i x own (λ j h d. injecting-other (v.injects j h) m (λ e. d (sym e)));
      holds =
          each_flow l (Holds P t (m ∷ L.raises) L.credits) i x (raise-own v known w o.room)
          (λ j h d r. raise-other (v.holds j h r) m (λ e. d (sym e)));
    }
      where
        x : Flow
        x = booked_flow l i (a % P.frames) c (s % T)

        own : Injects P (frame_of P t) (m ∷ L.grants) i x
        own = record {
          frame = a;
          low = low;
          high = high;
          injection_is = refl;
          spends = spent-one-more;
          in_frames = λ f. share_kept f (ℕ_discrete a f);
        }
