-- A modest flow's request: the search ends in the frame in which its tile is due, or in the next one. Assumes nothing.
use Prim.Native.Nat.{ℕ, suc, ◌+◌, ◌*◌, ◌≤◌, ◌<◌}
use mathlib.Core.Path.{◌≡◌, refl, sym, ap, ◌∙◌}
use mathlib.Core.List.{◌∷◌}
use mathlib.Core.Bool.{Bool, true, false}
use native.Mathlib.Nat.{mul-le-mul_right}
use native.Mathlib.Decide.{dec_le, ℕ_discrete}
use native.Mathlib.Omega.{arith}
use Rattle.model.specs.Word.{flow_of, departure_of, depart}
use Rattle.model.specs.Plan.{flow_count, entry}
use Rattle.model.specs.Calls.{History, requested, accepted, refused}
use Rattle.model.specs.Window.{newest}
use Rattle.model.specs.Link.{Link, window, flow, share}
use Rattle.model.specs.Request.{found, valid_for, sought}
use Rattle.model.specs.History.{ticks, slot_after, frame_of, has_come, well_formed, grants_since, granted_in}
use Rattle.arrival.specs.Delay.{current_frame, newest_frame, due_slot, due_frame, due_since, due_in, Timely, DueInOrder, InTime}
use Rattle.model.proofs.Round.{mod-unique}
use Rattle.model.proofs.Slots.{some-frame, frame-begins, frame-ends}
use Rattle.model.proofs.Window.{newest-is}
use Rattle.model.proofs.Word.{departure-depart}
use Rattle.model.proofs.Marks.{mark, marks_in, in-frame-hit, in-frame-skip}
use Rattle.model.proofs.SearchedFrames.{FoundIn, FoundNowhere, Ends}
use Rattle.model.proofs.RequestSearch.{FailsIn, Reached, Searched, goes_on, searched-by, reached-first}
use Rattle.model.proofs.RequestKeeps.{found-in-frame, after-grant}
use Rattle.model.proofs.HistoryCounts.{departure-below}
use Rattle.model.proofs.AfterHistory.{After}
use Rattle.model.proofs.NewestGrants.{slot-to-come}
use Rattle.arrival.proofs.TimelyRequests.{due-if-come, due-if-not, due-frame-from-now, known, full-if-fails-later, room-later}
use Rattle.arrival.proofs.Fronts.{Front, Near, front-near}

module _ {l : Link} {h : History} (g : After l.plan l h) (w : ℕ) (well : well_formed l.plan w ≡ true) where
  open l use {plan as P}
  open P use {slots as F, frames as W}
  open g use {invariant as v}
  open v.current use {accepted as ok}

  abbrev i : ℕ
  i = flow_of w

  abbrev d : ℕ
  d = departure_of w

  -- the frame in which the tile is due, and flow i's grants that are due in it
  abbrev due : ℕ
  due = due_frame P w h

  abbrev due_then : ℕ
  due_then = due_in P h i due

  abbrev known_flow : i < flow_count P
  known_flow = known g w well

  -- no refusals are counted here
  abbrev none : ℕ → ℕ
  none f = 0

  module _ (x : Front P i (flow l i).injection h) (timely : Timely P i w h) (in_order : DueInOrder P i w h) where
    near : Near P i (v.injects i known_flow).frame due h
    near = front-near x (v.injects i known_flow) due (x.last_due due (due-frame-from-now ok w h) in_order)

    -- The search comes to the frame after the next only where the whole share is due already, and goes no further.
    pub record Comes (a c : ℕ) : Type 0 where
      reached : Reached v known_flow d none a c
      not_far : a ≤ suc (suc due)
      if_past : suc due < a → (entry P i).share ≤ due_then

    full : (a c : ℕ) → suc due ≤ a → a < current_frame P h + W → Reached v known_flow d none a c → FailsIn v known_flow d a c
        → granted_in P h i a ≡ (entry P i).share
    full a c low high q fails = full-if-fails-later g w well a c (room-later g w well timely a low) low high q.spends fails

    some_share : 1 ≤ (entry P i).share
    some_share = (ok.entries_fit i known_flow).some_share

    -- it does not fail in the frame after the next
    stops : (a c : ℕ) → suc due < a → a < current_frame P h + W → Reached v known_flow d none a c → FailsIn v known_flow d a c → ⊥
    stops a c past high q fails = omega (arith, full a c (omega arith) high q fails, near.none_after a past, some_share)

    whole-share : (a c : ℕ) → a ≡ suc due → a < current_frame P h + W → Reached v known_flow d none a c → FailsIn v known_flow d a c → (entry P i).share ≤ due_then
    whole-share a c e high q fails = omega (arith, full a c (omega arith) high q fails, ap (granted_in P h i) e, near.booked_next)

    comes-on : (a c : ℕ) → a < newest_frame P h → Comes a c → FailsIn v known_flow d a c → Comes (suc a) (share l i)
    comes-on a c lt q fails = record {
      reached = goes_on v known_flow d none a c lt q.reached fails;
      not_far = go (dec_le a (suc due));
      if_past = λ past. past_next (ℕ_discrete a (suc due)) past;
    }
      where
        high : a < current_frame P h + W
        high = omega arith

        go : Dec (a ≤ suc due) → suc a ≤ suc (suc due)
        go (yes le) = omega arith
        go (no past) = absurd (stops a c (omega arith) high q.reached fails)

        past_next : Dec (a ≡ suc due) → suc due < suc a → (entry P i).share ≤ due_then
        past_next (yes e) past = whole-share a c e high q.reached fails
        past_next (no other) past = absurd (stops a c (omega arith) high q.reached fails)

    pub comes-to : Ends (window l) (valid_for l i d) (share l i) (newest_frame P h) Comes (sought l i d)
    comes-to = searched-by v known_flow d none Comes comes-on (record {
      reached = reached-first v known_flow d none;
      not_far = omega (arith, near.injects_by);
      if_past = λ past. absurd (omega (arith, near.injects_by));
    })

    -- ---- a position is found

    module _ (j c p : ℕ) (r : FoundIn (window l) (valid_for l i d) (share l i) (newest_frame P h) Comes j c p) where
      abbrev slot : ℕ
      slot = slot_after P (ticks h) p

      high : r.frame < current_frame P h + W
      high = omega (arith, r.frame_le, some-frame ok)

      in-found-frame : frame_of P slot ≡ r.frame
      in-found-frame = found-in-frame v known_flow d r.frame p r.reached.reached.low high r.hit

      s : Searched v known_flow d none (found j c p)
      s = record { frame = r.frame; frame_le = r.frame_le; frame_is = r.frame_is; reached = r.reached.reached; hit = r.hit }

      pub departs : departure_of (depart w p) ≡ p
      departs = departure-depart w p (omega (arith, (after-grant v known_flow d none j c p s).position, ok.positions_most))

      after_due : due_slot P w h < slot
      after_due = go (has_come P (ticks h) d) refl
        where
          go : (b : Bool) → has_come P (ticks h) d ≡ b → due_slot P w h < slot
          go true e = omega (arith, due-if-come P w h e, slot-to-come P (ticks h) p)
          go false e = omega (arith, due-if-not P w h e, (after-grant v known_flow d none j c p s).after_departure (departure-below P w well) e)

      module _ (few : due_then < (entry P i).share) where
        near-due : r.frame ≤ suc due
        near-due = go (dec_le r.frame (suc due))
          where
            go : Dec (r.frame ≤ suc due) → r.frame ≤ suc due
            go (yes le) = le
            go (no past) = absurd (omega (arith, r.reached.if_past (omega arith)))

        pub in_time : InTime P w slot h
        in_time = record {
          not_before = after_due;
          due_or_next = omega (arith, in-found-frame, near-due);
          within_two_frames =
              let ends : frame_of P slot * F ≤ suc due * F = mul-le-mul_right F (omega (arith, in-found-frame, near-due)) in
              omega (arith, frame-ends ok slot, frame-begins ok (due_slot P w h));
        }

        pub front-granted : (u : ℕ) → departure_of u ≡ p → Front P i j (requested w (accepted u) ∷ h)
        unfolding ticks grants_since due_since
        front-granted u is = record {
          front = due;
          from_now = due-frame-from-now ok w h;
          last_due = λ f low none-due. go f none-due (dec_le due f);
          injects_by = λ a low high' e.
              let z : r.frame ≡ a = mod-unique (some-frame ok) {b = current_frame P h} r.reached.reached.low high low high' (sym r.frame_is ∙ e) in
              omega (arith, near-due);
          booked_next = rw is (booked-too (ℕ_discrete (frame_of P slot) (suc due)));
        }
          where
            one_more : due_in P (requested w (accepted u) ∷ h) i due ≡ suc due_then
            one_more = in-frame-hit P i due (mark i (due_slot P w h)) (due_since P h) refl refl

            go : (f : ℕ) → ((g : ℕ) → f < g → due_in P (requested w (accepted u) ∷ h) i g ≡ 0) → Dec (due ≤ f) → due ≤ f
            go f none-due (yes le) = le
            go f none-due (no lt) = absurd (omega (arith, none-due due (omega arith), one_more))

            booked-too : Dec (frame_of P slot ≡ suc due) → marks_in P i (suc due) (mark i slot ∷ grants_since P h) ≤ due_in P (requested w (accepted u) ∷ h) i due
            booked-too (yes e) = omega (arith, in-frame-hit P i (suc due) (mark i slot) (grants_since P h) refl e, one_more, near.booked_next)
            booked-too (no differs) = omega (arith, in-frame-skip P i (suc due) (mark i slot) (grants_since P h) differs, one_more, near.booked_next)

    -- ---- there is none

    module _ (c : ℕ) (r : FoundNowhere (window l) (valid_for l i d) (share l i) (newest_frame P h) Comes c) where
      high-newest : newest_frame P h < current_frame P h + W
      high-newest = omega (arith, some-frame ok)

      newest-next : newest_frame P h ≡ suc due
      newest-next = go (ℕ_discrete (newest_frame P h) (suc due))
        where
          go : Dec (newest_frame P h ≡ suc due) → newest_frame P h ≡ suc due
          go (yes e) = e
          go (no past) = absurd (stops (newest_frame P h) c (omega (arith, timely.in_time)) high-newest r.reached.reached r.fails)

      pub share-due : (entry P i).share ≤ due_then
      share-due = whole-share (newest_frame P h) c newest-next high-newest r.reached.reached r.fails

      pub front-refused : (n : ℕ) → Front P i (newest (window l)) (requested w (refused n) ∷ h)
      unfolding ticks grants_since due_since
      front-refused n = record {
        front = due;
        from_now = due-frame-from-now ok w h;
        last_due = λ f low none-due. go f none-due (dec_le due f);
        injects_by = λ a low high' e.
            let z : newest_frame P h ≡ a =
            mod-unique (some-frame ok) {b = current_frame P h} (omega (arith, some-frame ok)) high-newest low high' (sym (newest-is v.current) ∙ e) in
            omega (arith, newest-next);
        booked_next = near.booked_next;
      }
        where
          go : (f : ℕ) → ((g : ℕ) → f < g → due_in P h i g ≡ 0) → Dec (due ≤ f) → due ≤ f
          go f none-due (yes le) = le
          go f none-due (no lt) = absurd (omega (arith, none-due due (omega arith), share-due, some_share))
