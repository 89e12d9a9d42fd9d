-- The newest frame has no more of a flow's grants than were made in the current frame, because it came into the window with it. Assumes nothing.
use Prim.Native.Nat.{ℕ, suc, ◌+◌, ◌-◌, ◌%◌, ◌≤◌}
use mathlib.Core.Path.{◌≡◌, refl}
use mathlib.Core.List.{[], ◌∷◌}
use native.Mathlib.Decide.{ℕ_discrete}
use native.Mathlib.Omega.{arith}
use Rattle.model.specs.Tables.{tally}
use Rattle.model.specs.Word.{flow_of, departure_of}
use Rattle.model.specs.Plan.{Plan, Accepted}
use Rattle.model.specs.Calls.{Event, History, requested, credited, ticked, lent, accepted, refused}
use Rattle.model.specs.History.{ticks, slot_after, frame_of, grants_since, granted_in, in_frame}
use Rattle.model.specs.Claim.{Each}
use Rattle.arrival.specs.Delay.{current_frame, newest_frame, made_since, made_in}
use Rattle.model.proofs.Slots.{frame-stays, frame_changes}
use Rattle.model.proofs.Marks.{mark, in-frame-hit, in-frame-skip, in-frame-other}
use Rattle.model.proofs.EventsOfRuns.{Happened}
use Rattle.model.proofs.NewestGrants.{none-past-newest}

module _ {P : Plan} (ok : Accepted P) (i : ℕ) where
  -- a grant counts as made in the current frame, whichever frame its slot is in
  grant-made : (w v : ℕ) (h : History) → granted_in P h i (newest_frame P h) ≤ made_in P h i (current_frame P h)
      → granted_in P (requested w (accepted v) ∷ h) i (newest_frame P h) ≤ made_in P (requested w (accepted v) ∷ h) i (current_frame P h)
  unfolding grants_since made_since
  grant-made w v h so_far = go (ℕ_discrete (flow_of w) i) (ℕ_discrete (frame_of P slot) (newest_frame P h))
    where
      slot : ℕ
      slot = slot_after P (ticks h) (departure_of v)

      go : Dec (flow_of w ≡ i) → Dec (frame_of P slot ≡ newest_frame P h)
          → tally (in_frame P i (newest_frame P h)) (mark (flow_of w) slot ∷ grants_since P h)
          ≤ tally (in_frame P i (current_frame P h)) (mark (flow_of w) (ticks h) ∷ made_since h)
      go (yes own) (yes newest) =
          omega (
            arith,
            in-frame-hit P i (newest_frame P h) (mark (flow_of w) slot) (grants_since P h) own newest,
            in-frame-hit P i (current_frame P h) (mark (flow_of w) (ticks h)) (made_since h) own refl,
          )
      go (yes own) (no earlier) =
          omega (
            arith,
            in-frame-skip P i (newest_frame P h) (mark (flow_of w) slot) (grants_since P h) earlier,
            in-frame-hit P i (current_frame P h) (mark (flow_of w) (ticks h)) (made_since h) own refl,
          )
      go (no other) d =
          omega (
            arith,
            in-frame-other P i (newest_frame P h) (mark (flow_of w) slot) (grants_since P h) other,
            in-frame-other P i (current_frame P h) (mark (flow_of w) (ticks h)) (made_since h) other,
          )

  pub newest-made : (h : History) → Each (Happened P) h → granted_in P h i (newest_frame P h) ≤ made_in P h i (current_frame P h)
  unfolding ticks grants_since made_since tally
  newest-made [] happened = omega arith
  newest-made (requested w (accepted v) ∷ h) happened = grant-made w v h (newest-made h happened.1)
  newest-made (requested w (refused r) ∷ h) happened = newest-made h happened.1
  newest-made (credited j p a ∷ h) happened = newest-made h happened.1
  newest-made (lent m a ∷ h) happened = newest-made h happened.1
  newest-made (Event.reset (accepted u) ∷ h) happened = omega arith
  newest-made (Event.reset (refused r) ∷ h) happened = newest-made h happened.1
  newest-made (ticked x ∷ h) happened = go (newest-made h happened.1) (ℕ_discrete (suc (ticks h) % P.slots) 0)
    where
      next : ℕ
      next = frame_of P (suc (ticks h))

      go : granted_in P h i (newest_frame P h) ≤ made_in P h i (current_frame P h) → Dec (suc (ticks h) % P.slots ≡ 0)
          → granted_in P h i (next + P.frames - 1) ≤ made_in P h i next
      go rest (no same) = let stays = frame-stays ok (ticks h) same in rw stays rest
      go rest (yes change) =
          let begins : next ≡ suc (current_frame P h) = frame_changes ok (ticks h) change in
          omega (arith, none-past-newest ok i h happened.0.counts_before (next + P.frames - 1) (omega arith))
