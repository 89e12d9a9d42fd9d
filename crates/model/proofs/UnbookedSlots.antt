-- A frame in which some flow has not all its share has an unbooked slot, because the shares fit the frame. Assumes nothing.
use Prim.Native.Nat.{ℕ, suc, ◌+◌, ◌*◌, ◌≤◌, ◌<◌}
use mathlib.Core.Path.{◌≡◌, refl, ap, ◌∙◌}
use mathlib.Core.List.{List}
use mathlib.Core.Bool.{Bool}
use native.Mathlib.Omega.{arith}
use lib.Arith.{digits_div}
use lib.Dec.{eqb}
use borrow.Author.Tests.{eqb-true, eq-eqb}
use Rattle.model.specs.Tables.{sum, tally}
use Rattle.model.specs.Plan.{Plan, flow_count, entry, Accepted}
use Rattle.model.specs.History.{Mark, frame_of, in_frame, at_slot}
use Rattle.model.proofs.Tallies.{All, all_map, sum-le, sum_lt, sum-const, tally-join, tally-split}
use Rattle.model.proofs.Marks.{marks_in}

module _ {P : Plan} (ok : Accepted P) (G : List Mark) (known : All (λ m. m.flow < flow_count P) G) (a : ℕ) where
  -- slot x of frame a
  abbrev slot : ℕ → ℕ
  slot x = a * P.slots + x

  abbrev of_frame : Mark → Bool
  of_frame m = eqb (frame_of P m.slot) a

  by_slot : sum P.slots (λ x. tally (at_slot (slot x)) G) ≤ tally of_frame G
  by_slot =
      tally-join P.slots of_frame (λ x. at_slot (slot x))
      (λ m j k p q. let at_j = eqb-true m.slot (slot j) p in let at-k = eqb-true m.slot (slot k) q in omega arith)
      (λ m j h p. eq-eqb (frame_of P m.slot) a (ap (frame_of P) (eqb-true m.slot (slot j) p) ∙ digits_div a h)) G

  by-flow : tally of_frame G ≤ sum (flow_count P) (λ j. marks_in P j a G)
  by-flow =
      tally-split (flow_count P) of_frame (λ j. in_frame P j a) G
      (all_map _ _ (λ m h e. record { class = m.flow; below = h; belongs = rw (eq-eqb m.flow m.flow refl) e }) G known)

  pub not-all-booked : (i c : ℕ) → i < flow_count P → ((j : ℕ) → j < flow_count P → marks_in P j a G ≤ (entry P j).share)
      → marks_in P i a G + suc c ≡ (entry P i).share → ((x : ℕ) → x < P.slots → 0 < tally (at_slot (slot x)) G) → ⊥
  not-all-booked i c h most short booked =
      let all_slots : sum P.slots (λ x. 1) ≤ sum P.slots (λ x. tally (at_slot (slot x)) G) = sum-le P.slots _ _ booked in
      let not-all-shares : sum (flow_count P) (λ j. marks_in P j a G) < sum (flow_count P) (λ j. (entry P j).share) =
      sum_lt (flow_count P) _ _ i h most (omega arith) in
      omega (arith, sum-const P.slots 1, by_slot, by-flow, ok.shares_fit)
