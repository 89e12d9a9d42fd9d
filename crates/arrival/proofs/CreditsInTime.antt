-- Where the cell of each tile is credited in the slot in which the tile comes up, dated by the end of the next frame, cells are given back in time; and
-- where it is credited `late` frames after that at most, they are given back that late. Assumes nothing.
use Prim.Native.Nat.{ℕ, suc, ◌+◌, ◌*◌, ◌≤◌, ◌<◌}
use mathlib.Core.Path.{◌≡◌, refl, sym, ap, ◌∙◌}
use mathlib.Core.List.{[], ◌∷◌}
use mathlib.Core.Bool.{Bool, true, ◌&&◌}
use native.Mathlib.Nat.{mul-le-mul_right}
use native.Mathlib.Omega.{arith}
use lib.Dec.{leb, eqb}
use borrow.Author.Tests.{leb-true, le-leb, eqb-true, eq-eqb}
use Rattle.model.specs.Tables.{sum, tally}
use Rattle.model.specs.Plan.{Plan, Accepted}
use Rattle.model.specs.Calls.{Event, History, requested, credited, ticked, lent, accepted, refused}
use Rattle.model.specs.History.{Mark, ticks, frame_of, credit_at, grants, credits, of_flow, up_to, granted_up_to, credited_up_to}
use Rattle.arrival.specs.Delay.{current_frame, GrantedSoon}
use Rattle.arrival.specs.EnoughCells.{last_of, CreditedInTime, Return, return_at, returns, in_slot, CreditsEachTile}
use Rattle.arrival.specs.SharesOfCells.{GivenBack, CreditsEachBy}
use Rattle.model.proofs.Tests.{and-true}
use Rattle.model.proofs.Tallies.{Classed, sum-le, tally-append, tally-join, tally-split}
use Rattle.model.proofs.Slots.{frame-begins, frame-ends, frame-high}
use Rattle.arrival.proofs.TimelyRequests.{frame-order}
use Rattle.arrival.proofs.EnoughCells.{all_of}

-- a credit of flow i that is dated up to slot u
abbrev dated_up_to : ℕ → ℕ → Return → Bool
dated_up_to i u r = eqb r.flow i && leb r.dated u

-- credits and returns are the same
dated-are : (P : Plan) (i u : ℕ) (h : History) → tally (dated_up_to i u) (returns P h) ≡ credited_up_to P h i u
unfolding returns credits tally
dated-are P i u [] = refl
dated-are P i u (e ∷ h) =
    omega (
      arith,
      tally-append (dated_up_to i u) (return_at P e h) (returns P h),
      tally-append (up_to i u) (credit_at P e h) (credits P h),
      one e,
      dated-are P i u h,
    )
  where
    one : (e : Event) → tally (dated_up_to i u) (return_at P e h) ≡ tally (up_to i u) (credit_at P e h)
    one (requested w a) = refl
    one (credited j p (accepted x)) = refl
    one (credited j p (refused r)) = refl
    one (ticked x) = refl
    one (lent m a) = refl
    one (Event.reset a) = refl

-- The cell of the tile of slot t is credited in slot credit_of t: below slot b for the tiles up to slot s, so that these credits are dated up to slot u.
module _ (P : Plan) (i : ℕ) (h : History) (credit_of : ℕ → ℕ) (s b u : ℕ) (before : (t : ℕ) → t ≤ s → credit_of t < b)
    (dated : (c : ℕ) → c < b → last_of P (frame_of P c + 1) ≤ u) where
  -- a grant of which the cell is credited in slot c
  abbrev credited_in : ℕ → Mark → Bool
  credited_in c m = of_flow i m && eqb (credit_of m.slot) c

  -- flow i's grants up to slot s, by the slot of the credit
  by_credit : granted_up_to P h i s ≤ sum b (λ c. tally (credited_in c) (grants P h))
  by_credit = tally-split b (up_to i s) credited_in (grants P h) (all_of _ in_one (grants P h))
    where
      in_one : (m : Mark) → up_to i s m ≡ true → Classed b credited_in m
      in_one m e =
          let both = and-true (of_flow i m) (leb m.slot s) e in
          let c = credit_of m.slot in
          record { class = c; below = before m.slot (leb-true m.slot s both.1); belongs = rw both.0 (eq-eqb c c refl) }

  record Parts (r : Return) (c : ℕ) : Type 0 where
    own : eqb r.flow i ≡ true
    made_then : r.made ≡ c
    dated_by : r.dated ≤ last_of P (frame_of P c + 1)

  parts : (r : Return) (c : ℕ) → in_slot P i c r ≡ true → Parts r c
  parts r c e =
      let all = and-true (eqb r.flow i && eqb r.made c) (leb r.dated (last_of P (frame_of P c + 1))) e in
      let first = and-true (eqb r.flow i) (eqb r.made c) all.0 in
      record { own = first.0; made_then = eqb-true r.made c first.1; dated_by = leb-true r.dated (last_of P (frame_of P c + 1)) all.1 }

  together : sum b (λ c. tally (in_slot P i c) (returns P h)) ≤ tally (dated_up_to i u) (returns P h)
  together = tally-join b (dated_up_to i u) (in_slot P i) (λ r j k p q. sym (parts r j p).made_then ∙ (parts r k q).made_then) inside (returns P h)
    where
      inside : (r : Return) (c : ℕ) → c < b → in_slot P i c r ≡ true → dated_up_to i u r ≡ true
      inside r c lt e = let x = parts r c e in rw x.own (le-leb r.dated u (omega (arith, x.dated_by, dated c lt)))

  all-credited : ((c : ℕ) → c < b → tally (credited_in c) (grants P h) ≤ tally (in_slot P i c) (returns P h)) → granted_up_to P h i s ≤ credited_up_to P h i u
  all-credited each =
      omega (
        arith,
        by_credit,
        sum-le b (λ c. tally (credited_in c) (grants P h)) (λ c. tally (in_slot P i c) (returns P h)) each,
        together,
        dated-are P i u h,
      )

module _ {P : Plan} (ok : Accepted P) (i : ℕ) (h : History) where
  last-in-order : (f g : ℕ) → f ≤ g → last_of P f ≤ last_of P g
  last-in-order f g le = let z : (f + 1) * P.slots ≤ (g + 1) * P.slots = mul-le-mul_right P.slots (omega arith) in omega arith

  pub credited-each-tile : CreditsEachTile P i h → CreditedInTime P i h
  credited-each-tile each s gone =
      all-credited P i h (λ t. t) s (suc s) (last_of P (frame_of P s + 1)) (λ t le. omega arith)
      (λ c lt. last-in-order (frame_of P c + 1) (frame_of P s + 1) (omega (arith, frame-order ok c s (omega arith)))) (λ c lt. each c (omega arith))

  pub given-back-by : {late : ℕ} → CreditsEachBy late P i h → GivenBack late P i h
  given-back-by {late} x s back =
      all-credited P i h x.credit_of s b (last_of P (frame_of P s + late + 1)) before
      (λ c lt. last-in-order (frame_of P c + 1) (frame_of P s + late + 1) (omega (arith, frame-high ok (frame_of P s + late + 1) c lt)))
      (λ c lt. x.each c (omega (arith, gone)))
    where
      b : ℕ
      b = (frame_of P s + late + 1) * P.slots

      gone : b ≤ ticks h
      gone =
          let z : b ≤ current_frame P h * P.slots = mul-le-mul_right P.slots (omega arith) in
          omega (arith, frame-begins ok (ticks h))

      before : (t : ℕ) → t ≤ s → x.credit_of t < b
      before t le =
          let ends : (frame_of P (x.credit_of t) + 1) * P.slots ≤ b =
          mul-le-mul_right P.slots (omega (arith, x.in_frames t, frame-order ok t s le)) in
          omega (arith, frame-ends ok (x.credit_of t))

  -- as each tile comes up
  pub each-tile-by : CreditsEachTile P i h → CreditsEachBy 0 P i h
  each-tile-by each = record { credit_of = λ t. t; in_frames = λ t. omega arith; each = each }

  pub in-time-given-back : CreditedInTime P i h → GivenBack 0 P i h
  in-time-given-back in_time s back =
      let same = ap (λ f. credited_up_to P h i (last_of P (f + 1))) (zero_more (frame_of P s)) in
      omega (arith, in_time s (earlier (omega arith)))
    where
      earlier : frame_of P s < current_frame P h → s < ticks h
      earlier lt =
          let z : (frame_of P s + 1) * P.slots ≤ current_frame P h * P.slots = mul-le-mul_right P.slots (omega arith) in
          omega (arith, frame-ends ok s, frame-begins ok (ticks h))

      zero_more : (f : ℕ) → f + 0 ≡ f
      zero_more f = omega arith

-- The slot that a modest flow is granted on arrival comes by then: a board may date its credit to the board before with the slot that it was granted.
pub granted-slot-dates : {P : Plan} → Accepted P → (s : ℕ) (h : History) → GrantedSoon P s h → s ≤ last_of P (current_frame P h + 1)
granted-slot-dates {P} ok s h x =
    let ends : (frame_of P s + 1) * P.slots ≤ (current_frame P h + 1 + 1) * P.slots = mul-le-mul_right P.slots (omega (arith, x.this_or_next)) in
    omega (arith, frame-ends ok s)
