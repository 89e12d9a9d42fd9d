-- What a board keeps at a crossing, whatever the others ask of the two links. RULES 27.7 to 27.10. By calls, answers and tiles that wait. Assumes
-- nothing.
use Rattle.std.specs.Prelude.{ℕ, ◌+◌, ◌≤◌, ◌<◌, ◌≡◌, List, true, ◌&&◌, get_or}
use Rattle.std.proofs.Math.Option.{Option, some, none}
use Rattle.model.specs.Tables.{tally}
use Rattle.model.specs.Word.{flow_of, quantum_of, departure_of}
use Rattle.model.specs.Plan.{Plan, flow_count, entry, plan_of, refusal}
use Rattle.model.specs.Calls.{History}
use Rattle.model.specs.History.{ticks, has_come, marks_of, refusal_at, grants, credits, of_flow, at_slot, granted_up_to, lent_up_to, granted_in_all}
use Rattle.model.specs.History.{expected_number}
use Rattle.model.specs.Claim.{Each, AtRequest}
use Rattle.arrival.specs.AcceptedCredits.{AtCredit, IsAccepted}
use Rattle.model.specs.TwoHops.{InStep}
use Rattle.arrival.specs.SeveralLinks.{slots_of}
use Rattle.crossings.specs.Crossing.{Crossing, waits}
use Rattle.crossings.specs.Playing.{Board, Other, Slot, played}

-- RULES 27.1: each flow that goes on here is one of the in-link and goes on as one of the out-link, and no two go on as the same one.
pub record Onward (P Q : Plan) (onward : List (Option ℕ)) : Type 0 where
  pub known : (i j : ℕ) → get_or onward i none ≡ some j → (i < flow_count P) × (j < flow_count Q)
  pub apart : (i k j : ℕ) → get_or onward i none ≡ some j → get_or onward k none ≡ some j → i ≡ k

-- RULES 27.9: a request on the out-link is for a tile that has come, by its departure, and carries its flow's next number
pub record AsksNow (Q : Plan) (j w : ℕ) (h : History) : Type 0 where
  pub come : has_come Q (ticks h) (departure_of w) ≡ true
  pub number : quantum_of w ≡ expected_number Q h j

-- the requests of flow j that were refused in slot t
abbrev pub refused_then : Plan → (j t : ℕ) → History → ℕ
refused_then Q j t h = tally (λ m. of_flow j m && at_slot t m) (marks_of (refusal_at Q) h)

-- Flow i of the in-link, with plan P, goes on as flow j of the out-link, with plan Q.
pub record Crosses (P Q : Plan) (i j : ℕ) (x : Crossing) : Type 0 where
  -- RULES 27.7: each credit of it is taken
  pub all_accepted : Each (AtCredit (λ k p a h. k ≡ i → IsAccepted a)) x.arriving.history
  -- RULES 27.7: there is one for each tile that was granted a slot, dated that slot, in which it leaves
  pub dated : slots_of i (credits P x.arriving.history) ≡ slots_of j (grants Q x.leaving.history)
  -- RULES 27.8: in no slot are there more of its tiles in their cells than it has cells: those that came up to that slot, less those that left up to
  -- it
  pub within_cells : (s : ℕ)
      → granted_up_to P x.arriving.history i s + lent_up_to x.arriving.history i s ≤ granted_up_to Q x.leaving.history j s + (entry P i).cells
  -- RULES 27.9: each tile that came waits or was granted a slot
  pub none_lost : granted_up_to P x.arriving.history i (ticks x.arriving.history) ≡ waits x i + granted_in_all Q x.leaving.history j
  pub asks_now : Each (AtRequest (λ w h. flow_of w ≡ j → AsksNow Q j w h)) x.leaving.history
  -- RULES 27.10: where tiles wait, one was refused in the current slot
  pub waits_refused : 0 < waits x i → 0 < refused_then Q j (ticks x.leaving.history) x.leaving.history

-- RULES 27.7 to 27.10: so of each flow that goes on here, after every slot
abbrev pub CrossesWell : Board → Type 0
CrossesWell b =
    (first second : List ℕ) → refusal first ≡ 0 → refusal second ≡ 0 → InStep (plan_of first) (plan_of second)
    → (onward : List (Option ℕ)) → Onward (plan_of first) (plan_of second) onward → (begin : List Other) (slots : List Slot)
    → (i j : ℕ) → get_or onward i none ≡ some j
    → Crosses (plan_of first) (plan_of second) i j (played b (plan_of first) (plan_of second) onward begin slots)
