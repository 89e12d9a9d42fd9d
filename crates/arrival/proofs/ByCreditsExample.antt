-- Two boards in step on which the first is credited at the second's grants: all that `over-links-by-credits` asks. Assumes nothing.
use Prim.Native.Nat.{ℕ}
use mathlib.Core.Path.{◌≡◌, refl}
use mathlib.Core.Logic.Dec
use mathlib.Core.List.{List, ◌∷◌, [], reverse}
use mathlib.Core.Option.{some, none}
use native.Mathlib.Decide.{dec_le, dec_lt, ℕ_discrete}
use lib.Dec.{lit<, lit≤}
use Rattle.model.specs.Tables.{tally}
use Rattle.model.specs.Word.{flow_of, quantum_of, departure_of}
use Rattle.model.specs.Plan.{Plan, entry, plan_of, refusal}
use Rattle.model.specs.Calls.{History, requested, credited, accepted}
use Rattle.model.specs.History.{ticks, well_formed, has_come, is_granted_reset, lends, of_flow, expected_number}
use Rattle.model.specs.Scheduler.{reference}
use Rattle.model.specs.PlanBytes as plan_bytes
use Rattle.arrival.specs.Delay.{current_frame, made_in}
use Rattle.arrival.specs.SeveralLinks.{Ran, Board, plan_on, due_on, EachWithin}
use Rattle.arrival.specs.EnoughCells.{returns}
use Rattle.arrival.specs.LinksOnArrival.{AsksOnArrival}
use Rattle.arrival.specs.CreditedByNext.{passes, WayByCredits, ModestFirst}
use Rattle.model.proofs.Decidable.{same, implies, is_true, all-below, proved}
use Rattle.model.proofs.ClaimDecided.{at-request, each}
use Rattle.arrival.proofs.CellsNeeded.{given_back}
use Rattle.arrival.proofs.JoinedDecided.{Decided, Move, both, first, second, firsts, seconds, calls_of, by-moves, joins-compute}
use Rattle.arrival.proofs.CreditedByNext.{over-links-by-credits}

-- ---- what is asked is decided

unfoldable on-arrival : Decided (AsksOnArrival (λ P i h. Unit {0}))
on-arrival P Q i j h₁ w h₂ =
    same (λ r. record { sent = r.0; departs = r.1.0; comes_now = r.1.1.0; number = r.1.1.1; given_back = tt })
    (λ x. (x.sent, (x.departs, (x.comes_now, x.number))))
    (Dec.and (dec_lt _ _) (Dec.and (ℕ_discrete _ _) (Dec.and (ℕ_discrete _ _) (ℕ_discrete _ _))))

unfoldable pub modest-first : (P : Plan) (i : ℕ) (h : History) → Dec (ModestFirst P i h)
modest-first P i h =
    same (λ r. record { asks = r.0; not_lent = r.1 }) (λ x. (x.asks, x.not_lent))
    (Dec.and
    (each (at-request λ w h. implies (is_true (well_formed P w)) (implies (ℕ_discrete (flow_of w) i)
    (same (λ r. record { come = r.0; number = r.1.0; few = r.1.1 }) (λ x. (x.come, (x.number, x.few)))
    (Dec.and (is_true (has_come P (ticks h) (departure_of w))) (Dec.and (ℕ_discrete (quantum_of w) (expected_number P h i))
    (dec_lt (made_in P h i (current_frame P h)) (entry P i).share)))))) h)
    (ℕ_discrete (tally (of_flow i) (lends h)) 0))

-- ---- F = 2, W = 2, one flow with share 2 from node 0 to node 9, with four cells on the first board, and six on the second, which gives them back when tiles were shown

abbrev pub bytes : (cells : ℕ) → List ℕ
bytes cells = plan_bytes.plan 2 2 8 (plan_bytes.entry 2 cells 0 9 ∷ [])

-- Four tiles, two in a frame, are granted slots 1 to 4 on the first board, and slots 2 to 5 on the second, which dates the first's credits so.
abbrev pub moves : List Move
moves =
    reverse (
    first (requested 0x24000000 (accepted 0x24000001)) ∷ first (requested 0x24000400 (accepted 0x24000402)) ∷ both (some 0) none
    ∷ second (requested 0x24000001 (accepted 0x24000002)) ∷ first (credited 0 2 (accepted tt)) ∷ both (some 0) (some 0)
    ∷ second (requested 0x24000402 (accepted 0x24000403)) ∷ first (credited 0 3 (accepted tt))
    ∷ first (requested 0x24000802 (accepted 0x24000803)) ∷ first (requested 0x24000C02 (accepted 0x24000C00)) ∷ both (some 0) (some 0)
    ∷ second (requested 0x24000803 (accepted 0x24000800)) ∷ first (credited 0 0 (accepted tt)) ∷ both (some 0) (some 0)
    ∷ second (requested 0x24000C00 (accepted 0x24000C01)) ∷ first (credited 0 1 (accepted tt)) ∷ both none (some 0) ∷ [])

pub passes₁ : refusal (bytes 4) ≡ 0
unfolding joins-compute
passes₁ = refl

pub passes₂ : refusal (bytes 6) ≡ 0
unfolding joins-compute
passes₂ = refl

pub ran₁ : Ran reference (plan_of (bytes 4)) (firsts moves)
unfolding joins-compute
ran₁ = record { calls = calls_of (firsts moves); is = refl }

pub ran₂ : Ran reference (plan_of (bytes 6)) (seconds moves)
unfolding joins-compute
ran₂ = record { calls = calls_of (seconds moves); is = refl }

pub none₁ : tally is_granted_reset (firsts moves) ≡ 0
unfolding joins-compute
none₁ = refl

pub none₂ : tally is_granted_reset (seconds moves) ≡ 0
unfolding joins-compute
none₂ = refl

abbrev pub board₁ : Board reference
board₁ = record { bytes = bytes 4; passes = passes₁; events = firsts moves; ran = ran₁; no_reset = none₁; stream = 0; known = lit< tt }

abbrev pub board₂ : Board reference
board₂ = record { bytes = bytes 6; passes = passes₂; events = seconds moves; ran = ran₂; no_reset = none₂; stream = 0; known = lit< tt }

pub way_there : WayByCredits 1 board₁ (board₂ ∷ [])
unfolding joins-compute on-arrival given_back returns passes
way_there = (
  record {
    in_step = record { slots = refl; frames = refl };
    share_kept = lit≤ tt;
    together = by-moves on-arrival (plan_of (bytes 4)) (plan_of (bytes 6)) 0 0 moves tt;
    credits = proved (all-below 5 (λ t. dec_le _ _)) tt;
    two_shares = lit≤ tt;
    not_lent = refl;
  },
  record {
    given_back =
        proved (each (at-request λ w h. implies (is_true (well_formed (plan_of (bytes 6)) w)) (implies (ℕ_discrete (flow_of w) 0)
        (given_back 1 (plan_of (bytes 6)) (lit< tt) 0 h))) (seconds moves)) tt;
    enough_cells = lit≤ tt;
  },
)

pub modest-there : ModestFirst (plan_of (bytes 4)) 0 (firsts moves)
unfolding joins-compute modest-first
modest-there = proved (modest-first (plan_of (bytes 4)) 0 (firsts moves)) tt

pub both-within : EachWithin 1 (plan_on board₁) (due_on board₁) (board₁ ∷ board₂ ∷ [])
both-within = (over-links-by-credits 1 board₁ (board₂ ∷ []) way_there).from_due modest-there
