-- Each of the bad boards is sent back, by one crossing. Assumes nothing.
use Prim.Native.Nat.{ℕ, zero, suc, ◌+◌, ◌≤◌, ◌<◌}
use mathlib.Core.Path.{◌≡◌, refl, ap}
use mathlib.Core.List.{List, ◌∷◌, []}
use mathlib.Core.Option.{some, none}
use mathlib.Core.Bool.{true, false}
use native.Mathlib.Omega.{arith}
use lib.ListN.{get_or, take}
use lib.Dec.{lit<}
use Rattle.model.specs.Tables.{bit}
use Rattle.model.specs.Plan.{plan_of, refusal}
use Rattle.model.specs.Calls.{Call}
use Rattle.model.proofs.Unfoldings.{plans-compute}
use Rattle.crossings.specs.Playing.{Board, Slot, on_arriving}
use Rattle.crossings.specs.Claim.{Onward, Crosses, CrossesWell}
use Rattle.crossings.specs.Edges.{one_cell, on_one, ask_first, slots_one, crosses_one}
use Rattle.crossings.specs.WrongBoards.{credits_on_arrival, credits_twice, asks_as_it_came, forgets_refused, asks_next_slot}
use Rattle.crossings.proofs.Unfoldings.{crossings-compute}

-- ---- one flow on each link, which goes on as flow 0

only-first : (i j : ℕ) → get_or on_one i none ≡ some j → (i ≡ 0) × (j ≡ 0)
only-first zero j e = (refl, cc)
only-first (suc i) j e = (cc, cc)

one-flow : Onward (plan_of one_cell) (plan_of one_cell) on_one
one-flow = record {
  known = λ i j e. let (a, b) = only-first i j e in (rw a (lit< tt), rw b (lit< tt));
  apart = λ i k j e f. let (a, _) = only-first i j e in let (b, _) = only-first k j f in omega arith;
}

accepted-bytes : refusal one_cell ≡ 0
unfolding plans-compute
accepted-bytes = refl

crosses : (b : Board) → CrossesWell b → (slots : List Slot) → Crosses (plan_of one_cell) (plan_of one_cell) 0 0 (crosses_one b slots)
crosses b well slots =
    well one_cell one_cell accepted-bytes accepted-bytes (record { slots = refl; frames = refl }) on_one one-flow ask_first slots 0 0 refl

-- the first slots of the example; and four slots in which no cell of the out-link is given back, so that the second tile waits
abbrev first_slots : ℕ → List Slot
first_slots n = take n slots_one

abbrev quiet_slot : Slot
quiet_slot = record { before = []; after = [] }

abbrev full_out : List Slot
full_out =
    record { before = []; after = on_arriving (Call.request 0x24000401) ∷ [] }
    ∷ record { before = []; after = on_arriving (Call.request 0x24000802) ∷ [] }
    ∷ quiet_slot ∷ quiet_slot ∷ []

-- ---- the boards

-- the second tile is refused, and its cell is given to the third: both are in one
pub credits-on-arrival : CrossesWell credits_on_arrival → ⊥
unfolding crossings-compute
credits-on-arrival well = let x : 3 + 0 ≤ 1 + 1 = (crosses credits_on_arrival well full_out).within_cells 4 in omega arith

-- the second credit of a tile is refused with 15
pub credits-twice : CrossesWell credits_twice → ⊥
unfolding crossings-compute
credits-twice well = (crosses credits_twice well (first_slots 1)).all_accepted.1.0 refl

-- in slot 4 the second tile's departure, position 2, is one that is still to come
pub asks-as-it-came : CrossesWell asks_as_it_came → ⊥
unfolding crossings-compute
asks-as-it-came well =
    let e : false ≡ true = ((crosses asks_as_it_came well full_out).asks_now.0 refl).come in
    let z : ◌≡◌ {A = ℕ} 0 1 = ap bit e in
    omega arith

-- two tiles came, one left, and none waits
pub forgets-refused : CrossesWell forgets_refused → ⊥
unfolding crossings-compute
forgets-refused well = let x : ◌≡◌ {A = ℕ} 2 (0 + 1) = (crosses forgets_refused well (first_slots 2)).none_lost in omega arith

-- the first tile waits, and was not asked for
pub asks-next-slot : CrossesWell asks_next_slot → ⊥
unfolding crossings-compute
asks-next-slot well = let x : 0 < 0 = (crosses asks_next_slot well (first_slots 1)).waits_refused (lit< tt) in omega arith
