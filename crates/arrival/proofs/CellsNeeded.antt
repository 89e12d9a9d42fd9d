-- With two shares of cells and no more a stream that gives them back in time may lack room; with one more it has it in the same calls. With one fewer a
-- request of it may be refused; so with one fewer than three shares where cells are credited when their tiles were shown, and with one fewer than three where
-- it asks a frame ahead. Assumes nothing.
use Prim.Native.Nat.{ℕ, suc, ◌+◌, ◌-◌, ◌*◌, ◌/◌, ◌≤◌, ◌<◌}
use mathlib.Core.Path.{◌≡◌, refl}
use mathlib.Core.Logic.Dec
use mathlib.Core.List.{List, ◌∷◌, [], ◌++◌, reverse}
use mathlib.Core.Option.{some, none}
use native.Mathlib.Nat.{le-div_iff_mul-le, div-mul-le_self}
use native.Mathlib.Omega.{arith}
use native.Mathlib.Decide.{dec_le, dec_lt, ℕ_discrete}
use lib.Dec.{lit<, lit≤}
use Rattle.model.specs.Word.{flow_of, quantum_of, departure_of}
use Rattle.model.specs.Plan.{Plan, entry, plan_of, Accepted}
use Rattle.model.specs.Calls.{Call, History, requested, credited, ticked, accepted}
use Rattle.model.specs.History.{ticks, frame_of, well_formed, has_come, expected_number, granted_up_to, credited_up_to}
use Rattle.model.specs.Scheduler.{run, reference}
use Rattle.model.specs.PlanBytes.{plan1, plan2}
use Rattle.arrival.specs.Delay.{current_frame, due_frame, made_since, made_in, due_in}
use Rattle.arrival.specs.EnoughCells.{last_of, returns, AsksInTurn, GivesBack, EnoughCellsBy, CreditedAtOnce, GivesBackAtOnce, EnoughAtOnceBy}
use Rattle.arrival.specs.SharesOfCells.{GivenBack, CreditsEachBy, KeepsShares, SharesOfCellsBy, SharesInOrderBy}
use Rattle.arrival.specs.SharesAhead.{KeepsSharesAhead, SharesAheadBy}
use Rattle.model.proofs.Decidable.{same, implies, is_true, all-below, everywhere, proved}
use Rattle.model.proofs.Plan.{accepted as accepted_plan}
use Rattle.model.proofs.Slots.{frame-ends}
use Rattle.model.proofs.PastMarks.{above, end, same-granted, same-credited}
use Rattle.model.proofs.ClaimDecided.{at-request, each}
use Rattle.arrival.proofs.TimelyRequests.{frame-order}
use Rattle.arrival.proofs.DelayDecided.{none_in, ordered, delays-compute}

-- ---- whether a stream gives its cells back in time is decided

unfoldable pub in-turn : (P : Plan) (i w : ℕ) (h : History) → Dec (AsksInTurn P i w h)
in-turn P i w h =
    same (λ r. record { come = r.0; number = r.1.0; credited = r.1.1 }) (λ x. (x.come, (x.number, x.credited)))
    (Dec.and (is_true (has_come P (ticks h) (departure_of w)))
    (Dec.and (ℕ_discrete (quantum_of w) (expected_number P h i))
    (all-below {Q = λ s. granted_up_to P h i s ≤ credited_up_to P h i (last_of P (frame_of P s + 1))} (ticks h) (λ s. dec_le _ _))))

unfoldable pub gives_back : (short : ℕ) (P : Plan) (i : ℕ) (h : History) → Dec (GivesBack short P i h)
gives_back short P i h =
    same (λ r. record { asks = r.0; within_share = r.1.0; enough_cells = r.1.1.0; not_lent = r.1.1.1.0; no_reset = r.1.1.1.1 })
    (λ x. (x.asks, (x.within_share, (x.enough_cells, (x.not_lent, x.no_reset)))))
    (Dec.and (each (at-request λ w h. implies (is_true (well_formed P w)) (implies (ℕ_discrete (flow_of w) i) (in-turn P i w h))) h)
    (Dec.and
    (everywhere (above (λ m. frame_of P m.slot) (made_since h)) (λ f. dec_le _ _) (λ below f past. omega (arith, none_in P i f (made_since h) past)))
    (Dec.and (dec_lt _ _) (Dec.and (ℕ_discrete _ _) (ℕ_discrete _ _)))))

-- ---- F = 2, W = 3, two flows with share 1, of which flow 0 is the stream, with the given number of cells

abbrev bytes : (cells : ℕ) → List ℕ
bytes cells = plan2 2 3 8 1 cells 1 4

-- Flow 1 takes slots 1 and 2. The stream's tiles are granted slots 3, 4 and 6, the last of them asked for in slot 4; the first cell is given back in slot
-- 3, from slot 5 on.
abbrev calls : List Call
calls =
    Call.request 0x24100000 ∷ Call.request 0x24100400 ∷ Call.request 0x24000000 ∷ Call.tick ∷ Call.tick ∷ Call.request 0x24000402 ∷ Call.tick
    ∷ Call.credit 0 5 ∷ Call.tick ∷ Call.request 0x24000804 ∷ []

abbrev events : (cells : ℕ) → History
events cells = (run reference (plan_of (bytes cells)) calls).history

pub come_to :
    reverse (events 2)
    ≡ requested 0x24100000 (accepted 0x24100001) ∷ requested 0x24100400 (accepted 0x24100402) ∷ requested 0x24000000 (accepted 0x24000003)
    ∷ ticked (some 1) ∷ ticked (some 1) ∷ requested 0x24000402 (accepted 0x24000404) ∷ ticked (some 0)
    ∷ credited 0 5 (accepted tt) ∷ ticked (some 0) ∷ requested 0x24000804 (accepted 0x24000800) ∷ []
unfolding delays-compute
come_to = refl

-- with two cells it holds both in slot 4 when it asks in slot 4
pub not-two-shares : EnoughCellsBy 1 reference → ⊥
unfolding delays-compute in-turn gives_back
not-two-shares enough =
    let ready = enough (bytes 2) refl calls 0 (lit< tt) (proved (gives_back 1 (plan_of (bytes 2)) 0 (events 2)) tt) in
    omega (arith, (ready.0 refl refl).room 4 (lit≤ tt))

-- with three it gives them back in time, and is ready at each request
pub three-are-enough : GivesBack 0 (plan_of (bytes 3)) 0 (events 3)
unfolding delays-compute in-turn gives_back
three-are-enough = proved (gives_back 0 (plan_of (bytes 3)) 0 (events 3)) tt

-- ---- credited at the grant, for words that run ahead: F = 2, W = 3, one flow with share 1 and the given number of cells

unfoldable at-once : {P : Plan} → Accepted P → (i : ℕ) (h : History) → Dec (CreditedAtOnce P i h)
at-once {P} ok i h =
    everywhere (suc (end P h)) (λ s. implies (dec_lt _ _) (dec_le _ _))
    (λ below s past before.
    let u = end P h in
    let x = below u (omega arith) (omega (arith, frame-order ok u s (omega arith))) in
    let g = same-granted P h i s u (omega arith) (omega arith) in
    let c =
    same-credited P h i (last_of P (frame_of P s + 1)) (last_of P (frame_of P u + 1)) (omega (arith, frame-ends ok s)) (omega (arith, frame-ends ok u)) in
    omega arith)

unfoldable gives-back-at-once : (short : ℕ) {P : Plan} → Accepted P → (i : ℕ) (h : History) → Dec (GivesBackAtOnce short P i h)
gives-back-at-once short {P} ok i h =
    same (λ r. record { asks = r.0; cells_at_once = r.1.0; not_lent = r.1.1.0; no_reset = r.1.1.1 })
    (λ x. (x.asks, (x.cells_at_once, (x.not_lent, x.no_reset))))
    (Dec.and (each (at-request λ w h. implies (is_true (well_formed P w)) (implies (ℕ_discrete (flow_of w) i) (at-once ok i h))) h)
    (Dec.and (dec_lt _ _) (Dec.and (ℕ_discrete _ _) (ℕ_discrete _ _))))

abbrev once_bytes : (cells : ℕ) → List ℕ
once_bytes cells = plan1 2 3 8 1 cells

-- In slot 0 slots 1 and 2 are granted, and each cell is credited at its grant, dated slots 3 and 5; then a third tile is asked for.
abbrev once_calls : List Call
once_calls = Call.request 0x24000000 ∷ Call.credit 0 3 ∷ Call.request 0x24000400 ∷ Call.credit 0 5 ∷ Call.request 0x24000800 ∷ []

-- with three cells there is room
pub once-are-kept : GivesBackAtOnce 0 (plan_of (once_bytes 3)) 0 (run reference (plan_of (once_bytes 3)) once_calls).history
unfolding delays-compute at-once gives-back-at-once
once-are-kept = proved (gives-back-at-once 0 (accepted_plan (once_bytes 3) refl) 0 (run reference (plan_of (once_bytes 3)) once_calls).history) tt

-- The third is granted slot 4, of the newest frame, and its cell is not credited yet. At a fourth request all is as asked; it would not be, were it asked of
-- slots of the newest frame too.
abbrev newest_calls : List Call
newest_calls = Call.request 0x24000000 ∷ Call.credit 0 3 ∷ Call.request 0x24000400 ∷ Call.credit 0 5 ∷ Call.request 0x24000800 ∷ Call.request 0x24000C00 ∷ []

abbrev newest_events : History
newest_events = (run reference (plan_of (once_bytes 3)) newest_calls).history

pub newest-are-held : GivesBackAtOnce 0 (plan_of (once_bytes 3)) 0 newest_events
unfolding delays-compute at-once gives-back-at-once
newest-are-held = proved (gives-back-at-once 0 (accepted_plan (once_bytes 3) refl) 0 newest_events) tt

pub newest-not-credited :
    granted_up_to (plan_of (once_bytes 3)) newest_events 0 4 ≤ credited_up_to (plan_of (once_bytes 3)) newest_events 0 (last_of (plan_of (once_bytes 3)) 3) → ⊥
unfolding delays-compute
newest-not-credited le = omega arith

-- with two both are held in slot 2
pub not-two-at-once : EnoughAtOnceBy 1 reference → ⊥
unfolding delays-compute at-once gives-back-at-once
not-two-at-once enough =
    let h = (run reference (plan_of (once_bytes 2)) once_calls).history in
    let room = enough (once_bytes 2) refl once_calls 0 (lit< tt) (proved (gives-back-at-once 1 (accepted_plan (once_bytes 2) refl) 0 h) tt) in
    omega (arith, room.0 refl refl 2 (lit≤ tt))

-- ---- shares of cells, by how late they are given back

unfoldable pub given_back : (late : ℕ) (P : Plan) → 0 < P.slots → (i : ℕ) (h : History) → Dec (GivenBack late P i h)
given_back late P some_slot i h =
    everywhere (ticks h) (λ s. implies (dec_lt _ _) (dec_le _ _))
    (λ below s past back.
    let later : current_frame P h ≤ frame_of P s = (le-div_iff_mul-le some_slot).1 (omega (arith, div-mul-le_self (ticks h) P.slots)) in
    absurd (omega arith))

unfoldable pub keeps-shares : (late short : ℕ) (P : Plan) → 0 < P.slots → (i : ℕ) (h : History) → Dec (KeepsShares late short P i h)
keeps-shares late short P some_slot i h =
    same (λ r. record { asks = r.0; enough_cells = r.1.0; not_lent = r.1.1.0; no_reset = r.1.1.1 })
    (λ x. (x.asks, (x.enough_cells, (x.not_lent, x.no_reset))))
    (Dec.and
    (each (at-request λ w h. implies (is_true (well_formed P w)) (implies (ℕ_discrete (flow_of w) i)
    (same (λ r. record { come = r.0; number = r.1.0; given_back = r.1.1.0; few = r.1.1.1 }) (λ x. (x.come, (x.number, (x.given_back, x.few))))
    (Dec.and (is_true (has_come P (ticks h) (departure_of w))) (Dec.and (ℕ_discrete (quantum_of w) (expected_number P h i))
    (Dec.and (given_back late P some_slot i h) (dec_lt (made_in P h i (current_frame P h)) (entry P i).share))))))) h)
    (Dec.and (dec_le _ _) (Dec.and (ℕ_discrete _ _) (ℕ_discrete _ _))))

-- ---- two shares, and one cell fewer

-- with two cells each request of the calls above is granted
pub two-are-kept : KeepsShares 0 0 (plan_of (bytes 2)) 0 (events 2)
unfolding delays-compute given_back keeps-shares
two-are-kept = proved (keeps-shares 0 0 (plan_of (bytes 2)) (lit< tt) 0 (events 2)) tt

-- with one cell, which is held from slot 3 on, the tile that is asked for in slot 2 is refused
pub not-fewer : SharesOfCellsBy 0 1 reference → ⊥
unfolding delays-compute given_back keeps-shares
not-fewer two =
    let calls = Call.request 0x24100000 ∷ Call.request 0x24100400 ∷ Call.request 0x24000000 ∷ Call.tick ∷ Call.tick ∷ Call.request 0x24000402 ∷ [] in
    let h = (run reference (plan_of (bytes 1)) calls).history in
    (two (bytes 1) refl calls 0 (lit< tt) (proved (keeps-shares 0 1 (plan_of (bytes 1)) (lit< tt) 0 h) tt)).0 refl refl

-- ---- slots out of order, with two cells fewer: F = 4, W = 2, one flow with share 2 and two cells

-- Slots 1 and 2 are granted, and their cells credited as the tiles come up, both dated slot 6. In slot 4 slot 6 is granted; a credit dated slot 5 frees a
-- cell, and slot 5 is granted.
pub not-in-order : SharesInOrderBy 0 2 reference → ⊥
unfolding delays-compute given_back keeps-shares
not-in-order order =
    let bytes = plan1 4 2 8 2 2 in
    let calls = Call.request 0x24000000 ∷ Call.request 0x24000400 ∷ Call.tick ∷ Call.credit 0 6 ∷ Call.tick ∷ Call.credit 0 6 ∷ Call.tick ∷ Call.tick
    ∷ Call.request 0x24000804 ∷ Call.credit 0 5 ∷ Call.request 0x24000C04 ∷ [] in
    let h = (run reference (plan_of bytes) calls).history in
    omega (arith, (order bytes refl calls 0 (lit< tt) (proved (keeps-shares 0 2 (plan_of bytes) (lit< tt) 0 h) tt)).0 refl 6 (lit< tt))

-- ---- three shares, where a cell is credited when its tile was shown, and one cell fewer: F = 2, W = 2, one flow with share 2 and the given number of cells

abbrev shown : (cells : ℕ) → List ℕ
shown cells = plan1 2 2 8 2 cells

-- Two tiles are asked for in each of the slots 1, 3 and 4, and granted slots 2 to 7.
abbrev six : List Call
six =
    Call.tick ∷ Call.request 0x24000001 ∷ Call.request 0x24000401 ∷ Call.tick ∷ Call.tick ∷ Call.request 0x24000803 ∷ Call.request 0x24000C03 ∷ Call.tick
    ∷ Call.request 0x24001000 ∷ Call.request 0x24001400 ∷ []

-- In slot 5 the cells of slots 2 and 3 are credited, dated slot 6; and in slot 6 two more tiles are asked for, and granted slots 8 and 9.
abbrev eight : List Call
eight = six ++ (Call.tick ∷ Call.credit 0 2 ∷ Call.credit 0 2 ∷ Call.tick ∷ Call.request 0x24001802 ∷ Call.request 0x24001C02 ∷ [])

abbrev shown_events : History
shown_events = (run reference (plan_of (shown 6)) eight).history

pub shown-come-to :
    reverse shown_events
    ≡ ticked none ∷ requested 0x24000001 (accepted 0x24000002) ∷ requested 0x24000401 (accepted 0x24000403) ∷ ticked (some 0) ∷ ticked (some 0)
    ∷ requested 0x24000803 (accepted 0x24000800) ∷ requested 0x24000C03 (accepted 0x24000C01) ∷ ticked (some 0)
    ∷ requested 0x24001000 (accepted 0x24001002) ∷ requested 0x24001400 (accepted 0x24001403) ∷ ticked (some 0)
    ∷ credited 0 2 (accepted tt) ∷ credited 0 2 (accepted tt) ∷ ticked (some 0)
    ∷ requested 0x24001802 (accepted 0x24001800) ∷ requested 0x24001C02 (accepted 0x24001C01) ∷ []
unfolding delays-compute
shown-come-to = refl

-- with six cells each of these is granted
pub three-are-kept : KeepsShares 1 0 (plan_of (shown 6)) 0 shown_events
unfolding delays-compute given_back keeps-shares
three-are-kept = proved (keeps-shares 1 0 (plan_of (shown 6)) (lit< tt) 0 shown_events) tt

-- the cell of each tile is credited in the last slot of the frame after its own
pub credited-when-shown : CreditsEachBy 1 (plan_of (shown 6)) 0 shown_events
unfolding delays-compute returns
credited-when-shown = record {
  credit_of = λ t. (t / 2 + 2) * 2 - 1;
  in_frames = λ t. omega arith;
  each = proved (all-below 6 (λ c. dec_le _ _)) tt;
}

-- with five the second tile that is asked for in slot 4 is refused: the five of slots 2 to 6 are held
pub not-fewer-shown : SharesOfCellsBy 1 1 reference → ⊥
unfolding delays-compute given_back keeps-shares
not-fewer-shown three =
    let h = (run reference (plan_of (shown 5)) six).history in
    (three (shown 5) refl six 0 (lit< tt) (proved (keeps-shares 1 1 (plan_of (shown 5)) (lit< tt) 0 h) tt)).0 refl refl

-- ---- a share more for each frame ahead, and one cell fewer: F = 1, W = 4, one flow with share 1 and the given number of cells, one frame ahead

unfoldable pub keeps-ahead : (ahead late short : ℕ) (P : Plan) → 0 < P.slots → (i : ℕ) (h : History) → Dec (KeepsSharesAhead ahead late short P i h)
keeps-ahead ahead late short P some_slot i h =
    same (λ r. record { asks = r.0; enough_cells = r.1.0; not_lent = r.1.1.0; no_reset = r.1.1.1 })
    (λ x. (x.asks, (x.enough_cells, (x.not_lent, x.no_reset))))
    (Dec.and
    (each (at-request λ w h. implies (is_true (well_formed P w)) (implies (ℕ_discrete (flow_of w) i)
    (same (λ r. record { within = r.0.0; in_time = r.0.1; in_order = r.1.0; number = r.1.1.0; given_back = r.1.1.1.0; few = r.1.1.1.1 })
    (λ x. ((x.within, x.in_time), (x.in_order, (x.number, (x.given_back, x.few)))))
    (Dec.and (Dec.and (dec_le _ _) (dec_lt _ _)) (Dec.and (ordered P i w h) (Dec.and (ℕ_discrete (quantum_of w) (expected_number P h i))
    (Dec.and (given_back late P some_slot i h) (dec_lt (due_in P h i (due_frame P w h)) (entry P i).share)))))))) h)
    (Dec.and (dec_le _ _) (Dec.and (ℕ_discrete _ _) (ℕ_discrete _ _))))

abbrev ahead_bytes : (cells : ℕ) → List ℕ
ahead_bytes cells = plan1 1 4 8 1 cells

-- In slot 0 tiles are asked for that are due in slots 0 and 1, and granted slots 1 and 2; and in slot 1 one that is due in slot 2.
abbrev ahead_calls : List Call
ahead_calls = Call.request 0x24000000 ∷ Call.request 0x24000401 ∷ Call.tick ∷ Call.request 0x24000802 ∷ []

-- with three cells it is granted slot 3
pub ahead-come-to :
    reverse (run reference (plan_of (ahead_bytes 3)) ahead_calls).history
    ≡ requested 0x24000000 (accepted 0x24000001) ∷ requested 0x24000401 (accepted 0x24000402) ∷ ticked (some 0)
    ∷ requested 0x24000802 (accepted 0x24000803) ∷ []
unfolding delays-compute
ahead-come-to = refl

pub ahead-are-kept : KeepsSharesAhead 1 0 0 (plan_of (ahead_bytes 3)) 0 (run reference (plan_of (ahead_bytes 3)) ahead_calls).history
unfolding delays-compute given_back keeps-ahead
ahead-are-kept = proved (keeps-ahead 1 0 0 (plan_of (ahead_bytes 3)) (lit< tt) 0 (run reference (plan_of (ahead_bytes 3)) ahead_calls).history) tt

-- with two it is refused
pub not-fewer-ahead : SharesAheadBy 1 0 1 reference → ⊥
unfolding delays-compute given_back keeps-ahead
not-fewer-ahead shares =
    let h = (run reference (plan_of (ahead_bytes 2)) ahead_calls).history in
    (shares (ahead_bytes 2) refl ahead_calls 0 (lit< tt) (proved (keeps-ahead 1 0 1 (plan_of (ahead_bytes 2)) (lit< tt) 0 h) tt)).0 refl refl
