-- Each of the bad sendings is told by the statement that should. Assumes nothing.
use mathlib.Core.Path.{◌≡◌, refl}
use mathlib.Core.List.{List, ◌∷◌, []}
use native.Mathlib.Omega.{arith}
use lib.Dec.{lit<}
use Rattle.model.specs.Plan.{plan_of}
use Rattle.model.specs.Calls.{Call, History}
use Rattle.model.specs.Scheduler.{run, reference}
use Rattle.arrival.specs.Delay.{due_slot}
use Rattle.ahead.specs.Sendings.{Sending, nothing, event, leaves_in, HasTile, EachReady, EachCome, SentWell, KeepsOrder, LeaveInOrder}
use Rattle.ahead.specs.WrongSendings.{P, thin, not_lent, not_credited, of_nothing, sends_nothing, twice, sends_twice, out_of_order, sends_out_of_order, not_come, sends_not_come}
use Rattle.ahead.specs.WrongSendings.{comes_now, sends_as_it_comes, other_credited, sends_two_in_one}
use Rattle.model.proofs.Unfoldings.{calls-compute, counts-compute}

-- ---- they are runs of the reference scheduler

abbrev answered : List Call → History
answered calls =
    (run reference P
    (Call.request 0x24000000 ∷ Call.request 0x24000400 ∷ Call.credit 0 3 ∷ Call.request 0x24000800 ∷ Call.credit 0 4 ∷ Call.request 0x24000C00 ∷ Call.credit 0 5
    ∷ Call.tick ∷ Call.tick ∷ Call.tick ∷ calls)).history

pub not-lent-runs : answered (Call.credit 0 5 ∷ []) ≡ not_lent
unfolding calls-compute
not-lent-runs = refl

pub not-credited-runs : answered (Call.lend 1 ∷ []) ≡ not_credited
unfolding calls-compute
not-credited-runs = refl

pub of-nothing-runs : answered (Call.lend 1 ∷ Call.credit 0 6 ∷ []) ≡ of_nothing
unfolding calls-compute
of-nothing-runs = refl

pub out-of-order-runs : answered (Call.lend 1 ∷ Call.credit 0 5 ∷ []) ≡ out_of_order
unfolding calls-compute
out-of-order-runs = refl

pub not-come-runs : (run reference P (Call.request 0x24000002 ∷ Call.lend 1 ∷ Call.credit 0 3 ∷ [])).history ≡ not_come
unfolding calls-compute
not-come-runs = refl

pub comes-now-runs : (run reference P (Call.tick ∷ Call.request 0x24000001 ∷ Call.lend 1 ∷ Call.credit 0 2 ∷ [])).history ≡ comes_now
unfolding calls-compute
comes-now-runs = refl

pub twice-runs :
    (run reference (plan_of thin)
    (Call.request 0x24000000 ∷ Call.request 0x24000400 ∷ Call.request 0x24000800 ∷ Call.tick ∷ Call.tick ∷ Call.tick ∷ Call.tick ∷ Call.lend 1 ∷ Call.credit 0 6
    ∷ Call.tick ∷ Call.lend 1 ∷ Call.credit 0 6 ∷ [])).history
    ≡ twice
unfolding calls-compute
twice-runs = refl

pub other-credited-runs : answered (Call.request 0x24100003 ∷ Call.lend 1 ∷ Call.credit 1 6 ∷ []) ≡ other_credited
unfolding calls-compute
other-credited-runs = refl

-- ---- what is no sending ahead: the tile of slot 5 leaves in slot 5

pub credited-only : (x : Sending not_lent) → HasTile P x 0 5 3 → ⊥
unfolding counts-compute due_slot
credited-only (event _ (event _ (event _ (event _ (event _ (event _ (event _ (event _ (event _ (event _ (event _ nothing))))))))))) has = omega arith

pub lent-only : (x : Sending not_credited) → HasTile P x 0 5 3 → ⊥
unfolding counts-compute due_slot
lent-only (event _ (event _ (event _ (event _ (event _ (event _ (event _ (event _ (event _ (event _ (event _ nothing))))))))))) has = omega arith

-- and flow 1's tile in slot 6
pub other-credited : (x : Sending other_credited) → HasTile P x 1 6 3 → ⊥
unfolding counts-compute due_slot
other-credited (event _ (event _ (event _ (event _ (event _ (event _ (event _ (event _ (event _ (event _ (event _ (event _ (event _ nothing))))))))))))) has =
    omega arith

-- ---- no tile is ready

pub sends-nothing : EachReady P sends_nothing → ⊥
unfolding counts-compute due_slot
sends-nothing x = omega (arith, x.0)

pub sends-twice : EachReady (plan_of thin) sends_twice → ⊥
unfolding counts-compute leaves_in due_slot
sends-twice x = omega (arith, x.0)

pub sends-not-come : EachReady P sends_not_come → ⊥
unfolding counts-compute due_slot
sends-not-come x = omega (arith, x.0)

-- it leaves before it has come, and that is told by itself
pub leaves-too-early : SentWell P sends_not_come → ⊥
unfolding counts-compute leaves_in due_slot
leaves-too-early x = omega (arith, x.never_early)

-- one that comes up on the link before in this very slot has come in it, and so its booking stays; but it leaves both links in one slot
pub comes-in-it : EachCome P sends_as_it_comes
unfolding counts-compute due_slot
comes-in-it = (lit< tt, tt)

pub sends-as-it-comes : EachReady P sends_as_it_comes → ⊥
unfolding counts-compute due_slot
sends-as-it-comes x = omega (arith, x.0)

pub leaves-as-it-comes : SentWell P sends_as_it_comes → ⊥
unfolding counts-compute leaves_in due_slot
leaves-as-it-comes x = omega (arith, x.never_early)

-- ---- two in one slot, each of which was ready

pub both-ready : EachReady P sends_two_in_one
unfolding counts-compute leaves_in due_slot
both-ready = (lit< tt, (lit< tt, tt))

pub sends-two-in-one : SentWell P sends_two_in_one → ⊥
unfolding counts-compute leaves_in due_slot
sends-two-in-one x = omega (arith, x.in_time.one_to_a_slot 3)

-- ---- out of order

pub leaves-out-of-order : LeaveInOrder P sends_out_of_order 0 → ⊥
unfolding counts-compute leaves_in due_slot
leaves-out-of-order x = let z = x 4 4 5 3 (lit< tt) (lit< tt) (lit< tt) in omega arith

pub keeps-no-order : KeepsOrder P sends_out_of_order 0 → ⊥
unfolding counts-compute leaves_in due_slot
keeps-no-order x = let z = x.0 refl 4 4 (lit< tt) (lit< tt) in omega arith
