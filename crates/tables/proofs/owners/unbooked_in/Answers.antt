use Rattle.std.proofs.Common.{◌+◌, arith, refl, eq-eqb, ne_eqb}
use Rattle.window.proofs.Ranges.{mid-at}
use Rattle.window.proofs.RangeLoops.{testing-none, testing-miss, testing-pass, testing-done, all-inner}
use Rattle.state.proofs.State.{owners-at}
use Rattle.state.proofs.PartRanges.{all-in-part}
use Rattle.tables.specs.Owners.{unbooked_at}
use Rattle.tables.proofs.owners.unbooked_in.Goals as goal
use Rattle.tables.proofs.owners.unbooked_in.Goals.{then-owner-ne-NOBODY, else-owner-ne-NOBODY}

pub loop-owner-init : goal.loop-owner-init
loop-owner-init c = testing-none (omega arith)

pub loop-owner-preserved : goal.loop-owner-preserved
loop-owner-preserved c =
    elim c.if-owner-ne-NOBODY.branch [
      | then-owner-ne-NOBODY booked ↦ testing-miss c.loop-owner.invariant c.loop-owner-test.true (rw (ne_eqb _ _ booked.if-owner-ne-NOBODY.true)) booked.all-is
      | else-owner-ne-NOBODY free ↦ testing-pass c.loop-owner.invariant c.loop-owner-test.true (rw (eq-eqb _ _ free.if-owner-ne-NOBODY.false)) free.all-is
    ]

pub returns : goal.returns
returns c =
    let s = c.args in
    let h = s.s.now in
    all-in-part (unbooked_at h) _ 4096 s.a s.e (λ q b. rw (owners-at h q (omega arith))) refl refl
    (all-inner (4096 + s.a) (4096 + s.e) h (omega arith) (omega (arith, c.told-s)) (λ k b. rw (mid-at (4096 + s.a) (4096 + s.e) h k 0 b))
    (testing-done c.loop-owner.invariant c.loop-owner-test.false))
