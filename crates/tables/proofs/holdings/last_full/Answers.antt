use Rattle.std.proofs.Common.{◌≡◌, ◌+◌, ◌-◌, arith, lt-ltb, le-ltb}
use Rattle.window.proofs.RangeLoops.{searching-none, searching-more, searching-hit, searching-out}
use Rattle.tables.proofs.holdings.last_full.Goals as goal

pub loop-q-init : goal.loop-q-init
loop-q-init c = searching-none (omega arith)

pub returns-then-cells-s : goal.returns-then-cells-s
returns-then-cells-s c =
    let place : c.loop-q.q - 1 + 1 ≡ c.loop-q.q = omega arith in
    rw place (searching-hit c.loop-q.invariant (le-ltb _ _ c.if-cells-s.true))

pub loop-q-preserved : goal.loop-q-preserved
loop-q-preserved c = searching-more c.loop-q.invariant c.loop-q-test.true (lt-ltb _ _ c.if-cells-s.false)

pub returns : goal.returns
returns c =
    let first : c.loop-q.q ≡ c.args.a = omega (arith, c.loop-q.invariant.from) in
    rw first at (searching-out c.loop-q.invariant c.loop-q-test.false)
