use Rattle.std.proofs.Common.{refl, arith}
use borrow.Author.Tests.{lt-ltb, le-ltb}
use Rattle.linetable.specs.Lines.{line_at}
use Rattle.linetable.proofs.line_at.Goals as goal

pub returns-then-k-lt-TICKS : goal.returns-then-k-lt-TICKS
unfolding line_at
returns-then-k-lt-TICKS c = rw (lt-ltb _ 256 c.if-k-lt-TICKS.true) c.number_line.ensures

pub returns-then-k-lt-IDLE : goal.returns-then-k-lt-IDLE
unfolding line_at
returns-then-k-lt-IDLE c = rw (le-ltb _ 256 c.if-k-lt-TICKS.false, lt-ltb _ 272 c.if-k-lt-IDLE.true) c.number_line-then-k-lt-IDLE.ensures

pub returns : goal.returns
unfolding line_at
returns c =
    rw (le-ltb _ 256 c.if-k-lt-TICKS.false, le-ltb _ 272 c.if-k-lt-IDLE.false)
    (record { first_four = c.pack-chunk.ensures; last_four = c.pack-chunk.ensures; long = refl; short = omega arith })
