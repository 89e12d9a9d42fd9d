use Rattle.std.proofs.Common.{arith, sym, ◌∙◌}
use Rattle.imagecheck.proofs.TestLoops.{passing-miss, passing-all}
use Rattle.imagecheck.proofs.flows.frames_kept.Goals as goal

pub returns-then-not-frame_kept : goal.returns-then-not-frame_kept
returns-then-not-frame_kept c = passing-miss c.loop-j.invariant c.loop-j-test.true (sym c.frame_kept.ensures ∙ c.if-not-frame_kept.true)

pub returns : goal.returns
returns c = passing-all c.loop-j.invariant (omega arith)
