use Rattle.window.specs.Window.{window_of}
use Rattle.imagecheck.specs.Flows.{frame_kept}
use Rattle.imagecheck.proofs.TestLoops.{Passing}
use Rattle.imagecheck.proofs.flows.frames_kept.Given as goal

-- the frames so far pass
abbrev pub invariant-loop-j : goal.invariant-loop-j
invariant-loop-j l = Passing (frame_kept l.image l.owners (window_of l.w) l.i l.share l.frame) l.w.frames l.j
