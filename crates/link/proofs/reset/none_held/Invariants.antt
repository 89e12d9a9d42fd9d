use Rattle.std.proofs.Common.{◌≡◌, true}
use Rattle.window.specs.Window.{window_of}
use Rattle.link.specs.Reset.{none_held_in}
use Rattle.link.proofs.reset.none_held.Given as goal

-- the flows before i hold nothing
abbrev pub invariant-loop-i : goal.invariant-loop-i
invariant-loop-i l = none_held_in (window_of l.w) l.i l.s ≡ true
