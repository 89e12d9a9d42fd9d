use Rattle.std.proofs.Common.{ℕ, ◌<◌, List}
use Rattle.window.specs.declared.Window.{Window}
use Rattle.window.specs.Window.{window_of, ranks_from}
use Rattle.state.specs.State.{owners_of}
use Rattle.tables.specs.Search.{valid_at}
use Rattle.tables.proofs.FrameWalk.{more_frames, Walked}
use Rattle.tables.proofs.search.search.Given as goal

-- what is left from a frame on comes to the whole search
pub record AtFrame (w : Window) (s : List ℕ) (low share first remainder frame left : ℕ) : Type 0 where
  pub there : frame < w.frames
  pub walked : Walked (window_of w) (valid_at (owners_of s) (ranks_from w low)) share first remainder frame left

abbrev pub invariant-search : goal.invariant-search
invariant-search l = AtFrame l.w l.s l.low l.share l.first l.remainder l.frame l.left

abbrev pub decreases-search : goal.decreases-search
decreases-search l = more_frames (window_of l.w) l.frame
