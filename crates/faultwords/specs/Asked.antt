-- What the parts of `faults` ask for. Assumes nothing.
use Rattle.std.specs.Prelude.{ℕ, ◌≤◌, ◌≡◌, List, false}
use Rattle.planwords.specs.Plans.{flows_asked}
use Rattle.planwords.specs.Drafts.{WholeFlows}
use Rattle.faultwords.specs.FaultsWord.{some_long}

-- F, W and N and four numbers for each flow, all of at most nine digits
pub record ShortNumbers (numbers : List ℕ) : Type 0 where
  pub whole : WholeFlows numbers
  pub short : some_long numbers ≡ false

-- so many of the flows that are asked about, at most 16
pub record FlowsOf (numbers : List ℕ) (flows : ℕ) : Type 0 where
  pub asked : flows ≤ flows_asked numbers
  pub few : flows ≤ 16
