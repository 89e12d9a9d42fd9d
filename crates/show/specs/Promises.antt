-- What the contract of `write` says, for a link and a lent buffer. Assumes nothing.
use Rattle.std.specs.Prelude.{Result, ℕ, ◌≡◌, List}
use Rattle.limits.specs.declared.refusal.Refusal.{Refusal}
use Rattle.plan.specs.Writing.{answer_of}
use Rattle.model.specs.WrittenPlan.{written}
use Rattle.mesh.specs.Mesh.{Link}
use Rattle.show.specs.Show.{Show, link_plan}

-- RULES 25.2 and 15.2: the link's plan is written to the buffer, or refused and the buffer as it came
pub record Wrote (show : Show) (l : Link) (before : List ℕ) (r : Result ℕ Refusal) (after : List ℕ) : Type 0 where
  pub answered : answer_of r ≡ (written (link_plan show l) before).answer
  pub left : after ≡ (written (link_plan show l) before).out
