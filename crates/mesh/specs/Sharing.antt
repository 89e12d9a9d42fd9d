-- Streams of one link (RULES 16.3) as the flows of a plan (RULES 2.3). Assumes nothing.
use Rattle.std.specs.Prelude.{ℕ, ◌<◌, ◌≡◌, List, true, length}
use Rattle.model.specs.Plan as plan
use Rattle.mesh.specs.Mesh.{Link}
use Rattle.mesh.specs.Streams.{Stream, stream, uses}

-- Some streams of a set, no one twice, that all use a link, as the flows of a plan with frames of F slots: flow j has the share of stream `chosen j`. A plan has at most 16 flows; nothing here needs that.
pub record Carried (F : ℕ) (streams : List Stream) (l : Link) (P : plan.Plan) : Type 0 where
  pub slots_are : P.slots ≡ F
  pub chosen : ℕ → ℕ
  pub streams_are : (j : ℕ) → j < plan.flow_count P → chosen j < length streams
  pub once : (i j : ℕ) → i < plan.flow_count P → j < plan.flow_count P → chosen i ≡ chosen j → i ≡ j
  pub on_link : (j : ℕ) → j < plan.flow_count P → uses (stream streams (chosen j)) l ≡ true
  pub shares_are : (j : ℕ) → j < plan.flow_count P → (plan.entry P j).share ≡ (stream streams (chosen j)).share
