-- What is said of a show without a refusal, and of its plans. RULES 25.4. Assumes nothing.
use Rattle.std.specs.Prelude.{ℕ, suc, ◌≤◌, ◌<◌, ◌≡◌, List, ◌∷◌, [], ◌++◌, true, length, drop}
use Rattle.model.specs.Plan as plan
use Rattle.model.specs.Calls.{accepted}
use Rattle.model.specs.WrittenPlan as writer
use Rattle.model.specs.WrittenPlan.{bytes_of}
use Rattle.mesh.specs.Mesh.{Link, in_mesh}
use Rattle.mesh.specs.Admission.{Admitted}
use Rattle.mesh.specs.Way.{In, way}
use Rattle.show.specs.Show.{Show, show_stream, streams_in, uses_link, entry_on, link_plan, flow_on, used}

-- ---- one link

-- A link's plan is accepted by the reader and read as that plan, and a buffer of 76 bytes has room for it. RULES 15.3.
pub record GoodPlan (P : plan.Plan) : Type 0 where
  pub accepted_by_reader : plan.refusal (bytes_of P) ≡ 0
  pub read_back : plan.plan_of (bytes_of P) ≡ P
  pub small : length (bytes_of P) ≤ 76
  pub written_whole : (out : List ℕ) → length (bytes_of P) ≤ length out
      → writer.written P out ≡ record { answer = accepted (length (bytes_of P)); out = bytes_of P ++ drop (length (bytes_of P)) out }

-- Flow j of a link is stream i: it has the stream's share, ends and cells there, and j streams before it use the link. RULES 25.2.
pub record FlowOf (show : Show) (l : Link) (i j : ℕ) : Type 0 where
  pub stream_below : i < length show.streams
  pub uses_link : uses_link l (show_stream show i) ≡ true
  pub flow_below : j < plan.flow_count (link_plan show l)
  pub entry_is : plan.entry (link_plan show l) j ≡ entry_on l (show_stream show i)
  pub place_is : flow_on show l i ≡ j

-- The flows of a link are the streams that use it, in the order of the set: `in_order`, in proofs/Claim.antt. RULES 25.2.
pub record InOrder (show : Show) (l : Link) : Type 0 where
  pub each_stream : (i : ℕ) → i < length show.streams → uses_link l (show_stream show i) ≡ true → FlowOf show l i (flow_on show l i)
  pub stream_of : ℕ → ℕ
  pub each_flow : (j : ℕ) → j < plan.flow_count (link_plan show l) → FlowOf show l (stream_of j) j
  pub in_order : (i j : ℕ) → i < j → uses_link l (show_stream show i) ≡ true → i < length show.streams → flow_on show l i < flow_on show l j

-- ---- the whole show

-- RULES 25.4: the streams are admitted over the mesh, and every link that is used has a plan that the reader accepts: so it is where there is no refusal
-- (`planned`), and only there (`no-refusal`).
pub record Planned (show : Show) : Type 0 where
  pub admits : Admitted show.slots (streams_in show)
  pub each_link : (l : Link) → used show l ≡ true → GoodPlan (link_plan show l)

-- A stream on link p of its way: the link is one of the mesh, it has a good plan, and the stream is a flow of it, with its usual cells before the last link,
-- and with its last cells there.
pub record Flows (show : Show) (i p : ℕ) (l : Link) : Type 0 where
  pub in_mesh : in_mesh l ≡ true
  pub good : GoodPlan (link_plan show l)
  pub flow : FlowOf show l i (flow_on show l i)
  pub before_last : suc p < length (way (show_stream show i).stream) → (plan.entry (link_plan show l) (flow_on show l i)).cells ≡ (show_stream show i).cells
  pub at_last : suc p ≡ length (way (show_stream show i).stream) → (plan.entry (link_plan show l) (flow_on show l i)).cells ≡ (show_stream show i).last_cells

-- Every stream is a flow of every link of its way: `all_the_way`, where there is no refusal.
pub record AllTheWay (show : Show) : Type 0 where
  pub flows : (i : ℕ) → i < length show.streams → (l : Link) → (on : In l (way (show_stream show i).stream)) → Flows show i on.place l

-- ---- the numbers

-- 0, and the refusals that a show can have: 6 is none of them, since the mesh has tested the shares (`known-number`)
abbrev pub show_numbers : List ℕ
show_numbers = 0 ∷ 2 ∷ 3 ∷ 4 ∷ 5 ∷ 7 ∷ 25 ∷ []
