-- What reading and writing ask of their arguments. Assumes nothing.
use Rattle.std.specs.Prelude.{ℕ, ◌+◌, ◌*◌, ◌≤◌, ◌<◌, ◌≡◌, List, length}
use Rattle.plan.specs.declared.Plan.{Plan}
use Rattle.plan.specs.Reading.{Valid}
use Rattle.link.specs.Parts.{FitsBytes}
use Rattle.link.specs.Sound.{SoundState}
use Rattle.link.specs.Steps.{read_in}
use Rattle.imagemodel.specs.Image.{field_at, header_length, image_length}
use Rattle.imagemodel.specs.Consistent.{Keepable}
use Rattle.imagecheck.specs.declared.layout.Layout.{Layout}
use Rattle.imagecheck.specs.Layout.{Sized}
use Rattle.imagecodec.specs.Reading.{part_at, flow_from}

-- ---- reading

-- the parts of at most sixteen flows are there, and each flow fits its bytes
pub record FlowsOn (b : List ℕ) (y : Layout) : Type 0 where
  pub sized : Sized y
  pub few : y.count ≤ 16
  pub fields_are : y.fields ≡ 3 + y.size
  pub there : y.total ≤ length b
  pub fits : (i : ℕ) → i < y.count → FitsBytes (flow_from b y.size (part_at y i))

-- and each holding is a byte
pub record HoldingsOn (b : List ℕ) (y : Layout) : Type 0 where
  pub on : FlowsOn b y
  pub size_most : y.size ≤ 256
  pub bytes : (i p : ℕ) → i < y.count → p < y.size → field_at b (part_at y i + 4) p < 256

-- ---- writing

-- CP, the mark and the flow to look from fit their fields, and there is room for the header
pub record HeaderFits (p : Plan) (current mark turn : ℕ) (b : List ℕ) : Type 0 where
  pub plan : Valid p
  pub current_fits : current < 65536
  pub mark_fits : mark < 65536
  pub turn_fits : turn < 65536
  pub there : header_length ≤ length b

-- there is room at a place for the part of flow i with T positions
pub record PartFits (i T : ℕ) (b : List ℕ) (at : ℕ) : Type 0 where
  pub flow : i < 16
  pub size_most : T ≤ 256
  pub there : at + 2 * (3 + T) ≤ length b

-- and for those of n flows
pub record PartsFit (n T : ℕ) (b : List ℕ) (at : ℕ) : Type 0 where
  pub few : n ≤ 16
  pub size_most : T ≤ 256
  pub there : at + 2 * (n * (3 + T)) ≤ length b

-- a plan and a state of a link of which there can be an image, and room for it
pub record Writable (p : Plan) (s b : List ℕ) : Type 0 where
  pub sound : SoundState p s
  pub keepable : Keepable (read_in p s)
  pub there : image_length (read_in p s).plan ≤ length b
