-- The layout of an image as the code has it. Assumes nothing.
use Rattle.std.specs.Prelude.{ℕ, ◌+◌, ◌*◌, ◌≤◌, ◌≡◌, List, ◌∷◌, []}
use Rattle.model.specs.Plan.{Plan}
use Rattle.imagemodel.specs.Image as images
use Rattle.imagecheck.specs.declared.layout.Layout.{Layout}

-- as the header lists it
abbrev pub fields_of : Layout → List ℕ
fields_of y = y.total ∷ y.plan ∷ y.positions ∷ y.size ∷ y.flows ∷ y.count ∷ []

-- y is the layout of a plan's images; the longest image is that of 16 flows and 256 positions
pub record LaidOut (P : Plan) (y : Layout) : Type 0 where
  pub is : fields_of y ≡ images.layout P
  pub fields_are : y.fields ≡ images.flow_fields P
  pub short : y.total ≤ 8894

-- the parts of the flows stand last
pub record Sized (y : Layout) : Type 0 where
  pub ends : y.total ≡ y.flows + 2 * (y.count * y.fields)
  pub short : y.total ≤ 8894
