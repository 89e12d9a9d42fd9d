-- Every edge of images comes out as it stands in its table. Assumes nothing.
use mathlib.Core.Path.{refl}
use Rattle.model.proofs.Unfoldings.{plans-compute, calls-compute, writer-computes}
use Rattle.imagemodel.specs.Image.{fields, image_of, link_in}
use Rattle.imagemodel.specs.Consistent.{bookings_in, frame_after, flow_test, consistent}
use Rattle.imagemodel.specs.ValidImage.{listed, refusal_of}
use Rattle.imagemodel.specs.Exports.{handed_back, fresh_on, called_on}
use Rattle.imagemodel.specs.ImageCases.{Pass}
use Rattle.imagemodel.specs.ImageEdges.{image_edges}

-- what computes a call on an image
unfoldable images-compute : Unit {0}
unfolding plans-compute calls-compute writer-computes fields image_of link_in bookings_in frame_after flow_test consistent listed refusal_of
images-compute = tt

pub image-edges-hold : Pass image_edges
unfolding image_edges images-compute handed_back fresh_on called_on
image-edges-hold = refl
