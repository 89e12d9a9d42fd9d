use mathlib.Core.List.{flat_map}
use Rattle.calls.proofs.Stores.{puts-two}
use Rattle.imagemodel.specs.Image.{fields}
use Rattle.fields.proofs.put.Goals as goal

pub returns : goal.returns
unfolding fields flat_map
returns c = puts-two _ _ _ _
