use Rattle.std.proofs.Common.{ℕ, ◌≡◌, refl}
use Rattle.calls.proofs.Stores.{puts-same}
use Rattle.imagemodel.specs.Image.{fields}
use Rattle.imagemodel.specs.Play.{four_fields, eight}
use Rattle.nazgolv.proofs.played.put_number.Goals as goal

is-eight : (x : ℕ) → fields (four_fields x) ≡ eight x
unfolding eight
is-eight x = refl

pub returns : goal.returns
returns c = puts-same (is-eight c.args.x) c.put_all.ensures
