use Rattle.std.proofs.Common.{◌∙◌, arith}
use Rattle.state.proofs.State.{owners-replaced}
use Rattle.tables.specs.Owners.{nobody}
use Rattle.tables.proofs.Shifting.{filled}
use Rattle.tables.proofs.owners.empty.Goals as goal

pub returns : goal.returns
returns c =
    filled _ _ _ _ nobody (omega arith) (omega (arith, c.told-s)) (c.fill.ensures.after (λ y e. e))
    ∙ owners-replaced _ c.args.a c.args.e (λ k x. nobody) c.requires.1
