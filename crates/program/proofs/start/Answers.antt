use Rattle.std.proofs.Common.{ap}
use Rattle.program.specs.Stage.{reading, plan_open}
use Rattle.program.proofs.KeptBytes.{bytes_back, kept-itself}
use Rattle.program.proofs.start.Goals as goal

pub returns : goal.returns
unfolding plan_open
returns c =
    let none = c.none.ensures in
    record { stage_is = ap reading (bytes_back none); regular = record { kept_well = kept-itself none; still_open = ap plan_open (bytes_back none) } }
