use Rattle.std.proofs.Common.{refl}
use Rattle.program.specs.Stage.{ended, stage_fed, written_fed}
use Rattle.program.proofs.Leaving.{leaves-silent, fed-piece}
use Rattle.program.proofs.feed.Goals as goal

-- nothing more is read, and nothing is written
pub returns-in-Ended : goal.returns-in-Ended
unfolding stage_fed written_fed
returns-in-Ended c =
    rw c.in-Ended.is (fed-piece ended c.args.piece.now c.min-used.ensures (leaves-silent refl refl (record { stage_is = refl; regular = tt })))
