-- What a round leaves: the state with which the program goes on, or ends, is regular. Assumes nothing.
use Rattle.std.specs.Prelude.{⊤}
use Rattle.program.specs.State.{Regular}
use Rattle.domelink.specs.declared.Round.{Round}
use Rattle.domelink.specs.declared.Round.TheVariants.{More, Over, Stopped}

abbrev pub LeftRegular : Round → Type 0
LeftRegular (More state) = Regular state
LeftRegular (Over state) = Regular state
LeftRegular Stopped = ⊤
