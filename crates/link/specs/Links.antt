-- A link of the code, taken apart. Assumes nothing.
use Rattle.link.specs.declared.Link.{Link}
use Rattle.link.specs.Parts.{Parts, parts_in}
use Rattle.link.specs.Sound.{SoundState}

abbrev pub parts_of : Link → Parts
parts_of l = parts_in l.plan l.state

-- every link is sound
abbrev pub SoundLink : Link → Type 0
SoundLink l = SoundState l.plan l.state
