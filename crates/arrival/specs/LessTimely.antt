-- What is asked of a request in order to be served soon, with one part of it left out: for short lists of calls that show what each part is for. Assumes
-- nothing.
use Rattle.std.specs.Prelude.{◌<◌}
use Rattle.model.specs.OtherPremises.{Premise, Both, Come, Numbered}
use Rattle.model.specs.LessAsked.{HasRoom}
use Rattle.arrival.specs.Delay.{newest_frame, due_frame, DueInOrder}

-- the tile is due before the newest frame, and in no earlier frame than those of the grants before it
abbrev pub DueInTime : Premise
DueInTime P i w h = due_frame P w h < newest_frame P h

abbrev pub Ordered : Premise
Ordered P i w h = DueInOrder P i w h

-- nothing left out
abbrev pub AllTimely : Premise
AllTimely = Both HasRoom (Both Numbered (Both DueInTime Ordered))

-- RULES 22.11: without room, where even every tile has come; without the number; without a tile that is due in time; and without order.
abbrev pub TimelyButRoom : Premise
TimelyButRoom = Both Come (Both Numbered (Both DueInTime Ordered))

abbrev pub TimelyButNumber : Premise
TimelyButNumber = Both HasRoom (Both DueInTime Ordered)

abbrev pub TimelyButTime : Premise
TimelyButTime = Both HasRoom (Both Numbered Ordered)

abbrev pub TimelyButOrder : Premise
TimelyButOrder = Both HasRoom (Both Numbered DueInTime)
