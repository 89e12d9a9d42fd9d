-- `planwords::plans::room` meets its contract. Assumes nothing.
use borrow.Author.Rules.{rules}
use Rattle.replies.proofs.PutOn.{says_same}
use Rattle.planwords.proofs.FileLines.{size-missing, size-given}
use Rattle.planwords.proofs.plans.room.Statement.{statement}
use Rattle.planwords.proofs.plans.room.Tie as tie

say-requires : tie.Need-say-requires
say-requires c κs = search rules

same_length : tie.Need-shape_of-out-then-numbers-eq0
same_length c = search rules

returns : tie.Need-returns-then-numbers-eq0
returns c =
    let said = c.before.before in
    says_same (size-missing _ said.before.before.before.before.if-numbers-eq0.true) said.say.ensures

shared-slice-read-in-room : tie.Need-bounds-numbers-0
shared-slice-read-in-room c = search rules

sub-in-room : tie.Need-slice_bounds-in_room-count
sub-in-room c = search rules

part-in-room-start : tie.Need-slice_bounds-in_room-start
part-in-room-start c = search rules

part-in-room-end : tie.Need-slice_bounds-in_room-end
part-in-room-end c = search rules

in-room-requires : tie.Need-in_room-requires
in-room-requires c κs = search rules

same-length-2 : tie.Need-shape_of-out
same-length-2 c = search rules

returns-2 : tie.Need-returns
returns-2 c =
    let said = c.before.before in
    says_same (size-given _ said.before.before.before.before.if-numbers-eq0.false) said.in_room.ensures

pub room_spec : {M : Type 1} → statement M
room_spec =
    tie.close
    (tie.spec
    say-requires
    same_length
    returns
    shared-slice-read-in-room
    sub-in-room
    part-in-room-start
    part-in-room-end
    in-room-requires
    same-length-2
    returns-2)
