-- `link::tick::leave` meets its contract. Assumes nothing.
use borrow.Author.Rules.{rules}
use Rattle.link.proofs.Plans.{count_most}
use Rattle.link.proofs.StateTicks.{whole-carried, frame-left}
use Rattle.link.proofs.tick.leave.Statement.{statement}
use Rattle.link.proofs.tick.leave.Tie as tie

empty-head-requires : tie.Need-empty_head-requires
empty-head-requires c κs = search rules

recycle-head-requires : tie.Need-recycle_head-requires
recycle-head-requires c κs = search rules

carry-head-requires : tie.Need-carry_head-requires
carry-head-requires c κs = let o = c.requires in record { proper = o.proper; few = count_most _ o.valid }

leave-head-requires : tie.Need-leave_head-requires
leave-head-requires c κs =
    let carried = c.before in
    let recycled = carried.before.before in
    let emptied = recycled.before.before in
    let o = emptied.requires in
    (o.valid, whole-carried o emptied.empty_head.ensures recycled.recycle_head.ensures carried.carry_head.ensures, o.frame)

returns : tie.Need-returns
returns c =
    let carried = c.before.before in
    let recycled = carried.before.before in
    let emptied = recycled.before.before in
    frame-left emptied.requires emptied.empty_head.ensures recycled.recycle_head.ensures carried.carry_head.ensures c.leave_head.ensures

pub leave_spec : {M : Type 1} → statement M
leave_spec =
    tie.close
    (tie.spec
    empty-head-requires
    recycle-head-requires
    carry-head-requires
    leave-head-requires
    returns)
