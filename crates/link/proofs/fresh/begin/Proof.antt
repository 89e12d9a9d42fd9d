-- `link::fresh::begin` meets its contract. Assumes nothing.
use native.Mathlib.Omega.{arith}
use Rattle.link.proofs.StartedFlows.{measures-start}
use Rattle.link.proofs.StateFresh.{whole-owners, whole-masks, whole-spare, fresh-read, fresh-sound}
use borrow.Author.Rules.{rules}
use Rattle.link.proofs.fresh.begin.Statement.{statement}
use Rattle.link.proofs.fresh.begin.Tie as tie

-- ---- the places of its code

abbrev held_of : tie.After-disown → tie.After-hold_nothing
held_of c = c.before.before

abbrev disowned : tie.After-every_slot → tie.After-disown
disowned c = c.before.before

abbrev masked : tie.After-no_flows → tie.After-put_masks
masked c = c.before.before

-- ---- the needs

hold-nothing-requires : tie.Need-hold_nothing-requires
hold-nothing-requires c κs = search rules

disown-requires : tie.Need-disown-requires
disown-requires c κs = search rules

every-slot-requires : tie.Need-every_slot-requires
every-slot-requires c κs = measures-start _ c.requires.0

put-masks-requires : tie.Need-put_masks-requires
put-masks-requires c κs = (whole-owners c.requires.0 c.args.s.now c.requires.1 c.hold_nothing.ensures c.disown.ensures, c.every_slot.ensures.long)

no-flows-requires : tie.Need-no_flows-requires
no-flows-requires c κs = whole-masks c.requires.0 c.args.s.now c.requires.1 c.hold_nothing.ensures c.disown.ensures c.every_slot.ensures c.put_masks.ensures

start-flows-requires : tie.Need-start_flows-requires
start-flows-requires c κs = (
  c.requires.0,
  whole-spare c.requires.0 c.args.s.now c.requires.1 c.hold_nothing.ensures c.disown.ensures c.every_slot.ensures c.put_masks.ensures c.no_flows.ensures,
  omega arith,
)

element-write-s : tie.Need-bounds-s-4496
element-write-s c = search rules

element-write-s-2 : tie.Need-bounds-s-4497
element-write-s-2 c = search rules

element-write-s-3 : tie.Need-bounds-s-4498
element-write-s-3 c = search rules

returns : tie.Need-returns
returns c = (
  fresh-read c.requires.0 c.args.s.now c.requires.1 c.hold_nothing.ensures c.disown.ensures c.every_slot.ensures c.put_masks.ensures c.no_flows.ensures c.start_flows.ensures,
  fresh-sound c.requires.0 c.args.s.now c.requires.1 c.hold_nothing.ensures c.disown.ensures c.every_slot.ensures c.put_masks.ensures c.no_flows.ensures c.start_flows.ensures,
)

pub begin_spec : {M : Type 1} → statement M
begin_spec =
    tie.close
    (tie.spec
    hold-nothing-requires
    disown-requires
    every-slot-requires
    put-masks-requires
    no-flows-requires
    start-flows-requires
    element-write-s
    element-write-s-2
    element-write-s-3
    returns)
