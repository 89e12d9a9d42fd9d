-- `link::reset::reset_tables` meets its contract. Assumes nothing.
use Rattle.link.proofs.StartedFlows.{measures-start}
use Rattle.link.proofs.StateLends.{whole-disowned, whole-masked, reset-tables-by}
use borrow.Author.Rules.{rules}
use Rattle.link.proofs.reset.reset_tables.Statement.{statement}
use Rattle.link.proofs.reset.reset_tables.Tie as tie

disown-requires : tie.Need-disown-requires
disown-requires c κs = search rules

every-slot-requires : tie.Need-every_slot-requires
every-slot-requires c κs = measures-start _ c.requires.0

put-masks-requires : tie.Need-put_masks-requires
put-masks-requires c κs =
    let d = c.before.before in
    let s = d.before.before in
    (whole-disowned s.args.plan s.args.frame _ s.requires.1 d.disown.ensures, c.every_slot.ensures.long)

start-flows-requires : tie.Need-start_flows-requires
start-flows-requires c κs =
    let m = c.before in
    let d = m.before.before.before in
    let s = d.before.before in
    (s.requires.0, whole-masked s.args.plan s.args.frame _ s.requires.1 d.disown.ensures m.put_masks.ensures, s.requires.2)

returns : tie.Need-returns
returns c =
    let m = c.before.before in
    let d = m.before.before.before in
    let s = d.before.before in
    reset-tables-by s.args.plan s.args.frame _ s.requires.1 d.disown.ensures m.put_masks.ensures m.before.every_slot.ensures c.start_flows.ensures

pub reset_tables_spec : {M : Type 1} → statement M
reset_tables_spec =
    tie.close
    (tie.spec disown-requires every-slot-requires put-masks-requires start-flows-requires returns)
