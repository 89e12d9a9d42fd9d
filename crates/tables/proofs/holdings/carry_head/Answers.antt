use Rattle.std.proofs.Common.{◌<◌, mod-lt, arith}
use Rattle.window.specs.Window.{size_of}
use Rattle.tables.proofs.holdings.carry_head.Goals as goal

pub carry-requires : goal.carry-requires
carry-requires c =
    let v = c.requires.proper in
    let last : c.before-last.result < size_of c.args.w = rw c.before-last.ensures (mod-lt _ (omega (arith, v.measures.current_below))) in
    (c.requires.few, omega (arith, v.measures.positions_most), omega arith, omega (arith, v.base_fits, v.measures.positions_most))

pub returns : goal.returns
returns c = rw (c.carry.ensures, c.before-last.ensures)
