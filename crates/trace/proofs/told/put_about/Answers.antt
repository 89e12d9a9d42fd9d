use Rattle.std.proofs.Common.{sym, ap, ◌∙◌, arith}
use mathlib.Core.List.{flat_map}
use Rattle.replies.specs.Lines.{spaced}
use Rattle.link.proofs.Readings.{flows_most}
use Rattle.trace.proofs.Numbers.{flat_append, lines-as, lines_then}
use Rattle.trace.proofs.LinkTold.{about-short, about-long}
use Rattle.trace.proofs.told.put_about.Goals as goal

pub returns-then-plan-line : goal.returns-then-plan-line
returns-then-plan-line c =
    lines-as
    (ap (flat_map spaced) (about-short c.requires.0 c.byte_at.ensures c.byte_at-2.ensures c.args.line.position c.if-plan-line.true))
    (omega arith) c.put_numbers-next.ensures

pub part_of-part-requires : goal.part_of-part-requires
part_of-part-requires c = (record { plan = c.args.plan; given = c.requires.0 }, omega (arith, flows_most _ c.requires.0.sound.parts), c.requires.1)

pub returns : goal.returns
returns c =
    let o = c.requires.0 in
    let told = about-long o c.byte_at.ensures c.byte_at-2.ensures c.args.line.position (omega arith) (c.part_of-part.ensures _ o) in
    lines-as (sym (flat_append spaced _ _) ∙ ap (flat_map spaced) told) (omega arith) (lines_then c.put_numbers-next.ensures c.put_numbers.ensures)
