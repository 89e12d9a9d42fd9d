use Rattle.std.proofs.Common.{ap, ◌∙◌, arith, length}
use Rattle.link.proofs.Resumed.{whole-empty}
use Rattle.imagecheck.proofs.Refusals.{plan_is, plan-there}
use Rattle.imagecodec.proofs.ReadLinks.{owners-on, flows-on, holdings-on, measures_read, mark-most, turn_byte, whole-flows, nothing_yet, whole-held, made-link, made_in}
use Rattle.imagecodec.proofs.reading.read.Goals as goal

pub unwrap-plan-requires : goal.unwrap-plan-requires
unwrap-plan-requires c = plan-there c.args.image.now _ c.plan_in.ensures.is c.requires.0.plan_passes

pub layout_of-l-requires : goal.layout_of-l-requires
layout_of-l-requires c = let told = rw c.unwrap-plan.ensures at c.plan_in.ensures in told.valid

pub read_flows-requires : goal.read_flows-requires
read_flows-requires c =
    let told = rw c.unwrap-plan.ensures at c.plan_in.ensures in
    let here = plan_is c.args.image.now told.is in
    (flows-on c.requires.0 _ told.valid here _ c.layout_of-l.ensures, ap length c.requires.1 ∙ whole-empty)

pub read_held-requires : goal.read_held-requires
read_held-requires c =
    let told = rw c.unwrap-plan.ensures at c.plan_in.ensures in
    let here = plan_is c.args.image.now told.is in (
      holdings-on c.requires.0 _ told.valid here _ c.layout_of-l.ensures,
      whole-flows c.requires.0 _ told.valid here _ c.layout_of-l.ensures c.requires.1 c.read_flows.ensures,
      nothing_yet c.requires.0 _ told.valid here _ c.layout_of-l.ensures c.requires.1 c.read_flows.ensures,
    )

pub read_table-owner-requires : goal.read_table-owner-requires
read_table-owner-requires c =
    let told = rw c.unwrap-plan.ensures at c.plan_in.ensures in
    let here = plan_is c.args.image.now told.is in
    owners-on c.requires.0 _ told.valid here _ c.layout_of-l.ensures

pub window-w-requires : goal.window-w-requires
window-w-requires c =
    let told = rw c.unwrap-plan.ensures at c.plan_in.ensures in
    let here = plan_is c.args.image.now told.is in
    rw c.field.ensures.is (measures_read c.requires.0 _ told.valid here _ c.layout_of-l.ensures)

pub overflow_cast-mark : goal.overflow_cast-mark
overflow_cast-mark c =
    let told = rw c.unwrap-plan.ensures at c.plan_in.ensures in
    let here = plan_is c.args.image.now told.is in
    omega (arith, c.field-mark.ensures.is, mark-most c.requires.0 _ told.valid here _ c.layout_of-l.ensures)

pub overflow_cast-turn : goal.overflow_cast-turn
overflow_cast-turn c = omega (arith, c.byte-turn.ensures.is, c.byte-turn.ensures.all.byte 16)

pub resume-requires : goal.resume-requires
resume-requires c =
    let told = rw c.unwrap-plan.ensures at c.plan_in.ensures in
    let here = plan_is c.args.image.now told.is in (
      c.window-w.ensures.proper,
      whole-held c.requires.0 _ told.valid here _ c.layout_of-l.ensures c.requires.1 c.read_flows.ensures c.read_held.ensures,
    )

pub returns : goal.returns
returns c =
    let told = rw c.unwrap-plan.ensures at c.plan_in.ensures in
    let here = plan_is c.args.image.now told.is in
    let turn = c.byte-turn.ensures.is ∙ turn_byte c.requires.0 _ told.valid here _ c.layout_of-l.ensures in
    record {
      link = made-link c.requires.0 _ told.valid here _ c.layout_of-l.ensures c.requires.1 c.read_flows.ensures c.read_held.ensures
          c.field.ensures.is c.window-w.ensures.is c.read_table-owner.ensures c.field-mark.ensures.is turn c.resume.ensures;
      there = made_in c.requires.0 _ told.valid here _ c.layout_of-l.ensures c.requires.1 c.read_flows.ensures c.read_held.ensures
          c.field.ensures.is c.window-w.ensures.is c.read_table-owner.ensures c.field-mark.ensures.is turn c.resume.ensures c.window-w.ensures.proper;
      bytes = c.byte-turn.ensures.all;
    }
