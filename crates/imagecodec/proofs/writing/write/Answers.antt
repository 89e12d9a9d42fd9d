use Rattle.std.proofs.Common.{◌+◌, ◌*◌, ◌≡◌, ◌∙◌, arith}
use Rattle.calls.proofs.Stores.{puts_then, puts-same}
use Rattle.imagecodec.proofs.WrittenLinks.{positions-few, image_is, header-put, header-ends, plan-ends, owners-end, written_is, room, parts-fit}
use Rattle.imagecodec.proofs.writing.write.Goals as goal

pub put_plan-at-requires : goal.put_plan-at-requires
put_plan-at-requires c =
    let header = header-put c.requires c.from-current.ensures c.from-mark.ensures c.from-turn.ensures c.put_header-at.ensures in
    (c.requires.sound.parts.plan, omega (arith, header-ends c.requires header, room c.requires, c.put_header-at.ensures.length_stays))

pub put_part-at-requires : goal.put_part-at-requires
put_part-at-requires c =
    let header = header-put c.requires c.from-current.ensures c.from-mark.ensures c.from-turn.ensures c.put_header-at.ensures in
    let plan-end : c.put_plan-at.result ≡ 30 + 4 * c.args.plan.count =
    omega (arith, header-ends c.requires header, plan-ends c.requires c.put_plan-at.ensures) in (
      omega (arith, positions-few c.requires),
      omega (arith, room c.requires, c.put_plan-at.ensures.length_stays, c.put_header-at.ensures.length_stays),
    )

pub put_flows-requires : goal.put_flows-requires
put_flows-requires c =
    let header = header-put c.requires c.from-current.ensures c.from-mark.ensures c.from-turn.ensures c.put_header-at.ensures in
    let plan-end : c.put_plan-at.result ≡ 30 + 4 * c.args.plan.count =
    omega (arith, header-ends c.requires header, plan-ends c.requires c.put_plan-at.ensures) in
    let at = owners-end c.requires c.put_part-at.ensures in
    let long = c.put_part-at.ensures.length_stays ∙ c.put_plan-at.ensures.length_stays ∙ c.put_header-at.ensures.length_stays in
    parts-fit c.requires long _ (omega arith)

pub returns : goal.returns
returns c =
    let header = header-put c.requires c.from-current.ensures c.from-mark.ensures c.from-turn.ensures c.put_header-at.ensures in
    let before-flows = puts_then (puts_then header c.put_plan-at.ensures) c.put_part-at.ensures in
    written_is c.requires (puts-same (image_is c.requires) (puts_then before-flows c.put_flows.ensures))
