use Rattle.std.proofs.Common.{◌*◌, ◌∷◌, [], arith}
use Rattle.calls.proofs.Stores.{puts_then, puts-same}
use Rattle.state.specs.Parts.{part}
use Rattle.state.proofs.Parts.{length_part}
use Rattle.imagemodel.proofs.Fields.{length_fields}
use Rattle.imagecodec.proofs.WrittenParts.{part-is}
use Rattle.imagecodec.proofs.writing.put_flow.Goals as goal

pub put_part-last-requires : goal.put_part-last-requires
put_part-last-requires c =
    let f = c.flow_at-flow.result in
    let start = length_fields (f.injection ∷ f.remainder ∷ []) in
    (omega (arith, c.requires.flow, c.requires.size_most), omega (arith, start, c.put_all-next.ensures.up_to, c.requires.there))

pub put-requires : goal.put-requires
put-requires c =
    let a = c.args in
    let f = c.flow_at-flow.result in
    let start = length_fields (f.injection ∷ f.remainder ∷ []) in
    let holdings = length_fields (part a.s.now (256 * a.i) a.size) in
    let long = length_part a.s.now (256 * a.i) a.size in (
      c.flow_at-flow.ensures.fits.number,
      omega (arith, start, holdings, long, c.put_all-next.ensures.up_to, c.put_part-last.ensures.up_to, c.requires.there),
    )

pub returns : goal.returns
returns c =
    puts-same (part-is c.args.size c.args.s.now c.args.i c.requires.size_most c.flow_at-flow.ensures.is)
    (puts_then (puts_then c.put_all-next.ensures c.put_part-last.ensures) c.put.ensures)
