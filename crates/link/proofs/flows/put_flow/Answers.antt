use Rattle.std.proofs.Common.{◌≡◌, ◌/◌, ◌%◌, refl, ◌∙◌, arith}
use Rattle.link.specs.Parts.{flow_bytes}
use Rattle.link.proofs.FlowBytes.{flow-stored}
use Rattle.link.proofs.flows.put_flow.Goals as goal

pub returns : goal.returns
returns c =
    let f = c.args.f in
    let high : f.number / 256 % 256 ≡ f.number / 256 = omega (arith, c.requires.1.number) in
    let is : c.copy_from_slice.new.self ≡ flow_bytes f = c.copy_from_slice.ensures.after ∙ rw (c.to_le_bytes.ensures, high) refl in
    flow-stored c.args.s.now c.args.i _ f _ c.told-s c.requires.0 (omega arith) is
