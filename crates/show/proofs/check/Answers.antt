use Rattle.std.proofs.Common.{arith, refl, sym, ap, ◌∙◌}
use Rattle.limits.proofs.Refusals.{some-number}
use Rattle.mesh.specs.Admission as admission
use Rattle.show.specs.Reading.{show_of}
use Rattle.show.proofs.Places.{none_yet, none_more, found-one, none_at_all, refused-by-mesh, streams_are}
use Rattle.show.proofs.Refusals.{some-mesh-number, of-mesh, of-link, comes-of-mesh, comes-of-link}
use Rattle.show.proofs.check.Goals as goal

pub returns-in_err-check_streams : goal.returns-in_err-check_streams
returns-in_err-check_streams c =
    let streams = ap (admission.refusal c.args.dome.slots) (streams_are c.args.dome c.args.numbers.now c.args.cells.now) in
    let said = c.in_err-check_streams.ensures ∙ sym streams in
    record {
      number =
          of-mesh _ _ c.from_residual.ensures.1 ∙ said
          ∙ refused-by-mesh (show_of c.args.dome c.args.numbers.now c.args.cells.now) (λ z. some-mesh-number c.in_err-check_streams.field-0.0 (said ∙ z));
      comes_of = comes-of-mesh _ _ _ c.from_residual.ensures.1 (sym c.in_err-check_streams.ensures);
    }

pub loop-k-init : goal.loop-k-init
loop-k-init c = none_yet _

pub returns-in_err-check_link : goal.returns-in_err-check_link
returns-in_err-check_link c =
    let streams = ap (admission.refusal c.args.dome.slots) (streams_are c.args.dome c.args.numbers.now c.args.cells.now) in
    let r = c.in_err-check_link.field-0.0 in
    record {
      number =
          of-link _ _ c.from_residual-in_err-check_link.ensures.1
          ∙ found-one c.loop-k.invariant c.loop-k-test.true (streams ∙ sym c.in_ok-check_streams.ensures) c.in_err-check_link.ensures (λ z. omega (arith, some-number r));
      comes_of = comes-of-link _ _ _ c.from_residual-in_err-check_link.ensures.1 (sym c.in_ok-check_streams.ensures);
    }

pub loop-k-preserved : goal.loop-k-preserved
loop-k-preserved c = none_more c.loop-k.invariant c.loop-k-test.true c.in_ok-check_link.ensures refl

pub returns : goal.returns
returns c =
    let streams = ap (admission.refusal c.args.dome.slots) (streams_are c.args.dome c.args.numbers.now c.args.cells.now) in
    record {
      number = none_at_all c.loop-k.invariant c.loop-k-test.false (streams ∙ sym c.in_ok-check_streams.ensures);
      comes_of = sym c.in_ok-check_streams.ensures;
    }
