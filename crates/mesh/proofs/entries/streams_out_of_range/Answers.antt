use Rattle.std.proofs.Common.{◌≡◌, ap, sym, ◌∙◌, refl, not, add-one, arith}
use Rattle.model.specs.Tables.{any}
use Rattle.model.proofs.Tests.{any-hit}
use Rattle.mesh.specs.Admission.{stream_fits}
use Rattle.mesh.specs.Reading.{stream_at}
use Rattle.mesh.proofs.entries.streams_out_of_range.Goals as goal

pub loop-i-init : goal.loop-i-init
unfolding any
loop-i-init c = refl

pub returns-then-not-fits : goal.returns-then-not-fits
returns-then-not-fits c =
    sym (any-hit c.args.count (λ i. not (stream_fits c.args.slots (stream_at c.args.numbers.now i))) c.loop-i.i c.loop-i-test.true (ap not (sym c.fits.ensures ∙ c.if-not-fits.true)))

pub loop-i-preserved : goal.loop-i-preserved
unfolding any
loop-i-preserved c = rw (add-one c.loop-i.i, sym c.fits.ensures ∙ c.if-not-fits.false) c.loop-i.invariant

pub returns : goal.returns
returns c =
    let all : c.loop-i.i ≡ c.args.count = omega arith in
    rw all at (sym c.loop-i.invariant)
