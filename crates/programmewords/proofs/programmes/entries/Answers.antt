use Rattle.std.proofs.Common.{◌<◌, arith}
use Rattle.std.proofs.lemmas.Bool.{ltb-false}
use Rattle.model.proofs.Tests.{any_none}
use Rattle.week.specs.Reading.{empty_entry}
use Rattle.programmewords.proofs.Filled.{nothing-filled, one-more-filled, rest-empty}
use Rattle.programmewords.proofs.ProgrammeLines.{past}
use Rattle.programmewords.proofs.programmes.entries.Goals as goal

pub loop-i-init : goal.loop-i-init
loop-i-init c = nothing-filled 64 empty_entry _

pub entry_at-requires : goal.entry_at-requires
entry_at-requires c =
    let asked : c.loop-i.i < c.args.count = omega arith in
    (omega (arith, c.requires.0.many), ltb-false 65535 _ (any_none c.args.count _ c.requires.1.narrow c.loop-i.i asked))

pub loop-i-preserved : goal.loop-i-preserved
loop-i-preserved c = one-more-filled c.loop-i.invariant (omega arith) c.entry_at.ensures

pub returns : goal.returns
returns c = rest-empty c.loop-i.invariant (λ k l h. past c.args.numbers.now c.args.count k c.requires.0 (omega arith))
