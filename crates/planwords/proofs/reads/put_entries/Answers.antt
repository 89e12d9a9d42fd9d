use Rattle.std.proofs.Common.{◌≡◌, ◌<◌, ap, arith, get_or-take}
use lib.Seq.{length-take-le}
use mathlib.Core.List.{flat_map}
use Rattle.calls.proofs.Stores.{puts-same}
use Rattle.plan.specs.Reading.{entry_for, no_entry}
use Rattle.replies.specs.Lines.{spaced}
use Rattle.planwords.specs.Reads.{entry_numbers}
use Rattle.planwords.proofs.SpacedNumbers.{first_entries, no-entries, one_entry}
use Rattle.planwords.proofs.reads.put_entries.Goals as goal

pub loop-e-init : goal.loop-e-init
loop-e-init c = no-entries _ _ _

pub put_entry-next-requires : goal.put_entry-next-requires
put_entry-next-requires c =
    let there : c.loop-e.e-index < c.args.count = omega (arith, length-take-le c.args.count c.args.entries (omega arith)) in
    omega (arith, c.loop-e.invariant.most, c.loop-e.invariant.puts.length_stays)

pub loop-e-preserved : goal.loop-e-preserved
loop-e-preserved c =
    let there : c.loop-e.e-index < c.args.count = omega (arith, length-take-le c.args.count c.args.entries (omega arith)) in
    let same = get_or-take c.args.count c.args.entries c.loop-e.e-index no_entry there in
    one_entry c.loop-e.invariant (puts-same (ap (λ e. flat_map spaced (entry_numbers (entry_for e))) same) c.put_entry-next.ensures.put) c.put_entry-next.ensures.most

pub returns : goal.returns
returns c =
    let s = c.loop-e.invariant in
    let all : c.loop-e.e-index ≡ c.args.count = omega (arith, length-take-le c.args.count c.args.entries (omega arith)) in
    record {
      put = puts-same (ap (λ n. flat_map spaced (flat_map entry_numbers (first_entries c.args.entries n))) all) s.puts;
      most = omega (arith, s.most);
    }
