use Rattle.std.proofs.Common.{◌≤◌, true, false, take, length, sym, ap, ◌∙◌, arith}
use Rattle.model.proofs.Tables.{length-table}
use Rattle.week.specs.Week.{some_breaks_limits, some_shared}
use Rattle.week.specs.Reading.{stored, entries_of}
use Rattle.week.proofs.Refusals.{entries-are, breaks-is, all-keep-limits, too_many, no-minute, entry-breaks, passed-28}
use Rattle.week.proofs.check.Goals as goal

pub returns-then-p-gt-MOST : goal.returns-then-p-gt-MOST
returns-then-p-gt-MOST c =
    let p = c.args.p.now in
    too_many (entries_of p) c.args.minute (omega (arith, length-table p.count (stored p.entries)))

pub returns-then-minute-ge-WEEK : goal.returns-then-minute-ge-WEEK
returns-then-minute-ge-WEEK c = no-minute (entries_of c.args.p.now) c.args.minute c.if-minute-ge-WEEK.true

pub returns-then-any_breaks_limits : goal.returns-then-any_breaks_limits
returns-then-any_breaks_limits c =
    let p = c.args.p.now in
    let there : p.count ≤ length p.entries = omega arith in
    let breaks = ap some_breaks_limits (entries-are p there) ∙ breaks-is (take p.count p.entries) ∙ sym c.any_breaks_limits.ensures ∙ c.if-any_breaks_limits.true in
    entry-breaks (entries_of p) c.args.minute breaks

pub any_shared-requires : goal.any_shared-requires
any_shared-requires c =
    let p = c.args.p.now in
    all-keep-limits (take p.count p.entries) (breaks-is (take p.count p.entries) ∙ sym c.any_breaks_limits.ensures ∙ c.if-any_breaks_limits.false)

pub returns-then-any_shared : goal.returns-then-any_shared
returns-then-any_shared c =
    let p = c.args.p.now in
    let there : p.count ≤ length p.entries = omega arith in
    let same = entries-are p there in
    let kept = ap some_breaks_limits same ∙ breaks-is (take p.count p.entries) ∙ sym c.any_breaks_limits.ensures ∙ c.if-any_breaks_limits.false in
    let shared = ap some_shared same ∙ sym c.any_shared.ensures ∙ c.if-any_shared.true in
    passed-28 (entries_of p) c.args.minute (omega (arith, length-table p.count (stored p.entries))) c.if-minute-ge-WEEK.false kept true shared

pub returns : goal.returns
returns c =
    let p = c.args.p.now in
    let there : p.count ≤ length p.entries = omega arith in
    let same = entries-are p there in
    let kept = ap some_breaks_limits same ∙ breaks-is (take p.count p.entries) ∙ sym c.any_breaks_limits.ensures ∙ c.if-any_breaks_limits.false in
    let shared = ap some_shared same ∙ sym c.any_shared.ensures ∙ c.if-any_shared.false in
    passed-28 (entries_of p) c.args.minute (omega (arith, length-table p.count (stored p.entries))) c.if-minute-ge-WEEK.false kept false shared
