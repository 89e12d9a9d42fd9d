use Rattle.std.proofs.Common.{◌∙◌, ◌++◌, sym, refl, arith}
use Rattle.program.specs.Stage.{stage_fed, written_fed}
use Rattle.program.specs.State.{bytes_in}
use Rattle.program.proofs.KeptBytes.{behind, taken}
use Rattle.program.proofs.PlanStages.{fewer-than-two, some_byte}
use Rattle.program.proofs.PlanRead.{left_open, left-never, left-plan}
use Rattle.program.proofs.PlanTaken.{never-one, stated-range, still-open, ended-within, all-behind, fewer-before, exactly, is-there}
use Rattle.program.proofs.plans.go_on.Goals as goal

pub returns-then-two-lt2 : goal.returns-then-two-lt2
unfolding stage_fed written_fed
returns-then-two-lt2 c =
    let a = c.args in
    let two = taken c.requires.0.kept_well 2 a.piece.now c.filled-two.ensures in
    let few = c.if-two-lt2.true in
    let opened = fewer-than-two (bytes_in c.filled-two.result) (omega (arith, two.kept.count_is, few)) in
    left_open (bytes_in a.kept ++ a.piece.now) (two.piece_ended few) opened (record { stage_is = refl; regular = record { kept_well = two.kept; still_open = opened } })

pub returns-then-never_a_plan : goal.returns-then-never_a_plan
unfolding stage_fed written_fed
returns-then-never_a_plan c =
    let a = c.args in
    let two = taken c.requires.0.kept_well 2 a.piece.now c.filled-two.ensures in
    let never = never-one two c.if-two-lt2.false c.stated_length-total.ensures (sym c.never_a_plan.ensures ∙ c.if-never_a_plan.true) in
    let byte = some_byte (bytes_in a.kept) a.piece.now c.requires.0.still_open never in
    let w = c.write_plan-written.ensures in
    left-never (bytes_in a.kept ++ a.piece.now) never (omega (arith, byte, c.requires.1)) (w.out, (w.next, w.most)) (record { stage_is = refl; regular = tt })

pub filled-whole-requires : goal.filled-whole-requires
filled-whole-requires c =
    let two = taken c.requires.0.kept_well 2 c.args.piece.now c.filled-two.ensures in
    let range = stated-range two c.if-two-lt2.false c.stated_length-total.ensures (sym c.never_a_plan.ensures ∙ c.if-never_a_plan.false) in
    (two.kept, range.1)

pub returns-then-whole-total : goal.returns-then-whole-total
unfolding stage_fed written_fed
returns-then-whole-total c =
    let a = c.args in
    let two = taken c.requires.0.kept_well 2 a.piece.now c.filled-two.ensures in
    let is = c.stated_length-total.ensures in
    let range = stated-range two c.if-two-lt2.false is (sym c.never_a_plan.ensures ∙ c.if-never_a_plan.false) in
    let whole = taken two.kept c.stated_length-total.result (behind a.kept c.filled-two.result a.piece.now) c.filled-whole.ensures in
    let few = c.if-whole-total.true in
    let opened = still-open two c.if-two-lt2.false is range.0 range.1 whole few in
    left_open (bytes_in a.kept ++ a.piece.now) (ended-within two c.if-two-lt2.false is range.0 range.1 whole few) opened
    (record { stage_is = refl; regular = record { kept_well = whole.kept; still_open = opened } })

pub begin-requires : goal.begin-requires
begin-requires c =
    let a = c.args in
    let two = taken c.requires.0.kept_well 2 a.piece.now c.filled-two.ensures in
    let is = c.stated_length-total.ensures in
    let range = stated-range two c.if-two-lt2.false is (sym c.never_a_plan.ensures ∙ c.if-never_a_plan.false) in
    let whole = taken two.kept c.stated_length-total.result (behind a.kept c.filled-two.result a.piece.now) c.filled-whole.ensures in
    let below = fewer-before two c.if-two-lt2.false is range.0 range.1 whole c.requires.0.still_open c.requires.0.kept_well.count_is in
    (whole.kept, omega (arith, whole.behind_long, whole.in_piece, two.behind_long, two.in_piece, below, c.if-whole-total.false, c.requires.1))

pub returns : goal.returns
unfolding stage_fed written_fed
returns c =
    let a = c.args in
    let two = taken c.requires.0.kept_well 2 a.piece.now c.filled-two.ensures in
    let is = c.stated_length-total.ensures in
    let range = stated-range two c.if-two-lt2.false is (sym c.never_a_plan.ensures ∙ c.if-never_a_plan.false) in
    let whole = taken two.kept c.stated_length-total.result (behind a.kept c.filled-two.result a.piece.now) c.filled-whole.ensures in
    let opened = c.requires.0.still_open in
    let before = c.requires.0.kept_well.count_is in
    let all = c.if-whole-total.false in
    left-plan (bytes_in c.filled-whole.result) _ (bytes_in a.kept ++ a.piece.now) (all-behind two c.if-two-lt2.false is range.0 range.1 whole)
    (is-there two c.if-two-lt2.false is range.0 range.1 whole opened before all)
    (exactly two c.if-two-lt2.false is range.0 range.1 whole opened before all)
    c.begin.ensures
