use Rattle.std.proofs.Common.{ℕ, ◌≡◌, ap, ◌∙◌, get_or, set, arith}
use Rattle.limits.specs.declared.Wanted.{Wanted}
use Rattle.limits.specs.Reading.{no_wanted}
use Rattle.plan.specs.Reading.{no_entry, wanted_of, widened}
use Rattle.plan.proofs.Stored.{up_to, none_yet, one_more, all_there}
use Rattle.plan.proofs.draft.wanted.Goals as goal

pub loop-i-init : goal.loop-i-init
loop-i-init c = none_yet _ _

pub loop-i-preserved : goal.loop-i-preserved
loop-i-preserved c =
    let next : ℕ → Wanted = λ k. wanted_of (get_or c.args.entries.now k no_entry) in
    ap (λ a. set a c.loop-i.i c.from.result) c.loop-i.invariant ∙ ap (set (up_to next no_wanted c.loop-i.i) c.loop-i.i) c.from.ensures
    ∙ one_more next no_wanted c.loop-i.i (omega (arith, c.loop-i-test.true))

pub returns : goal.returns
unfolding widened
returns c =
    let next : ℕ → Wanted = λ k. wanted_of (get_or c.args.entries.now k no_entry) in
    let end : c.loop-i.i ≡ 16 = omega arith in
    c.loop-i.invariant ∙ ap (up_to next no_wanted) end ∙ all_there next no_wanted
