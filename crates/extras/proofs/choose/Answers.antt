use Rattle.std.proofs.Common.{◌≡◌, ◌^◌, min, sym, ap, ◌∙◌, arith}
use Rattle.std.proofs.Math.Nat.{one-le-pow}
use Rattle.extras.specs.Extras.{choose, set_count, looked_at}
use Rattle.extras.specs.Reading.{extras_for}
use Rattle.extras.proofs.Layers.{limits, count_is}
use Rattle.extras.proofs.BestSets.{chosen_is}
use Rattle.extras.proofs.choose.Goals as goal

pub returns-then-outside : goal.returns-then-outside
unfolding choose
returns-then-outside c = rw (sym c.outside.ensures ∙ c.if-outside.true)

pub set_count-sets-requires : goal.set_count-sets-requires
set_count-sets-requires c = omega (arith, (limits (extras_for c.args.x) (sym c.outside.ensures ∙ c.if-outside.false)).few, count_is c.args.x)

pub best_of-best-requires : goal.best_of-best-requires
best_of-best-requires c =
    let inside = sym c.outside.ensures ∙ c.if-outside.false in
    (record { inside = inside }, omega (arith, (limits (extras_for c.args.x) inside).some_budget, one-le-pow c.args.x.count 2 (omega arith)))

pub returns : goal.returns
returns c =
    let x = extras_for c.args.x in
    let sets : c.set_count-sets.result ≡ set_count x = c.set_count-sets.ensures.is ∙ ap (2 ^◌) (sym (count_is c.args.x)) in
    let looked : c.min.result ≡ looked_at x = c.min.ensures ∙ ap (min x.budget) sets in
    let best = rw looked at c.best_of-best.ensures in
    chosen_is (sym c.outside.ensures ∙ c.if-outside.false) best (rw sets at c.ceiling-ceiling.ensures)
