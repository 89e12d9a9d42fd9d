use Rattle.std.proofs.Common.{arith, sym, ◌∙◌, eq-eqb, ne_eqb, zero-add}
use Rattle.imagecheck.proofs.TestLoops.{passing-none, passing-more, passing-miss, passing-all}
use Rattle.imagecheck.proofs.links.listed.Goals as goal

pub loop-k-init : goal.loop-k-init
loop-k-init c = passing-none

pub loop-k-preserved : goal.loop-k-preserved
loop-k-preserved c =
    passing-more c.loop-k.invariant c.loop-k-test.true (rw zero-add (eq-eqb _ _ (sym c.field.ensures.is ∙ c.if-field-x.false)))

pub returns-then-field-x : goal.returns-then-field-x
returns-then-field-x c =
    passing-miss c.loop-k.invariant c.loop-k-test.true (rw zero-add (ne_eqb _ _ (λ e. c.if-field-x.true (c.field.ensures.is ∙ e))))

pub returns : goal.returns
returns c = passing-all c.loop-k.invariant (omega arith)
