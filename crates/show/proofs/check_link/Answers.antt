use Rattle.std.proofs.Common.{◌∙◌}
use Rattle.show.proofs.LinkPlans.{not-asked, number-as}
use Rattle.show.proofs.check_link.Goals as goal

pub returns-then-draft-eq0 : goal.returns-then-draft-eq0
returns-then-draft-eq0 c =
    not-asked c.args.dome c.args.numbers.now c.args.cells.now c.args.k (record { is = c.gathered-draft.ensures }) c.if-draft-eq0.true

pub returns : goal.returns
returns c =
    c.check.ensures
    ∙ number-as c.args.dome c.args.numbers.now c.args.cells.now c.args.k (record { is = c.gathered-draft.ensures }) c.if-draft-eq0.false
