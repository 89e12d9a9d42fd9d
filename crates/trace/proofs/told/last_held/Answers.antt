use Rattle.std.proofs.Common.{ap, ◌∙◌}
use Rattle.model.specs.Link as model
use Rattle.link.specs.Steps.{read_in}
use Rattle.trace.proofs.LinkTold.{last-few, held-told, last-told}
use Rattle.trace.proofs.told.last_held.Goals as goal

pub returns : goal.returns
returns c = λ plan o.
    let few = last-few o.proper c.before-last.ensures in
    c.byte_at.ensures
    ∙ held-told o c.args.i c.before-last.result c.requires.1 few
    ∙ ap (model.holding (read_in plan c.args.s.now) c.args.i) (c.before-last.ensures ∙ last-told o)
