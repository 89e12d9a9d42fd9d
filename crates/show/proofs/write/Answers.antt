use Rattle.std.proofs.Common.{ap, ◌∙◌}
use Rattle.model.specs.WrittenPlan as writer
use Rattle.show.proofs.LinkPlans.{written_as}
use Rattle.show.proofs.write.Goals as goal

pub returns : goal.returns
returns c =
    let start = c.args in
    let same = written_as start.dome start.numbers.now start.cells.now start.k (record { is = c.gathered-draft.ensures }) start.out.now in
    record {
      is = c.write.ensures.is ∙ ap (λ (w : writer.Written). w.answer) same;
      out = c.write.ensures.out ∙ ap (λ (w : writer.Written). w.out) same;
      most = c.write.ensures.most;
    }
