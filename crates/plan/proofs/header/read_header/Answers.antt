use Rattle.plan.proofs.header.read_header.Goals as goal

pub returns : goal.returns
returns c = λ k. record {
  total = c.field.ensures k;
  count = c.field-2.ensures k;
  offset = c.field-3.ensures k;
  slots = c.field-4.ensures k;
  frames = c.field-5.ensures k;
  buffer = c.field-6.ensures k;
}
