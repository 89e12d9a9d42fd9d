use Rattle.std.proofs.Common.{ap, ◌∙◌}
use Rattle.std.proofs.lemmas.List.Edits.{sets}
use Rattle.model.specs.WrittenPlan.{field}
use Rattle.plan.proofs.header.put_header.Goals as goal

-- what the calls store, one after another, is the header
pub returns : goal.returns
returns c =
    let h = c.args.h in
    let to_2 = c.put_field-2.ensures ∙ ap (λ l. sets l 2 (field h.count)) c.put_field.ensures in
    let to_3 = c.put_field-3.ensures ∙ ap (λ l. sets l 4 (field h.offset)) to_2 in
    let to_4 = c.put_field-4.ensures ∙ ap (λ l. sets l 6 (field h.slots)) to_3 in
    let to_5 = c.put_field-5.ensures ∙ ap (λ l. sets l 8 (field h.frames)) to_4 in
    c.put_field-6.ensures ∙ ap (λ l. sets l 10 (field h.buffer)) to_5
