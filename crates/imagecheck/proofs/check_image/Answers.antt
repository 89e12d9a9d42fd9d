use Rattle.std.proofs.Common.{true, false, refl, sym, ◌∙◌}
use borrow.Author.Tests.{lt-ltb, le-ltb}
use Rattle.model.specs.Refusals.{first_of}
use Rattle.imagecheck.proofs.Refusals.{no-plan, by_tests, image-fits, plan-fails, listed-is, consistent-is}
use Rattle.imagecheck.proofs.check_image.Goals as goal

pub returns-in_default : goal.returns-in_default
returns-in_default c = no-plan _ c.requires (plan-fails c.args.image.now c.in_default.field-0 c.in_default.ensures.is)

pub returns-then-not-listed : goal.returns-then-not-listed
unfolding first_of
returns-then-not-listed c =
    let b = c.args.image.now in
    let plan = c.in-Ok.ensures.is in
    let header = sym (c.listed.ensures ∙ listed-is b plan c.layout_of-l.ensures c.stated.ensures) ∙ c.if-not-listed.true in
    by_tests b c.requires false _ _ plan.0 header refl refl

pub returns-then-field-gt1 : goal.returns-then-field-gt1
unfolding first_of
returns-then-field-gt1 c =
    let b = c.args.image.now in
    let plan = c.in-Ok.ensures.is in
    let header = sym (c.listed.ensures ∙ listed-is b plan c.layout_of-l.ensures c.stated.ensures) ∙ c.if-not-listed.false in
    let mark = lt-ltb _ _ (rw c.field.ensures.is at c.if-field-gt1.true) in
    by_tests b c.requires true true _ plan.0 header mark refl

pub consistent-requires : goal.consistent-requires
consistent-requires c =
    let laid = c.layout_of-l.ensures in
    record {
      valid = c.in-Ok.ensures.valid;
      laid = laid;
      there = image-fits c.args.image.now c.requires laid c.stated.ensures (sym c.listed.ensures ∙ c.if-not-listed.false);
    }

pub returns-then-not-consistent : goal.returns-then-not-consistent
unfolding first_of
returns-then-not-consistent c =
    let b = c.args.image.now in
    let plan = c.in-Ok.ensures.is in
    let header = sym (c.listed.ensures ∙ listed-is b plan c.layout_of-l.ensures c.stated.ensures) ∙ c.if-not-listed.false in
    let mark = le-ltb _ _ (rw c.field.ensures.is at c.if-field-gt1.false) in
    by_tests b c.requires true false _ plan.0 header mark (sym (c.consistent.ensures ∙ consistent-is b plan) ∙ c.if-not-consistent.true)

pub returns : goal.returns
unfolding first_of
returns c =
    let b = c.args.image.now in
    let plan = c.in-Ok.ensures.is in
    let header = sym (c.listed.ensures ∙ listed-is b plan c.layout_of-l.ensures c.stated.ensures) ∙ c.if-not-listed.false in
    let mark = le-ltb _ _ (rw c.field.ensures.is at c.if-field-gt1.false) in
    by_tests b c.requires true false _ plan.0 header mark (sym (c.consistent.ensures ∙ consistent-is b plan) ∙ c.if-not-consistent.false)
