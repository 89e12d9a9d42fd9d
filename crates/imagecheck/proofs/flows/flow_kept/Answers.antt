use Rattle.std.proofs.Common.{arith, refl, sym, ◌∙◌}
use Rattle.imagecheck.proofs.Layouts.{count_is, flows_are, sized}
use Rattle.imagecheck.proofs.FlowParts.{flow-few, flow_is}
use Rattle.imagecheck.proofs.flows.flow_kept.Goals as goal

pub offset_bounds-plan-i : goal.offset_bounds-plan-i
offset_bounds-plan-i c = omega (arith, flow-few c.requires.parts _ c.requires.flow)

pub bounds-plan-i : goal.bounds-plan-i
bounds-plan-i c = flow-few c.requires.parts _ c.requires.flow

pub flow-at-requires : goal.flow-at-requires
flow-at-requires c =
    let laid = c.requires.parts.on.laid in
    (sized laid, omega (arith, flows_are laid, count_is c.args.plan, c.requires.flow))

pub returns-then-not-spends_well : goal.returns-then-not-spends_well
returns-then-not-spends_well c =
    rw (
      flow_is c.requires.parts c.args.i c.requires.flow _ refl c.flow-at.ensures.is,
      ← c.from.ensures,
      sym c.spends_well.ensures ∙ c.if-not-spends_well.true,
    )

pub returns-then-not-holds_well : goal.returns-then-not-holds_well
returns-then-not-holds_well c =
    rw (
      flow_is c.requires.parts c.args.i c.requires.flow _ refl c.flow-at.ensures.is,
      ← c.from.ensures,
      ← c.from-2.ensures,
      sym c.spends_well.ensures ∙ c.if-not-spends_well.false,
      sym c.holds_well.ensures ∙ c.if-not-holds_well.true,
    )

pub returns : goal.returns
returns c =
    rw (
      flow_is c.requires.parts c.args.i c.requires.flow _ refl c.flow-at.ensures.is,
      ← c.from.ensures,
      ← c.from-2.ensures,
      sym c.spends_well.ensures ∙ c.if-not-spends_well.false,
      sym c.holds_well.ensures ∙ c.if-not-holds_well.false,
      ← c.field.ensures.is,
    )
