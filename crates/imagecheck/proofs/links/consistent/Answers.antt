use Rattle.std.proofs.Common.{ℕ, refl, sym, ap, ◌∙◌}
use borrow.Author.Tests.{lt-ltb, le-ltb}
use Rattle.model.specs.Tables.{every}
use Rattle.model.specs.Window.{Window}
use Rattle.plan.specs.Reading.{plan_for}
use Rattle.imagecheck.specs.Flows.{flow_kept}
use Rattle.imagecheck.proofs.LinkFields.{link-by-fields}
use Rattle.imagecheck.proofs.links.consistent.Goals as goal

pub returns-then-l-current : goal.returns-then-l-current
returns-then-l-current c = rw (link-by-fields c.requires _ _ c.field-current.ensures.is refl, le-ltb _ _ c.if-l-current.true)

pub returns-then-l-turn : goal.returns-then-l-turn
returns-then-l-turn c =
    rw (
      link-by-fields c.requires _ _ c.field-current.ensures.is c.field-turn.ensures.is,
      lt-ltb _ _ c.if-l-current.false,
      le-ltb _ _ c.if-l-turn.true,
    )

pub returns-then-not-known : goal.returns-then-not-known
returns-then-not-known c =
    rw (
      link-by-fields c.requires _ _ c.field-current.ensures.is c.field-turn.ensures.is,
      lt-ltb _ _ c.if-l-current.false,
      lt-ltb _ _ c.if-l-turn.false,
      sym c.known.ensures ∙ c.if-not-known.true,
    )

pub returns : goal.returns
returns c =
    let a = c.args in
    let current = ap (λ (x : Window). x.current) c.window-w.ensures.is in
    rw (
      link-by-fields c.requires _ _ c.field-current.ensures.is c.field-turn.ensures.is,
      lt-ltb _ _ c.if-l-current.false,
      lt-ltb _ _ c.if-l-turn.false,
      sym c.known.ensures ∙ c.if-not-known.false,
    )
    (c.flows_kept.ensures ∙ ap (λ (q : ℕ). every a.plan.count (flow_kept a.image.now (plan_for a.plan) q)) current)
