-- `link::request::refusal` meets its contract: each return by the tests on the way. Assumes nothing.
use borrow.Author.Rules.{rules}
use native.Mathlib.Omega.{arith}
use Rattle.link.proofs.Given.{flow-few}
use Rattle.link.proofs.StateRequests.{tests-8, tests-9, tests-10, tests-24, tests-pass}
use Rattle.link.proofs.request.refusal.Statement.{statement}
use Rattle.link.proofs.request.refusal.Tie as tie

-- ---- the places of its code: where the flow, the destination and the departure are known, and where the function is entered

abbrev start : tie.Else-count-i → tie.Start
start c = c.before.before

abbrev flow-at : tie.Else-fields-e → tie.Else-count-i
flow-at c = c.before.before.before

abbrev destination-at : tie.Else-w-fields → tie.Else-fields-e
destination-at c = c.before.before.before

-- ---- the needs

cast-i : tie.Need-overflow_cast-i
cast-i c = search rules

returns : tie.Need-returns-then-count-i
returns c = λ p x o. tests-8 o c.if-count-i.true

returns-2 : tie.Need-returns-then-fields-e
returns-2 c =
    let f = c.before.before.before in
    λ p x o. tests-9 o f.if-count-i.false c.if-fields-e.true

mul-if3 : tie.Need-overflow_mul-w
mul-if3 c = let m = (start (flow-at c.before)).requires.given.state.proper.measures in omega (arith, m.positions_most)

cast-if3 : tie.Need-overflow_cast-fields
cast-if3 c = search rules

returns-3 : tie.Need-returns-then-w-fields
returns-3 c =
    let d = c.before.before.before in
    let f = flow-at d in
    λ p x o. tests-10 o f.if-count-i.false d.if-fields-e.false c.if-w-fields.true

flow-at-requires : tie.Need-flow_at-flow-requires
flow-at-requires c κs = let f = flow-at (destination-at c) in flow-few (start f).requires.given f.if-count-i.false

cast-if4 : tie.Need-overflow_cast-fields-2
cast-if4 c = search rules

returns-4 : tie.Need-returns-then-fields-flow
returns-4 c =
    let a = c.before.before.before in
    let b = a.before in
    let d = destination-at b in
    let f = flow-at d in
    λ p x o. tests-24 o f.if-count-i.false d.if-fields-e.false b.if-w-fields.false a.flow_at-flow.ensures.0 c.if-fields-flow.true

returns-5 : tie.Need-returns
returns-5 c =
    let a = c.before.before.before in
    let b = a.before in
    let d = destination-at b in
    let f = flow-at d in
    λ p x o. tests-pass o f.if-count-i.false d.if-fields-e.false b.if-w-fields.false a.flow_at-flow.ensures.0 c.if-fields-flow.false

pub refusal_spec : {M : Type 1} → statement M
refusal_spec =
    tie.close
    (tie.spec
    cast-i
    returns
    returns-2
    mul-if3
    cast-if3
    returns-3
    flow-at-requires
    cast-if4
    returns-4
    returns-5)
