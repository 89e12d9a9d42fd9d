use Rattle.std.proofs.Common.{refl, ap, ◌∙◌, arith}
use Rattle.link.specs.Parts.{with_flow_at}
use Rattle.link.proofs.StateRequests.{went-refused, few, seek-in, number_below, stopped-few, went-stopped, granted-few, in_frame, byte-position, went-granted}
use Rattle.link.proofs.StateRequests.{place-found, none-found, same-reply}
use Rattle.link.proofs.request.request.Goals as goal

pub returns-then-number-ne0 : goal.returns-then-number-ne0
returns-then-number-ne0 c = λ p x o. same-reply c.refused.ensures (went-refused o (c.refusal-number.ensures p x o) c.if-number-ne0.true refl)

pub flow_at-flow-requires : goal.flow_at-flow-requires
flow_at-flow-requires c = let o = c.requires.given in few o (c.refusal-number.ensures _ _ o) c.if-number-ne0.false

pub seek-requires : goal.seek-requires
seek-requires c =
    let o = c.requires.given in
    record { plan = _; given = seek-in o (c.refusal-number.ensures _ _ o) c.if-number-ne0.false c.flow_at-flow.ensures.is }

pub granted_in-requires : goal.granted_in-requires
granted_in-requires c =
    let o = c.requires.given in
    let read = c.flow_at-flow.ensures in
    number_below o (c.refusal-number.ensures _ _ o) c.if-number-ne0.false read.is read.fits

pub put_flow-requires : goal.put_flow-requires
put_flow-requires c =
    let o = c.requires.given in
    let t = c.refusal-number.ensures _ _ o in
    let z = c.if-number-ne0.false in
    let read = c.flow_at-flow.ensures in
    rw c.granted_in.ensures (few o t z, granted-few o t z read.is read.fits _ _ _ (place-found o t z read.is c.seek.ensures c.in-Ok.is))

pub book-requires : goal.book-requires
book-requires c =
    let o = c.requires.given in
    let t = c.refusal-number.ensures _ _ o in
    let z = c.if-number-ne0.false in
    let read = c.flow_at-flow.ensures in
    (in_frame o t z read.is read.fits _ _ _ (place-found o t z read.is c.seek.ensures c.in-Ok.is), few o t z)

pub overflow_cast-result : goal.overflow_cast-result
overflow_cast-result c =
    let o = c.requires.given in
    let t = c.refusal-number.ensures _ _ o in
    let z = c.if-number-ne0.false in
    let read = c.flow_at-flow.ensures in
    omega (arith, byte-position o t z read.is read.fits _ _ _ (place-found o t z read.is c.seek.ensures c.in-Ok.is))

pub returns-in-Ok : goal.returns-in-Ok
returns-in-Ok c =
    let s = c.args in
    let z = c.if-number-ne0.false in
    let read = c.flow_at-flow.ensures in
    λ p x o.
    let t = c.refusal-number.ensures p x o in
    went-granted o t z read.is read.fits _ _ _ (place-found o t z read.is c.seek.ensures c.in-Ok.is)
    (c.put_flow.ensures ∙ ap (with_flow_at s.s.now s.fields.flow) c.granted_in.ensures) c.book.ensures

pub put_flow-requires-in-Err : goal.put_flow-requires-in-Err
put_flow-requires-in-Err c =
    let o = c.requires.given in
    let t = c.refusal-number.ensures _ _ o in
    let z = c.if-number-ne0.false in
    let read = c.flow_at-flow.ensures in
    let none = none-found o t z read.is c.seek.ensures c.in-Err.is in
    rw c.moved_to.ensures (few o t z, stopped-few o t z read.is read.fits _ none.found_none _ c.newest.ensures)

pub returns-in-Err : goal.returns-in-Err
returns-in-Err c =
    let s = c.args in
    let z = c.if-number-ne0.false in
    let read = c.flow_at-flow.ensures in
    λ p x o.
    let t = c.refusal-number.ensures p x o in
    let none = none-found o t z read.is c.seek.ensures c.in-Err.is in
    same-reply (c.refused-in-Err.ensures ∙ (λ j. record { number = none.number_is j; position = 0 }))
    (went-stopped o t z read.is read.fits _ none.found_none _ c.newest.ensures
    (c.put_flow-in-Err.ensures ∙ ap (with_flow_at s.s.now s.fields.flow) c.moved_to.ensures))
