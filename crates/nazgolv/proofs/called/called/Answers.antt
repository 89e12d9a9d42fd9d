use Rattle.std.proofs.Common.{refl, sym, ap, ◌∙◌, arith}
use Rattle.imagecheck.proofs.Numbers.{some-number}
use Rattle.imagemodel.specs.Exports.{refusal_number}
use Rattle.nazgolv.specs.Calls.{call_for}
use Rattle.nazgolv.proofs.TurnedBack.{turned, is-valid}
use Rattle.nazgolv.proofs.Stepping.{on_read, writable, stays, comes-to}
use Rattle.nazgolv.proofs.called.called.Goals as goal

pub returns-in-Err : goal.returns-in-Err
returns-in-Err c =
    turned c.in-Err.ensures (call_for c.args.call) (λ z. omega (arith, some-number c.in-Err.refusal))
    (c.refused.ensures ∙ ap refusal_number c.number.ensures)

pub read-kept-requires : goal.read-kept-requires
read-kept-requires c = (is-valid c.in_default.ensures refl, c.empty-state.ensures)

-- a refusal that leaves all as it was: nothing is written
pub returns-then-leaves_all : goal.returns-then-leaves_all
returns-then-leaves_all c =
    let t = is-valid c.in_default.ensures refl in
    let call = call_for c.args.call in
    let went = on_read c.read-kept.ensures.link call c.step-moved.ensures in
    comes-to t call went (stays t call went c.read-kept.ensures.bytes (sym c.leaves_all.ensures ∙ c.if-leaves_all.true))

pub write-requires : goal.write-requires
write-requires c =
    let call = call_for c.args.call in
    writable (is-valid c.in_default.ensures refl) call (on_read c.read-kept.ensures.link call c.step-moved.ensures)

pub returns : goal.returns
returns c =
    let call = call_for c.args.call in
    comes-to (is-valid c.in_default.ensures refl) call (on_read c.read-kept.ensures.link call c.step-moved.ensures) c.write.ensures
