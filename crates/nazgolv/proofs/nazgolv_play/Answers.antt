use Rattle.std.proofs.Common.{refl, ap, ◌∙◌, arith}
use Rattle.imagecheck.proofs.Numbers.{some-number}
use Rattle.imagemodel.specs.Exports.{refusal_number}
use Rattle.nazgolv.proofs.TurnedBack.{is-valid}
use Rattle.nazgolv.proofs.PlayedImages.{room, play-turned, no_room, play-writable, play-comes-to}
use Rattle.nazgolv.proofs.nazgolv_play.Goals as goal

pub returns-in-Err : goal.returns-in-Err
returns-in-Err c =
    let a = c.args in
    play-turned a.image.now a.records.now a.out.now c.in-Err.ensures (λ z. omega (arith, some-number c.in-Err.refusal))
    (c.refused.ensures ∙ ap refusal_number c.number.ensures)

pub returns-then-out-records : goal.returns-then-out-records
returns-then-out-records c =
    let a = c.args in
    no_room a.image.now a.records.now a.out.now c.in_default.ensures refl c.if-out-records.true c.refused-then-out-records.ensures

pub read-kept-requires : goal.read-kept-requires
read-kept-requires c = (is-valid c.in_default.ensures refl, c.empty-state.ensures)

pub play_all-requires : goal.play_all-requires
play_all-requires c = (c.read-kept.ensures.there, room c.args.records.now c.args.out.now (omega (arith, c.if-out-records.false)))

pub write-requires : goal.write-requires
write-requires c =
    let a = c.args in
    let t = is-valid c.in_default.ensures refl in
    play-writable a.image.now a.records.now a.out.now c.in_default.ensures refl t c.read-kept.ensures.link c.play_all.ensures

pub returns : goal.returns
returns c =
    let a = c.args in
    let t = is-valid c.in_default.ensures refl in
    play-comes-to a.image.now a.records.now a.out.now c.in_default.ensures refl t c.read-kept.ensures.link c.play_all.ensures
    c.read-kept.ensures.bytes (omega (arith, c.if-out-records.false)) c.write.ensures
