use Rattle.std.proofs.Common.{◌+◌, ◌*◌, ap, ◌∙◌, get_or, arith, eq-eqb, ne_eqb}
use Rattle.calls.specs.declared.Answer.TheVariants.{Accepted, Refused}
use Rattle.calls.specs.declared.Call.{Call}
use Rattle.std.proofs.Common.{Some}
use Rattle.calls.specs.Reading.{call_in, answer_to_tick}
use Rattle.calls.proofs.Stores.{put-in-room, puts-same}
use Rattle.tables.specs.Owners.{owner_of}
use Rattle.link.specs.Steps.{request_answer}
use Rattle.link.proofs.Given.{flow-or-zero-few, request-in}
use Rattle.link.proofs.Told.{request-told, credit-told}
use Rattle.playback.proofs.Records.{reads_as, no-call-played, played-request, played-credit, played-tick}
use Rattle.playback.proofs.Texts.{reply-text, tick-text, owner_at}
use Rattle.playback.proofs.SoFar.{none_yet, same_size, room, one_more, all-played}
use Rattle.playback.proofs.play.Goals as goal
use Rattle.playback.proofs.play.Goals.{in-Request, in-Credit+then-number-ne0, in-Credit+else-number-ne0, in-Tick}

pub loop-k-init : goal.loop-k-init
loop-k-init c = none_yet (ap (5 *◌) c.min-count.ensures) c.window-w.ensures

pub loop-k-preserved-in_default : goal.loop-k-preserved-in_default
loop-k-preserved-in_default c =
    let s = c.loop-k.invariant in
    let e = c.write_refusal-end.ensures in
    one_more s (omega (arith, c.loop-k-test.true)) (omega arith)
    (record {
      answer = Refused 16;
      played = rw (reads_as _ _ c.read.ensures.is ∙ ap call_in c.in_default.is) (no-call-played s.hand);
      put = put-in-room _ _ _ (room s (omega (arith, c.loop-k-test.true))) (e.out, (e.next, e.most));
      most = e.most;
    })

pub offset_bounds-plan-i : goal.offset_bounds-plan-i
offset_bounds-plan-i c = omega (arith, flow-or-zero-few c.loop-k.invariant.hand.sound.parts.plan _ c.flow_or_zero-i.ensures)

pub bounds-plan-i : goal.bounds-plan-i
bounds-plan-i c = flow-or-zero-few c.loop-k.invariant.hand.sound.parts.plan _ c.flow_or_zero-i.ensures

pub request-reply-requires : goal.request-reply-requires
request-reply-requires c = record { plan = _; word = _; given = request-in c.loop-k.invariant.hand _ c.split-fields.ensures c.flow_or_zero-i.ensures }

pub write_reply-end-requires : goal.write_reply-end-requires
write_reply-end-requires c = room c.loop-k.invariant (omega (arith, c.loop-k-test.true))

pub credit-number-requires : goal.credit-number-requires
credit-number-requires c = c.loop-k.invariant.hand

pub write_accepted-end-requires : goal.write_accepted-end-requires
write_accepted-end-requires c = room c.loop-k.invariant (omega (arith, c.loop-k-test.true))

pub tick-w-requires : goal.tick-w-requires
tick-w-requires c = c.loop-k.invariant.hand

pub overflow_cast-line : goal.overflow_cast-line
overflow_cast-line c = omega (arith, owner_at c.tick-w.ensures.there)

pub overflow_add-line : goal.overflow_add-line
overflow_add-line c = omega (arith, owner_at c.tick-w.ensures.there)

pub offset_bounds-made-owner : goal.offset_bounds-made-owner
offset_bounds-made-owner c = omega (arith, owner_at c.tick-w.ensures.there)

pub bounds-made-owner : goal.bounds-made-owner
bounds-made-owner c = omega (arith, owner_at c.tick-w.ensures.there)

pub write-end-requires : goal.write-end-requires
write-end-requires c = room c.loop-k.invariant (omega (arith, c.loop-k-test.true))

pub loop-k-preserved : goal.loop-k-preserved
loop-k-preserved c =
    let s = c.loop-k.invariant in
    let call-is = reads_as _ _ c.read.ensures.is ∙ ap call_in c.in-Some.is in
    elim c.match-call.branch [
      | in-Request y ↦
          let word = y.in-Request.word in
          let went = y.request-reply.ensures _ _ (request-in s.hand word y.split-fields.ensures y.flow_or_zero-i.ensures) in
          let is = call-is ∙ ap (λ (x : Call). call_in (Some x)) y.in-Request.is in
          rw (y.out-is, y.state-is, y.w-is, y.end-is)
          (one_more s (omega (arith, c.loop-k-test.true)) (omega arith)
          (record {
            answer = request_answer word y.request-reply.result;
            played = rw is (played-request s.hand _ (request-told s.hand.sound _ went));
            put = puts-same (reply-text c.lines-made.ensures word y.request-reply.result (omega arith)) y.write_reply-end.ensures.put;
            most = y.write_reply-end.ensures.most;
          }))
      | in-Credit+then-number-ne0 y ↦
          let e = y.write_refusal-end-then-number-ne0.ensures in
          let is = call-is ∙ ap (λ (x : Call). call_in (Some x)) y.in-Credit.is in
          rw (y.out-is, y.state-is, y.w-is, y.end-is)
          (one_more s (omega (arith, c.loop-k-test.true)) (omega arith)
          (record {
            answer = Refused y.credit-number.result;
            played = rw is (played-credit s.hand _ _ (rw (ne_eqb _ _ y.if-number-ne0.true) at (credit-told _ _ _ y.credit-number.ensures)));
            put = put-in-room _ _ _ (room s (omega (arith, c.loop-k-test.true))) (e.out, (e.next, e.most));
            most = e.most;
          }))
      | in-Credit+else-number-ne0 y ↦
          let is = call-is ∙ ap (λ (x : Call). call_in (Some x)) y.in-Credit.is in
          rw (y.out-is, y.state-is, y.w-is, y.end-is)
          (one_more s (omega (arith, c.loop-k-test.true)) (omega arith)
          (record {
            answer = Accepted;
            played = rw is (played-credit s.hand _ _ (rw (eq-eqb _ _ y.if-number-ne0.false) at (credit-told _ _ _ y.credit-number.ensures)));
            put = y.write_accepted-end.ensures.put;
            most = y.write_accepted-end.ensures.most;
          }))
      | in-Tick y ↦
          let there = y.tick-w.ensures.there in
          let is = call-is ∙ ap (λ (x : Call). call_in (Some x)) y.in-Tick.is in
          rw (y.out-is, y.state-is, y.w-is, y.end-is)
          (one_more s (omega (arith, c.loop-k-test.true)) (omega arith)
          (record {
            answer = answer_to_tick (owner_of (get_or y.tick-w.new.s (4096 + y.tick-w.result.current) 0));
            played = rw is (played-tick s.hand y.tick-w.ensures.is there);
            put = puts-same (tick-text c.lines-made.ensures _ (owner_at there)) y.write-end.ensures.put;
            most = y.write-end.ensures.most;
          }))
    ]

pub shape_of-out : goal.shape_of-out
shape_of-out c = same_size c.loop-k.invariant

pub returns : goal.returns
returns c =
    let s = c.loop-k.invariant in
    record { played_records = all-played s (omega arith); sound = s.hand.sound }

pub invariant_of-result : goal.invariant_of-result
invariant_of-result c = record { sound = c.loop-k.invariant.hand.sound }
