use Rattle.std.proofs.Common.{◌≡◌, sym, ◌∙◌, arith}
use Rattle.window.proofs.Tabulated.{every-none, every_more, every-miss}
use Rattle.link.proofs.reset.none_held.Goals as goal

pub loop-i-init : goal.loop-i-init
loop-i-init c = every-none _

pub room_from-requires : goal.room_from-requires
room_from-requires c = record {
  proper = c.requires.proper;
  flow = omega (arith, c.requires.few);
  position = c.requires.proper.measures.current_below;
}

pub returns-then-not-room_from : goal.returns-then-not-room_from
returns-then-not-room_from c = sym (every-miss _ _ c.loop-i.i c.loop-i-test.true (sym c.room_from.ensures ∙ c.if-not-room_from.true))

pub loop-i-preserved : goal.loop-i-preserved
loop-i-preserved c = every_more c.loop-i.i _ c.loop-i.invariant (sym c.room_from.ensures ∙ c.if-not-room_from.false)

pub returns : goal.returns
returns c =
    let end : c.loop-i.i ≡ c.args.count = omega arith in
    sym (rw end at c.loop-i.invariant)
