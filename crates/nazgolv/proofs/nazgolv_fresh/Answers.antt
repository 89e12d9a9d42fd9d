use Rattle.std.proofs.Common.{refl}
use Rattle.nazgolv.proofs.FreshImages.{plan-refused, no_room, fresh-writable, fresh-written}
use Rattle.nazgolv.proofs.nazgolv_fresh.Goals as goal

pub returns-in-Err : goal.returns-in-Err
returns-in-Err c = plan-refused _ _ c.in-Err.refusal c.in-Err.ensures.is c.number.ensures c.refused.ensures

pub returns-then-image-l : goal.returns-then-image-l
returns-then-image-l c = no_room _ _ c.in-Ok.ensures.is c.layout_of-l.ensures c.if-image-l.true c.refused-then-image-l.ensures

pub write-requires : goal.write-requires
write-requires c = fresh-writable _ _ c.in-Ok.ensures.is c.layout_of-l.ensures c.if-image-l.false c.fresh-link.ensures.link c.fresh-link.ensures.sound

pub returns-else-image-l : goal.returns-else-image-l
returns-else-image-l c =
    fresh-written _ _ c.in-Ok.ensures.is c.layout_of-l.ensures c.if-image-l.false c.fresh-link.ensures.link c.fresh-link.ensures.sound refl c.write.ensures
