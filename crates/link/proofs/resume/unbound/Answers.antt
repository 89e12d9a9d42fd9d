use Rattle.std.proofs.Common.{◌≡◌, ◌∙◌, length, rules, arith}
use Rattle.std.proofs.lemmas.List.{places}
use borrow.Rule.Slice.PartMut.{mid_of}
use Rattle.window.proofs.Ranges.{replaced-mid}
use Rattle.link.proofs.resume.unbound.Goals as goal

pub returns : goal.returns
returns c =
    let long : length (mid_of 4480 16 c.args.s.now) ≡ 16 = search (rules, places) in
    let new = rw long at (c.fill.ensures.after (λ y e. e)) in
    replaced-mid 4480 16 (λ k x. 255) c.args.s.now _ 0 (c.fill.ensures.len ∙ long) (omega arith) (λ k b. rw new (search (rules, places)))
