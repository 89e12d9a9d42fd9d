use Rattle.std.proofs.Common.{rules, ◌≡◌, ◌+◌, ◌-◌, ◌++◌, length, take, ap, ◌∙◌, arith}
use Rattle.std.proofs.lemmas.Slice.{overwrites, take-put_mid}
use Rattle.std.proofs.lemmas.List.{length-take-le}
use Rattle.showinput.proofs.Fed.{kept-fed}
use Rattle.showinput.proofs.pieces.feed.Goals as goal

pub returns : goal.returns
returns c =
    let s = c.args.state in
    let taken = c.min-taken.result in
    let part = c.copy_from_slice.new.self in
    let is : part ≡ take taken c.args.piece.now = c.copy_from_slice.ensures.after in
    let long : length part ≡ taken = ap length is ∙ length-take-le taken c.args.piece.now (omega (arith, c.min-taken.ensures)) in
    record {
      long = search (rules, overwrites);
      most = omega (arith, c.requires.most, c.min-taken.ensures);
      input_is =
          take-put_mid s.count (s.count + taken - s.count) s.bytes part _ (omega (arith, long)) (omega (arith, c.requires.long, c.requires.most))
          ∙ ap (λ l. take s.count s.bytes ++ l) is ∙ kept-fed s c.args.piece.now taken c.requires c.min-taken.ensures;
    }
