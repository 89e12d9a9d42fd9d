use Rattle.std.proofs.Common.{◌≡◌, ◌+◌, ◌*◌, sym, ap, ◌∙◌, arith, get_or, length}
use Rattle.model.specs.Tables.{table}
use Rattle.model.proofs.Tables.{table-get_d, table_same}
use Rattle.extrawords.proofs.every_second.Goals as goal

pub returns : goal.returns
returns c =
    let all = c.loop-i.number-items in
    let long : length all ≡ 12 = omega arith in
    sym (table-get_d all 0) ∙ ap (λ n. table n (λ k. get_or all k 0)) long
    ∙ table_same 12 _ (λ k. get_or c.args.numbers.now (c.args.from + 2 * k) 0) (λ k h. c.loop-i.invariant k (omega arith))
