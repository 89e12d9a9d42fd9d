use Rattle.std.proofs.Common.{List, ℕ, sym, ap, ◌∙◌, arith}
use Rattle.tables.specs.Rows.{with_row}
use Rattle.tables.proofs.Rows.{storing-none, storing-more, storing-done}
use Rattle.tables.proofs.FreshTables.{length-everywhere, nothing-at}
use Rattle.tables.proofs.holdings.hold_nothing.Goals as goal

pub loop-i-init : goal.loop-i-init
loop-i-init c = storing-none c.requires

pub loop-i-preserved : goal.loop-i-preserved
loop-i-preserved c =
    let table = ap (λ (x : List ℕ). with_row c.loop-i.s c.loop-i.i x) c.unheld.ensures in
    storing-more c.requires c.loop-i.invariant (length-everywhere 0) (omega arith) (c.store.ensures ∙ table)

pub returns : goal.returns
returns c = storing-done c.requires c.loop-i.invariant _ (λ j p _. sym (nothing-at p)) (omega arith)
