use Rattle.std.proofs.Common.{ℕ, ◌+◌, ◌<◌, sym, ap, ◌∙◌, subst, arith}
use Rattle.imagemodel.specs.Image.{field_at}
use Rattle.imagecodec.specs.Reading.{table_from}
use Rattle.imagecodec.proofs.ReadHoldings.{no_rows, one-row-more, all-rows}
use Rattle.imagecodec.proofs.flows.read_held.Goals as goal

pub loop-i-init : goal.loop-i-init
loop-i-init c = no_rows c.requires.2

pub read_table-requires : goal.read_table-requires
read_table-requires c =
    let v = c.requires.0 in
    record {
      few = v.size_most;
      there = omega arith;
      bytes = λ q h.
          subst (λ (at : ℕ). field_at c.args.image.now (at + 4) q < 256) (sym c.flow.ensures.is) (v.bytes c.loop-i.i q c.loop-i-test.true h);
    }

pub loop-i-preserved : goal.loop-i-preserved
loop-i-preserved c =
    let same = ap (λ (at : ℕ). table_from c.args.image.now (at + 4) c.args.l.size 0) c.flow.ensures.is in
    one-row-more c.requires.0.on.few c.loop-i.invariant c.requires.1 c.loop-i-test.true (c.read_table.ensures ∙ same) c.store.ensures

pub returns : goal.returns
returns c = all-rows c.requires.0.on.few c.loop-i.invariant (omega arith)
