use Rattle.std.proofs.Common.{ℕ, ◌≡◌, ap, ◌∙◌, arith}
use Rattle.std.proofs.Math.ListN.{set}
use Rattle.model.specs.Plan.{entry_of, entries_of}
use Rattle.plan.specs.Reading.{no_entry, stored_entry, stored_entries}
use Rattle.plan.proofs.Stored.{up_to, none_yet, one_more, all_read}
use Rattle.plan.proofs.entries.read_entries.Goals as goal

pub loop-i-init : goal.loop-i-init
loop-i-init c = none_yet _ _

pub loop-i-preserved : goal.loop-i-preserved
loop-i-preserved c =
    let i = c.loop-i.i in
    let next = λ (k : ℕ). stored_entry (entry_of c.args.part.now k) in
    ap (λ a. set a i c.entry.result) c.loop-i.invariant ∙ ap (λ e. set (up_to next no_entry i) i (stored_entry e)) c.entry.ensures
    ∙ one_more next no_entry i (omega arith)

pub returns : goal.returns
returns c =
    let end : c.loop-i.i ≡ c.args.count = omega arith in
    c.loop-i.invariant ∙ all_read c.args.part.now c.loop-i.i ∙ ap (λ n. stored_entries (entries_of n c.args.part.now)) end
