-- A line whose two chunks are stored, the last one first. Assumes nothing.
use Prim.Native.Nat.{ℕ, ◌+◌, ◌-◌, ◌%◌, ◌≤◌}
use mathlib.Core.Path.{◌≡◌, ap, ◌∙◌}
use mathlib.Core.List.{List, ◌++◌}
use native.Mathlib.Omega.{arith}
use lib.ListN.{length, drop}
use lib.Seq.{sets, length-sets}
use Rattle.calls.specs.Lines.{Puts}
use Rattle.linetable.specs.declared.Line.{Line}
use Rattle.linetable.specs.Lines.{four, text_of}
use Rattle.linetable.proofs.Overlapping.{overlapped}
use Rattle.linetable.proofs.Texts.{length-four, length-text}

pub both_stored : {out middle after : List ℕ} {at past : ℕ} (l : Line) → past ≡ l.past % 4 → at + 7 ≤ length out
    → middle ≡ sets out (at + past) (four l.last) → after ≡ sets middle at (four l.first)
    → Puts (text_of l) out after at (at + past + 4)
unfolding text_of
both_stored {out} {middle} {after} {at} {past} l is room e f = record {
  stored = stored;
  up_to = omega (arith, length-text l);
  length_stays = ap length stored ∙ length-sets out at (text_of l);
}
  where
    long : length (four l.first) ≡ 4
    long = length-four l.first

    long-last : length (four l.last) ≡ 4
    long-last = length-four l.last

    rest-is : drop (length (four l.first) - past) (four l.last) ≡ drop (4 - l.past % 4) (four l.last)
    rest-is = rw (long, is)

    stored : after ≡ sets out at (text_of l)
    stored =
        f ∙ ap (λ (m : List ℕ). sets m at (four l.first)) e
        ∙ overlapped out at past (four l.first) (four l.last) (omega (arith, long)) (omega (arith, long, long-last)) (omega (arith, long-last))
        ∙ ap (λ (s : List ℕ). sets out at (four l.first ++ s)) rest-is
