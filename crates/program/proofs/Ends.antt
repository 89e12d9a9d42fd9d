-- What is written at the end of the input. Assumes nothing.
use Prim.Native.Nat.{ℕ, ◌+◌, ◌≤◌, ◌<◌}
use mathlib.Core.Path.{◌≡◌, refl, sym, ap, ◌∙◌}
use mathlib.Core.List.{List, ◌∷◌, []}
use mathlib.Core.Bool.{Bool, true, false, cond}
use native.Mathlib.Omega.{arith}
use lib.ListN.{length}
use borrow.Author.Tests.{leb-true}
use Rattle.model.specs.Link.{Link}
use Rattle.model.specs.Listing.{refusal_line}
use Rattle.calls.specs.Lines.{room, out_with, next_after}
use Rattle.calls.proofs.Stores.{Written}
use Rattle.program.specs.Stage.{Stage, playing, at_end}
use Rattle.program.specs.Promises.{Finished}

pub no_line : (l : Link) (cut : List ℕ) → length cut ≡ 0 → [] ≡ at_end (playing l cut)
no_line l [] h = refl
no_line l (b ∷ rest) h = absurd (omega arith)

-- a record that is cut off
pub cut-off-line : (l : Link) (cut : List ℕ) → 0 < length cut → refusal_line 16 ≡ at_end (playing l cut)
cut-off-line l [] h = absurd (omega arith)
cut-off-line l (b ∷ rest) h = refl

-- a line that was written at the start has room
in-room : (line out : List ℕ) (n : ℕ) → n ≡ next_after line out 0 → n ≤ 0 + 7 → n ≤ length out
unfolding next_after room
in-room line out n e most = go (room out 0) refl
  where
    go : (b : Bool) → room out 0 ≡ b → n ≤ length out
    go true t = let h = leb-true (0 + 7) (length out) t in omega arith
    go false t = let z : n ≡ 0 = e ∙ rw t in omega arith

pub finished-by : {s : Stage} {line out out' : List ℕ} {n : ℕ} → line ≡ at_end s → Written line out out' 0 n → Finished s out n out'
finished-by {s} {line} {out} {out'} {n} is w = record {
  written_is = w.1.0 ∙ ap (λ x. next_after x out 0) is;
  out_is = w.0 ∙ ap (λ x. out_with x out 0) is;
  room = in-room line out n w.1.0 w.1.1;
}

-- nothing is to be written
pub finished-silent : {s : Stage} → [] ≡ at_end s → (out : List ℕ) → Finished s out 0 out
unfolding out_with next_after
finished-silent is out = finished-by is (sym (go (room out 0)), (sym (go₀ (room out 0)), omega arith))
  where
    go : (b : Bool) → cond b out out ≡ out
    go true = refl
    go false = refl

    go₀ : (b : Bool) → cond b (0 + 0) 0 ≡ 0
    go₀ true = refl
    go₀ false = refl
