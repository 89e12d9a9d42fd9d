-- The numbers of refusals: none is 0, and no two are alike. Assumes nothing.
use Rattle.std.proofs.Common.{ℕ, ◌≡◌, ◌<◌, cond, eqb, refl, sym, ap, ◌∙◌, arith}
use Rattle.limits.specs.declared.refusal.Refusal.{Refusal}
use Rattle.limits.specs.declared.refusal.Refusal.TheVariants.{Length, Counts, Frame, Entries, Pairs, Shares, Cells, NoRoom}
use Rattle.limits.specs.Refusals.{number}

pub some-number : (r : Refusal) → 0 < number r
some-number Length = omega arith
some-number Counts = omega arith
some-number Frame = omega arith
some-number Entries = omega arith
some-number Pairs = omega arith
some-number Shares = omega arith
some-number Cells = omega arith
some-number NoRoom = omega arith

-- the refusal of a number, read back
abbrev of_number : ℕ → Refusal
of_number n =
    cond (eqb n 1) Length
    (cond (eqb n 2) Counts (cond (eqb n 3) Frame (cond (eqb n 4) Entries (cond (eqb n 5) Pairs (cond (eqb n 6) Shares (cond (eqb n 7) Cells NoRoom))))))

back : (r : Refusal) → of_number (number r) ≡ r
back Length = refl
back Counts = refl
back Frame = refl
back Entries = refl
back Pairs = refl
back Shares = refl
back Cells = refl
back NoRoom = refl

pub one-number : (r s : Refusal) → number r ≡ number s → r ≡ s
one-number r s e = sym (back r) ∙ ap of_number e ∙ back s
