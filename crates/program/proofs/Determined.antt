-- The promises determine a state but for the bounds in its link: two regular states at one stage are one, and their links one in each part that is
-- read. Assumes nothing.
use mathlib.Core.Path.{◌≡◌, sym, ap, ◌∙◌}
use Rattle.std.specs.Prelude.{⊤}
use lib.ListN.{length}
use lib.Seq.{sets}
use Rattle.link.specs.Links.{parts_of}
use Rattle.link.specs.Steps.{read_of}
use Rattle.link.proofs.Stored.{one-reading}
use Rattle.program.specs.declared.Kept.{Kept}
use Rattle.program.specs.declared.State.{State}
use Rattle.program.specs.declared.State.TheVariants.{Reading, Playing, Ended}
use Rattle.program.specs.State.{bytes_in, zeros, Keeps, stage_of, Regular}

-- one phase, one link in each of its parts, and the same bytes kept
abbrev pub SameState : State → State → Type 0
SameState (Reading j) (Reading k) = j ≡ k
SameState (Playing l j) (Playing m k) = (parts_of l ≡ parts_of m) × (j ≡ k)
SameState Ended Ended = ⊤
SameState (Reading j) (Playing m k) = ⊥
SameState (Reading j) Ended = ⊥
SameState (Playing l j) (Reading k) = ⊥
SameState (Playing l j) Ended = ⊥
SameState Ended (Reading k) = ⊥
SameState Ended (Playing m k) = ⊥

same_kept : (j k : Kept) → Keeps j (bytes_in j) → Keeps k (bytes_in k) → bytes_in j ≡ bytes_in k → j ≡ k
same_kept j k h g e =
    let bytes : j.bytes ≡ k.bytes = h.bytes_are ∙ ap (sets zeros 0) e ∙ sym g.bytes_are in
    let count : j.count ≡ k.count = h.count_is ∙ ap length e ∙ sym g.count_is in
    λ i. record { bytes = bytes i; count = count i }

-- so a contract that gives the stage gives the state; of the bounds, which the models don't know, `SoundState` has what must hold
pub determined : (s t : State) → Regular s → Regular t → stage_of s ≡ stage_of t → SameState s t
determined (Reading j) (Reading k) x y e = let bytes : bytes_in j ≡ bytes_in k = cc in same_kept j k x.kept_well y.kept_well bytes
determined (Playing l j) (Playing m k) x y e =
    let bytes : bytes_in j ≡ bytes_in k = cc in
    let links : read_of l ≡ read_of m = cc in
    (one-reading (parts_of l) (parts_of m) l.sound.parts m.sound.parts links, same_kept j k x.kept_well y.kept_well bytes)
determined Ended Ended x y e = tt
determined (Reading j) (Playing m k) x y e = cc
determined (Reading j) Ended x y e = cc
determined (Playing l j) (Reading k) x y e = cc
determined (Playing l j) Ended x y e = cc
determined Ended (Reading k) x y e = cc
determined Ended (Playing m k) x y e = cc
