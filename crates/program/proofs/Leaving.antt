-- What is left of a piece after its parts, one after the other. Assumes nothing.
use Prim.Native.Nat.{ℕ, ◌+◌, ◌%◌, ◌≤◌, ◌<◌}
use mathlib.Core.Path.{◌≡◌, refl, sym, ap, ◌∙◌}
use mathlib.Core.List.{List, [], ◌++◌}
use native.Mathlib.Nat.{zero-add}
use native.Mathlib.Omega.{arith}
use lib.ListN.{length, take, length-append}
use lib.Seq.{sets, length-sets}
use Rattle.model.specs.Link.{Link}
use Rattle.model.specs.Listing.{listing, link_after}
use Rattle.model.proofs.Listing.{listing_none, link-after-none}
use Rattle.calls.proofs.Stores.{Written, out-in-room, next-in-room}
use Rattle.program.specs.declared.State.{State}
use Rattle.program.specs.declared.Progress.{Progress}
use Rattle.program.specs.Stage.{Stage, playing, whole_records, cut_off, stage_fed, written_fed}
use Rattle.program.specs.State.{Stands}
use Rattle.program.specs.Promises.{taken_from, FedPiece}
use Rattle.program.specs.Parts.{Leaves, LeavesFed}
use Rattle.program.proofs.Lists.{stored-after}
use Rattle.program.proofs.WholeRecords.{none-whole, all-cut, cut-append, listing-on, link_on}
use Rattle.program.proofs.PlayedOn.{PlayedOne}

-- ---- lines after lines

pub same-leaves : {s t : Stage} {lines lines' out out' : List ℕ} {at : ℕ} {r : Progress} → s ≡ t → lines ≡ lines'
    → Leaves s lines out at r out' → Leaves t lines' out at r out'
same-leaves {out} {out'} {at} {r} e f h = rw (← e, ← f) h

-- these come after the first ones
pub leaves_after : {s : Stage} (first : List ℕ) {lines out out₁ out₂ : List ℕ} {at : ℕ} {r : Progress} → at ≡ length first → out₁ ≡ sets out 0 first
    → Leaves s lines out₁ at r out₂ → Leaves s (first ++ lines) out 0 r out₂
leaves_after {s} first {lines} {out} {out₁} {out₂} {at} {r} e f h =
    let long = length-append first lines in
    let same : length out₁ ≡ length out = ap length f ∙ length-sets out 0 first in
    record {
      stands = h.stands;
      written_is = omega (arith, h.written_is);
      out_is = h.out_is ∙ (λ i. sets (f i) (e i) lines) ∙ stored-after out first lines;
      room = omega (arith, h.room);
    }

-- nothing is to be written
pub leaves-silent : {s t : Stage} {lines out : List ℕ} {state : State} → s ≡ t → [] ≡ lines → Stands state s
    → Leaves t lines out 0 (record { state = state; written = 0 }) out
leaves-silent {s} {t} {lines} {out} {state} e f h =
    same-leaves {s = s} {t = t} e f (record { stands = h; written_is = omega arith; out_is = refl; room = omega arith })

-- a line that has room is to be written
pub leaves-line : {s : Stage} (line : List ℕ) {out out' : List ℕ} {state : State} {n : ℕ} → 0 + 7 ≤ length out → Written line out out' 0 n
    → Stands state s → Leaves s line out 0 (record { state = state; written = n }) out'
leaves-line {s} line {out} {out'} {state} {n} room w h = record {
  stands = h;
  written_is = w.1.0 ∙ next-in-room line out 0 room;
  out_is = w.0 ∙ out-in-room line out 0 room;
  room = omega (arith, w.1.1);
}

-- ---- a record that is cut off

module _ (l : Link) (cut piece : List ℕ) where
  -- is cut off still
  pub still-cut-off : {out : List ℕ} {state : State} → length (cut ++ piece) < 5 → Stands state (playing l (cut ++ piece))
      → LeavesFed (playing l cut) piece out 0 (record { state = state; written = 0 }) out
  unfolding stage_fed written_fed
  still-cut-off few =
      let none : whole_records (cut ++ piece) ≡ [] = none-whole (cut ++ piece) few in
      leaves-silent
      (λ i. playing ((sym (link-after-none l) ∙ ap (link_after l) (sym none)) i) (sym (all-cut (cut ++ piece) few) i))
      (sym (ap (listing l) none ∙ listing_none l))

  -- is whole, and what follows it is played on
  pub made-whole : {five : List ℕ} (rest : List ℕ) {l₁ : Link} {at : ℕ} {out out₁ out₂ : List ℕ} {r : Progress} → length five % 5 ≡ 0
      → five ++ rest ≡ cut ++ piece → PlayedOne l five out l₁ at out₁ → LeavesFed (playing l₁ []) rest out₁ at r out₂
      → LeavesFed (playing l cut) piece out 0 r out₂
  unfolding stage_fed written_fed
  made-whole {five} rest {l₁} whole is p h =
      same-leaves (λ i. playing (links i) (cuts i)) lines (leaves_after (listing l five) p.written_is p.out_is h)
    where
      links : link_after l₁ (whole_records rest) ≡ link_after l (whole_records (cut ++ piece))
      links = ap (λ m. link_after m (whole_records rest)) p.link_is ∙ sym (link_on l five rest whole) ∙ ap (λ b. link_after l (whole_records b)) is

      cuts : cut_off rest ≡ cut_off (cut ++ piece)
      cuts = sym (cut-append five rest whole) ∙ ap cut_off is

      lines : listing l five ++ listing l₁ (whole_records rest) ≡ listing l (whole_records (cut ++ piece))
      lines =
          ap (λ m. listing l five ++ listing m (whole_records rest)) p.link_is ∙ sym (listing-on l five rest whole)
          ∙ ap (λ b. listing l (whole_records b)) is

-- ---- a whole piece

pub fed-piece : (s : Stage) (piece : List ℕ) {out out' : List ℕ} {used : ℕ} {r : Progress} → used ≡ taken_from piece out
    → LeavesFed s (take used piece) out 0 r out' → FedPiece s piece out (record { state = r.state; used = used; written = r.written }) out'
fed-piece s piece e h = record { used_is = e; stands = h.stands; written_is = h.written_is ∙ zero-add _; out_is = h.out_is; room = h.room }
