-- Whole records played into a part of `out`, and the bytes after them kept. Assumes nothing.
use Prim.Native.Nat.{ℕ, ◌+◌, ◌-◌, ◌*◌, ◌/◌, ◌≤◌, ◌<◌}
use mathlib.Core.Path.{◌≡◌, ap, ◌∙◌, subst}
use mathlib.Core.List.{List, [], ◌++◌, append-nil}
use native.Mathlib.Nat.{add-zero}
use native.Mathlib.Omega.{arith}
use lib.ListN.{length, take, drop, length-drop, drop_of_length-le}
use lib.Seq.{sets, take_all}
use Rattle.model.specs.Link.{Link}
use Rattle.model.specs.Listing.{listing, link_after}
use Rattle.playback.specs.Playback.{PlayedRecords}
use Rattle.program.specs.declared.Kept.{Kept}
use Rattle.program.specs.declared.State.{State}
use Rattle.program.specs.Stage.{playing, whole_records, cut_off, stage_fed, written_fed}
use Rattle.program.specs.State.{bytes_in, Keeps, Stands}
use Rattle.program.specs.Parts.{Leaves}
use Rattle.program.proofs.Lists.{part-behind, stored-behind}
use Rattle.program.proofs.KeptBytes.{bytes_back}

-- the part of `out` from a place on
abbrev pub part_of : (out : List ℕ) → ℕ → List ℕ
part_of out at = take (length out - at) (drop at out)

-- `out` with such a part put back
abbrev pub put_back : (out : List ℕ) → ℕ → (part : List ℕ) → List ℕ
put_back out at part = take at out ++ (part ++ drop (length out - at) (drop at out))

-- every whole record is played, and its lines stand in `out` from `at` on
pub record PlayedOn (l : Link) (bytes out : List ℕ) (at : ℕ) (l' : Link) (used written : ℕ) (out' : List ℕ) : Type 0 where
  pub used_is : used ≡ 5 * (length bytes / 5)
  pub link_is : l' ≡ link_after l (whole_records bytes)
  pub written_is : written ≡ length (listing l (whole_records bytes))
  pub out_is : out' ≡ sets out at (listing l (whole_records bytes))
  pub seven_most : written ≤ 7 * (length bytes / 5)

module _ {l : Link} {bytes out : List ℕ} {at : ℕ} {l' : Link} {used written : ℕ} {part' : List ℕ} where
  pub played-on : at + 7 * (length bytes / 5) ≤ length out → PlayedRecords l bytes (part_of out at) l' used written part'
      → PlayedOn l bytes out at l' used written (put_back out at part')
  played-on room p =
      let part-is : part_of out at ≡ drop at out = part-behind at out in
      let long : length (part_of out at) ≡ length out - at = ap length part-is ∙ length-drop at out in
      let all : used ≡ 5 * (length bytes / 5) = omega (arith, p.used_is, long) in
      let lines = listing l (whole_records bytes) in
      let stored : part' ≡ sets (drop at out) 0 lines = p.out_is ∙ (λ i. sets (part-is i) 0 (listing l (take (all i) bytes))) in
      let none-behind : drop (length out - at) (drop at out) ≡ [] =
      drop_of_length-le (drop at out) {i = length out - at} (omega (arith, length-drop at out)) in
      record {
        used_is = all;
        link_is = p.link_is ∙ ap (λ n. link_after l (take n bytes)) all;
        written_is = p.written_is ∙ ap (λ n. length (listing l (take n bytes))) all;
        out_is =
            ap (λ x. take at out ++ (part' ++ x)) none-behind ∙ ap (take at out ++◌) (append-nil part' ∙ stored)
            ∙ stored-behind at 0 out lines ∙ ap (λ n. sets out n lines) (add-zero at);
        seven_most = omega (arith, p.seven_most);
      }

-- one record, played at the start of `out`
pub record PlayedOne (l : Link) (five out : List ℕ) (l' : Link) (written : ℕ) (out' : List ℕ) : Type 0 where
  pub link_is : l' ≡ link_after l five
  pub written_is : written ≡ length (listing l five)
  pub out_is : out' ≡ sets out 0 (listing l five)
  pub seven_most : written ≤ 7

pub played-one : {l : Link} {bytes five out : List ℕ} {l' : Link} {used written : ℕ} {out' : List ℕ} → bytes ≡ five → length five ≡ 5 → 7 ≤ length out
    → PlayedRecords l bytes out l' used written out' → PlayedOne l five out l' written out'
played-one {l} {bytes} {five} {out} {l'} {used} {written} same long room p =
    let long' : length bytes ≡ 5 = ap length same ∙ long in
    let one : used ≡ 5 = omega (arith, p.used_is) in
    let all : take used bytes ≡ five = take_all used bytes (omega arith) ∙ same in
    record {
      link_is = p.link_is ∙ ap (link_after l) all;
      written_is = p.written_is ∙ ap (λ x. length (listing l x)) all;
      out_is = p.out_is ∙ ap (λ x. sets out 0 (listing l x)) all;
      seven_most = omega (arith, p.seven_most);
    }

-- what playing on leaves
pub left-playing : {l : Link} {bytes out : List ℕ} {at : ℕ} {l' : Link} {used written : ℕ} {out' cut : List ℕ} {state : State}
    → at + 7 * (length bytes / 5) ≤ length out → PlayedOn l bytes out at l' used written out' → cut ≡ cut_off bytes → Stands state (playing l' cut)
    → Leaves (stage_fed (playing l []) bytes) (written_fed (playing l []) bytes) out at (record { state = state; written = at + written }) out'
unfolding stage_fed written_fed
left-playing {at} room p cut-is stands = record {
  stands = record { stage_is = stands.stage_is ∙ (λ i. playing (p.link_is i) (cut-is i)); regular = stands.regular };
  written_is = ap (at +◌) p.written_is;
  out_is = p.out_is;
  room = omega (arith, p.seven_most);
}

-- the bytes behind the whole records, kept
pub kept-behind : {none kept : Kept} (bytes : List ℕ) {used : ℕ} → Keeps none [] → used ≡ 5 * (length bytes / 5)
    → Keeps kept (bytes_in none ++ take (5 - none.count) (take (length bytes - used) (drop used bytes))) → Keeps kept (cut_off bytes)
kept-behind {none} {kept} bytes {used} n u k = subst (Keeps kept) same k
  where
    few : length (drop used bytes) < 5
    few = omega (arith, length-drop used bytes)

    same : bytes_in none ++ take (5 - none.count) (take (length bytes - used) (drop used bytes)) ≡ cut_off bytes
    same =
        (λ i. bytes_back n i ++ take (5 - n.count_is i) (take (length bytes - used) (drop used bytes)))
        ∙ ap (take (5 - 0)) (part-behind used bytes)
        ∙ take_all (5 - 0) (drop used bytes) (omega (arith, few)) ∙ ap (λ m. drop m bytes) u
