-- The record of a play that starts at a place, and the call that it makes. Assumes nothing.
use Prim.Native.Nat.{ℕ, ◌+◌, ◌*◌, ◌≤◌, ◌<◌}
use mathlib.Core.Path.{◌≡◌, refl, sym, ap, ◌∙◌}
use mathlib.Core.List.{List}
use Rattle.std.specs.Prelude.{Some, None}
use Rattle.std.specs.Prelude as rust
use mathlib.Core.Option.{Option, some, none}
use mathlib.Core.Bool.{Bool, true, false, ◌&&◌, cond}
use native.Mathlib.Omega.{arith}
use lib.ListN.{length, get_or, take, drop, length-take, length-drop}
use lib.Seq.{get_or-take, get_or-drop}
use lib.Dec.{leb, eqb}
use borrow.Author.Tests.{le-leb, lt-leb, ne_eqb}
use Rattle.model.specs.Plan.{field16}
use Rattle.model.specs.Record.{RecordCall}
use Rattle.model.specs.Calls as model
use Rattle.calls.specs.declared.Call as calls
use Rattle.calls.specs.Reading.{record_for, call_in}
use Rattle.calls.proofs.Answers.{call-in}
use Rattle.imagemodel.specs.Play.{other_call}
use Rattle.nazgolv.specs.declared.Call.{Call}
use Rattle.nazgolv.specs.Calls.{call_for, call_out, found_for}

-- ---- what a record comes to, read back

call_back : (c : model.Call) → call_for (call_out c) ≡ c
call_back (model.Call.request word) = refl
call_back (model.Call.credit flow position) = refl
call_back model.Call.tick = refl
call_back (model.Call.lend mask) = refl
call_back model.Call.reset = refl

abbrev pub found_in : rust.Option Call → Option model.Call
found_in (Some c) = some (call_for c)
found_in None = none

found_back : (o : Option model.Call) → found_in (found_for o) ≡ o
found_back (some c) = ap some (call_back c)
found_back none = refl

-- the call of a record that was found, and of one that domelink has too
pub found_as : {o : Option model.Call} {r x : rust.Option Call} → r ≡ found_for o → r ≡ x → o ≡ found_in x
found_as {o} e is = sym (found_back o) ∙ ap found_in (sym e ∙ is)

pub read_as : {o : Option RecordCall} {r x : rust.Option calls.Call} → r ≡ record_for o → r ≡ x → o ≡ call_in x
read_as {o} e is = sym (call-in o) ∙ ap call_in (sym e ∙ is)

-- ---- a lend or a reset, by its kind and two fields

abbrev pub by_parts : (kind first second : ℕ) → Option model.Call
by_parts kind first second =
    cond (eqb kind 4 && eqb second 0) (some (model.Call.lend first)) (cond (eqb kind 5 && eqb (first + 65536 * second) 0) (some model.Call.reset) none)

module _ (b : List ℕ) (at : ℕ) where
  abbrev here : List ℕ
  here = take 5 (drop at b)

  pub short : length b < at + 5 → other_call here ≡ none
  unfolding other_call
  short h = rw (lt-leb 5 (length (take 5 (drop at b))) (omega (arith, length-take 5 (drop at b), length-drop at b)))

  byte : (i k : ℕ) → i < 5 → k ≡ at + i → get_or here i 0 ≡ get_or b k 0
  byte i k h e = get_or-take 5 (drop at b) i 0 h ∙ get_or-drop at b i 0 ∙ ap (λ n. get_or b n 0) (sym e)

  pair : (i k : ℕ) → i + 1 < 5 → k ≡ at + i → field16 here i ≡ field16 b k
  pair i k h e = λ j. byte i k (omega arith) e j + 256 * byte (i + 1) (k + 1) h (omega arith) j

  pub parts : at + 5 ≤ length b → other_call here ≡ by_parts (get_or b at 0) (field16 b (at + 1)) (field16 b (at + 3))
  unfolding other_call
  parts h = λ j.
      cond ((long j && eqb (kind j) 4) && eqb (second j) 0) (some (model.Call.lend (first j)))
      (cond ((long j && eqb (kind j) 5) && eqb (first j + 65536 * second j) 0) (some model.Call.reset) none)
    where
      long : leb 5 (length here) ≡ true
      long = le-leb 5 (length here) (omega (arith, length-take 5 (drop at b), length-drop at b))

      kind : get_or here 0 0 ≡ get_or b at 0
      kind = byte 0 at (omega arith) (omega arith)

      first : field16 here 1 ≡ field16 b (at + 1)
      first = pair 1 (at + 1) (omega arith) refl

      second : field16 here 3 ≡ field16 b (at + 3)
      second = pair 3 (at + 3) (omega arith) refl

module _ (kind first second : ℕ) where
  -- its fillers are not 0
  pub filled : (second ≡ 0 → ⊥) → by_parts kind first second ≡ none
  filled d = rw (ne_eqb second 0 d, ne_eqb (first + 65536 * second) 0 (λ z. d (omega arith))) (go (eqb kind 4) (eqb kind 5))
    where
      go : (x y : Bool) → cond (x && false) (some (model.Call.lend first)) (cond (y && false) (some model.Call.reset) none) ≡ none
      go true true = refl
      go true false = refl
      go false true = refl
      go false false = refl

  pub is-lend : kind ≡ 4 → second ≡ 0 → by_parts kind first second ≡ some (model.Call.lend first)
  is-lend k s = rw (k, s) refl

  pub other-kind : (kind ≡ 4 → ⊥) → (kind ≡ 5 → ⊥) → by_parts kind first second ≡ none
  other-kind k l = rw (ne_eqb kind 4 k, ne_eqb kind 5 l) refl

  pub no_reset : kind ≡ 5 → (first ≡ 0 → ⊥) → by_parts kind first second ≡ none
  no_reset k d = rw (k, ne_eqb (first + 65536 * second) 0 (λ z. d (omega arith))) refl

  pub is-reset : kind ≡ 5 → first ≡ 0 → second ≡ 0 → by_parts kind first second ≡ some model.Call.reset
  is-reset k f s = rw (k, f, s) refl
