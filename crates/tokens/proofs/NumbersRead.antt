-- Numbers read one by one: what is read before a place, and one field more. Assumes nothing.
use Prim.Native.Nat.{ℕ, ◌+◌, ◌-◌, ◌≤◌, ◌<◌}
use mathlib.Core.Path.{◌≡◌, refl, sym, ap, ◌∙◌}
use mathlib.Core.List.{List, ◌∷◌, [], ◌++◌, append-nil, append_assoc}
use native.Mathlib.Nat.{add-zero, zero-add, add_assoc}
use native.Mathlib.Omega.{arith}
use lib.ListN.{length, get_or, take, drop, set, length-append, length-drop, drop_of_length-le}
use lib.Seq.{sets, drop-drop, get_or-drop}
use Rattle.calls.proofs.Stores.{sets-append}
use Rattle.tokens.specs.declared.Fault.{Fault}
use Rattle.std.proofs.Common.{Result, Ok, Err}
use Rattle.tokens.specs.Pieces.{pieces, tail, fields_of, piece_length}
use Rattle.tokens.specs.Decimal.{number_of, number_then, numbers_in, more, found_then, found_in}
use Rattle.tokens.proofs.FirstPiece.{first_piece, piece-within, piece-before-space, after-space}

-- ---- so many numbers more

more-none : (f : Result ℕ Fault) → more 0 f ≡ f
more-none (Ok n) = ap Ok (zero-add n)
more-none (Err fault) = refl

more-more : (k : ℕ) (f : Result ℕ Fault) → more (k + 1) f ≡ more k (more 1 f)
more-more k (Ok n) = ap Ok (add_assoc k 1 n)
more-more k (Err fault) = refl

-- ---- what is read before a place of the line, at which a space stands, or the line's end

pub record ReadTo (line kept₀ kept : List ℕ) (count at : ℕ) : Type 0 where
  pub before : List ℕ
  pub many : count ≡ length before
  pub kept_are : kept ≡ sets kept₀ 0 before
  pub numbers : numbers_in (fields_of line) ≡ before ++ numbers_in (fields_of (drop at line))
  pub found : found_in (fields_of line) ≡ more count (found_in (fields_of (drop at line)))
  pub on_space : at < length line → get_or line at 0 ≡ 32
  pub inside : at ≤ length line
  pub fewer : count ≤ at

-- where a piece ends that starts at a place of the line
module _ (line : List ℕ) (from end : ℕ) (start : from ≤ length line) (ends : end ≡ from + piece_length (drop from line)) where
  pub end-inside : end ≤ length line
  end-inside = omega (arith, ends, piece-within (drop from line), length-drop from line)

  pub end-on-space : end < length line → get_or line end 0 ≡ 32
  end-on-space h =
      let there = piece-before-space (drop from line) (omega (arith, ends, length-drop from line)) in
      ap (λ k. get_or line k 0) ends ∙ sym (get_or-drop from line (piece_length (drop from line)) 0) ∙ there

  first-from : pieces (drop from line) ≡ take (end - from) (drop from line) ∷ fields_of (drop end line)
  first-from =
      let long : piece_length (drop from line) ≡ end - from = omega (arith, ends) in
      first_piece (drop from line)
      ∙ (λ i. take (long i) (drop from line) ∷ fields_of (drop-drop (piece_length (drop from line)) from line i))
      ∙ ap (λ k. take (end - from) (drop from line) ∷ fields_of (drop k line)) (sym ends)

-- after the line's word
pub none_read : (line kept : List ℕ) (at : ℕ) → at ≡ 0 + piece_length line → ReadTo line kept kept 0 at
none_read line kept at ends =
    let fields : fields_of line ≡ fields_of (drop at line) = ap tail (first-from line 0 at (omega arith) ends) in
    record {
      before = [];
      many = refl;
      kept_are = refl;
      numbers = ap numbers_in fields;
      found = ap found_in fields ∙ sym (more-none (found_in (fields_of (drop at line))));
      on_space = end-on-space line 0 at (omega arith) ends;
      inside = end-inside line 0 at (omega arith) ends;
      fewer = omega arith;
    }

module _ {line kept₀ kept : List ℕ} {count at : ℕ} (s : ReadTo line kept₀ kept count at) where
  -- the next field
  module _ (h : at < length line) (end : ℕ) (ends : end ≡ at + 1 + piece_length (drop (at + 1) line)) where
    abbrev field : List ℕ
    field = take (end - (at + 1)) (drop (at + 1) line)

    fields-there : fields_of (drop at line) ≡ field ∷ fields_of (drop end line)
    fields-there = after-space line at h (s.on_space h) ∙ first-from line (at + 1) end (omega arith) ends

    pub field-ends : (at + 1 ≤ end) × (end ≤ length line)
    field-ends = (omega (arith, ends), end-inside line (at + 1) end (omega arith) ends)

    pub one-read : {n : ℕ} → Ok n ≡ number_of field → ReadTo line kept₀ (set kept count n) (count + 1) end
    unfolding numbers_in found_in
    one-read {n} e = record {
      before = s.before ++ (n ∷ []);
      many = omega (arith, s.many, length-append s.before (n ∷ []));
      kept_are =
          ap (λ l. set l count n) s.kept_are ∙ ap (λ k. set (sets kept₀ 0 s.before) k n) (omega (arith, s.many))
          ∙ sets-append kept₀ 0 s.before (n ∷ []);
      numbers =
          s.numbers ∙ ap (λ fs. s.before ++ numbers_in fs) fields-there
          ∙ ap (λ x. s.before ++ number_then x (numbers_in (fields_of (drop end line)))) (sym e)
          ∙ sym (append_assoc s.before (n ∷ []) (numbers_in (fields_of (drop end line))));
      found =
          s.found ∙ ap (λ fs. more count (found_in fs)) fields-there
          ∙ ap (λ x. more count (found_then x (found_in (fields_of (drop end line))))) (sym e)
          ∙ sym (more-more count (found_in (fields_of (drop end line))));
      on_space = end-on-space line (at + 1) end (omega arith) ends;
      inside = field-ends.1;
      fewer = omega (arith, s.fewer, field-ends.0);
    }

    -- a field that is no number
    pub wrong-read : {fault : Fault} → Err fault ≡ number_of field
        → (Err fault ≡ found_in (fields_of line)) × (kept ≡ sets kept₀ 0 (numbers_in (fields_of line)))
    unfolding numbers_in found_in
    wrong-read {fault} e =
        let none = s.numbers ∙ ap (λ fs. s.before ++ numbers_in fs) fields-there
        ∙ ap (λ x. s.before ++ number_then x (numbers_in (fields_of (drop end line)))) (sym e) ∙ append-nil s.before in (
          sym (s.found ∙ ap (λ fs. more count (found_in fs)) fields-there ∙ ap (λ x. more count (found_then x (found_in (fields_of (drop end line))))) (sym e)),
          s.kept_are ∙ ap (sets kept₀ 0) (sym none),
        )

  -- the line's end
  pub all_read : length line ≤ at → (Ok count ≡ found_in (fields_of line)) × (kept ≡ sets kept₀ 0 (numbers_in (fields_of line)))
  unfolding numbers_in found_in pieces
  all_read h =
      let rest : fields_of (drop at line) ≡ [] = ap fields_of (drop_of_length-le line h) in
      let none = s.numbers ∙ ap (λ fs. s.before ++ numbers_in fs) rest ∙ append-nil s.before in (
        sym (s.found ∙ ap (λ fs. more count (found_in fs)) rest ∙ ap Ok (add-zero count)),
        s.kept_are ∙ ap (sets kept₀ 0) (sym none),
      )
