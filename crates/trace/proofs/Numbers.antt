-- Numbers with a blank before each, and lines, written one after another. Assumes nothing.
use Prim.Native.Nat.{ℕ, ◌+◌, ◌*◌, ◌≤◌, ◌<◌}
use mathlib.Core.Path.{◌≡◌, refl, sym, ap, ◌∙◌}
use mathlib.Core.List.{List, ◌∷◌, [], ◌++◌, flat_map, append-nil, append_assoc}
use native.Mathlib.Nat.{add-zero}
use native.Mathlib.Numerals.{add-one}
use native.Mathlib.Omega.{arith}
use lib.ListN.{length, get_or, set, take}
use lib.Seq.{take-suc, take-length}
use Rattle.model.specs.Tables.{table}
use Rattle.model.proofs.Tables.{table-append}
use Rattle.calls.specs.Lines.{Puts}
use Rattle.calls.proofs.Stores.{puts_none, puts_one, puts_then, puts-same}
use Rattle.replies.specs.Lines.{spaced}
use Rattle.trace.specs.Trace.{line_of}
use Rattle.trace.specs.Written.{Lines}

pub flat_append : {A : Type 0} (g : A → List ℕ) (xs ys : List A) → flat_map g (xs ++ ys) ≡ flat_map g xs ++ flat_map g ys
unfolding flat_map
flat_append g [] ys = refl
flat_append g (x ∷ xs) ys = ap (g x ++◌) (flat_append g xs ys) ∙ sym (append_assoc (g x) (flat_map g xs) (flat_map g ys))

-- one element more
pub flat-more : {A : Type 0} (g : A → List ℕ) (xs : List A) (x : A) → flat_map g (xs ++ (x ∷ [])) ≡ flat_map g xs ++ g x
unfolding flat_map
flat-more g xs x = flat_append g xs (x ∷ []) ∙ ap (flat_map g xs ++◌) (append-nil (g x))

-- ---- the first k of some numbers

pub record NumbersTo (numbers before after : List ℕ) (at next k : ℕ) : Type 0 where
  pub most : k ≤ length numbers
  pub puts : Puts (flat_map spaced (take k numbers)) before after at next
  pub short : next ≤ at + 21 * k

pub no-numbers : (numbers out : List ℕ) (at : ℕ) → NumbersTo numbers out out at at 0
unfolding flat_map
no-numbers numbers out at = record { most = omega arith; puts = puts_none out at; short = omega arith }

module _ {numbers before middle : List ℕ} {at next k : ℕ} (v : NumbersTo numbers before middle at next k) where
  pub one_number : k < length numbers → {after : List ℕ} {last : ℕ} → Puts (spaced (get_or numbers k 0)) middle after next last → last ≤ next + 21
      → NumbersTo numbers before after at last (k + 1)
  one_number h p short = record {
    most = omega arith;
    puts =
        puts-same
        (sym (flat-more spaced (take k numbers) (get_or numbers k 0))
        ∙ ap (flat_map spaced) (sym (take-suc numbers k 0 h) ∙ ap (λ j. take j numbers) (sym (add-one k))))
        (puts_then v.puts p);
    short = omega (arith, v.short);
  }

  pub all-numbers : length numbers ≤ k → Lines (flat_map spaced numbers) before middle at next (21 * length numbers)
  all-numbers h =
      let z : k ≡ length numbers = omega (arith, v.most) in
      record {
        put = puts-same (ap (λ j. flat_map spaced (take j numbers)) z ∙ ap (flat_map spaced) (take-length numbers)) v.puts;
        short = omega (arith, v.short, z);
      }

-- ---- a line

pub one_line : (letter : ℕ) (numbers out : List ℕ) (at : ℕ) {after : List ℕ} {last most : ℕ}
    → Lines (flat_map spaced numbers) (set out at letter) after (at + 1) last most
    → Lines (line_of letter numbers) out (set after last 10) at (last + 1) (most + 2)
unfolding line_of
one_line letter numbers out at {after} {last} {most} v = record {
  put = puts_then (puts_one letter out at) (puts_then v.put (puts_one 10 after last));
  short = omega (arith, v.short);
}

-- ---- lines, said in another way or with more room

pub lines-as : {xs ys before after : List ℕ} {at next m m' : ℕ} → xs ≡ ys → m ≤ m' → Lines xs before after at next m → Lines ys before after at next m'
lines-as e h v = record { put = puts-same e v.put; short = omega (arith, v.short) }

pub lines_then : {xs ys before middle after : List ℕ} {at next last m n : ℕ}
    → Lines xs before middle at next m → Lines ys middle after next last n → Lines (xs ++ ys) before after at last (m + n)
lines_then v u = record { put = puts_then v.put u.put; short = omega (arith, v.short, u.short) }

-- the line of an answer, whose numbers come in three parts
pub answer_line : (letter number value : ℕ) (call told out : List ℕ) (at : ℕ) {after : List ℕ} {last most : ℕ}
    → Lines (flat_map spaced (number ∷ value ∷ []) ++ flat_map spaced call ++ flat_map spaced told) (set out at letter) after (at + 1) last most
    → Lines (line_of letter (number ∷ value ∷ call ++ told)) out (set after last 10) at (last + 1) (most + 2)
answer_line letter number value call told out at v =
    let said : List ℕ = number ∷ value ∷ [] in
    let joined = ap (λ (xs : List ℕ). xs ++ flat_map spaced told) (sym (flat_append spaced said call)) ∙ sym (flat_append spaced (said ++ call) told) in
    one_line letter (said ++ call ++ told) out at (lines-as joined (omega arith) v)

-- ---- the lines of the first i of n things, 86 bytes at most for each of them

table_more : {A : Type 0} (n : ℕ) (f : ℕ → A) → table (n + 1) f ≡ table n f ++ (f n ∷ [])
table_more n f = table-append n 1 f ∙ ap (λ k. table n f ++ (f k ∷ [])) (add-zero n)

pub record LinesTo {A : Type 0} (g : A → List ℕ) (f : ℕ → A) (n : ℕ) (before after : List ℕ) (at next i : ℕ) : Type 0 where
  pub to : i ≤ n
  pub put : Puts (flat_map g (table i f)) before after at next
  pub short : next ≤ at + 86 * i

module _ {A : Type 0} {g : A → List ℕ} {f : ℕ → A} {n : ℕ} {before : List ℕ} {at : ℕ} where
  pub no_lines : LinesTo g f n before before at at 0
  unfolding flat_map
  no_lines = record { to = omega arith; put = puts_none before at; short = omega arith }

  module _ {middle : List ℕ} {next i : ℕ} (v : LinesTo g f n before middle at next i) where
    pub line-more : i < n → {after : List ℕ} {last : ℕ} → Lines (g (f i)) middle after next last 86 → LinesTo g f n before after at last (i + 1)
    line-more h u = record {
      to = omega arith;
      put = puts-same (sym (flat-more g (table i f) (f i)) ∙ ap (flat_map g) (sym (table_more i f))) (puts_then v.put u.put);
      short = omega (arith, v.short, u.short);
    }

    pub all_lines : n ≤ i → n ≤ 16 → Lines (flat_map g (table n f)) before middle at next 1376
    all_lines h few =
        let z : i ≡ n = omega (arith, v.to) in
        record { put = puts-same (ap (λ j. flat_map g (table j f)) z) v.put; short = omega (arith, v.short, z) }
