-- Bytes of a piece fed one by one. Assumes nothing.
use Prim.Native.Nat.{ℕ, suc, ◌+◌, ◌-◌, ◌≤◌, ◌<◌}
use mathlib.Core.Path.{◌≡◌, refl, sym, ap, ◌∙◌}
use mathlib.Core.List.{List, ◌∷◌, [], ◌++◌, append_assoc, append-nil}
use mathlib.Core.Bool.{Bool, true, false, cond}
use native.Mathlib.Nat.{zero-add, sub-zero}
use native.Mathlib.Numerals.{add-one}
use native.Mathlib.Omega.{arith}
use lib.ListN.{length, get_or, take, drop, set, length-set, length-drop, drop_of_length-le}
use lib.Seq.{sets, sets-eq, length-sets, take-suc, take-suc-set, take_all, length-take-le, drop-drop}
use lib.Dec.{ltb}
use borrow.Author.Tests.{lt-ltb, le-ltb, eq-eqb, ne_eqb}
use Rattle.calls.specs.Lines.{Puts}
use Rattle.calls.proofs.Stores.{puts_none, puts_then, puts-same}
use Rattle.tokens.proofs.FromPlace.{from_place}
use Rattle.replies.specs.Lines.{room, Says}
use Rattle.questions.specs.declared.State.{State}
use Rattle.questions.specs.declared.Progress.{Progress}
use Rattle.questions.specs.Answers.{answer_of}
use Rattle.questions.specs.Feeding.{kept, line_with, said_with, line_fed, said_fed, taken_from}
use Rattle.questions.specs.Promises.{line_of, Holds, Regular, Stands, FedPiece}
use Rattle.questions.specs.Parts.{Keeps, TakesByte}

-- ---- states

-- a state that stands at some line is regular
pub stands-regular : {s : State} {line : List ℕ} → Stands s line → Regular s
stands-regular h = record { long = h.long; most = h.most; line_is = refl }

-- ---- a byte that is kept

module _ (bytes : List ℕ) (count b : ℕ) (k : Keeps bytes count) where
  line-long : length (take count bytes) ≡ count
  line-long = length-take-le count bytes (omega (arith, k.long, k.most))

  pub one_kept : count < 4001 → Holds (set bytes count b) (count + 1) (kept (take count bytes) b)
  unfolding kept
  one_kept h = record {
    long = length-set bytes count b ∙ k.long;
    most = omega arith;
    line_is =
        ap (λ k. take k (set bytes count b)) (add-one count) ∙ take-suc-set bytes count b (omega (arith, k.long))
        ∙ sym (rw (lt-ltb (length (take count bytes)) 4001 (omega (arith, line-long))));
  }

  pub none_kept : 4001 ≤ count → Holds bytes count (kept (take count bytes) b)
  unfolding kept
  none_kept h = record {
    long = k.long;
    most = k.most;
    line_is = sym (rw (le-ltb (length (take count bytes)) 4001 (omega (arith, line-long))));
  }

-- ---- an answer that is put from a place on

-- the part of `out` from a place on
abbrev pub part_of : (out : List ℕ) → ℕ → List ℕ
part_of out at = take (length out - at) (drop at out)

-- `out` with such a part put back
abbrev pub put_back : (out : List ℕ) → ℕ → (part : List ℕ) → List ℕ
put_back out at part = take at out ++ (part ++ drop (length out - at) (drop at out))

-- what is said at the start of a part is put there
pub says_on : {answer out part : List ℕ} {at count : ℕ} → at ≤ length out → Says answer (part_of out at) part count
    → Puts answer out (put_back out at part) at (at + count)
says_on {answer} {out} {part} {at} {count} inside s =
    let part-is : part_of out at ≡ drop at out = take_all (length out - at) (drop at out) (omega (arith, length-drop at out)) in
    let fits : at + length answer ≤ length out = omega (arith, s.many, s.fits, ap length part-is, length-drop at out) in
    let none-behind : drop (length out - at) (drop at out) ≡ [] =
    drop_of_length-le (drop at out) {i = length out - at} (omega (arith, length-drop at out)) in
    let front : part ≡ answer ++ drop (0 + length answer) (drop at out) =
    s.stored ∙ ap (λ l. sets l 0 answer) part-is ∙ sets-eq answer (drop at out) 0 (omega (arith, length-drop at out)) in
    let behind : drop (0 + length answer) (drop at out) ≡ drop (at + length answer) out =
    ap (λ n. drop n (drop at out)) (zero-add (length answer)) ∙ drop-drop (length answer) at out in
    let stored : put_back out at part ≡ sets out at answer =
    ap (λ x. take at out ++ (part ++ x)) none-behind ∙ ap (take at out ++◌) (append-nil part ∙ front ∙ ap (answer ++◌) behind)
    ∙ sym (append_assoc (take at out) answer (drop (at + length answer) out)) ∙ sym (sets-eq answer out at fits) in
    record { stored = stored; up_to = ap (at +◌) s.many; length_stays = ap length stored ∙ length-sets out at answer }

-- ---- a newline, and another byte

module _ (line : List ℕ) (b : ℕ) where
  pub ended-line : b ≡ 10 → [] ≡ line_with line b
  unfolding line_with
  ended-line e = rw (eq-eqb b 10 e)

  pub ended-said : b ≡ 10 → answer_of line ≡ said_with line b
  unfolding said_with
  ended-said e = rw (eq-eqb b 10 e)

  pub on_line : (b ≡ 10 → ⊥) → kept line b ≡ line_with line b
  unfolding line_with
  on_line n = rw (ne_eqb b 10 n)

  pub on-said : (b ≡ 10 → ⊥) → [] ≡ said_with line b
  unfolding said_with
  on-said n = rw (ne_eqb b 10 n)

-- ---- a piece in two parts

pub line-append : (line p q : List ℕ) → line_fed line (p ++ q) ≡ line_fed (line_fed line p) q
unfolding line_fed
line-append line [] q = refl
line-append line (b ∷ p) q = line-append (line_with line b) p q

pub said-append : (line p q : List ℕ) → said_fed line (p ++ q) ≡ said_fed line p ++ said_fed (line_fed line p) q
unfolding line_fed said_fed
said-append line [] q = refl
said-append line (b ∷ p) q =
    ap (said_with line b ++◌) (said-append (line_with line b) p q) ∙ sym (append_assoc (said_with line b) (said_fed (line_with line b) p) _)

-- ---- how many bytes are taken

pub taken-most : (line piece : List ℕ) (left : ℕ) → taken_from line piece left ≤ length piece
unfolding taken_from
taken-most line [] left = omega arith
taken-most line (b ∷ rest) left = go (ltb left room) (taken-most (line_with line b) rest (left - length (said_with line b)))
  where
    go : (t : Bool) → taken_from (line_with line b) rest (left - length (said_with line b)) ≤ length rest
        → cond t 0 (suc (taken_from (line_with line b) rest (left - length (said_with line b)))) ≤ suc (length rest)
    go true h = omega arith
    go false h = omega arith

-- with room for an answer some byte is taken
pub some-taken : (line piece : List ℕ) (left : ℕ) → room ≤ left → 0 < length piece → 0 < taken_from line piece left
unfolding taken_from
some-taken line [] left h l = absurd (omega arith)
some-taken line (b ∷ rest) left h l = rw (le-ltb left room h) (omega arith)

module _ (line p : List ℕ) (i left : ℕ) where
  pub none-taken : left < room → taken_from line (drop i p) left ≡ 0
  unfolding taken_from
  none-taken h = go (drop i p)
    where
      go : (l : List ℕ) → taken_from line l left ≡ 0
      go [] = refl
      go (b ∷ l) = rw (lt-ltb left room h)

  pub none_there : length p ≤ i → taken_from line (drop i p) left ≡ 0
  unfolding taken_from
  none_there h = ap (λ l. taken_from line l left) (drop_of_length-le p h)

  pub one-taken : room ≤ left → i < length p
      → taken_from line (drop i p) left ≡ suc (taken_from (line_with line (get_or p i 0)) (drop (i + 1) p) (left - length (said_with line (get_or p i 0))))
  unfolding taken_from
  one-taken h l = ap (λ x. taken_from line x left) (from_place p i l) ∙ rw (le-ltb left room h)

-- ---- the bytes before a place are fed

pub record FedTo (line piece out₀ bytes out : List ℕ) (count used written : ℕ) : Type 0 where
  pub most : used ≤ length piece
  pub holds : Holds bytes count (line_fed line (take used piece))
  pub puts : Puts (said_fed line (take used piece)) out₀ out 0 written
  pub fits : written ≤ length out₀
  pub rest : used + taken_from (line_fed line (take used piece)) (drop used piece) (length out₀ - written) ≡ taken_from line piece (length out₀)

pub none-fed : (s : State) (piece out : List ℕ) → Regular s → FedTo (line_of s) piece out s.bytes out s.count 0 0
unfolding line_fed said_fed
none-fed s piece out r = record { most = omega arith; holds = r; puts = puts_none out 0; fits = omega arith; rest = zero-add _ ∙ ap (taken_from (line_of s) piece) (sub-zero (length out)) }

module _ {line piece out₀ bytes out : List ℕ} {count used written : ℕ} (s : FedTo line piece out₀ bytes out count used written) where
  abbrev so_far : List ℕ
  so_far = line_fed line (take used piece)

  abbrev byte : ℕ
  byte = get_or piece used 0

  abbrev said : List ℕ
  said = said_fed line (take used piece)

  module _ (l : used < length piece) where
    one-longer : take used piece ++ (byte ∷ []) ≡ take (used + 1) piece
    one-longer = sym (take-suc piece used 0 l) ∙ ap (λ k. take k piece) (sym (add-one used))

    line-more : line_with so_far byte ≡ line_fed line (take (used + 1) piece)
    unfolding line_fed
    line-more = sym (line-append line (take used piece) (byte ∷ [])) ∙ ap (line_fed line) one-longer

    said_more : said ++ said_with so_far byte ≡ said_fed line (take (used + 1) piece)
    unfolding said_fed
    said_more =
        ap (said ++◌) (sym (append-nil (said_with so_far byte))) ∙ sym (said-append line (take used piece) (byte ∷ [])) ∙ ap (said_fed line) one-longer

    pub one-fed : {bytes' out' : List ℕ} {r : Progress} → room ≤ length out - written → TakesByte (take count bytes) byte out written r bytes' out'
        → FedTo line piece out₀ bytes' out' r.count (used + 1) r.written
    one-fed {bytes'} {out'} {r} h took =
        let is = s.holds.line_is in
        let holds = took.holds in
        let written' = r.written in
        let long = s.puts.length_stays in
        let said-now = said_with so_far byte in
        let puts-now : Puts said-now out out' written written' = puts-same (ap (λ x. said_with x byte) is) took.puts in
        let left : length out₀ - written - length said-now ≡ length out₀ - written' = omega (arith, puts-now.up_to) in
        record {
          most = omega arith;
          holds = record { long = holds.long; most = holds.most; line_is = holds.line_is ∙ ap (λ x. line_with x byte) is ∙ line-more };
          puts = puts-same said_more (puts_then s.puts puts-now);
          fits = omega (arith, long, took.fits);
          rest =
              ap (λ x. used + 1 + taken_from x (drop (used + 1) piece) (length out₀ - written')) (sym line-more)
              ∙ ap (λ n. used + 1 + taken_from (line_with so_far byte) (drop (used + 1) piece) n) (sym left)
              ∙ omega (arith, one-taken so_far piece used (length out₀ - written) (omega (arith, long)) l, s.rest);
        }

  -- the piece's end, or no room for one more answer
  pub all-fed : taken_from so_far (drop used piece) (length out₀ - written) ≡ 0
      → FedPiece line piece out₀ (record { state = record { bytes = bytes; count = count }; used = used; written = written }) out
  all-fed none = record {
    used_is = omega (arith, s.rest, none);
    stands = s.holds;
    written_is = s.puts.up_to ∙ zero-add (length said);
    out_is = s.puts.stored;
    room = s.fits;
  }

  pub at-end : length piece ≤ used → FedPiece line piece out₀ (record { state = record { bytes = bytes; count = count }; used = used; written = written }) out
  at-end h = all-fed (none_there so_far piece used (length out₀ - written) h)

  pub no_room : length out - written < room → FedPiece line piece out₀ (record { state = record { bytes = bytes; count = count }; used = used; written = written }) out
  no_room h = all-fed (none-taken so_far piece used (length out₀ - written) (omega (arith, s.puts.length_stays)))
