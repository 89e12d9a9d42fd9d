-- Records played on an image: on the image of a link they are played on the link, and their numbers stand in the bytes. RULES 12.8. Assumes nothing.
use Prim.Native.Nat.{ℕ, zero, suc, ◌+◌, ◌*◌, ◌/◌, ◌%◌, ◌≤◌, ◌<◌}
use mathlib.Core.Path.{◌≡◌, refl, sym, ap, ◌∙◌}
use mathlib.Core.List.{List, ◌∷◌, [], ◌++◌, flat_map, append-nil, append_assoc}
use mathlib.Core.Option.{Option, some, none}
use native.Mathlib.Omega.{arith}
use lib.ListN.{length, take, drop}
use lib.Seq.{sets, sets-eq}
use borrow.Author.Tests.{ltb-false}
use Rattle.model.specs.Refusals.{first_of}
use Rattle.model.specs.WrittenPlan.{AllBytes}
use Rattle.model.specs.Record.{records}
use Rattle.model.specs.Calls.{Call}
use Rattle.model.specs.Link.{Link}
use Rattle.model.proofs.Tests.{line-passed}
use Rattle.imagemodel.specs.Image.{fields, image_length, image_of, link_in}
use Rattle.imagemodel.specs.Consistent.{Keepable}
use Rattle.imagemodel.specs.ValidImage.{refusal_of, ValidImage}
use Rattle.imagemodel.specs.Exports.{Called, written_to}
use Rattle.imagemodel.specs.Play.{call_of, record_on, Results, one_by_one, eight, play_tests, played_back, play_on, PlaysBack, made_on, in_order, number_at, numbers_in}
use Rattle.imagemodel.proofs.Closed.{KeptAfter}
use Rattle.imagemodel.proofs.ImageValid.{read_kept}
use Rattle.imagemodel.proofs.Exports.{done-kept, on-image, same-buffer}
use Rattle.imagemodel.proofs.Chain.{line-of-refusal}

-- ---- the records of a stream

pub records-count : (xs : List ℕ) → length (records xs) ≡ (length xs + 4) / 5
unfolding records
records-count [] = refl
records-count (a ∷ []) = refl
records-count (a ∷ b ∷ []) = refl
records-count (a ∷ b ∷ c ∷ []) = refl
records-count (a ∷ b ∷ c ∷ d ∷ []) = refl
records-count (a ∷ b ∷ c ∷ d ∷ e ∷ rest) = omega (arith, records-count rest)

pub first-record : (xs : List ℕ) → 0 < length xs → records xs ≡ take 5 xs ∷ records (drop 5 xs)
unfolding records
first-record [] h = absurd (omega arith)
first-record (a ∷ []) h = refl
first-record (a ∷ b ∷ []) h = refl
first-record (a ∷ b ∷ c ∷ []) h = refl
first-record (a ∷ b ∷ c ∷ d ∷ []) h = refl
first-record (a ∷ b ∷ c ∷ d ∷ e ∷ rest) h = refl

-- ---- on the image of a link

made_kept : {l : Link} → Keepable l → (o : Option Call) → KeptAfter l (made_on l o).link
made_kept v (some c) = done-kept v c
made_kept v none = record { same_plan = refl; kept = v }

record-on-image : {l : Link} → Keepable l → (rest : List ℕ) (o : Option Call)
    → record_on (image_of l ++ rest) o ≡ record { buffer = image_of (made_on l o).link ++ rest; result = (made_on l o).number }
record-on-image v rest (some c) = on-image v rest c
record-on-image v rest none = refl

-- the last link meets the conditions too
pub all-kept : {l : Link} → Keepable l → (rs : List (List ℕ)) → KeptAfter l (in_order l rs).link
unfolding in_order
all-kept v [] = record { same_plan = refl; kept = v }
all-kept {l = l} v (r ∷ rs) =
    let one = made_kept v (call_of r) in
    let more = all-kept {l = (made_on l (call_of r)).link} one.kept rs in
    record { same_plan = more.same_plan ∙ one.same_plan; kept = more.kept }

all-on-image : {l : Link} → Keepable l → (rest : List ℕ) (rs : List (List ℕ))
    → one_by_one (image_of l ++ rest) rs ≡ record { buffer = image_of (in_order l rs).link ++ rest; numbers = (in_order l rs).numbers }
unfolding one_by_one in_order
all-on-image v rest [] = refl
all-on-image {l = l} v rest (r ∷ rs) =
    ap (λ (x : Called). record { buffer = (one_by_one x.buffer rs).buffer; numbers = x.result ∷ (one_by_one x.buffer rs).numbers })
    (record-on-image v rest (call_of r))
    ∙ ap (λ (y : Results). record { buffer = y.buffer; numbers = (made_on l (call_of r)).number ∷ y.numbers })
    (all-on-image {l = (made_on l (call_of r)).link} (made_kept v (call_of r)).kept rest rs)

-- on an image that is taken
pub all-called : {b : List ℕ} → ValidImage b → AllBytes b → (rs : List (List ℕ))
    → one_by_one b rs ≡ record { buffer = written_to b (in_order (link_in b) rs).link; numbers = (in_order (link_in b) rs).numbers }
all-called {b} t bytes rs =
    let v = read_kept b t in
    let d = in_order (link_in b) rs in
    ap (λ x. one_by_one x rs) (sym (same-buffer t bytes))
    ∙ all-on-image v (drop (image_length (link_in b).plan) b) rs
    ∙ ap (λ P. record { buffer = image_of d.link ++ drop (image_length P) b; numbers = d.numbers }) (sym (all-kept v rs).same_plan)

-- ---- the numbers

pub eight-long : (xs : List ℕ) → length (flat_map eight xs) ≡ 8 * length xs
unfolding eight fields flat_map
eight-long [] = refl
eight-long (x ∷ xs) = omega (arith, eight-long xs)

pub eight-more : (xs : List ℕ) (x : ℕ) → flat_map eight (xs ++ (x ∷ [])) ≡ flat_map eight xs ++ eight x
unfolding flat_map
eight-more [] x = append-nil (eight x)
eight-more (y ∷ xs) x = ap (eight y ++◌) (eight-more xs x) ∙ sym (append_assoc (eight y) (flat_map eight xs) (eight x))

-- what the fields of a number stand for
field_back : (x : ℕ) → x % 256 + 256 * (x / 256) ≡ x
field_back x = omega arith

halves-back : (x : ℕ) → x % 65536 + 65536 * (x / 65536 % 65536) + 4294967296 * (x / 4294967296 % 65536 + 65536 * (x / 281474976710656)) ≡ x
halves-back x =
    let low : x % 65536 + 65536 * (x / 65536 % 65536) ≡ x % 4294967296 = omega arith in
    let high : x / 4294967296 % 65536 + 65536 * (x / 281474976710656) ≡ x / 4294967296 = omega arith in
    rw (low, high) (omega arith)

eight-back : (x : ℕ) → number_at (eight x) ≡ x
unfolding eight fields flat_map
eight-back x =
    rw (field_back (x % 65536), field_back (x / 65536 % 65536), field_back (x / 4294967296 % 65536), field_back (x / 281474976710656)) (halves-back x)

numbers-many : (b : List ℕ) (rs : List (List ℕ)) → length (one_by_one b rs).numbers ≡ length rs
unfolding one_by_one
numbers-many b [] = refl
numbers-many b (r ∷ rs) = ap suc (numbers-many (record_on b (call_of r)).buffer rs)

-- they are read back from their bytes
numbers-back : (b : List ℕ) (rs : List (List ℕ)) (rest : List ℕ)
    → numbers_in (flat_map eight (one_by_one b rs).numbers ++ rest) (length rs) ≡ (one_by_one b rs).numbers
unfolding one_by_one numbers_in eight fields flat_map
numbers-back b [] rest = refl
numbers-back b (r ∷ rs) rest =
    let x = record_on b (call_of r) in
    let first = eight-back x.result in
    let others = numbers-back x.buffer rs rest in
    λ k. first k ∷ others k

-- ---- a play that is answered 0: the image is left as by the single calls, and their numbers stand in the other buffer

pub record AllPlayed (b stream after out' : List ℕ) : Type 0 where
  pub image_is : after ≡ (one_by_one b (records stream)).buffer
  pub numbers_are : numbers_in out' (length (records stream)) ≡ (one_by_one b (records stream)).numbers

module _ (b stream out : List ℕ) where
  tests-room : first_of (play_tests b stream out) ≡ 0 → 8 * length (records stream) ≤ length out
  tests-room e = ltb-false (length out) (8 * length (records stream)) (line-passed _ 18 _ (line-of-refusal (refusal_of b) _ e).1).0

  told : {after out' : List ℕ} → 8 * length (records stream) ≤ length out → after ≡ (one_by_one b (records stream)).buffer
      → out' ≡ sets out 0 (flat_map eight (one_by_one b (records stream)).numbers) → AllPlayed b stream after out'
  told long image_is out_is =
      let rs = records stream in
      let xs = (one_by_one b rs).numbers in
      let stands = out_is ∙ sets-eq (flat_map eight xs) out 0 (omega (arith, eight-long xs, numbers-many b rs)) in
      record { image_is = image_is; numbers_are = ap (λ x. numbers_in x (length rs)) stands ∙ numbers-back b rs _ }

  pub all-played : {after out' : List ℕ} → PlaysBack (play_on b stream out) 0 after out' → AllPlayed b stream after out'
  unfolding play_on played_back
  all-played {after} {out'} = go (first_of (play_tests b stream out)) refl
    where
      go : (k : ℕ) → first_of (play_tests b stream out) ≡ k → PlaysBack (played_back k b stream out) 0 after out' → AllPlayed b stream after out'
      go zero q (number, image_is, out_is) = told (tests-room q) image_is out_is
      go (suc k) q (number, image_is, out_is) = absurd (omega arith)
