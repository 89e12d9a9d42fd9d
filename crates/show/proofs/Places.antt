-- The links of a show by their places in the mesh's table, and the first of them with a refusal. Assumes nothing.
use Prim.Native.Nat.{ℕ, zero, suc, ◌+◌, ◌/◌, ◌≤◌, ◌<◌}
use mathlib.Core.Path.{◌≡◌, refl, sym, ap, ◌∙◌}
use mathlib.Core.List.{List, ◌∷◌, [], map}
use mathlib.Core.Bool.{Bool, true, false, cond}
use native.Mathlib.Decide.{ℕ_discrete}
use native.Mathlib.Omega.{arith}
use lib.ListN.{length, get_or, length-map, get_or-map}
use Rattle.model.specs.Tables.{table}
use Rattle.model.proofs.Tables.{table_same}
use Rattle.mesh.specs.Mesh.{Link, in_mesh, keep, some_of, links}
use Rattle.mesh.specs.Streams.{stream}
use Rattle.mesh.specs.Admission as admission
use Rattle.mesh.specs.Admission.{FittingStream, Admitted}
use Rattle.mesh.specs.Reading.{streams_of, link_at}
use Rattle.mesh.proofs.Links.{links-are}
use Rattle.mesh.proofs.OnWay.{mesh-parts}
use Rattle.mesh.proofs.Admitted.{admitted, place, link-there, number-most}
use Rattle.mesh.proofs.Ways.{right-way}
use Rattle.show.specs.declared.Dome.{Dome}
use Rattle.show.specs.Show.{Show, ShowStream, no_show_stream, show_stream, streams_in, uses_link, used, plan_refusal, link_refusal, first_number, refusal}
use Rattle.show.specs.Reading.{show_of, show_stream_at}

-- ---- lists

map-table : {A B : Type 0} (n : ℕ) (f : ℕ → A) (g : A → B) → map g (table n f) ≡ table n (λ k. g (f k))
map-table zero f g = refl
map-table (suc n) f g = ap (g (f 0) ∷◌) (map-table n (λ k. f (suc k)) g)

-- no entry passes a test
none_of : {A : Type 0} (p : A → Bool) (xs : List A) (d : A) → ((i : ℕ) → i < length xs → p (get_or xs i d) ≡ false) → some_of p xs ≡ false
unfolding some_of
none_of p [] d h = refl
none_of p (x ∷ xs) d h = rw (h 0 (omega arith)) (none_of p xs d (λ i l. h (suc i) (omega arith)))

-- ---- the first number

-- what is left out of a list counts as 0
first-kept : {A : Type 0} (f : A → ℕ) (p : A → Bool) (xs : List A) → first_number (map f (keep p xs)) ≡ first_number (map (λ x. cond (p x) (f x) 0) xs)
unfolding first_number keep
first-kept f p [] = refl
first-kept f p (x ∷ xs) = go (p x) (f x) refl (first-kept f p xs)
  where
    go : (b : Bool) (n : ℕ) → f x ≡ n → first_number (map f (keep p xs)) ≡ first_number (map (λ x. cond (p x) (f x) 0) xs)
        → first_number (map f (cond b (x ∷ keep p xs) (keep p xs))) ≡ first_number (cond b (f x) 0 ∷ map (λ x. cond (p x) (f x) 0) xs)
    go true zero e rest = rw (e) rest
    go true (suc n) e rest = rw (e)
    go false n e rest = rest

first-hit : (n : ℕ) (f : ℕ → ℕ) (k : ℕ) → k < n → ((j : ℕ) → j < k → f j ≡ 0) → (f k ≡ 0 → ⊥) → first_number (table n f) ≡ f k
unfolding first_number
first-hit zero f k l none some = absurd (omega arith)
first-hit (suc n) f zero l none some = go (f 0) refl
  where
    go : (r : ℕ) → f 0 ≡ r → first_number (r ∷ table n (λ k. f (suc k))) ≡ r
    go zero e = absurd (some e)
    go (suc r) e = refl
first-hit (suc n) f (suc k) l none some =
    rw (none 0 (omega arith)) (first-hit n (λ k. f (suc k)) k (omega arith) (λ j h. none (suc j) (omega arith)) some)

pub first-none : (n : ℕ) (f : ℕ → ℕ) → ((j : ℕ) → j < n → f j ≡ 0) → first_number (table n f) ≡ 0
unfolding first_number
first-none zero f none = refl
first-none (suc n) f none = rw (none 0 (omega arith)) (first-none n (λ k. f (suc k)) (λ j h. none (suc j) (omega arith)))

-- where the first number is 0, all are
first-zero : (r : ℕ) (rest : List ℕ) → first_number (r ∷ rest) ≡ 0 → (r ≡ 0) × (first_number rest ≡ 0)
unfolding first_number
first-zero zero rest e = (refl, e)
first-zero (suc r) rest e = absurd (omega arith)

all-zero : (n : ℕ) (f : ℕ → ℕ) → first_number (table n f) ≡ 0 → (k : ℕ) → k < n → f k ≡ 0
all-zero zero f e k h = absurd (omega arith)
all-zero (suc n) f e zero h = (first-zero (f 0) (table n (λ k. f (suc k))) e).0
all-zero (suc n) f e (suc k) h = all-zero n (λ k. f (suc k)) (first-zero (f 0) (table n (λ k. f (suc k))) e).1 k (omega arith)

-- ---- an admitted show

module _ (show : Show) where
  pub stream-is : (i : ℕ) → stream (streams_in show) i ≡ (show_stream show i).stream
  stream-is i = get_or-map (λ (s : ShowStream). s.stream) show.streams i no_show_stream

  module _ (passed : admission.refusal show.slots (streams_in show) ≡ 0) where
    pub admits : Admitted show.slots (streams_in show)
    admits = admitted show.slots (streams_in show) passed

    pub fits : (i : ℕ) → i < length show.streams → FittingStream show.slots (show_stream show i).stream
    fits i h = rw (stream-is i) at (admits.streams_fit i (omega (arith, length-map show.streams (λ (s : ShowStream). s.stream))))

    -- a stream's links are links of the mesh
    pub uses-in-mesh : (l : Link) (i : ℕ) → i < length show.streams → uses_link l (show_stream show i) ≡ true → in_mesh l ≡ true
    uses-in-mesh l i h e = let w = right-way (show_stream show i).stream (fits i h).source_most (fits i h).destination_most in w.in_mesh l (w.none_else l e)

    off-mesh : (l : Link) → in_mesh l ≡ false → used show l ≡ false
    unfolding used
    off-mesh l off = none_of (uses_link l) show.streams no_show_stream (λ i h. go i h (uses_link l (show_stream show i)) refl)
      where
        go : (i : ℕ) → i < length show.streams → (b : Bool) → uses_link l (show_stream show i) ≡ b → b ≡ false
        go i h false e = refl
        go i h true e = let on = uses-in-mesh l i h e in let z : ◌≡◌ {A = ℕ} 0 1 = cc in absurd (omega arith)

    -- so are the links that are used
    pub used-in-mesh : (l : Link) → used show l ≡ true → in_mesh l ≡ true
    used-in-mesh l u = go (in_mesh l) refl
      where
        go : (b : Bool) → in_mesh l ≡ b → b ≡ true
        go true e = refl
        go false e = let off = off-mesh l e in let z : ◌≡◌ {A = ℕ} 0 1 = cc in absurd (omega arith)

    -- a place off the mesh counts as 0
    at_place : (l : Link) → cond (in_mesh l) (link_refusal show l) 0 ≡ link_refusal show l
    at_place l = go (in_mesh l) refl
      where
        go : (b : Bool) → in_mesh l ≡ b → cond b (link_refusal show l) 0 ≡ link_refusal show l
        go true e = refl
        go false e = ap (λ u. cond u (plan_refusal show l) 0) (sym (off-mesh l e))

    -- the first number of the links is that of the places
    first-place : first_number (map (link_refusal show) links) ≡ first_number (table 256 (λ k. link_refusal show (link_at k)))
    first-place =
        ap (λ ls. first_number (map (link_refusal show) ls)) links-are
        ∙ first-kept (link_refusal show) in_mesh (table 256 link_at)
        ∙ ap first_number (map-table 256 link_at (λ l. cond (in_mesh l) (link_refusal show l) 0))
        ∙ ap first_number (table_same 256 _ (λ k. link_refusal show (link_at k)) (λ k h. at_place (link_at k)))

    pub refusal_is : refusal show ≡ first_number (table 256 (λ k. link_refusal show (link_at k)))
    unfolding refusal first_number
    refusal_is = ap (λ r. first_number (r ∷ map (link_refusal show) links)) passed ∙ first-place

  pub refused-by-mesh : (admission.refusal show.slots (streams_in show) ≡ 0 → ⊥) → admission.refusal show.slots (streams_in show) ≡ refusal show
  unfolding refusal first_number
  refused-by-mesh some = go (admission.refusal show.slots (streams_in show)) some
    where
      go : (r : ℕ) → (r ≡ 0 → ⊥) → r ≡ first_number (r ∷ map (link_refusal show) links)
      go zero some = absurd (some refl)
      go (suc r) some = refl

-- ---- a show without a refusal

module _ (show : Show) (none : refusal show ≡ 0) where
  pub mesh-passed : admission.refusal show.slots (streams_in show) ≡ 0
  unfolding refusal
  mesh-passed = (first-zero (admission.refusal show.slots (streams_in show)) (map (link_refusal show) links) none).0

  none-placed : (k : ℕ) → k < 256 → link_refusal show (link_at k) ≡ 0
  none-placed = all-zero 256 (λ k. link_refusal show (link_at k)) (sym (refusal_is show mesh-passed) ∙ none)

  pub link-passed : (l : Link) → used show l ≡ true → plan_refusal show l ≡ 0
  link-passed l u =
      let node = (mesh-parts l (used-in-mesh show mesh-passed l u)).0 in
      let zero-there = none-placed (place l) (omega (arith, number-most l.side)) in
      ap (λ b. cond b (plan_refusal show l) 0) (sym u) ∙ ap (link_refusal show) (sym (link-there l)) ∙ zero-there

-- ---- the loop

-- no link at the first places has a refusal
pub record NoneYet (show : Show) (k : ℕ) : Type 0 where
  pub within : k ≤ 256
  pub none : (j : ℕ) → j < k → link_refusal show (link_at j) ≡ 0

pub none_yet : (show : Show) → NoneYet show 0
none_yet show = record { within = omega arith; none = λ j l. absurd (omega arith) }

module _ {show : Show} {k : ℕ} where
  pub none_more : NoneYet show k → k < 256 → {r : ℕ} → r ≡ link_refusal show (link_at k) → r ≡ 0 → NoneYet show (k + 1)
  none_more h l {r} e z = record { within = omega arith; none = λ j b. go j b (ℕ_discrete j k) }
    where
      go : (j : ℕ) → j < k + 1 → Dec (j ≡ k) → link_refusal show (link_at j) ≡ 0
      go j b (yes same) = ap (λ j. link_refusal show (link_at j)) same ∙ sym e ∙ z
      go j b (no other) = h.none j (omega arith)

  pub found-one : NoneYet show k → k < 256 → admission.refusal show.slots (streams_in show) ≡ 0 → {r : ℕ} → r ≡ link_refusal show (link_at k) → (r ≡ 0 → ⊥) → r ≡ refusal show
  found-one h l passed {r} e some =
      e ∙ sym (first-hit 256 (λ k. link_refusal show (link_at k)) k l h.none (λ z. some (e ∙ z))) ∙ sym (refusal_is show passed)

  pub none_at_all : NoneYet show k → 256 ≤ k → admission.refusal show.slots (streams_in show) ≡ 0 → 0 ≡ refusal show
  none_at_all h l passed = sym (first-none 256 (λ k. link_refusal show (link_at k)) (λ j b. h.none j (omega arith))) ∙ sym (refusal_is show passed)

-- ---- numbers

-- the streams of a show of numbers are those that the mesh reads
pub streams_are : (dome : Dome) (numbers cells : List ℕ) → streams_in (show_of dome numbers cells) ≡ streams_of numbers
streams_are dome numbers cells = map-table (length numbers / 3) (show_stream_at numbers cells) (λ (s : ShowStream). s.stream)
