-- Two states of bytes with the same parts are one but for the bounds of what flows hold, and so are two sound links with one reading. Assumes nothing.
use Prim.Native.Nat.{ℕ, zero, suc, ◌+◌, ◌-◌, ◌*◌, ◌/◌, ◌%◌, ◌≤◌, ◌<◌}
use mathlib.Core.Path.{◌≡◌, refl, sym, ap, ap₂, ◌∙◌}
use mathlib.Core.List.{List, ◌∷◌, []}
use mathlib.Core.Bool.{true, false, not, true≢false}
use native.Mathlib.Decide.{dec_lt, ℕ_discrete}
use native.Mathlib.Omega.{arith}
use lib.ListN.{length, get_or, get_or-eq_default}
use lib.Dec.{eqb}
use borrow.Author.Tests.{eq-eqb, ne_eqb}
use Rattle.plan.specs.declared.Plan.{Plan}
use Rattle.state.specs.Parts.{part, number_in, Beside}
use Rattle.state.specs.State.{Whole, mask_at}
use Rattle.state.proofs.Parts.{length_part, part_at}
use Rattle.state.proofs.State.{held_at, owners-at, masks-at}
use Rattle.link.specs.declared.Flow.{Flow}
use Rattle.link.specs.declared.Link.{Link}
use Rattle.link.specs.Layout.{no_flow}
use Rattle.link.specs.Parts.{Parts, flow_from, flow_read, parts_in}
use Rattle.link.specs.Links.{parts_of}
use Rattle.link.specs.Links.{SoundLink}
use Rattle.link.specs.Steps.{read_of}
use Rattle.link.proofs.FlowBytes.{flows-at}
use Rattle.link.proofs.Stored.{one-reading}

-- every element is a byte
pub record Bytes (s : List ℕ) : Type 0 where
  pub byte : (k : ℕ) → get_or s k 0 < 256

part-byte : (s : List ℕ) → Bytes s → (a n k : ℕ) → get_or (part s a n) k 0 < 256
part-byte s f a n k = go (dec_lt k n)
  where
    go : Dec (k < n) → get_or (part s a n) k 0 < 256
    go (yes h) = rw (part_at s a n k h) (f.byte (a + k))
    go (no h) = let none = get_or-eq_default (part s a n) 0 {n = k} (rw length_part (omega arith)) in omega (arith, none)

-- ---- a number tells its bytes

number-tells : (xs ys : List ℕ) → length xs ≡ length ys → ((k : ℕ) → get_or xs k 0 < 256) → ((k : ℕ) → get_or ys k 0 < 256) → number_in xs ≡ number_in ys → xs ≡ ys
unfolding number_in
number-tells [] [] e f g same = refl
number-tells [] (y ∷ ys) e f g same = absurd (omega arith)
number-tells (x ∷ xs) [] e f g same = absurd (omega arith)
number-tells (x ∷ xs) (y ∷ ys) e f g same =
    let first : x ≡ y = omega (arith, f 0, g 0) in
    let rest : number_in xs ≡ number_in ys = omega (arith, f 0, g 0) in
    ap₂ ◌∷◌ first (number-tells xs ys (omega arith) (λ k. f (suc k)) (λ k. g (suc k)) rest)

-- a mark of at most 1 is told by whether it is 0
mark-tells : (m n : ℕ) → m ≤ 1 → n ≤ 1 → not (eqb m 0) ≡ not (eqb n 0) → m ≡ n
mark-tells m n h l e = go (ℕ_discrete m 0) (ℕ_discrete n 0)
  where
    differ : true ≡ false → m ≡ n
    differ z = absurd (true≢false z)

    go : Dec (m ≡ 0) → Dec (n ≡ 0) → m ≡ n
    go (yes a) (yes b) = omega arith
    go (yes a) (no b) = differ (sym (ap not (ne_eqb n 0 b)) ∙ sym e ∙ ap not (eq-eqb m 0 a))
    go (no a) (yes b) = differ (sym (ap not (ne_eqb m 0 a)) ∙ e ∙ ap not (eq-eqb n 0 b))
    go (no a) (no b) = omega arith

module _ (s t : List ℕ) (f : Bytes s) (g : Bytes t) where
  mask-bytes : (j : ℕ) → mask_at s j ≡ mask_at t j → part s (4352 + 8 * j) 8 ≡ part t (4352 + 8 * j) 8
  unfolding mask_at
  mask-bytes j =
      let a = 4352 + 8 * j in
      number-tells (part s a 8) (part t a 8) (length_part s a 8 ∙ sym (length_part t a 8)) (part-byte s f a 8) (part-byte t g a 8)

-- a flow tells its four bytes
flow-byte : (xs ys : List ℕ) → ((k : ℕ) → get_or xs k 0 < 256) → ((k : ℕ) → get_or ys k 0 < 256) → flow_from xs ≡ flow_from ys → (k : ℕ) → k < 4 → get_or xs k 0 ≡ get_or ys k 0
flow-byte xs ys f g e zero l = ap (λ (x : Flow). x.injection) e
flow-byte xs ys f g e (suc zero) l = ap (λ (x : Flow). x.remainder) e
flow-byte xs ys f g e (suc (suc zero)) l = omega (arith, ap (λ (x : Flow). x.number) e, f 2, g 2)
flow-byte xs ys f g e (suc (suc (suc zero))) l = omega (arith, ap (λ (x : Flow). x.number) e, f 2, g 2)
flow-byte xs ys f g e (suc (suc (suc (suc k)))) l = absurd (omega arith)

flow-bytes : (s t : List ℕ) → Bytes s → Bytes t → (i : ℕ) → flow_read s i ≡ flow_read t i → (k : ℕ) → k < 4
    → get_or (part s (4416 + 4 * i) 4) k 0 ≡ get_or (part t (4416 + 4 * i) 4) k 0
unfolding flow_read
flow-bytes s t f g i =
    let a = 4416 + 4 * i in
    flow-byte (part s a 4) (part t a 4) (part-byte s f a 4) (part-byte t g a 4)

-- ---- the parts tell the state

module _ (p : Plan) (s t : List ℕ) (f : Bytes s) (g : Bytes t) (mark-s : get_or s 4497 0 ≤ 1) (mark-t : get_or t 4497 0 ≤ 1)
    (same : parts_in p s ≡ parts_in p t) where
  held_tells : (k : ℕ) → k < 4096 → get_or s k 0 ≡ get_or t k 0
  held_tells k h = sym (held_at s k h) ∙ ap (λ (l : Parts). get_or l.held k 0) same ∙ held_at t k h

  owner-tells : (q : ℕ) → q < 256 → get_or s (4096 + q) 0 ≡ get_or t (4096 + q) 0
  owner-tells q h = sym (owners-at s q h) ∙ ap (λ (l : Parts). get_or l.owner q 0) same ∙ owners-at t q h

  -- byte k of the mask of frame j
  mask-tells : (j k : ℕ) → j < 8 → k < 8 → get_or s (4352 + 8 * j + k) 0 ≡ get_or t (4352 + 8 * j + k) 0
  mask-tells j k h l =
      sym (part_at s (4352 + 8 * j) 8 k l) ∙ ap (λ (xs : List ℕ). get_or xs k 0) bytes ∙ part_at t (4352 + 8 * j) 8 k l
    where
      number : mask_at s j ≡ mask_at t j
      number = sym (masks-at s j h) ∙ ap (λ (x : Parts). get_or x.unbooked j 0) same ∙ masks-at t j h

      bytes : part s (4352 + 8 * j) 8 ≡ part t (4352 + 8 * j) 8
      bytes = mask-bytes s t f g j number

  -- byte k of flow i
  flow-tells : (i k : ℕ) → i < 16 → k < 4 → get_or s (4416 + 4 * i + k) 0 ≡ get_or t (4416 + 4 * i + k) 0
  flow-tells i k h l = sym (part_at s (4416 + 4 * i) 4 k l) ∙ flow-bytes s t f g i flow k l ∙ part_at t (4416 + 4 * i) 4 k l
    where
      flow : flow_read s i ≡ flow_read t i
      flow = sym (flows-at s i h) ∙ ap (λ (x : Parts). get_or x.flows i no_flow) same ∙ flows-at t i h

  -- at every place but a bound's
  place-tells : (k : ℕ) → k < 4499 → (4480 ≤ k → k < 4496 → ⊥) → get_or s k 0 ≡ get_or t k 0
  place-tells k b out = go (dec_lt k 4096) (dec_lt k 4352) (dec_lt k 4416) (dec_lt k 4480) (dec_lt k 4497) (dec_lt k 4498)
    where
      at : {a : ℕ} → k ≡ a → get_or s a 0 ≡ get_or t a 0 → get_or s k 0 ≡ get_or t k 0
      at e x = rw e x

      last : (4480 ≤ k) → 4496 ≤ k
      last h = not-below h (dec_lt k 4496)
        where
          not-below : 4480 ≤ k → Dec (k < 4496) → 4496 ≤ k
          not-below low (yes high) = absurd (out low high)
          not-below low (no high) = omega arith

      go : Dec (k < 4096) → Dec (k < 4352) → Dec (k < 4416) → Dec (k < 4480) → Dec (k < 4497) → Dec (k < 4498) → get_or s k 0 ≡ get_or t k 0
      go (yes h) _ _ _ _ _ = held_tells k h
      go (no a) (yes h) _ _ _ _ = at (omega arith) (owner-tells (k - 4096) (omega arith))
      go (no a) (no c) (yes h) _ _ _ = at (omega arith) (mask-tells ((k - 4352) / 8) ((k - 4352) % 8) (omega arith) (omega arith))
      go (no a) (no c) (no d) (yes h) _ _ = at (omega arith) (flow-tells ((k - 4416) / 4) ((k - 4416) % 4) (omega arith) (omega arith))
      go (no a) (no c) (no d) (no e) (yes h) _ = let low = last (omega arith) in at {a = 4496} (omega arith) (ap (λ (l : Parts). l.current) same)
      go (no a) (no c) (no d) (no e) (no x) (yes h) =
          at {a = 4497} (omega arith) (mark-tells (get_or s 4497 0) (get_or t 4497 0) mark-s mark-t (ap (λ (l : Parts). l.marked) same))
      go (no a) (no c) (no d) (no e) (no x) (no y) = at {a = 4498} (omega arith) (ap (λ (l : Parts). l.turn) same)

  -- they are one but for the bounds
  pub one_state : Whole s → Whole t → Beside 4480 4496 s t
  one_state v w = record { long = w ∙ sym v; kept = λ k out. go k out (dec_lt k 4499) }
    where
      go : (k : ℕ) → (4480 ≤ k → k < 4496 → ⊥) → Dec (k < 4499) → get_or t k 0 ≡ get_or s k 0
      go k out (yes h) = sym (place-tells k h out)
      go k out (no h) =
          get_or-eq_default t 0 {n = k} (omega (arith, w)) ∙ sym (get_or-eq_default s 0 {n = k} (omega (arith, v)))

-- Two sound links with one reading are one link but for the bounds, which no reading has.
pub record OneLink (l k : Link) : Type 0 where
  pub plan : l.plan ≡ k.plan
  pub state : Beside 4480 4496 l.state k.state

pub one_link : (l k : Link) → SoundLink l → SoundLink k → Bytes l.state → Bytes k.state → read_of l ≡ read_of k → OneLink l k
one_link l k x y f g e =
    let same : parts_of l ≡ parts_of k = one-reading (parts_of l) (parts_of k) x.parts y.parts e in
    let plan : l.plan ≡ k.plan = ap (λ (q : Parts). q.plan) same in
    record {
      plan = plan;
      state = one_state k.plan l.state k.state f g x.mark y.mark (ap (λ (q : Plan). parts_in q l.state) (sym plan) ∙ same) x.whole y.whole;
    }
