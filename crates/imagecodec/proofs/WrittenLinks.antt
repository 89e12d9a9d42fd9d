-- A link written as its image: its parts make it, and there is room for each. Assumes nothing.
use Prim.Native.Nat.{ℕ, zero, suc, ◌+◌, ◌*◌, ◌≤◌, ◌<◌}
use mathlib.Core.Path.{◌≡◌, refl, sym, ap, ◌∙◌}
use mathlib.Core.List.{List, ◌∷◌, ◌++◌, map, flat_map}
use mathlib.Core.Bool.{Bool, true, false, not}
use native.Mathlib.Decide.{ℕ_discrete}
use native.Mathlib.Omega.{arith}
use lib.ListN.{length, drop, get_or}
use lib.Seq.{sets-eq}
use lib.Dec.{eqb}
use borrow.Author.Tests.{eqb-true}
use Rattle.model.specs.Tables.{table, bit}
use Rattle.model.specs.WrittenPlan.{bytes_of}
use Rattle.model.proofs.WrittenPlan.{length-is}
use Rattle.plan.specs.declared.Plan.{Plan}
use Rattle.plan.specs.Reading.{plan_for}
use Rattle.calls.specs.Lines.{Puts}
use Rattle.calls.proofs.Stores.{puts-same}
use Rattle.window.proofs.Tabulated.{table_same}
use Rattle.state.specs.Parts.{part}
use Rattle.state.specs.State.{owners_of}
use Rattle.state.proofs.Parts.{length_part}
use Rattle.state.proofs.State.{owners-at}
use Rattle.tables.specs.Owners.{nobody, owner_of}
use Rattle.tables.proofs.HeldRows.{row-held}
use Rattle.link.specs.Layout.{size_for, flow_row}
use Rattle.link.specs.Parts.{parts_in}
use Rattle.link.specs.Reading.{flow_of, link_of}
use Rattle.link.specs.Steps.{read_in}
use Rattle.link.proofs.FlowBytes.{flows-at}
use Rattle.link.proofs.Readings.{flows_most, size_most}
use Rattle.imagemodel.specs.Image.{fields, header_length, image_length, owner_field, flow_part, image_of}
use Rattle.imagemodel.specs.Exports.{written_to}
use Rattle.imagemodel.proofs.Fields.{length_fields}
use Rattle.imagemodel.proofs.ReadBack.{image-length}
use Rattle.imagecheck.proofs.Layouts.{count_is}
use Rattle.imagecodec.specs.Writing.{header_of, flow_stored, parts_of}
use Rattle.imagecodec.specs.Asked.{PartsFit, Writable}

-- ---- the parts

map-table : {A B : Type 0} (g : A → B) (n : ℕ) (f : ℕ → A) → map g (table n f) ≡ table n (λ k. g (f k))
map-table g zero f = refl
map-table g (suc n) f = ap (g (f 0) ∷◌) (map-table g n (λ k. f (suc k)))

owner-again : (x : ℕ) → owner_field (owner_of x) ≡ x
owner-again x = go (eqb x nobody) refl
  where
    go : (b : Bool) → eqb x nobody ≡ b → owner_field (owner_of x) ≡ x
    go true e = rw e (sym (eqb-true x nobody e))
    go false e = rw e

-- a mark of at most 1
mark-again : (m : ℕ) → m ≤ 1 → m ≡ bit (not (eqb m 0))
mark-again m h = go (ℕ_discrete m 0)
  where
    go : Dec (m ≡ 0) → m ≡ bit (not (eqb m 0))
    go (yes d) = rw d
    go (no d) = let one : m ≡ 1 = omega arith in rw one

module _ {p : Plan} {s b : List ℕ} (v : Writable p s b) where
  abbrev T : ℕ
  T = size_for p

  few : p.count ≤ 16
  few = flows_most (parts_in p s) v.sound.parts

  pub positions-few : T ≤ 256
  positions-few = size_most (parts_in p s) v.sound.parts

  owners_are : part s 4096 T ≡ map owner_field (read_in p s).owners
  unfolding link_of part
  owners_are =
      table_same T _ _ (λ q h. sym (owner-again (get_or (owners_of s) q 0) ∙ owners-at s q (omega (arith, positions-few))))
      ∙ sym (map-table owner_field T (λ q. owner_of (get_or (owners_of s) q 0)))

  flows_are : table p.count (flow_stored T s) ≡ (read_in p s).flows
  unfolding link_of
  flows_are = table_same p.count _ _ λ i h.
      let below : i < 16 = omega (arith, few) in
      λ k. flow_of T (flow_row (sym (flows-at s i below) k) (sym (row-held s i below) k))

  -- the header's fields
  abbrev pub header : List ℕ
  header = header_of (plan_for p) (get_or s 4496 0) (get_or s 4497 0) (get_or s 4498 0)

  pub image_is : fields header ++ bytes_of (plan_for p) ++ fields (part s 4096 T) ++ parts_of T s p.count ≡ image_of (read_in p s)
  unfolding image_of link_of
  image_is =
      λ k. fields (header_of (plan_for p) (get_or s 4496 0) (mark-again (get_or s 4497 0) v.sound.mark k) (get_or s 4498 0)) ++ bytes_of (plan_for p)
      ++ fields (owners_are k) ++ fields (flat_map flow_part (flows_are k))

  -- the numbers that are written there
  pub header-put : {current mark turn : ℕ} → current ≡ get_or s 4496 0 → mark ≡ get_or s 4497 0 → turn ≡ get_or s 4498 0 → {c after : List ℕ} {next : ℕ}
      → Puts (fields (header_of (plan_for p) current mark turn)) c after 0 next → Puts (fields header) c after 0 next
  header-put x y z = puts-same (λ k. fields (header_of (plan_for p) (x k) (y k) (z k)))

  -- ---- where they end

  pub header-ends : {c after : List ℕ} {next : ℕ} → Puts (fields header) c after 0 next → next ≡ header_length
  header-ends q = omega (arith, q.up_to, length_fields header)

  pub plan-ends : {c after : List ℕ} {at next : ℕ} → Puts (bytes_of (plan_for p)) c after at next → next ≡ at + (12 + 4 * p.count)
  plan-ends q = omega (arith, q.up_to, length-is (plan_for p), count_is p)

  pub owners-end : {c after : List ℕ} {at next : ℕ} → Puts (fields (part s 4096 T)) c after at next → next ≡ at + 2 * T
  owners-end q = omega (arith, q.up_to, length_part s 4096 T, length_fields (part s 4096 T))

  -- ---- an image that is written

  pub written_is : {after : List ℕ} {next : ℕ} → Puts (image_of (read_in p s)) b after 0 next → after ≡ written_to b (read_in p s)
  written_is q =
      let long = image-length v.keepable in
      let end : 0 + length (image_of (read_in p s)) ≡ image_length (read_in p s).plan = omega arith in
      q.stored
      ∙ sets-eq (image_of (read_in p s)) b 0 (omega (arith, v.there))
      ∙ ap (λ n. image_of (read_in p s) ++ drop n b) end

  -- ---- room

  pub room : 30 + 4 * p.count + 2 * T + 2 * (p.count * (3 + T)) ≤ length b
  unfolding link_of
  room = omega (arith, v.there, count_is p, ap (λ n. n * (3 + T)) (count_is p))

  -- where the flows begin
  pub parts-fit : {c : List ℕ} → length c ≡ length b → (at : ℕ) → at ≡ 30 + 4 * p.count + 2 * T → PartsFit p.count T c at
  parts-fit same at e = record { few = few; size_most = positions-few; there = omega (arith, room) }
