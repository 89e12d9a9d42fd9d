-- Parts that are written one after another: the header, the plan's bytes, and flows. Assumes nothing.
use Prim.Native.Nat.{ℕ, ◌+◌, ◌-◌, ◌*◌, ◌≤◌, ◌<◌}
use mathlib.Core.Path.{◌≡◌, sym, ap, ◌∙◌}
use mathlib.Core.List.{List, ◌∷◌, [], ◌++◌, flat_map, append-nil, append_assoc}
use native.Mathlib.Nat.{mul_assoc, mul_comm, suc-mul, mul-le-mul_right}
use native.Mathlib.Omega.{arith}
use lib.ListN.{length, get_or, take, drop, length-take, length-drop, drop_of_length-le}
use lib.Seq.{sets, length-sets, sets-eq, drop-drop, take_all}
use borrow.Rule.Slice.PartMut.{put_mid}
use Rattle.model.specs.Tables.{table}
use Rattle.model.specs.Refusals.{first_of}
use Rattle.model.specs.WrittenPlan.{bytes_of, number_tests, Written, written}
use Rattle.model.proofs.Tables.{length-table}
use Rattle.model.proofs.WrittenPlan.{length-is, same_tests}
use Rattle.model.proofs.WriteRefusals.{accepted-writes, with-room}
use Rattle.limits.specs.declared.Draft.{Draft}
use Rattle.limits.specs.Reading.{draft_for}
use Rattle.plan.specs.declared.Plan.{Plan}
use Rattle.plan.specs.Reading.{plan_for, draft_of, Valid}
use Rattle.std.proofs.Common.{Result, Ok, Err}
use Rattle.limits.specs.declared.refusal.Refusal.{Refusal}
use Rattle.model.specs.Calls.{accepted}
use Rattle.plan.specs.Writing.{begun, answer_of}
use Rattle.plan.proofs.Stored.{drafted}
use Rattle.calls.specs.Lines.{Puts}
use Rattle.calls.proofs.Stores.{puts_none, puts_then, puts-same}
use Rattle.window.proofs.Tabulated.{table_same}
use Rattle.state.specs.Parts.{part}
use Rattle.state.proofs.Parts.{part_at}
use Rattle.tables.specs.Rows.{row}
use Rattle.link.specs.declared.Flow.{Flow}
use Rattle.link.specs.Layout.{flow_row}
use Rattle.link.specs.Parts.{flow_read}
use Rattle.link.specs.Reading.{flow_of}
use Rattle.fields.specs.Fields.{AllFit}
use Rattle.fields.proofs.FieldLists.{flat-more, fields-append}
use Rattle.imagemodel.specs.Image.{fields, flow_part}
use Rattle.imagemodel.proofs.Fields.{length_fields}
use Rattle.imagemodel.proofs.FlowParts.{part_length}
use Rattle.imagemodel.proofs.ImageValid.{plan_passes}
use Rattle.imagecheck.specs.declared.layout.Layout.{Layout}
use Rattle.imagecheck.specs.Layout.{LaidOut}
use Rattle.imagecheck.proofs.Layouts.{count_is, count-few, total_is, plan-at, positions-at, size_is, flows-at, flows_are}
use Rattle.imagecodec.specs.Asked.{HeaderFits}
use Rattle.imagecodec.specs.Writing.{header_of, flow_stored, part_of, parts_of}

-- ---- the first i of n parts, each of the same width, where `all` gives the bytes of the first so many

pub record PuttingParts (all : ℕ → List ℕ) (width n : ℕ) (before after : List ℕ) (at next i : ℕ) : Type 0 where
  pub to : i ≤ n
  pub place : next ≡ at + i * width
  pub put : Puts (all i) before after at next

module _ {all : ℕ → List ℕ} {width n : ℕ} {before : List ℕ} {at : ℕ} where
  pub no-parts : all 0 ≡ [] → PuttingParts all width n before before at at 0
  no-parts e = record { to = omega arith; place = omega arith; put = puts-same (sym e) (puts_none before at) }

  module _ {middle : List ℕ} {next i : ℕ} (v : PuttingParts all width n before middle at next i) where
    pub one-part-more : {part after : List ℕ} {last : ℕ} → i < n → all (i + 1) ≡ all i ++ part → length part ≡ width → Puts part middle after next last
        → PuttingParts all width n before after at last (i + 1)
    one-part-more {part} {after} {last} h e wide q = record {
      to = omega arith;
      place = omega (arith, q.up_to, v.place);
      put = puts-same (sym e) (puts_then v.put q);
    }

    pub all-parts : n ≤ i → Puts (all n) before middle at next
    all-parts h = let z : i ≡ n = omega (arith, v.to) in rw z at v.put

-- ---- the header

pub header_is : (p : Plan) {y : Layout} → LaidOut (plan_for p) y → (current mark turn : ℕ)
    → fields (y.total ∷ y.plan ∷ y.positions ∷ y.size ∷ y.flows ∷ y.count ∷ current ∷ mark ∷ turn ∷ []) ≡ fields (header_of (plan_for p) current mark turn)
header_is p laid current mark turn = λ k. fields (laid.is k ++ (current ∷ mark ∷ turn ∷ []))

-- ---- the plan

-- a buffer in whose part from a place on these bytes are begun, where there is room for them
part-begun : (bytes before : List ℕ) (at : ℕ) → at + length bytes ≤ length before
    → put_mid at (length before - at) before (begun bytes (take (length before - at) (drop at before))) ≡ sets before at bytes
part-begun bytes before at fits =
    let rest = drop at before in
    let size = length before - at in
    let long : length rest ≤ size = omega (arith, length-drop at before) in
    let whole : take size rest ≡ rest = take_all size rest long in
    let none : drop size rest ≡ [] = drop_of_length-le rest long in
    (λ k. take at before ++ (begun bytes (whole k) ++ none k))
    ∙ ap (take at before ++◌) (append-nil (begun bytes rest))
    ∙ sym (append_assoc (take at before) bytes (drop (length bytes) rest))
    ∙ ap (λ r. take at before ++ bytes ++ r) (drop-drop (length bytes) at before)
    ∙ sym (sets-eq bytes before at fits)

module _ {p : Plan} (v : Valid p) where
  -- the numbers of an accepted plan pass
  plan-told : (out : List ℕ) → 12 + 4 * p.count ≤ length out
      → written (draft_for (draft_of p)) out ≡ record { answer = accepted (length (bytes_of (plan_for p))); out = begun (bytes_of (plan_for p)) out }
  plan-told out room =
      let P = plan_for p in
      let long : length (bytes_of P) ≤ length out = omega (arith, length-is P, count_is p) in
      let passed : first_of (number_tests P) ≡ 0 = sym (same_tests P) ∙ plan_passes P v.accepted in
      ap (λ Q. written Q out) (drafted p (count-few p v)) ∙ accepted-writes P out (with-room P out passed long)

  plan-written : (out : List ℕ) → 12 + 4 * p.count ≤ length out → (written (draft_for (draft_of p)) out).out ≡ begun (bytes_of (plan_for p)) out
  plan-written out room = ap (λ (x : Written). x.out) (plan-told out room)

  -- the writer says how many bytes there are
  pub plan-counted : (r : Result ℕ Refusal) (out : List ℕ) {d : Draft} → 12 + 4 * p.count ≤ length out → d ≡ draft_of p
      → answer_of r ≡ (written (draft_for d) out).answer → r ≡ Ok (12 + 4 * p.count)
  plan-counted r out room same e =
      let long : length (bytes_of (plan_for p)) ≡ 12 + 4 * p.count = omega (arith, length-is (plan_for p), count_is p) in
      let told = ap (λ (x : Written). x.answer) (ap (λ d. written (draft_for d) out) same ∙ plan-told out room) in
      go r (e ∙ told ∙ ap accepted long)
    where
      go : (r : Result ℕ Refusal) → answer_of r ≡ accepted (12 + 4 * p.count) → r ≡ Ok (12 + 4 * p.count)
      go (Ok n) q = cc
      go (Err f) q = cc

  -- they are written to the part of a buffer from a place on
  pub plan-put : (before written-part : List ℕ) (at : ℕ) {d : Draft} → at + (12 + 4 * p.count) ≤ length before → d ≡ draft_of p
      → written-part ≡ (written (draft_for d) (take (length before - at) (drop at before))).out
      → Puts (bytes_of (plan_for p)) before (put_mid at (length before - at) before written-part) at (at + (12 + 4 * p.count))
  plan-put before written-part at fits same e = record {
    stored = stored;
    up_to = omega (arith, long);
    length_stays = ap length stored ∙ length-sets before at (bytes_of (plan_for p));
  }
    where
      long : length (bytes_of (plan_for p)) ≡ 12 + 4 * p.count
      long = omega (arith, length-is (plan_for p), count_is p)

      room : 12 + 4 * p.count ≤ length (take (length before - at) (drop at before))
      room = simp (length-take, length-drop) (omega arith)

      stored : put_mid at (length before - at) before written-part ≡ sets before at (bytes_of (plan_for p))
      stored =
          ap (put_mid at (length before - at) before)
          (e ∙ ap (λ (x : Draft). (written (draft_for x) (take (length before - at) (drop at before))).out) same ∙ plan-written (take (length before - at) (drop at before)) room)
          ∙ part-begun (bytes_of (plan_for p)) before at (omega (arith, long))

-- ---- the flows

-- the first T of a row stand in the state
row-part : (T : ℕ) (s : List ℕ) (i : ℕ) → T ≤ 256 → part s (256 * i) T ≡ table T (λ p. get_or (row s i) p 0)
unfolding row part
row-part T s i few = table_same T _ _ (λ p h. sym (part_at s (256 * i) 256 p (omega arith)))

module _ (T : ℕ) (s : List ℕ) (i : ℕ) where
  pub part-is : T ≤ 256 → {f : Flow} → f ≡ flow_read s i
      → fields (f.injection ∷ f.remainder ∷ []) ++ fields (part s (256 * i) T) ++ fields (f.number ∷ []) ≡ part_of T s i
  part-is few {f} e =
      let start = f.injection ∷ f.remainder ∷ [] in
      let holdings = table T (λ p. get_or (row s i) p 0) in
      ap (λ (x : List ℕ). fields start ++ fields x ++ fields (f.number ∷ [])) (row-part T s i few)
      ∙ ap (◌++ fields (f.number ∷ [])) (sym (fields-append start holdings))
      ∙ sym (fields-append (start ++ holdings) (f.number ∷ []))
      ∙ ap (λ (x : Flow). fields (flow_part (flow_of T (flow_row x (row s i))))) e

  pub length_part : length (part_of T s i) ≡ 2 * (3 + T)
  length_part =
      let x = flow_stored T s i in
      let held_long = length-table T (λ p. get_or (row s i) p 0) in
      omega (arith, length_fields (flow_part x), part_length x)

pub parts_more : (T : ℕ) (s : List ℕ) (i : ℕ) → parts_of T s (i + 1) ≡ parts_of T s i ++ part_of T s i
parts_more T s i =
    ap fields (flat-more flow_part i (flow_stored T s)) ∙ fields-append (flat_map flow_part (table i (flow_stored T s))) (flow_part (flow_stored T s i))

-- the part of flow i of n, each of w fields
pub part-fits : (i n w : ℕ) → i < n → i * (2 * w) + 2 * w ≤ 2 * (n * w)
part-fits i n w h =
    let twice : i * (2 * w) ≡ 2 * (i * w) = sym (mul_assoc i 2 w) ∙ ap (◌* w) (mul_comm i 2) ∙ mul_assoc 2 i w in
    omega (arith, suc-mul i w, mul-le-mul_right w h)

-- ---- what the header asks

pub header-fits : (p : Plan) {y : Layout} → LaidOut (plan_for p) y → {current mark turn : ℕ} {b : List ℕ} → HeaderFits p current mark turn b
    → AllFit (y.total ∷ y.plan ∷ y.positions ∷ y.size ∷ y.flows ∷ y.count ∷ current ∷ mark ∷ turn ∷ [])
header-fits p laid v =
    omega (
      arith,
      laid.short,
      total_is laid,
      plan-at laid,
      positions-at laid,
      size_is laid,
      flows-at laid,
      flows_are laid,
      v.plan.accepted.positions_most,
      v.plan.accepted.flows_most,
      v.current_fits,
      v.mark_fits,
      v.turn_fits,
    )
