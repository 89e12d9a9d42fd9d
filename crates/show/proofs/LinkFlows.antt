-- The flows of a link, gathered one by one, and the plan that is asked for with them. Assumes nothing.
use Prim.Native.Nat.{ℕ, suc, ◌+◌, ◌*◌, ◌≤◌, ◌<◌}
use mathlib.Core.Path.{◌≡◌, refl, sym, ap, ◌∙◌}
use mathlib.Core.List.{List, ◌∷◌, [], ◌++◌, map, map-append}
use mathlib.Core.Bool.{Bool, true, false, cond}
use native.Mathlib.Decide.{dec_lt, dec_le}
use native.Mathlib.Omega.{arith}
use lib.ListN.{length, get_or, set, length-append, length-map, get_or-append, get_or-eq_default}
use lib.Seq.{set_out, get_or-append_seam}
use borrow.Author.Tests.{lt-leb, le-leb}
use Rattle.model.specs.Tables.{table}
use Rattle.model.specs.Refusals.{first_of}
use Rattle.model.specs.Plan as plan
use Rattle.model.specs.WrittenPlan as writer
use Rattle.model.specs.WrittenPlan.{number_tests}
use Rattle.model.proofs.Tables.{length-table, get_d-table, table_same, table-get_d, table-append, set-table}
use Rattle.model.proofs.WriteRefusals.{refused-writes, by_number}
use Rattle.limits.specs.declared.Wanted.{Wanted}
use Rattle.limits.specs.declared.Draft.{Draft}
use Rattle.limits.specs.Reading.{wanted_for, no_wanted, draft_for}
use Rattle.mesh.specs.Mesh.{Link, keep}
use Rattle.mesh.specs.Reading.{stream_at, link_at}
use Rattle.show.specs.declared.Dome.{Dome}
use Rattle.show.specs.Show.{ShowStream, uses_link, entry_on, flows_of}
use Rattle.show.specs.Reading.{show_stream_at}
use Rattle.show.specs.Gathering.{asked_for, draft_over, added, joined}

-- ---- lists with one more at the end

module _ {A : Type 0} where
  keep-more : (p : A → Bool) (xs : List A) (x : A) → keep p (xs ++ (x ∷ [])) ≡ cond (p x) (keep p xs ++ (x ∷ [])) (keep p xs)
  unfolding keep
  keep-more p [] x = refl
  keep-more p (y ∷ ys) x = go (p y) (p x) (keep-more p ys x)
    where
      go : (b c : Bool) → keep p (ys ++ (x ∷ [])) ≡ cond c (keep p ys ++ (x ∷ [])) (keep p ys)
          → cond b (y ∷ keep p (ys ++ (x ∷ []))) (keep p (ys ++ (x ∷ [])))
          ≡ cond c (cond b (y ∷ keep p ys) (keep p ys) ++ (x ∷ [])) (cond b (y ∷ keep p ys) (keep p ys))
      go true true e = ap (y ∷◌) e
      go true false e = ap (y ∷◌) e
      go false true e = e
      go false false e = e

  pub keep-most : (p : A → Bool) (xs : List A) → length (keep p xs) ≤ length xs
  unfolding keep
  keep-most p [] = omega arith
  keep-most p (x ∷ xs) = go (p x) (keep-most p xs)
    where
      go : (b : Bool) → length (keep p xs) ≤ length xs → length (cond b (x ∷ keep p xs) (keep p xs)) ≤ suc (length xs)
      go true h = omega arith
      go false h = omega arith

pub table_more : {A : Type 0} (n : ℕ) (f : ℕ → A) → table (n + 1) f ≡ table n f ++ (f n ∷ [])
table_more n f = let same : n + 0 ≡ n = omega arith in table-append n 1 f ∙ ap (λ m. table n f ++ (f m ∷ [])) same

-- ---- the flows of a link

module _ (l : Link) where
  pub flows_most : (streams : List ShowStream) → length (flows_of l streams) ≤ length streams
  flows_most streams = omega (arith, length-map (keep (uses_link l) streams) (entry_on l), keep-most (uses_link l) streams)

  flows-more : (streams : List ShowStream) (s : ShowStream) (b : Bool) → uses_link l s ≡ b
      → flows_of l (streams ++ (s ∷ [])) ≡ cond b (flows_of l streams ++ (entry_on l s ∷ [])) (flows_of l streams)
  flows-more streams s b e =
      let kept = keep (uses_link l) streams in
      ap (map (entry_on l)) (keep-more (uses_link l) streams s ∙ ap (λ t. cond t (kept ++ (s ∷ [])) kept) e) ∙ go kept b
    where
      go : (kept : List ShowStream) (b : Bool) → map (entry_on l) (cond b (kept ++ (s ∷ [])) kept) ≡ cond b (map (entry_on l) kept ++ (entry_on l s ∷ [])) (map (entry_on l) kept)
      go kept true = map-append (entry_on l) kept (s ∷ [])
      go kept false = refl

-- ---- a plan as it is asked for

module _ (dome : Dome) where
  module _ (es : List plan.Entry) (e : plan.Entry) where
    abbrev now-at : ℕ → Wanted
    now-at i = asked_for (get_or es i plan.no_entry)

    abbrev then_at : ℕ → Wanted
    then_at i = asked_for (get_or (es ++ (e ∷ [])) i plan.no_entry)

    before-it : (i : ℕ) → i < length es → now-at i ≡ then_at i
    before-it i l = ap asked_for (sym (get_or-append es (e ∷ []) plan.no_entry i l))

    past-it : (i : ℕ) → length es < i → now-at i ≡ then_at i
    past-it i l =
        ap asked_for (get_or-eq_default es plan.no_entry (omega arith) ∙ sym (get_or-eq_default (es ++ (e ∷ [])) plan.no_entry (omega (arith, length-append es (e ∷ [])))))

    other : (i : ℕ) → (i ≡ length es → ⊥) → Dec (i < length es) → now-at i ≡ then_at i
    other i d (yes l) = before-it i l
    other i d (no l) = past-it i (omega arith)

    entries-more : Dec (length es < 16) → set (table 16 now-at) (length es) (asked_for e) ≡ table 16 then_at
    entries-more (yes l) =
        ap (set (table 16 now-at) (length es)) (ap asked_for (sym (get_or-append_seam es e [] plan.no_entry)))
        ∙ set-table 16 now-at then_at (length es) l (λ k h d. other k d (dec_lt k (length es)))
    entries-more (no l) =
        set_out (table 16 now-at) (length es) (asked_for e) (omega (arith, length-table 16 now-at))
        ∙ table_same 16 now-at then_at (λ k h. before-it k (omega arith))

    pub draft-more : added (draft_over dome es) (asked_for e) ≡ draft_over dome (es ++ (e ∷ []))
    unfolding added draft_over
    draft-more =
        let count = sym (length-append es (e ∷ [])) in
        let entries = entries-more (dec_lt (length es) 16) in
        λ k. record { slots = dome.slots; frames = dome.frames; buffer = dome.buffer; count = count k; entries = entries k }

  pub joined-more : (l : Link) (streams : List ShowStream) (s : ShowStream) → joined l s (draft_over dome (flows_of l streams)) ≡ draft_over dome (flows_of l (streams ++ (s ∷ [])))
  joined-more l streams s = go (uses_link l s) refl
    where
      go : (b : Bool) → uses_link l s ≡ b
          → cond b (added (draft_over dome (flows_of l streams)) (asked_for (entry_on l s))) (draft_over dome (flows_of l streams)) ≡ draft_over dome (flows_of l (streams ++ (s ∷ [])))
      go true e = draft-more (flows_of l streams) (entry_on l s) ∙ ap (draft_over dome) (sym (flows-more l streams s true e))
      go false e = ap (draft_over dome) (sym (flows-more l streams s false e))

  -- ---- and as the model's

  abbrev pub plan_over : List plan.Entry → plan.Plan
  plan_over es = record { slots = dome.slots; frames = dome.frames; buffer = dome.buffer; entries = es }

  module _ (es : List plan.Entry) where
    same_plan : length es ≤ 16 → draft_for (draft_over dome es) ≡ plan_over es
    unfolding draft_over
    same_plan few =
        let asked : ℕ → Wanted = λ i. asked_for (get_or es i plan.no_entry) in
        let entries = table_same (length es) _ (λ i. get_or es i plan.no_entry) (λ i l. ap wanted_for (get_d-table 16 asked i no_wanted (omega arith))) ∙ table-get_d es plan.no_entry in
        λ k. record { slots = dome.slots; frames = dome.frames; buffer = dome.buffer; entries = entries k }

    count_is : plan.flow_count (draft_for (draft_over dome es)) ≡ length es
    unfolding draft_over
    count_is = length-table (length es) _

-- more than 16 flows
many : (P : plan.Plan) → 16 < plan.flow_count P → first_of (number_tests P) ≡ 2
unfolding first_of
many P h = rw (le-leb 1 (plan.flow_count P) (omega arith), lt-leb (plan.flow_count P) 16 h)

module _ (dome : Dome) (es : List plan.Entry) where
  abbrev asked : plan.Plan
  asked = draft_for (draft_over dome es)

  -- the flows past the sixteenth, which are not stored, have no effect on the tests
  pub same_number : first_of (number_tests asked) ≡ first_of (number_tests (plan_over dome es))
  same_number = go (dec_le (length es) 16)
    where
      go : Dec (length es ≤ 16) → first_of (number_tests asked) ≡ first_of (number_tests (plan_over dome es))
      go (yes few) = ap (λ P. first_of (number_tests P)) (same_plan dome es few)
      go (no h) = many asked (omega (arith, count_is dome es)) ∙ sym (many (plan_over dome es) (omega arith))

  -- nor on what is written
  pub same-written : (out : List ℕ) → writer.written asked out ≡ writer.written (plan_over dome es) out
  same-written out = go (dec_le (length es) 16)
    where
      go : Dec (length es ≤ 16) → writer.written asked out ≡ writer.written (plan_over dome es) out
      go (yes few) = ap (λ P. writer.written P out) (same_plan dome es few)
      go (no h) =
          refused-writes asked out 2 (omega arith) (by_number asked out 2 (omega arith) (many asked (omega (arith, count_is dome es))))
          ∙ sym (refused-writes (plan_over dome es) out 2 (omega arith) (by_number (plan_over dome es) out 2 (omega arith) (many (plan_over dome es) (omega arith))))

-- ---- the loop that gathers them

abbrev pub dome_of : Draft → Dome
dome_of d = record { slots = d.slots; frames = d.frames; buffer = d.buffer }

-- the flows of the first streams are gathered
pub record Gathered (numbers cells : List ℕ) (k count : ℕ) (first now : Draft) (i : ℕ) : Type 0 where
  pub within : i ≤ count
  pub is : now ≡ draft_over (dome_of first) (flows_of (link_at k) (table i (show_stream_at numbers cells)))

-- the plan that is begun with has the numbers of the dome
pub same-dome : (dome : Dome) {first : Draft} → first ≡ draft_over dome [] → dome_of first ≡ dome
unfolding draft_over
same-dome dome e = ap dome_of e

module _ (numbers cells : List ℕ) (k count : ℕ) where
  pub none-gathered : (dome : Dome) {first : Draft} → first ≡ draft_over dome [] → Gathered numbers cells k count first first 0
  unfolding keep
  none-gathered dome e = record { within = omega arith; is = e ∙ ap (λ d. draft_over d []) (sym (same-dome dome e)) }

module _ {numbers cells : List ℕ} {k count : ℕ} {first now : Draft} {i : ℕ} where
  -- no more flows than streams
  pub few-gathered : Gathered numbers cells k count first now i → now.count ≤ i
  unfolding draft_over
  few-gathered g =
      let streams = table i (show_stream_at numbers cells) in
      omega (arith, ap (λ (d : Draft). d.count) g.is, flows_most (link_at k) streams, length-table i (show_stream_at numbers cells))

  pub one-gathered : Gathered numbers cells k count first now i → i < count → {usual last : ℕ} → usual ≡ get_or cells (2 * i) 0 → last ≡ get_or cells (2 * i + 1) 0
      → {next : Draft} → next ≡ joined (link_at k) (record { stream = stream_at numbers i; cells = usual; last_cells = last }) now
      → Gathered numbers cells k count first next (i + 1)
  one-gathered g l u v {next} e =
      let dome = dome_of first in
      let streams = table i (show_stream_at numbers cells) in
      let cells_are : next ≡ joined (link_at k) (show_stream_at numbers cells i) now
      = e ∙ (λ j. joined (link_at k) (record { stream = stream_at numbers i; cells = u j; last_cells = v j }) now) in
      record {
        within = omega arith;
        is =
            cells_are ∙ ap (joined (link_at k) (show_stream_at numbers cells i)) g.is
            ∙ joined-more dome (link_at k) streams (show_stream_at numbers cells i)
            ∙ ap (λ xs. draft_over dome (flows_of (link_at k) xs)) (sym (table_more i (show_stream_at numbers cells)));
      }

  pub all-gathered : (dome : Dome) → Gathered numbers cells k count first now i → first ≡ draft_over dome [] → i ≡ count
      → now ≡ draft_over dome (flows_of (link_at k) (table count (show_stream_at numbers cells)))
  all-gathered dome g e end =
      g.is ∙ (λ j. draft_over (same-dome dome e j) (flows_of (link_at k) (table (end j) (show_stream_at numbers cells))))
