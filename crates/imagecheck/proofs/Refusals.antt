-- The refusal of a buffer, test by test. Assumes nothing.
use Prim.Native.Nat.{ℕ, ◌≤◌, ◌<◌}
use mathlib.Core.Path.{◌≡◌, refl, ap, ◌∙◌}
use mathlib.Core.List.{List, ◌∷◌, []}
use mathlib.Core.Bool.{Bool, true, false, not}
use native.Mathlib.Omega.{arith}
use lib.ListN.{length, get_or}
use lib.Dec.{ltb, eqb}
use borrow.Author.Tests.{lt-ltb, le-ltb, eq-eqb, ne_eqb, eqb-true}
use Rattle.model.specs.Tables.{every}
use Rattle.model.specs.Refusals.{first_of, ◌when◌}
use Rattle.model.specs.Plan as model
use Rattle.model.specs.Plan.{refusal}
use Rattle.model.proofs.Tests.{or-true}
use Rattle.std.proofs.Common.{Result, Ok, Err, IsOk}
use Rattle.limits.specs.declared.refusal.Refusal.{Refusal}
use Rattle.limits.proofs.Refusals.{some-number}
use Rattle.plan.specs.declared.Plan.{Plan}
use Rattle.plan.specs.Reading.{plan_for, ReadAs}
use Rattle.plan.proofs.Laws.{is-plan}
use Rattle.window.proofs.Tabulated.{every-at}
use Rattle.imagemodel.specs.Image.{header_length, image_length, layout, header_field, plan_part, plan_in, link_from, link_in}
use Rattle.imagemodel.specs.Consistent.{consistent}
use Rattle.imagemodel.specs.ValidImage.{listed, refusal_of}
use Rattle.imagecheck.specs.declared.layout.Layout.{Layout}
use Rattle.imagecheck.specs.Layout.{fields_of, LaidOut}
use Rattle.imagecheck.specs.Asked.{LongEnough}
use Rattle.imagecheck.proofs.Layouts.{total_is}

module _ (b : List ℕ) where
  -- ---- 21

  pub no_header : length b < header_length → 21 ≡ refusal_of b
  unfolding refusal_of first_of
  no_header h = rw (lt-ltb (length b) header_length h)

  pub no-image : length b < header_field b 0 → 21 ≡ refusal_of b
  unfolding refusal_of first_of
  no-image h = rw (or-true (ltb (length b) header_length) _ (lt-ltb (length b) (header_field b 0) h))

  -- ---- 22, in a buffer that is long enough

  module _ (v : LongEnough b) where
    -- its plan is refused
    pub no-plan : (refusal (plan_part b) ≡ 0 → ⊥) → 22 ≡ refusal_of b
    unfolding refusal_of first_of
    no-plan d =
        rw (le-ltb (length b) header_length v.header_there, le-ltb (length b) (header_field b 0) v.image_there, ne_eqb (refusal (plan_part b)) 0 d)
        (go (listed b))
      where
        go : (r : Bool) → 22 ≡ first_of (22 when not r ∷ 22 when true ∷ [])
        go true = refl
        go false = refl

    -- its plan is accepted
    pub by_tests : (l m k : Bool) → refusal (plan_part b) ≡ 0 → listed b ≡ l → ltb 1 (header_field b 7) ≡ m → consistent (link_in b) ≡ k
        → first_of (22 when not l ∷ 22 when m ∷ 22 when not k ∷ []) ≡ refusal_of b
    unfolding refusal_of first_of
    by_tests l m k p el em ek =
        rw (
          le-ltb (length b) header_length v.header_there,
          le-ltb (length b) (header_field b 0) v.image_there,
          eq-eqb (refusal (plan_part b)) 0 p,
          el,
          em,
          ek,
        ) refl

  -- an image whose header states a plan's layout is there
  pub image-fits : {P : model.Plan} {y : Layout} {stated : List ℕ} → LongEnough b → LaidOut P y → stated ≡ fields_of y
      → every 6 (λ k. eqb (header_field b k) (get_or stated k 0)) ≡ true → image_length P ≤ length b
  image-fits {P} {stated = stated} v laid is e =
      let first = every-at 6 (λ k. eqb (header_field b k) (get_or stated k 0)) 0 e (omega arith) in
      let total : header_field b 0 ≡ image_length P = eqb-true _ _ first ∙ ap (λ (xs : List ℕ). get_or xs 0 0) is ∙ total_is laid in
      omega (arith, v.image_there)

  -- ---- the plan that is read

  pub plan-fails : (r : Refusal) → ReadAs (plan_part b) (Err r) → refusal (plan_part b) ≡ 0 → ⊥
  plan-fails r e z = omega (arith, some-number r, e)

  module _ {p : Plan} (e : ReadAs (plan_part b) (Ok p)) where
    pub plan_is : plan_for p ≡ plan_in b
    plan_is = is-plan (plan_part b) p e

    pub listed-is : {y : Layout} {stated : List ℕ} → LaidOut (plan_for p) y → stated ≡ fields_of y
        → every 6 (λ k. eqb (header_field b k) (get_or stated k 0)) ≡ listed b
    unfolding listed
    listed-is laid is = ap (λ xs. every 6 (λ k. eqb (header_field b k) (get_or xs k 0))) (is ∙ laid.is ∙ ap layout plan_is)

    pub consistent-is : consistent (link_from b (plan_for p)) ≡ consistent (link_in b)
    unfolding link_in
    consistent-is = ap (λ P. consistent (link_from b P)) plan_is

  -- the plan of an image that is taken is there
  pub plan-there : (r : Result Plan Refusal) → ReadAs (plan_part b) r → refusal (plan_part b) ≡ 0 → IsOk r
  plan-there (Ok p) e z = refl
  plan-there (Err r) e z = absurd (plan-fails r e z)
