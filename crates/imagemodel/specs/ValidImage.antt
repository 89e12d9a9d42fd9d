-- Which images are taken, and refusals 21 and 22. RULES 12.2 and 12.3. Assumes nothing.
use Rattle.std.specs.Prelude.{ℕ, ◌≤◌, ◌≡◌, List, ◌∷◌, [], Bool, not, ◌||◌, length, get_or, ltb, eqb}
use Rattle.model.specs.Tables.{every}
use Rattle.model.specs.Refusals.{Line, first_of, ◌when◌}
use Rattle.model.specs.Plan.{positions, flow_count, refusal}
use Rattle.imagemodel.specs.Image.{header_length, positions_at, flows_at, image_length, layout, header_field, state_field, plan_part, plan_in, link_in}
use Rattle.imagemodel.specs.Consistent.{Consistent, consistent}

-- RULES 12.2: test 21, on how many bytes there are
abbrev pub too_short : List ℕ → Bool
too_short b = ltb (length b) header_length || ltb (length b) (header_field b 0)

-- RULES 12.3: the first six fields are those of the plan
unfoldable pub listed : List ℕ → Bool
listed b = every 6 (λ k. eqb (header_field b k) (get_or (layout (plan_in b)) k 0))

-- RULES 12.2: test 22, part by part
abbrev pub fault_tests : List ℕ → List Line
fault_tests b =
    22 when not (listed b)
    -- the plan is accepted
    ∷ 22 when not (eqb (refusal (plan_part b)) 0)
    -- the mark is a bit
    ∷ 22 when ltb 1 (state_field b 1)
    -- RULES 12.3: what is about the link itself
    ∷ 22 when not (consistent (link_in b))
    ∷ []

abbrev pub image_tests : List ℕ → List Line
image_tests b = 21 when too_short b ∷ fault_tests b

-- the refusal of a buffer, and 0 where its image is taken
unfoldable pub refusal_of : List ℕ → ℕ
refusal_of b = first_of (image_tests b)

-- ---- RULES 12.3: an image that is taken. That these are the same is `valid-image`, in proofs/ValidImage.antt

pub record ValidImage (b : List ℕ) : Type 0 where
  -- the buffer is long enough
  pub header_there : header_length ≤ length b
  pub image_there : header_field b 0 ≤ length b
  -- its header is the plan's
  pub total_is : header_field b 0 ≡ image_length (plan_in b)
  pub plan_offset_is : header_field b 1 ≡ header_length
  pub positions_offset_is : header_field b 2 ≡ positions_at (plan_in b)
  pub positions_are : header_field b 3 ≡ positions (plan_in b)
  pub flows_offset_is : header_field b 4 ≡ flows_at (plan_in b)
  pub flows_are : header_field b 5 ≡ flow_count (plan_in b)
  -- the plan is accepted
  pub plan_passes : refusal (plan_part b) ≡ 0
  -- the mark is a bit
  pub mark_is_bit : state_field b 1 ≤ 1
  pub link_consistent : Consistent (link_in b)
