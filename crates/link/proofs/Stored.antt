-- The reading determines the parts of a sound link: they are what it is stored as. It says nothing of the bounds, which no reading sees. Assumes nothing.
use Prim.Native.Nat.{ℕ, ◌<◌}
use mathlib.Core.Path.{◌≡◌, refl, sym, ap, ◌∙◌}
use mathlib.Core.Bool.{Bool, true, false}
use native.Mathlib.Decide.{dec_lt}
use native.Mathlib.Omega.{arith}
use lib.ListN.{get_or, get_or-replicate}
use lib.Dec.{eqb}
use borrow.Author.Tests.{eqb-true}
use Rattle.model.specs.Tables.{table}
use Rattle.model.specs.Link as model
use Rattle.plan.specs.declared.Plan.{Plan}
use Rattle.link.specs.Parts.{Parts}
use Rattle.link.specs.Layout.{FlowRow, size_for, size_of, flow_at, owner_at, no_flow}
use Rattle.tables.specs.Owners.{nobody, owner_of, everywhere}
use Rattle.link.specs.Reading.{flow_of, link_of, stored_owner, stored_flow, stored}
use Rattle.link.specs.Sound.{Sound, SoundFlow}
use Rattle.model.specs.Request.{unbooked}
use Rattle.unbooked.specs.Words.{words_of}
use Rattle.unbooked.proofs.FrameWords.{one_list, words-of, words_same}
use Rattle.window.proofs.Tabulated.{get_d-table, table-past, table_of}
use Rattle.tables.specs.Rows.{rows_of}
use Rattle.tables.proofs.Rows.{rows-of}
use Rattle.link.proofs.Plans.{stored-plan}
use Rattle.link.proofs.Readings.{read-flow, read-owner}

owner-back : (x : ℕ) → stored_owner (owner_of x) ≡ x
owner-back x = go (eqb x nobody) refl
  where
    go : (b : Bool) → eqb x nobody ≡ b → stored_owner (owner_of x) ≡ x
    go true e = rw e (sym (eqb-true x nobody e))
    go false e = rw e

held_back : (plan : Plan) (f : FlowRow) → SoundFlow plan f → (p : ℕ) → get_or (flow_of (size_for plan) f).held p 0 ≡ get_or f.held p 0
held_back plan f v p = go (dec_lt p (size_for plan))
  where
    go : Dec (p < size_for plan) → get_or (table (size_for plan) (λ p. get_or f.held p 0)) p 0 ≡ get_or f.held p 0
    go (yes b) = get_d-table (size_for plan) _ p 0 b
    go (no b) = table-past (size_for plan) _ p 0 (omega arith) ∙ sym (v.spare p (omega arith))

-- a link that is stored and read is itself
pub stored-reading : (l : Parts) → Sound l → stored (link_of l) ≡ l
unfolding stored link_of everywhere
stored-reading l s = λ k. record {
  plan = stored-plan l.plan s.plan k;
  current = l.current;
  owner = owners k;
  unbooked = words k;
  flows = flows k;
  held = held k;
  marked = l.marked;
  turn = l.turn;
}
  where
    owner : (p : ℕ) → p < 256 → Dec (p < size_of l) → stored_owner (model.owner (link_of l) p) ≡ owner_at l p
    owner p b (yes h) = ap stored_owner (read-owner l p h) ∙ owner-back (owner_at l p)
    owner p b (no h) = ap stored_owner (table-past (size_of l) _ p _ (omega arith)) ∙ sym (s.spare_owners p (omega arith) b)

    -- past the plan's flows
    no_flow_lem : (i : ℕ) → (i < l.plan.count → ⊥) → model.flow (link_of l) i ≡ model.no_flow
    no_flow_lem i n = table-past l.plan.count _ i model.no_flow (omega arith)

    flow : (i : ℕ) → i < 16 → Dec (i < l.plan.count)
        → stored_flow (model.flow (link_of l) i) ≡ get_or l.flows i no_flow
    flow i b (yes h) = ap stored_flow (read-flow l i h)
    flow i b (no h) = ap stored_flow (no_flow_lem i h) ∙ sym (ap (λ (x : FlowRow). x.flow) (s.spare_flows i (omega arith) b))

    holding : (i p : ℕ) → i < 16 → p < 256 → Dec (i < l.plan.count) → model.holding (link_of l) i p ≡ get_or (flow_at l i).held p 0
    holding i p b c (yes h) = ap (λ (f : model.Flow). get_or f.held p 0) (read-flow l i h) ∙ held_back l.plan (flow_at l i) (s.flows i h) p
    holding i p b c (no h) =
        ap (λ (f : model.Flow). get_or f.held p 0) (no_flow_lem i h)
        ∙ sym (ap (λ (f : FlowRow). get_or f.held p 0) (s.spare_flows i (omega arith) b) ∙ get_or-replicate 256 p 0 0 c)

    owners : table 256 (λ p. stored_owner (model.owner (link_of l) p)) ≡ l.owner
    owners = table_of l.owner 256 _ 0 s.owners_long (λ p b. owner p b (dec_lt p (size_of l)))

    words : words_of l.plan.slots l.plan.frames (λ p. unbooked (model.owner (link_of l) p)) ≡ l.unbooked
    words =
        let F = l.plan.slots in
        let W = l.plan.frames in
        let made = words-of F W (λ p. unbooked (model.owner (link_of l) p)) s.plan.accepted.frames_most in
        one_list F W made (words_same F W s.unbooked (λ p h. rw (read-owner l p h)))

    flows : table 16 (λ i. stored_flow (model.flow (link_of l) i)) ≡ l.flows
    flows = table_of l.flows 16 _ no_flow s.flows_long (λ i b. flow i b (dec_lt i l.plan.count))

    held : rows_of (model.holding (link_of l)) ≡ l.held
    held = rows-of l.held _ s.held_long (λ i p b c. holding i p b c (dec_lt i l.plan.count))

-- two sound links with one reading are one link
pub one-reading : (l k : Parts) → Sound l → Sound k → link_of l ≡ link_of k → l ≡ k
one-reading l k s t e = sym (stored-reading l s) ∙ ap stored e ∙ stored-reading k t

-- so a call's contract gives the whole link that it hands back
pub whole-link : (l : Parts) (m : model.Link) → Sound l → link_of l ≡ m → l ≡ stored m
whole-link l m s e = sym (stored-reading l s) ∙ ap stored e
