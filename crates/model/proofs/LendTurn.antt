-- Whether a lend finds a flow: it finds one of the mask that can take the slot where there is one, and gives 18 where there is none. Assumes nothing.
use Prim.Native.Nat.{ℕ, zero, suc, ◌%◌, ◌<◌}
use mathlib.Core.Path.{◌≡◌, refl, sym, ap, ◌∙◌}
use mathlib.Core.Option.{Option, some, none}
use mathlib.Core.Bool.{Bool, true, false}
use native.Mathlib.Nat.{mod-lt}
use native.Mathlib.Omega.{arith}
use Rattle.model.specs.Tables.{first_from}
use Rattle.model.specs.Refusals.{first_of}
use Rattle.model.specs.Plan.{flow_count}
use Rattle.model.specs.Calls.{accepted, refused}
use Rattle.model.specs.Link.{Link}
use Rattle.model.proofs.Round.{first_with, first_with-low, first_with-high, first_with-mod}
use Rattle.model.proofs.Tables.{first_from-some, first_from-none}
use Rattle.model.specs.Lend.{takes, lend_tests, lent_to, first_in_turn, lent_after, lend_after, lend}

first-nowhere : (n k : ℕ) (f : ℕ → Bool) → ((j : ℕ) → f j ≡ false) → first_from n k f ≡ none
unfolding first_from
first-nowhere zero k f all = refl
first-nowhere (suc n) k f all = rw (all k) (first-nowhere n (suc k) f all)

module _ (l : Link) (mask : ℕ) (passes : first_of (lend_tests l mask) ≡ 0) where
  abbrev n : ℕ
  n = flow_count l.plan

  pub lend-is : lend l mask ≡ lent_after l (first_in_turn l mask)
  unfolding lend lend_after
  lend-is = ap (λ r. lend_after r l mask) passes

  pub no-taker : 0 < n → ((i : ℕ) → i < n → takes l mask i ≡ false) → lend l mask ≡ record { link = l; answer = refused 18 }
  unfolding first_in_turn lent_after
  no-taker some_flow nobody =
      lend-is ∙ ap (lent_after l) (first-nowhere n l.turn (λ k. takes l mask (k % n)) (λ j. nobody (j % n) (mod-lt j some_flow)))

  -- the flow that gets the slot is a flow of the mask that can take it
  pub record Taker : Type 0 where
    pub flow : ℕ
    pub known : flow < n
    pub can : takes l mask flow ≡ true
    pub gets : lend l mask ≡ record { link = lent_to l flow; answer = accepted flow }

  pub some-taker : (i : ℕ) → i < n → takes l mask i ≡ true → Taker
  unfolding first_in_turn lent_after
  some-taker i known can = go (first_in_turn l mask) refl
    where
      some_flow : 0 < n
      some_flow = omega arith

      test : ℕ → Bool
      test k = takes l mask (k % n)

      -- a number from the first flow to look at on that stands for flow i
      place : ℕ
      place = first_with n l.turn i

      passes-there : test place ≡ true
      passes-there = ap (takes l mask) (first_with-mod some_flow l.turn i known) ∙ can

      go : (o : Option ℕ) → first_in_turn l mask ≡ o → Taker
      go none e =
          let fails = first_from-none n l.turn test e place (first_with-low some_flow l.turn i) (first_with-high some_flow l.turn i) in
          let both : ◌≡◌ {A = Bool} true false = sym passes-there ∙ fails in
          let z : ◌≡◌ {A = ℕ} 0 1 = cc in
          absurd (omega arith)
      go (some k) e = record {
        flow = k % n;
        known = mod-lt k some_flow;
        can = (first_from-some n l.turn test k e).passes;
        gets = lend-is ∙ ap (lent_after l) e;
      }
