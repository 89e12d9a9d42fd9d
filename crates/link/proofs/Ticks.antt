-- A tick on a link, as it is read: the head frame stays or is left, and CP goes on by one. Assumes nothing.
use Prim.Native.Nat.{ℕ, ◌+◌, ◌/◌, ◌%◌}
use mathlib.Core.Path.{◌≡◌, refl, sym, ap, ◌∙◌}
use mathlib.Core.List.{List}
use mathlib.Core.Bool.{false}
use borrow.Author.Tests.{eq-eqb, ne_eqb}
use Rattle.model.specs.Window as seen
use Rattle.model.specs.Link as model
use Rattle.model.specs.Tick as tick
use Rattle.plan.specs.declared.Plan.{Plan}
use Rattle.calls.specs.declared.Answer.{Answer}
use Rattle.calls.specs.Reading.{answer_to_tick}
use Rattle.window.specs.declared.Window.{Window}
use Rattle.window.specs.Window as window
use Rattle.tables.specs.Owners.{owner_of, emptied}
use Rattle.unbooked.specs.Words.{Recycled}
use Rattle.tables.specs.Holdings.{carried}
use Rattle.link.specs.declared.Flow.{Flow}
use Rattle.link.specs.Parts.{Parts}
use Rattle.link.specs.Layout.{owner_at}
use Rattle.link.specs.Updates.{left_heads, link_with, with_current, with_mark}
use Rattle.link.specs.Reading.{link_of}
use Rattle.link.specs.Sound.{Sound}
use Rattle.link.specs.Steps.{SteppedParts}
use Rattle.link.proofs.Given.{AtHand}
use Rattle.link.proofs.Readings.{read-owner}
use Rattle.link.proofs.Updated.{sound-with, sound-owners, sound-flows}
use Rattle.link.proofs.FrameChanges.{window_at, next_at, recycled, next-below, read-recycled, sound-recycled}

-- x, with the current position p, is link l after its tick; its mark is off
pub record Advanced (l x : Parts) (p : ℕ) : Type 0 where
  pub plan_is : x.plan ≡ l.plan
  pub link_is : link_of (with_current x p) ≡ tick.advanced (link_of l)
  pub sound : Sound (with_current x p)

module _ (l : Parts) (s : Sound l) where
  stayed : (next_at l % l.plan.slots ≡ 0 → ⊥) → Advanced l (with_mark l false) (next_at l)
  unfolding tick.advanced link_of
  stayed n = record {
    plan_is = refl;
    link_is = rw (ne_eqb _ _ n);
    sound = sound-with l s (next-below l s) (sound-owners l s) (sound-flows l s);
  }

  changed : {u : List ℕ} → next_at l % l.plan.slots ≡ 0 → Recycled l.plan.slots (window_at l).head l.unbooked u
      → Advanced l (recycled l u) (next_at l)
  unfolding tick.advanced link_of
  changed {u} z x = record { plan_is = refl; link_is = rw (eq-eqb _ _ z) (read-recycled l s u); sound = sound-recycled l s x }

module _ {l : Parts} {plan : Plan} {w : Window} (a : AtHand l plan w) {on : Window} (t : window.Ticked w on) where
  window_is : w ≡ window_at l
  unfolding link_of
  window_is =
      let head = a.proper.head_is ∙ ap (λ (x : seen.Window). x.current / x.slots) a.window_is in λ k.
      record { slots = (a.window_is k).slots; frames = (a.window_is k).frames; current = (a.window_is k).current; head = head k }

  next-is : on.current ≡ next_at l
  next-is = ap (λ (x : seen.Window). x.current) t.window_is ∙ ap (λ (x : Window). (x.current + 1) % window.size_of x) window_is

  slots_are : w.slots ≡ l.plan.slots
  slots_are = ap (λ (x : Window). x.slots) window_is

  -- the head frame stays
  pub head-stays : {x : Parts} → on.head ≡ w.head → with_current x on.current ≡ with_current (with_mark l false) on.current
      → Advanced l x on.current
  head-stays e same =
      let r = stayed l a.sound (λ z. t.stays e (rw (next-is, slots_are) z)) in
      let there = same ∙ ap (with_current (with_mark l false)) next-is in
      record { plan_is = ap (λ (y : Parts). y.plan) there; link_is = ap link_of there ∙ r.link_is; sound = rw there r.sound }

  -- the head frame is left: its owners with their words, its holdings and its flows were changed
  pub head-left : {x : Parts} {o u h : List ℕ} {fs : List Flow} → (on.head ≡ w.head → ⊥)
      → o ≡ emptied w l.owner
      → Recycled w.slots w.head l.unbooked u
      → h ≡ carried w plan.count l.held
      → fs ≡ left_heads plan w.head on.head l.flows
      → with_current x on.current ≡ link_with l on.current o u fs h false
      → Advanced l x on.current
  head-left {x} {o} {u} {h} {fs} n owners words held flows same =
      let words_are = rw (slots_are, ap (λ (x : Window). x.head) window_is) at words in
      let r = changed l a.sound (rw (← next-is, ← slots_are) (t.leaves n).0) words_are in
      let there = same ∙ (λ k. link_with l (next-is k) (owners_are k) u (flows_are k) (held_is k) false) in
      record { plan_is = ap (λ (y : Parts). y.plan) there; link_is = ap link_of there ∙ r.link_is; sound = rw there r.sound }
    where
      owners_are : o ≡ (recycled l u).owner
      owners_are = owners ∙ ap (λ (x : Window). emptied x l.owner) window_is

      held_is : h ≡ (recycled l u).held
      held_is = held ∙ (λ k. carried (window_is k) (a.plan_is k).count l.held)

      flows_are : fs ≡ (recycled l u).flows
      flows_are =
          flows
          ∙ ap (λ (j : ℕ). left_heads plan w.head j l.flows) (t.leaves n).1
          ∙ (λ k. left_heads (a.plan_is k) (window_is k).head (((window_is k).head + 1) % (window_is k).frames) l.flows)

  -- the answer is the owner of the new current position
  pub ticked : {x : Parts} {answer : Answer} → Advanced l x on.current → answer ≡ answer_to_tick (owner_of (owner_at x on.current))
      → SteppedParts answer_to_tick (tick.tick (link_of l)) (with_current x on.current) answer
  unfolding tick.tick link_of
  ticked {x} r e = record {
    link_is = r.link_is;
    answer_is =
        e
        ∙ ap answer_to_tick (sym (read-owner (with_current x on.current) on.current r.sound.current))
        ∙ (λ k. answer_to_tick (model.owner (r.link_is k) (next-is k)));
    sound = r.sound;
  }
