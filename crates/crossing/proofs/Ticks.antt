-- The next position, and both links' ticks. Assumes nothing.
use Prim.Native.Nat.{ℕ, ◌+◌, ◌*◌, ◌%◌}
use mathlib.Core.Path.{◌≡◌, refl, sym, ap, ◌∙◌, subst}
use mathlib.Core.List.{List}
use mathlib.Core.Option.{some, none}
use mathlib.Core.Bool.{Bool, true, false, cond}
use lib.Dec.{eqb}
use Rattle.model.specs.Calls.{TickAnswer}
use Rattle.model.specs.Window as seen
use Rattle.model.specs.Link as model
use Rattle.model.specs.Credit.{credit}
use Rattle.model.specs.Tick.{next_position, recycled, advanced, tick}
use Rattle.plan.specs.declared.Plan.{Plan}
use Rattle.calls.specs.declared.Answer.{Answer}
use Rattle.calls.specs.Reading.{answer_to_tick}
use Rattle.window.specs.declared.Window.{Window}
use Rattle.window.specs.Window.{window_of}
use Rattle.link.specs.Given.{StateIn}
use Rattle.link.specs.Steps.{read_in, Went, number_of}
use Rattle.crossings.specs.Crossing as reference
use Rattle.crossings.specs.Playing.{both_tick, tick_answer_of}
use Rattle.crossing.specs.declared.Crossing.{Crossing}
use Rattle.crossing.specs.Reading.{BoardIn, Reads, Comes}

-- ---- the next position

pub next-is : {p : Plan} {w : Window} {s : List ℕ} → StateIn p w s → (w.current + 1) % (w.slots * w.frames) ≡ next_position (read_in p s)
next-is o = ap (λ (v : seen.Window). (v.current + 1) % (v.slots * v.frames)) o.window_is

pub dated-next : {p : Plan} {w : Window} {s t : List ℕ} → StateIn p w s → {n : ℕ} (i q : ℕ) → q ≡ (w.current + 1) % (w.slots * w.frames)
    → Went number_of (credit (read_in p s) i q) p t n → Went number_of (credit (read_in p s) i (next_position (read_in p s))) p t n
dated-next {p} {s = s} {t} o {n} i q e = subst (λ (r : ℕ). Went number_of (credit (read_in p s) i r) p t n) (e ∙ next-is o)

-- ---- a tick

-- the window after a tick goes by the one before it
abbrev ticked : seen.Window → seen.Window
ticked v = record { slots = v.slots; frames = v.frames; current = (v.current + 1) % (v.slots * v.frames) }

tick-window : (l : model.Link) → model.window (tick l).link ≡ ticked (model.window l)
unfolding tick advanced recycled
tick-window l = go (eqb (next_position l % l.plan.slots) 0)
  where
    go : (b : Bool) → model.window (model.with_mark (model.with_current (cond b (recycled l) l) (next_position l)) false) ≡ ticked (model.window l)
    go true = refl
    go false = refl

one-tick-answer : (a b : TickAnswer) → answer_to_tick a ≡ answer_to_tick b → a ≡ b
one-tick-answer (some i) (some j) e = cc
one-tick-answer (some i) none e = cc
one-tick-answer none (some j) e = cc
one-tick-answer none none e = refl

-- the window of a state after a tick
window_on : {p : Plan} {w : Window} {s t : List ℕ} {r : Answer} → StateIn p w s → Went answer_to_tick (tick (read_in p s)) p t r
    → model.window (read_in p t) ≡ ticked (window_of w)
window_on {p} {s = s} y went = ap model.window went.link_is ∙ tick-window (read_in p s) ∙ ap ticked (sym y.window_is)

module _ {x : Crossing} {w on there : Window} {a b a' b' : List ℕ} {r₁ r₂ : Answer} (o : BoardIn x w a b)
    (first : Went answer_to_tick (tick (read_in x.arriving a)) x.arriving a' r₁) (at_first : StateIn x.arriving on a')
    (second : Went answer_to_tick (tick (read_in x.leaving b)) x.leaving b' r₂) (at_second : StateIn x.leaving there b') where
  -- both have the window after w
  pub both-ticked : BoardIn x on a' b'
  both-ticked = record {
    arriving = at_first;
    leaving = record {
      sound = at_second.sound;
      proper = at_first.proper;
      window_is = at_first.window_is ∙ window_on o.arriving first ∙ sym (window_on o.leaving second);
    };
  }

  ticked-reads : {k : List ℕ} {p : reference.Crossing} → Reads p x a b k → Reads (both_tick p) x a' b' k
  ticked-reads r = record {
    arriving_is = ap (λ (l : model.Link). (tick l).link) r.arriving_is ∙ sym first.link_is;
    leaving_is = ap (λ (l : model.Link). (tick l).link) r.leaving_is ∙ sym second.link_is;
    onward_is = r.onward_is;
    waiting_is = r.waiting_is;
  }

  -- what is done after the ticks
  pub crossed : {k a'' b'' k'' : List ℕ} (owner : TickAnswer) → Comes x (reference.served owner) a' b' k a'' b'' k'' → r₁ ≡ answer_to_tick owner
      → Comes x (λ p. reference.served (tick_answer_of p) (both_tick p)) a b k a'' b'' k''
  crossed {a'' = a''} {b''} {k''} owner served e p r =
      let is = one-tick-answer owner _ (sym e ∙ first.answer_is) ∙ sym (ap (λ (l : model.Link). (tick l).answer) r.arriving_is) in
      subst (λ (t : TickAnswer). Reads (reference.served t (both_tick p)) x a'' b'' k'') is (served (both_tick p) (ticked-reads r))
