-- The lines of answers, from what the calls on a state hand back: a request, and the owner at a tick. Assumes nothing.
use Prim.Native.Nat.{ℕ, ◌+◌, ◌<◌}
use mathlib.Core.Path.{◌≡◌, refl, sym, ap, ◌∙◌}
use mathlib.Core.List.{List}
use mathlib.Core.Bool.{Bool, true, false, cond}
use native.Mathlib.Decide.{ℕ_discrete}
use native.Mathlib.Omega.{arith}
use lib.Dec.{eqb}
use lib.ListN.{get_or}
use borrow.Author.Tests.{eq-eqb, ne_eqb}
use Rattle.plan.specs.declared.Plan.{Plan}
use Rattle.state.specs.State.{owners_of}
use Rattle.state.proofs.State.{owners-at}
use Rattle.model.specs.Listing.{decimal, line, refusal_line}
use Rattle.model.specs.Word.{depart}
use Rattle.model.proofs.Word.{departure-depart}
use Rattle.calls.specs.declared.Answer.TheVariants.{Granted, Refused}
use Rattle.calls.specs.Reading.{line_for, answer_to_tick}
use Rattle.linetable.specs.declared.Line.{Line}
use Rattle.linetable.specs.Lines.{text_of, no_line, AllLines}
use Rattle.linetable.proofs.Places.{granted-line, turn-line, idle-line}
use Rattle.tables.specs.Owners.{nobody, owner_of}
use Rattle.window.specs.declared.Window.{Window}
use Rattle.link.specs.declared.request.Reply.{Reply}
use Rattle.link.specs.Given.{StateIn}
use Rattle.link.specs.Sound.{SoundState}
use Rattle.link.specs.Steps.{request_answer}
use Rattle.link.proofs.Readings.{flows_most}

-- the line of a request for word x, from what it comes to
pub reply-text : {all : List Line} → AllLines all → (x : ℕ) (r : Reply) → r.position < 256
    → cond (eqb r.number 0) (text_of (get_or all r.position no_line)) (refusal_line r.number) ≡ line_for (request_answer x r)
reply-text {all} v x r h = go (eqb r.number 0)
  where
    go : (b : Bool) → cond b (text_of (get_or all r.position no_line)) (refusal_line r.number)
        ≡ line_for (cond b (Granted (depart x r.position)) (Refused r.number))
    go true = granted-line v r.position h ∙ ap (λ n. line "G" (decimal n)) (sym (departure-depart x r.position (omega arith)))
    go false = refl

-- the line of a tick to a position with owner x
pub tick-text : {all : List Line} → AllLines all → (x : ℕ) → x < 17 → text_of (get_or all (256 + x) no_line) ≡ line_for (answer_to_tick (owner_of x))
tick-text {all} v x h = go (ℕ_discrete x nobody)
  where
    go : Dec (x ≡ nobody) → text_of (get_or all (256 + x) no_line) ≡ line_for (answer_to_tick (owner_of x))
    go (yes d) = rw (eq-eqb x nobody d, d) (idle-line v)
    go (no d) = rw (ne_eqb x nobody d) (turn-line v x (omega arith))

-- an owner is one of sixteen flows, or nobody
owner-few : {plan : Plan} {s : List ℕ} → SoundState plan s → (p : ℕ) → p < 256 → get_or s (4096 + p) 0 < 17
owner-few {plan} {s} v p h = rw (← owners-at s p h) (go (ℕ_discrete (get_or (owners_of s) p 0) nobody))
  where
    go : Dec (get_or (owners_of s) p 0 ≡ nobody) → get_or (owners_of s) p 0 < 17
    go (yes d) = omega arith
    go (no d) = omega (arith, v.parts.owners p h d, flows_most _ v.parts)

-- the one at the current position
pub owner_at : {plan : Plan} {w : Window} {s : List ℕ} → StateIn plan w s → get_or s (4096 + w.current) 0 < 17
owner_at o = owner-few o.sound _ (omega (arith, o.proper.measures.current_below, o.proper.measures.positions_most))
