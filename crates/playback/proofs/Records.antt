-- What a record that is played comes to: the model's link after its call, and the model's line. Assumes nothing.
use Prim.Native.Nat.{ℕ}
use mathlib.Core.Path.{◌≡◌, refl, sym, ap, ◌∙◌}
use mathlib.Core.List.{List}
use mathlib.Core.Option.{Option}
use Rattle.plan.specs.declared.Plan.{Plan}
use Rattle.calls.specs.declared.Answer.{Answer}
use Rattle.calls.specs.declared.Answer.TheVariants.{Refused}
use Rattle.std.specs.Prelude as rust
use Rattle.std.specs.Prelude.{Some, None}
use Rattle.calls.specs.declared.Call.{Call}
use Rattle.calls.specs.declared.Call.TheVariants.{Request, Credit, Tick}
use Rattle.calls.specs.Reading.{record_for, call_in, line_for, answer_to_request, answer_to_credit, answer_to_tick}
use Rattle.calls.proofs.Answers.{call-in, line-of-request, line-of-credit, line-of-tick}
use Rattle.model.specs.Record.{RecordCall}
use Rattle.model.specs.Request.{request}
use Rattle.model.specs.Credit.{credit}
use Rattle.model.specs.Tick.{tick}
use Rattle.model.specs.Listing.{line_of, made}
use Rattle.window.specs.declared.Window.{Window}
use Rattle.link.specs.Given.{StateIn}
use Rattle.link.specs.Steps.{read_in, Went}
use Rattle.link.proofs.Stays.{request-current, credit-current, still-in}

-- ---- what a record reads as

-- the call that a record makes, if it makes one
abbrev pub Made : Type 0
Made = Option RecordCall

-- a record that was read, by the call that it makes
pub reads_as : (o : Made) (r : rust.Option Call) → r ≡ record_for o → o ≡ call_in r
reads_as o r e = sym (call-in o) ∙ ap call_in (sym e)

-- ---- what it comes to

-- from state s of a plan the call o, or none, comes to this state with this window at hand, and to an answer with the model's line
pub record Played (plan : Plan) (s : List ℕ) (o : Made) (w : Window) (t : List ℕ) (answer : Answer) : Type 0 where
  pub link_is : read_in plan t ≡ (made (read_in plan s) o).link
  pub line_is : line_for answer ≡ line_of (made (read_in plan s) o).answer
  pub hand : StateIn plan w t

-- no call: 16, and the link stays
pub no-call-played : {plan : Plan} {w : Window} {s : List ℕ} → StateIn plan w s → Played plan s (call_in None) w s (Refused 16)
no-call-played hand = record { link_is = refl; line_is = refl; hand = hand }

module _ {plan : Plan} {w : Window} {s : List ℕ} (o : StateIn plan w s) {t : List ℕ} {answer : Answer} where
  pub played-request : (x : ℕ) → Went answer_to_request (request (read_in plan s) x) plan t answer
      → Played plan s (call_in (Some (Request x))) w t answer
  played-request x e = record {
    link_is = e.link_is;
    line_is = ap line_for e.answer_is ∙ line-of-request (request (read_in plan s) x).answer;
    hand = still-in o e (request-current (read_in plan s) x);
  }

  pub played-credit : (i p : ℕ) → Went answer_to_credit (credit (read_in plan s) i p) plan t answer
      → Played plan s (call_in (Some (Credit i p))) w t answer
  played-credit i p e = record {
    link_is = e.link_is;
    line_is = ap line_for e.answer_is ∙ line-of-credit (credit (read_in plan s) i p).answer;
    hand = still-in o e (credit-current (read_in plan s) i p);
  }

  pub played-tick : {on : Window} → Went answer_to_tick (tick (read_in plan s)) plan t answer → StateIn plan on t
      → Played plan s (call_in (Some Tick)) on t answer
  played-tick e there = record {
    link_is = e.link_is;
    line_is = ap line_for e.answer_is ∙ line-of-tick (tick (read_in plan s)).answer;
    hand = there;
  }
