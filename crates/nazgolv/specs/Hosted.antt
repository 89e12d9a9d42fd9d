-- What the contracts of the exports say of a host's calls, each on the image that the call before left. RULES 12.7. Assumes nothing.
use Rattle.std.specs.Prelude.{ℕ, ◌≡◌, List, ◌∷◌, [], length}
use Rattle.model.specs.Record.{records}
use Rattle.model.specs.Calls.{Event, History, requested, credited, ticked, lent}
use Rattle.imagemodel.specs.Exports.{HandsBack, fresh_on, request_on, credit_on, tick_on, lend_on, reset_on}
use Rattle.imagemodel.specs.Chain.{answer_of, tick_answer_of, image_in}
use Rattle.imagemodel.specs.Play.{PlaysBack, play_on, numbers_in, events_of}

-- RULES 12.7: this buffer is in hand after a host's calls with the events h, of which the newest is first. Each case has what the contract of that
-- export ensures of its number r and of the buffer after it; the event has the answer that r stands for. The next call gets any buffer with the same
-- image, whole: a call that gets less of it is turned back with 21, reaches no link, and is no call of the list.
pub data Hosted (plan : List ℕ) : History → List ℕ → Type 0 where
  by_fresh : (b : List ℕ) {after : List ℕ} → HandsBack (fresh_on plan b) 0 after → Hosted plan [] after
  by_request : {h : History} {b : List ℕ} → Hosted plan h b → (c : List ℕ) → image_in c ≡ image_in b → (word r : ℕ) {after : List ℕ}
      → HandsBack (request_on c word) r after → Hosted plan (requested word (answer_of r r) ∷ h) after
  by_credit : {h : History} {b : List ℕ} → Hosted plan h b → (c : List ℕ) → image_in c ≡ image_in b → (flow position r : ℕ) {after : List ℕ}
      → HandsBack (credit_on c flow position) r after → Hosted plan (credited flow position (answer_of tt r) ∷ h) after
  by_tick : {h : History} {b : List ℕ} → Hosted plan h b → (c : List ℕ) → image_in c ≡ image_in b → (r : ℕ) {after : List ℕ}
      → HandsBack (tick_on c) r after → Hosted plan (ticked (tick_answer_of r) ∷ h) after
  by_lend : {h : History} {b : List ℕ} → Hosted plan h b → (c : List ℕ) → image_in c ≡ image_in b → (mask r : ℕ) {after : List ℕ}
      → HandsBack (lend_on c mask) r after → Hosted plan (lent mask (answer_of r r) ∷ h) after
  by_reset : {h : History} {b : List ℕ} → Hosted plan h b → (c : List ℕ) → image_in c ≡ image_in b → (r : ℕ) {after : List ℕ}
      → HandsBack (reset_on c) r after → Hosted plan (Event.reset (answer_of tt r) ∷ h) after
  -- RULES 12.10: a play is the calls that its records make, and their numbers stand in `out`
  by_play : {h : History} {b : List ℕ} → Hosted plan h b → (c : List ℕ) → image_in c ≡ image_in b → (stream out : List ℕ) {after out' : List ℕ}
      → PlaysBack (play_on c stream out) 0 after out' → Hosted plan (events_of (records stream) (numbers_in out' (length (records stream))) h) after
