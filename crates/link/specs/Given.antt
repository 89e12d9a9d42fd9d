-- What the functions below a call are given of a link. Assumes nothing.
use Rattle.std.specs.Prelude.{ℕ, ◌<◌, ◌≡◌, List, true, cond, get_or, ltb}
use Rattle.plan.specs.declared.Entry.{Entry}
use Rattle.plan.specs.declared.Plan.{Plan}
use Rattle.plan.specs.Reading.{no_entry, plan_for}
use Rattle.model.specs.Refusals.{first_of}
use Rattle.model.specs.Word.{flow_of, split}
use Rattle.model.specs.Link as model
use Rattle.model.specs.Window.{every_from}
use Rattle.model.specs.Request.{request_tests}
use Rattle.word.specs.declared.Fields.{Fields}
use Rattle.word.specs.Reading.{fields_of}
use Rattle.window.specs.declared.Window.{Window}
use Rattle.window.specs.Window.{window_of, size_of, Proper}
use Rattle.tables.specs.Rows.{row}
use Rattle.tables.specs.Holdings.{some_held}
use Rattle.link.specs.declared.Flow.{Flow}
use Rattle.link.specs.Parts.{Parts, parts_in, flow_read}
use Rattle.link.specs.Reading.{link_of}
use Rattle.link.specs.Sound.{SoundState}

-- a state of plan p, and its window w
pub record StateIn (p : Plan) (w : Window) (s : List ℕ) : Type 0 where
  pub sound : SoundState p s
  pub proper : Proper w
  pub window_is : window_of w ≡ model.window (link_of (parts_in p s))

-- ---- a credit: flow i is one of n, p is a position, and the flow holds something there and at every later position
pub record Creditable (n : ℕ) (w : Window) (held : List ℕ) (i p : ℕ) : Type 0 where
  pub flow : i < n
  pub position : p < size_of w
  pub some_held : every_from (window_of w) p (some_held (row held i)) ≡ true

-- ---- a request

-- flow i of a plan of n flows, and 0 where there is none
abbrev pub flow_or_zero : (n i : ℕ) → ℕ
flow_or_zero n i = cond (ltb i n) i 0

-- word x, whose fields are f, on a state of plan p, which has n flows: e is the entry of its flow, and of flow 0 where there is none
pub record RequestIn (p : Plan) (n : ℕ) (e : Entry) (w : Window) (f : Fields) (x : ℕ) (s : List ℕ) : Type 0 where
  pub state : StateIn p w s
  pub count_is : n ≡ p.count
  pub fields_are : fields_of f ≡ split x
  pub entry_is : e ≡ get_or p.entries (flow_or_zero n f.flow) no_entry

-- what is given is given of some plan and some word
pub record SomeRequest (Given : Plan → ℕ → Type 0) : Type 0 where
  pub plan : Plan
  pub word : ℕ
  pub given : Given plan word

-- what the tests of a word before the search come to on link l
abbrev pub tests_of : Parts → ℕ → ℕ
tests_of l x = first_of (request_tests (plan_for l.plan) (model.flow (link_of l) (flow_of x)).number x)

-- the search for flow i, which is f and has the entry e, and a departure d
pub record SeekIn (p : Plan) (e : Entry) (w : Window) (i : ℕ) (f : Flow) (d : ℕ) (s : List ℕ) : Type 0 where
  pub state : StateIn p w s
  pub flow : i < p.count
  pub entry_is : e ≡ get_or p.entries i no_entry
  pub flow_is : f ≡ flow_read s i
  pub departure : d < size_of w

-- what is given is given of some plan
pub record SomePlan (Given : Plan → Type 0) : Type 0 where
  pub plan : Plan
  pub given : Given plan
