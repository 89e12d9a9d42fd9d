-- The crate's calls as the model's. Assumes nothing.
use Rattle.std.specs.Prelude.{Some, None}
use Rattle.std.specs.Prelude as rust
use Rattle.std.proofs.Math.Option.{Option, some, none}
use Rattle.model.specs.Calls as model
use Rattle.nazgolv.specs.declared.Call.{Call}
use Rattle.nazgolv.specs.declared.Call.TheVariants.{Request, Credit, Tick, Lend, Reset}
use Rattle.calls.specs.declared.Call as calls

abbrev pub call_for : Call → model.Call
call_for (Request word) = model.Call.request word
call_for (Credit flow position) = model.Call.credit flow position
call_for Tick = model.Call.tick
call_for (Lend mask) = model.Call.lend mask
call_for Reset = model.Call.reset

-- the crate's call for the model's
abbrev pub call_out : model.Call → Call
call_out (model.Call.request word) = Request word
call_out (model.Call.credit flow position) = Credit flow position
call_out model.Call.tick = Tick
call_out (model.Call.lend mask) = Lend mask
call_out model.Call.reset = Reset

-- a call that domelink has a record of
abbrev pub call_also : calls.Call → Call
call_also (calls.TheVariants.Request word) = Request word
call_also (calls.TheVariants.Credit flow position) = Credit flow position
call_also calls.TheVariants.Tick = Tick

-- RULES 12.8: what a record comes to
abbrev pub found_for : Option model.Call → rust.Option Call
found_for (some c) = Some (call_out c)
found_for none = None
