use Rattle.std.proofs.Common.{◌≤◌, take}
use Rattle.std.specs.Io.KnownBytes.{Appends}
use Rattle.domeplan.proofs.output.write_all.Given as goal

abbrev pub invariant-turns : goal.invariant-turns
invariant-turns g l = record { most : l.done ≤ l.end; written : Appends (g.W.Write.contents l.fn.output) (g.W.Write.contents l.output) (take l.done l.out) }
