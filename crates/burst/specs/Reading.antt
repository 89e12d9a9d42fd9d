-- Records as the model's. Assumes nothing.
use Rattle.std.specs.Prelude.{List, map}
use Rattle.model.specs.Burst as model
use Rattle.burst.specs.declared.BurstRecord.{BurstRecord}

abbrev pub ask_of : BurstRecord → model.BurstRecord
ask_of x = record { word = x.word; result = x.result; position = x.position }

abbrev pub asks_of : List BurstRecord → List model.BurstRecord
asks_of xs = map ask_of xs
