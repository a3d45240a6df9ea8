use Rattle.std.proofs.Common.{ap}
use Rattle.ild_layer_places.specs.Places.{steps_of}
use Rattle.ild_layer_parts.specs.declared.part.Part.{Part}
use Rattle.ild_layer_places.specs.declared.way.Way.TheVariants as W
use Rattle.ild_layer_parts.proofs.Stepping.{entry_end, key_step, key_way, value_way}
use Rattle.ild_layer_parts.proofs.entries.Entries.split_first.Goals as goal

pub returns-in-Some-next-clause-step : goal.returns-in-Some-next-clause-step
returns-in-Some-next-clause-step c = λ rows ps h.
    key_step c.args.self.now ps h c.in-None.is rows (c.in-Some-next.key, c.in-Some-next.node) c.next.new.self c.key_part.result (W.Key c.in-Some-next.key) c.key_part.ensures c.in-Some-next.ensures.steps

pub returns-in-None-next-clause-step : goal.returns-in-None-next-clause-step
returns-in-None-next-clause-step c = λ rows ps h. entry_end c.args.self.now ps h c.in-None.is c.next.new.self c.in-None-next.ensures.steps

pub returns-in-Some-clause-way : goal.returns-in-Some-clause-way
returns-in-Some-clause-way c = λ ps h. value_way c.args.self.now ps h (c.in-Some.key, c.in-Some.node) c.in-Some.is c.value_part.result (ap (λ (y : Part). steps_of y.way) c.value_part.ensures)

pub returns-in-Some-next-clause-way : goal.returns-in-Some-next-clause-way
returns-in-Some-next-clause-way c = λ ps h.
    key_way c.args.self.now ps h c.in-None.is (c.in-Some-next.key, c.in-Some-next.node) c.next.new.self c.in-Some-next.ensures.steps c.key_part.result (ap (λ (y : Part). steps_of y.way) c.key_part.ensures)
