use Rattle.std.proofs.Common.{ap}
use Rattle.ild_layer_places.specs.Places.{steps_of}
use Rattle.ild_layer_parts.specs.declared.part.Part.{Part}
use Rattle.ild_layer_places.specs.declared.way.Way.TheVariants as W
use Rattle.ild_layer_parts.proofs.TextSteps.{text_end, text_key, text_key_way, text_value, text_value_way}
use Rattle.ild_layer_parts.proofs.text_entries.TextEntries.split_first.Goals as goal

pub returns-in-Some-clause-step : goal.returns-in-Some-clause-step
returns-in-Some-clause-step c = λ rows ps h.
    text_value c.args.self.now ps h rows c.in-Some.value c.value_part.result W.Here c.in-Some.is c.value_part.ensures c.on.result c.on.ensures

pub returns-in-Some-split_first-clause-step : goal.returns-in-Some-split_first-clause-step
returns-in-Some-split_first-clause-step c = λ rows ps h.
    text_key c.args.self.now ps h c.in_default.is rows c.in-Some-split_first.key c.in-Some-split_first.value c.in-Some-split_first.behind c.key_part.result W.Here c.key_part.ensures
    c.in-Some-split_first.ensures c.on-in-Some-split_first.result c.on-in-Some-split_first.ensures

pub returns-in-None-clause-step : goal.returns-in-None-clause-step
returns-in-None-clause-step c = λ rows ps h. text_end c.args.self.now ps h c.in_default.is c.in-None.ensures

pub returns-in-Some-clause-way : goal.returns-in-Some-clause-way
returns-in-Some-clause-way c = λ ps h. text_value_way c.args.self.now ps h c.in-Some.value c.in-Some.is c.value_part.result (ap (λ (y : Part). steps_of y.way) c.value_part.ensures)

pub returns-in-Some-split_first-clause-way : goal.returns-in-Some-split_first-clause-way
returns-in-Some-split_first-clause-way c = λ ps h. text_key_way c.args.self.now ps h c.in_default.is c.key_part.result (ap (λ (y : Part). steps_of y.way) c.key_part.ensures)
