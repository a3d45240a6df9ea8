use Rattle.std.proofs.Common.{ap, inl, inr}
use Rattle.ild_layer_places.specs.Places.{steps_of}
use Rattle.ild_layer_parts.specs.declared.part.Part.{Part}
use Rattle.ild_layer_parts.proofs.PairSteps.{pair_end, pair_key, pair_key_way, pair_never, pair_value, pair_value_way}
use Rattle.ild_layer_parts.proofs.pair_entries.PairEntries.split_first.Goals as goal

pub returns-in-Some-clause-step : goal.returns-in-Some-clause-step
returns-in-Some-clause-step c = λ rows ps h. pair_value c.args.self.now ps h rows c.in-Some.value c.value_part.result _ c.in-Some.is c.value_part.ensures
    c.saturating_add.result c.saturating_add.ensures c.on.result c.on.ensures

pub returns-in_default-next-clause-step : goal.returns-in_default-next-clause-step
returns-in_default-next-clause-step c = λ rows ps h. pair_end c.args.self.now ps h c.in_default.is c.next.new.self c.in_default-next.ensures.steps

pub returns-in-Pair-clause-step : goal.returns-in-Pair-clause-step
returns-in-Pair-clause-step c = λ rows ps h.
    pair_key c.args.self.now ps h c.in_default.is c.in-Some-next.item c.next.new.self c.in-Some-next.ensures.steps rows c.in-Pair.key c.in-Pair.value c.key_part.result _ c.key_part.ensures
    (λ d st. c.in-Pair.ensures d st) c.on-in-Pair.result c.on-in-Pair.ensures

pub returns-in-Odd-clause-step : goal.returns-in-Odd-clause-step
returns-in-Odd-clause-step c = λ rows ps h.
    pair_never c.args.self.now ps h c.in_default.is c.in-Some-next.item c.next.new.self c.in-Some-next.ensures.steps (λ d st. inl (c.in-Odd.ensures d st))

pub returns-in-Other-clause-step : goal.returns-in-Other-clause-step
returns-in-Other-clause-step c = λ rows ps h.
    pair_never c.args.self.now ps h c.in_default.is c.in-Some-next.item c.next.new.self c.in-Some-next.ensures.steps (λ d st. inr (c.in-Other.ensures d st).1)

pub returns-in-Some-clause-way : goal.returns-in-Some-clause-way
returns-in-Some-clause-way c = λ ps h. pair_value_way c.args.self.now ps h c.in-Some.value c.in-Some.is c.value_part.result (ap (λ (y : Part). steps_of y.way) c.value_part.ensures)

pub returns-in-Pair-clause-way : goal.returns-in-Pair-clause-way
returns-in-Pair-clause-way c = λ ps h. pair_key_way c.args.self.now ps h c.in_default.is c.key_part.result (ap (λ (y : Part). steps_of y.way) c.key_part.ensures)
