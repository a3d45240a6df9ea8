use Rattle.std.proofs.Common.{ap, arith}
use Rattle.ild_layer_places.specs.Places.{steps_of}
use Rattle.ild_layer_parts.specs.declared.part.Part.{Part}
use Rattle.ild_layer_parts.proofs.Rooting.{root_bucket, root_child, root_empty, root_end, root_key, root_key_way, root_out, root_value, root_value_way}
use Rattle.ild_layer_parts.proofs.root.RootEntries.split_first.Goals as goal

pub returns-in-Some-clause-step : goal.returns-in-Some-clause-step
returns-in-Some-clause-step c = λ rows ps h.
    root_value c.args.self.now ps h rows (c.in-Some.field-0-0, c.in-Some.node) c.value_part.result _ c.in-Some.is c.value_part.ensures c.in_bucket.result c.in_bucket.ensures

pub returns-in-Some-entry_at-clause-step : goal.returns-in-Some-entry_at-clause-step
returns-in-Some-entry_at-clause-step c = λ rows ps h.
    root_key c.args.self.now ps h c.in_default.is c.in-Some-bucket.bucket c.in-Some-bucket.is rows (c.in-Some-entry_at.key, c.in-Some-entry_at.node) c.key_part.result _ c.key_part.ensures
    c.in-Some-entry_at.ensures.entry c.in_bucket-in-Some-entry_at.result c.in_bucket-in-Some-entry_at.ensures

pub returns-in-None-clause-step : goal.returns-in-None-clause-step
returns-in-None-clause-step c = λ rows ps h.
    root_out c.args.self.now ps h c.in_default.is c.in-Some-bucket.bucket c.in-Some-bucket.is rows c.in-None.ensures.entry c.next_element.result c.next_element.ensures c.behind.result c.behind.ensures

pub returns-in-Some-Bucket-clause-step : goal.returns-in-Some-Bucket-clause-step
returns-in-Some-Bucket-clause-step c = λ rows ps h.
    root_bucket c.args.self.now ps h c.in_default.is c.in_default-bucket.is rows c.next.new.self c.in-Some-Bucket.field-0 c.in-Some-Bucket.ensures.steps c.in-Some-Bucket.bucket c.in-Some-Bucket.field-0-is
    c.behind-in-Some-Bucket.result c.behind-in-Some-Bucket.ensures

pub returns-in-Some-Empty-clause-step : goal.returns-in-Some-Empty-clause-step
returns-in-Some-Empty-clause-step c = λ rows ps h.
    root_empty c.args.self.now ps h c.in_default.is c.in_default-bucket.is rows c.next.new.self c.in-Some-Empty.field-0 c.in-Some-Empty.ensures.steps c.in-Some-Empty.field-0-is
    c.behind-in-Some-Empty.result c.behind-in-Some-Empty.ensures

pub returns-in-Some-Child-clause-step : goal.returns-in-Some-Child-clause-step
returns-in-Some-Child-clause-step c = λ rows ps h.
    root_child c.args.self.now ps h c.in_default.is c.in_default-bucket.is rows c.next.new.self c.in-Some-Child.field-0 c.in-Some-Child.ensures.steps c.in-Some-Child.field-0-0 c.in-Some-Child.field-0-is
    c.next_element-in-Some-Child.result c.next_element-in-Some-Child.ensures c.behind-in-Some-Child.result c.behind-in-Some-Child.ensures

pub returns-in-None-next-clause-step : goal.returns-in-None-next-clause-step
returns-in-None-next-clause-step c = λ rows ps h. root_end c.args.self.now ps h c.in_default.is c.in_default-bucket.is c.in-None-next.ensures.steps

pub returns-in-Some-clause-way : goal.returns-in-Some-clause-way
returns-in-Some-clause-way c = λ ps h.
    root_value_way c.args.self.now ps h (c.in-Some.field-0-0, c.in-Some.node) c.in-Some.is _ (omega (arith, c.saturating_sub.ensures)) c.value_part.result (ap (λ (y : Part). steps_of y.way) c.value_part.ensures)

pub returns-in-Some-entry_at-clause-way : goal.returns-in-Some-entry_at-clause-way
returns-in-Some-entry_at-clause-way c = λ ps h.
    root_key_way c.args.self.now ps h c.in_default.is c.in-Some-bucket.bucket c.in-Some-bucket.is (c.in-Some-entry_at.key, c.in-Some-entry_at.node) c.in-Some-entry_at.ensures.entry c.key_part.result
    (ap (λ (y : Part). steps_of y.way) c.key_part.ensures)
