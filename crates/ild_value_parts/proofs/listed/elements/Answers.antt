use Rattle.std.proofs.Common.{◌∙◌, sym, ap}
use Rattle.std.specs.Prelude.{pos}
use Rattle.ild_data.specs.Data.{integer, items_list}
use Rattle.ild_data.specs.Seen.{data_of}
use Rattle.ild_schema.specs.Value.{values_list}
use Rattle.ild_schema.specs.ValueSeen.{value_of}
use Rattle.ild_typed.specs.Shown.{shown}
use Rattle.ild_value_parts.specs.Lists.{named}
use Rattle.ild_value_parts.proofs.Lists.{elements_items, num_all, num_more}
use Rattle.ild_value_parts.proofs.listed.elements.Goals as goal

pub loop-val-preserved : goal.loop-val-preserved
loop-val-preserved c =
    let name = c.number-name.ensures ∙ ap (λ n. integer (pos n)) (c.len-in-Some.ensures.count ∙ sym c.len.ensures.count) in
    num_more (λ v. shown c.args.acc.now c.args.elem v) (values_list c.args.vals.now) (items_list c.loop-val.pairs) (items_list c.push_named.new.pairs) c.len.result (value_of c.in-Some.val.now)
    (named (data_of c.number-name.result) (data_of c.in_ok-part.part))
    c.loop-val.invariant c.len.ensures.count c.in-Some.ensures (λ i. named (name i) (c.in_ok-part.ensures i)) c.in_ok-push_named.ensures

pub returns : goal.returns
returns c =
    num_all (λ v. shown c.args.acc.now c.args.elem v) (values_list c.args.vals.now) (items_list c.loop-val.pairs) c.len.result c.loop-val.invariant c.len.ensures.count c.in_default.ensures
    ∙ sym (elements_items c.args.acc.now c.args.elem (values_list c.args.vals.now))
