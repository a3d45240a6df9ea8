use Rattle.std.proofs.Common.{suc, ◌<◌, ◌++◌, [], ◌∷◌, length, map, drop, refl, sym, ap, ◌∙◌, subst, add-one, append_assoc, append-nil}
use Rattle.std.proofs.lemmas.Option.{slice_get_read}
use Rattle.ild_data.proofs.Gets.{drop_past}
use Rattle.ild_data.specs.Data.{items_list, text}
use Rattle.ild_data.specs.Seen.{data_of}
use Rattle.ild_schema.specs.Value.{optionals_list}
use Rattle.ild_schema.specs.ValueSeen.{value_of}
use Rattle.ild_schema.specs.declared.def.Field.{Field}
use Rattle.ild_value_shown.proofs.Forms.{absent_next, present_next, present_shown}
use Rattle.ild_value_parts.specs.Lists.{named}
use Rattle.ild_value_parts.proofs.Lists.{fields_named, named_entry}
use Rattle.ild_value_parts.proofs.listed.fields.Goals as goal

pub loop-i-init : goal.loop-i-init
loop-i-init c =
    ap (λ ds. items_list ds ++ map named_entry (present_shown c.args.acc.now (drop 0 c.args.declared.now) (drop 0 (optionals_list c.args.vals.now)))) c.new-pairs.ensures
    ∙ sym (fields_named c.args.acc.now c.args.declared.now (optionals_list c.args.vals.now))

pub shown-requires : goal.shown-requires
shown-requires c = subst (λ (f : Field). f.slot.ty.0 < length c.args.acc.now) (sym c.index-declared-i.is) (c.requires c.loop-i.i c.index-declared-i.result c.loop-i-test.true)

pub loop-i-preserved : goal.loop-i-preserved
loop-i-preserved c =
    let fs = c.args.declared.now in
    let os = optionals_list c.args.vals.now in
    let f = c.index-declared-i.result in
    let ys = items_list c.loop-i.pairs in
    let there = slice_get_read fs (length fs) c.loop-i.i f refl c.loop-i-test.true c.index-declared-i.is in
    let next = present_next c.args.acc.now fs os c.loop-i.i f (value_of c.in-Some.val.now) there c.in-Some.ensures in
    let rest = map named_entry (present_shown c.args.acc.now (drop (suc c.loop-i.i) fs) (drop (suc c.loop-i.i) os)) in
    rw add-one (ap (λ ds. ds ++ rest) c.in_ok-push_named.ensures ∙ append_assoc ys (named (text c.in_ok-copy.field-0) (data_of c.in_ok-part.part) ∷ []) rest
    ∙ (λ j. ys ++ named (text (c.in_ok-copy.ensures j)) (c.in_ok-part.ensures j) ∷ rest) ∙ ap (λ ds. ys ++ map named_entry ds) (sym next) ∙ c.loop-i.invariant)

pub loop-i-preserved-in_default : goal.loop-i-preserved-in_default
loop-i-preserved-in_default c =
    rw add-one (ap (λ ds. items_list c.loop-i.pairs ++ map named_entry ds) (sym (absent_next c.args.acc.now c.args.declared.now (optionals_list c.args.vals.now) c.loop-i.i c.in_default.ensures)) ∙ c.loop-i.invariant)

pub returns : goal.returns
returns c =
    let ys = items_list c.loop-i.pairs in
    let os = drop c.loop-i.i (optionals_list c.args.vals.now) in
    sym (append-nil ys) ∙ ap (λ fs. ys ++ map named_entry (present_shown c.args.acc.now fs os)) (sym (drop_past c.args.declared.now c.loop-i.i c.loop-i-test.false)) ∙ c.loop-i.invariant
