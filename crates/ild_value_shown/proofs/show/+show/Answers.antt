use Rattle.std.proofs.Common.{◌≡◌, suc, subst, ◌<◌, ◌++◌, [], ◌∷◌, length, map, drop, refl, sym, ap, ◌∙◌, arith, add-one, append_assoc, append-nil}
use Rattle.std.specs.Option.{option_map_or}
use Rattle.std.proofs.lemmas.List.{map-append, length-map}
use Rattle.std.proofs.lemmas.Option.{slice_get_read}
use Rattle.ild_schema.specs.declared.def.Field.{Field}
use Rattle.ild_data.proofs.Gets.{drop_past}
use Rattle.ild_data.specs.Data.{items_of, items_list, members_of, members_list, no_items}
use Rattle.ild_data.specs.Key.{put}
use Rattle.ild_data.specs.Seen.{data_of, pair_of}
use Rattle.ild_data.proofs.Lists.{items_of-items_list, members_of-members_list}
use Rattle.ild_schema.specs.Slots.{form_of, plainly}
use Rattle.ild_schema.specs.Value.{values_list, pairs_list, optionals_list}
use Rattle.ild_schema.specs.ValueSeen.{value_of, pair_of as value_pair}
use Rattle.ild_typed.specs.Shown.{shown, shown_values, shown_pairs, shown_fields}
use Rattle.ild_typed.specs.Slots.{element_of, fields_of}
use Rattle.ild_typed.specs.Strings.{in_key_order}
use Rattle.ild_value_shown.proofs.Forms.{made_none, made_more, made_all, shown_pair, values_shown, pairs_shown, fields_shown, present_shown, present_next, absent_next, field_height, fields_low, fields_are}
use Rattle.ild_value_shown.proofs.Fronts.{front_less}
use Rattle.ild_value_shown.proofs.Heights.{element_height, entry_height}
use Rattle.ild_value_shown.proofs.Picked.{if_ok}
use Rattle.ild_value_shown.proofs.show.+show.Goals as goal

-- ---- lists

pub trees_in-shown-requires : goal.trees_in-shown-requires
trees_in-shown-requires t c =
    let h = element_height c.args.vals.now c.len.result (value_of c.in-Some.val.now) (sym c.in-Some.ensures) in
    (omega arith, c.requires)

pub trees_in-loop-val-init : goal.trees_in-loop-val-init
trees_in-loop-val-init t c = made_none (λ v. shown c.args.acc.now c.args.elem v) (values_list c.args.vals.now) (items_list c.new-trees.result) (ap items_list c.new-trees.ensures)

pub trees_in-loop-val-preserved : goal.trees_in-loop-val-preserved
trees_in-loop-val-preserved t c =
    made_more (λ v. shown c.args.acc.now c.args.elem v) (values_list c.args.vals.now) (items_list c.loop-val.trees) (items_list c.push.new.self) c.len.result (value_of c.in-Some.val.now) (data_of c.in_ok-tree.tree)
    c.loop-val.invariant c.len.ensures.count c.in-Some.ensures c.in_ok-tree.ensures c.in_ok-push.ensures.ok

pub trees_in-loop-val-smaller : goal.trees_in-loop-val-smaller
trees_in-loop-val-smaller t c =
    let h = front_less (values_list c.args.vals.now) (items_list c.loop-val.trees) (items_list c.push.new.self) c.len.result (value_of c.in-Some.val.now) (data_of c.in_ok-tree.tree) c.len.ensures.count c.in-Some.ensures c.in_ok-push.ensures.ok in
    omega arith

pub trees_in-returns : goal.trees_in-returns
trees_in-returns t c =
    let all = made_all (λ v. shown c.args.acc.now c.args.elem v) (values_list c.args.vals.now) (items_list c.loop-val.trees) c.len.result c.loop-val.invariant c.len.ensures.count c.in_default.ensures in
    sym (items_of-items_list c.loop-val.trees) ∙ ap items_of all ∙ sym (values_shown c.args.acc.now c.args.elem c.args.vals.now)

pub elements-returns-in-Some : goal.elements-returns-in-Some
elements-returns-in-Some t c =
    if_ok (λ ts. ts ≡ shown_values c.args.acc.now c.in-Some.elem c.args.vals.now) (λ ts. ts ≡ option_map_or (λ u. shown_values c.args.acc.now u c.args.vals.now) (element_of (form_of c.args.acc.now c.args.slot)) no_items)
    (λ ts e. e ∙ ap (λ o. option_map_or (λ u. shown_values c.args.acc.now u c.args.vals.now) o no_items) c.in-Some.ensures.same) c.trees_in.result c.trees_in.ensures

-- ---- maps

pub pairs_in-shown-requires : goal.pairs_in-shown-requires
pairs_in-shown-requires t c =
    let h = entry_height c.args.vals.now c.len.result (value_pair c.in-Some.pair.now) (sym c.in-Some.ensures) in
    (omega arith, c.requires)

pub pairs_in-loop-pair-init : goal.pairs_in-loop-pair-init
pairs_in-loop-pair-init t c = made_none (shown_pair c.args.acc.now c.args.elem) (pairs_list c.args.vals.now) (map pair_of c.new-pairs.result.items) (ap (map pair_of) c.new-pairs.ensures.items)

pub pairs_in-loop-pair-preserved : goal.pairs_in-loop-pair-preserved
pairs_in-loop-pair-preserved t c =
    let ys = map pair_of c.loop-pair.pairs.items in
    let held = c.loop-pair.pairs.ok.0 in
    let count : c.len.result ≡ length ys = omega (arith, length-map c.loop-pair.pairs.items pair_of) in
    let pushed = ap (map pair_of) c.in_ok-push.ensures.items ∙ map-append pair_of c.loop-pair.pairs.items ((c.in_ok-key.key, c.in_ok-tree.tree) ∷ []) in
    made_more (shown_pair c.args.acc.now c.args.elem) (pairs_list c.args.vals.now) ys (map pair_of c.push.new.self.items) c.len.result (value_pair c.in-Some.pair.now) (c.in_ok-key.key, data_of c.in_ok-tree.tree)
    c.loop-pair.invariant count c.in-Some.ensures (λ i. (c.in_ok-key.ensures i, c.in_ok-tree.ensures i)) pushed

pub pairs_in-loop-pair-smaller : goal.pairs_in-loop-pair-smaller
pairs_in-loop-pair-smaller t c =
    let ys = map pair_of c.loop-pair.pairs.items in
    let held = c.loop-pair.pairs.ok.0 in
    let count : c.len.result ≡ length ys = omega (arith, length-map c.loop-pair.pairs.items pair_of) in
    let pushed = ap (map pair_of) c.in_ok-push.ensures.items ∙ map-append pair_of c.loop-pair.pairs.items ((c.in_ok-key.key, c.in_ok-tree.tree) ∷ []) in
    let h = front_less (pairs_list c.args.vals.now) ys (map pair_of c.push.new.self.items) c.len.result (value_pair c.in-Some.pair.now) (c.in_ok-key.key, data_of c.in_ok-tree.tree) count c.in-Some.ensures pushed in
    omega arith

pub pairs_in-returns : goal.pairs_in-returns
pairs_in-returns t c =
    let ys = map pair_of c.loop-pair.pairs.items in
    let held = c.loop-pair.pairs.ok.0 in
    let count : c.len.result ≡ length ys = omega (arith, length-map c.loop-pair.pairs.items pair_of) in
    made_all (shown_pair c.args.acc.now c.args.elem) (pairs_list c.args.vals.now) ys c.len.result c.loop-pair.invariant count c.in_default.ensures ∙ sym (pairs_shown c.args.acc.now c.args.elem c.args.vals.now)

pub entries-returns-in_ok-pairs_in-in-Some : goal.entries-returns-in_ok-pairs_in-in-Some
entries-returns-in_ok-pairs_in-in-Some t c =
    if_ok (λ es. members_list es ≡ in_key_order (map pair_of c.in_ok-pairs_in-in-Some.field-0.items))
    (λ es. es ≡ members_of (option_map_or (λ u. in_key_order (shown_pairs c.args.acc.now u c.args.vals.now)) (element_of (form_of c.args.acc.now c.args.slot)) []))
    (λ es e. sym (members_of-members_list es) ∙ ap members_of (e ∙ ap in_key_order c.in_ok-pairs_in-in-Some.ensures)
    ∙ ap (λ o. members_of (option_map_or (λ u. in_key_order (shown_pairs c.args.acc.now u c.args.vals.now)) o [])) c.in-Some.ensures.same)
    c.in_order.result c.in_order.ensures

-- ---- structs

pub fields_in-present-requires : goal.fields_in-present-requires
fields_in-present-requires t c = (omega arith, fields_low (length c.args.acc.now) c.form.result.now c.in-Struct.def c.as_slice.result.now c.form.ensures.within c.in-Struct.is c.as_slice.ensures)

pub fields_in-returns-in_ok-present-in-Struct : goal.fields_in-returns-in_ok-present-in-Struct
fields_in-returns-in_ok-present-in-Struct t c =
    if_ok (λ es. members_list es ≡ in_key_order (map pair_of c.in_ok-present-in-Struct.field-0.items))
    (λ es. es ≡ members_of (in_key_order (shown_fields c.args.acc.now (fields_of (form_of c.args.acc.now c.args.slot)) c.args.vals.now)))
    (λ es e. sym (members_of-members_list es) ∙ ap members_of (e ∙ ap in_key_order c.in_ok-present-in-Struct.ensures
    ∙ ap (λ fs. in_key_order (shown_fields c.args.acc.now fs c.args.vals.now))
    (fields_are (form_of c.args.acc.now c.args.slot) c.form.result.now c.in-Struct.def c.as_slice.result.now c.form.ensures.form c.in-Struct.is c.as_slice.ensures)))
    c.in_order.result c.in_order.ensures

pub present-loop-i-init : goal.present-loop-i-init
present-loop-i-init t c =
    ap (λ ps. map pair_of ps ++ present_shown c.args.acc.now (drop 0 c.args.fields.now) (drop 0 (optionals_list c.args.vals.now))) c.new-pairs.ensures.items

pub present-shown-requires : goal.present-shown-requires
present-shown-requires t c =
    let h = field_height c.args.vals.now c.loop-i.i (value_of c.in-Some.val.now) c.in-Some.ensures in
    (omega arith, subst (λ (f : Field). f.slot.ty.0 < length c.args.acc.now) (sym c.index-fields-i.is) (c.requires c.loop-i.i c.index-fields-i.result c.loop-i-test.true))

pub present-loop-i-preserved : goal.present-loop-i-preserved
present-loop-i-preserved t c =
    let fs = c.args.fields.now in
    let os = optionals_list c.args.vals.now in
    let f = c.index-fields-i.result in
    let ys = map pair_of c.loop-i.pairs.items in
    let there = slice_get_read fs (length fs) c.loop-i.i f refl c.loop-i-test.true c.index-fields-i.is in
    let next = present_next c.args.acc.now fs os c.loop-i.i f (value_of c.in-Some.val.now) there c.in-Some.ensures in
    let rest = present_shown c.args.acc.now (drop (suc c.loop-i.i) fs) (drop (suc c.loop-i.i) os) in
    let pushed = ap (map pair_of) c.in_ok-push.ensures.items ∙ map-append pair_of c.loop-i.pairs.items ((c.in_ok-key.key, c.in_ok-tree.tree) ∷ []) in
    rw add-one (ap (λ ds. ds ++ rest) pushed ∙ append_assoc ys ((c.in_ok-key.key, data_of c.in_ok-tree.tree) ∷ []) rest
    ∙ (λ j. ys ++ (c.in_ok-key.ensures j, c.in_ok-tree.ensures j) ∷ rest) ∙ ap (λ ds. ys ++ ds) (sym next) ∙ c.loop-i.invariant)

pub present-loop-i-preserved-in_default : goal.present-loop-i-preserved-in_default
present-loop-i-preserved-in_default t c =
    let fs = c.args.fields.now in
    let os = optionals_list c.args.vals.now in
    rw add-one (ap (λ ds. map pair_of c.loop-i.pairs.items ++ ds) (sym (absent_next c.args.acc.now fs os c.loop-i.i c.in_default.ensures)) ∙ c.loop-i.invariant)

pub present-returns : goal.present-returns
present-returns t c =
    let ys = map pair_of c.loop-i.pairs.items in
    let os = drop c.loop-i.i (optionals_list c.args.vals.now) in
    sym (append-nil ys) ∙ ap (λ fs. ys ++ present_shown c.args.acc.now fs os) (sym (drop_past c.args.fields.now c.loop-i.i c.loop-i-test.false)) ∙ c.loop-i.invariant
    ∙ sym (fields_shown c.args.acc.now c.args.fields.now c.args.vals.now)

-- ---- unions

pub named-returns : goal.named-returns
named-returns t c =
    let slot = plainly c.args.member.now.ty in
    sym (members_of-members_list c.put.new.self)
    ∙ ap members_of (c.in_ok-put.ensures.ok ∙ ap (λ ms. put c.in_ok-key.key (data_of c.in_ok-tree.tree) (members_list ms)) c.new-entries.ensures
    ∙ (λ j. (c.in_ok-key.ensures j, (c.in_ok-tree.ensures ∙ ap (shown c.args.acc.now slot) c.get.ensures) j) ∷ []))
