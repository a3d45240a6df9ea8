use Rattle.std.proofs.Common.{◌≡◌, ◌≢◌, ◌⊎◌, inl, inr, ℕ, ◌<◌, ◌≤◌, List, true, length, slice_get, Some, refl, sym, ap, ◌∙◌, map-id, subst, arith, rules}
use Rattle.std.specs.Prelude.{◌↔◌, option_map}
use Rattle.std.proofs.lemmas.Iterator.Adapters.{YieldsList-from_vec}
use Rattle.std.proofs.lemmas.Iterator.Consumers.{YieldsList-end, YieldsList-turn}
use Rattle.std.proofs.lemmas.Option.{slice_get_within, slice_get_read}
use Rattle.std.proofs.lemmas.Result.{err_from_is_err_and}
use Rattle.ild_data.proofs.Places.{seen_rises}
use Rattle.ild_data.specs.Data.{list, map as map_data, depth, items_depth, members_depth, members_list}
use Rattle.ild_data.specs.Key.{value_at}
use Rattle.ild_data.specs.Seen.{data_of}
use Rattle.ild_data.proofs.Spelling.{item_depth-in, member_depth-in}
use Rattle.ild_schema.specs.declared.def.Field.{Field}
use Rattle.ild_schema.specs.declared.def.Member.{Member}
use Rattle.ild_schema.specs.Slots.{plainly}
use Rattle.ild_schema.specs.Value.{Value, values_list, pairs_list, optionals_list}
use Rattle.ild_schema.specs.ValueSeen.{value_of, optional_of}
use Rattle.ild_typed.specs.Fits.{IsTextOf}
use Rattle.ild_typed.specs.Segment.{member_named}
use Rattle.ild_typed.specs.StructWhy.{must_stand}
use Rattle.ild_value_meaning.specs.MeantRead.{or_implicit}
use Rattle.ild_value_meaning.proofs.Mismatched.{are_first}
use Rattle.ild_value_meaning.proofs.Told.{told}
use Rattle.ild_value.specs.declared.fault.ShownErr.TheVariants as E
use Rattle.ild_value.specs.declared.fault.ShownRule.TheVariants as R
use Rattle.ild_value.specs.inside.Parts.{FieldMeans, IsFieldRefused, IsReadAs}
use Rattle.ild_value.specs.Readings.{IsRefused}
use Rattle.ild_value.proofs.AllOf.{all_of, all_next, all_step, all_whole}
use Rattle.ild_value.proofs.Exact.{if_err}
use Rattle.ild_value.proofs.Leaves.{any_means}
use Rattle.ild_value.proofs.Entries.{only_depth}
use Rattle.ild_value.proofs.Taken.{found_depth, found_low, kept_first, kept_next}
use Rattle.ild_value_shown.proofs.Picked.{number_low, picked, if_ok}
use Rattle.ild_value.proofs.Shows.{read_item, read_pair, read_field, list_means, list_refused, map_means, map_refused, key_refused, key_read, struct_means, name_refused, field_refused, field_there, field_gone, field_missed, union_means, union_refused, many_refused, stranger_refused}
use Rattle.ild_value.proofs.read.+read.Goals as goal

pub tree_value-returns-in-Null-clause-err : goal.tree_value-returns-in-Null-clause-err
tree_value-returns-in-Null-clause-err t c = rw c.in-Null.is (c.null_value.ensures.err c.args.acc.now)

pub tree_value-returns-in-Null-clause-ok : goal.tree_value-returns-in-Null-clause-ok
tree_value-returns-in-Null-clause-ok t c = rw c.in-Null.is (c.null_value.ensures.ok c.args.acc.now)

pub tree_value-returns-in-Bool-clause-ok : goal.tree_value-returns-in-Bool-clause-ok
tree_value-returns-in-Bool-clause-ok t c = rw c.in-Bool.is c.boolean_value.ensures.ok

pub tree_value-returns-in-Bool-clause-err : goal.tree_value-returns-in-Bool-clause-err
tree_value-returns-in-Bool-clause-err t c = rw c.in-Bool.is c.boolean_value.ensures.err

pub tree_value-returns-in-Int-clause-ok : goal.tree_value-returns-in-Int-clause-ok
tree_value-returns-in-Int-clause-ok t c = rw c.in-Int.is c.integer_value.ensures.ok

pub tree_value-returns-in-Int-clause-err : goal.tree_value-returns-in-Int-clause-err
tree_value-returns-in-Int-clause-err t c = rw c.in-Int.is c.integer_value.ensures.err

pub tree_value-returns-in-Text-clause-ok : goal.tree_value-returns-in-Text-clause-ok
tree_value-returns-in-Text-clause-ok t c = rw c.in-Text.is c.text_value.ensures.ok

pub tree_value-returns-in-Text-clause-err : goal.tree_value-returns-in-Text-clause-err
tree_value-returns-in-Text-clause-err t c = rw c.in-Text.is c.text_value.ensures.err

pub tree_value-returns-in-Bytes-clause-ok : goal.tree_value-returns-in-Bytes-clause-ok
tree_value-returns-in-Bytes-clause-ok t c = rw c.in-Bytes.is c.bytes_value.ensures.ok

pub tree_value-returns-in-Bytes-clause-err : goal.tree_value-returns-in-Bytes-clause-err
tree_value-returns-in-Bytes-clause-err t c = rw c.in-Bytes.is c.bytes_value.ensures.err

pub tree_value-returns-in-List-clause-ok : goal.tree_value-returns-in-List-clause-ok
tree_value-returns-in-List-clause-ok t c = rw c.in-List.is c.list_value.ensures.ok

pub tree_value-returns-in-List-clause-err : goal.tree_value-returns-in-List-clause-err
tree_value-returns-in-List-clause-err t c = rw c.in-List.is c.list_value.ensures.err

pub tree_value-returns-in-Map-clause-ok : goal.tree_value-returns-in-Map-clause-ok
tree_value-returns-in-Map-clause-ok t c = rw c.in-Map.is c.map_value.ensures.ok

pub tree_value-returns-in-Map-clause-err : goal.tree_value-returns-in-Map-clause-err
tree_value-returns-in-Map-clause-err t c = rw c.in-Map.is c.map_value.ensures.err

pub tree_value-returns-in-Link-clause-ok : goal.tree_value-returns-in-Link-clause-ok
tree_value-returns-in-Link-clause-ok t c = rw c.in-Link.is c.link_value.ensures.ok

pub tree_value-returns-in-Link-clause-err : goal.tree_value-returns-in-Link-clause-err
tree_value-returns-in-Link-clause-err t c = rw c.in-Link.is c.link_value.ensures.err

-- ---- lists

pub elements-tree_value-requires : goal.elements-tree_value-requires
elements-tree_value-requires t c =
    let at = YieldsList-turn (YieldsList-from_vec {s = c.into_iter-tree-iterator.result} c.into_vec-tree-items.result.items (search rules) (search rules)) c.loop-tree.yielded c.loop-tree.tree-iterator c.loop-tree.yielded_by c.next.result c.next.new.self
    c.in-Some.tree c.in-Some.is c.next.ensures.steps in
    let below : depth (data_of c.in-Some.tree) ≤ items_depth c.args.trees = item_depth-in c.into_vec-tree-items.result.items c.args.trees (length c.loop-tree.yielded) c.in-Some.tree c.into_vec-tree-items.ensures at.0 at.1 in
    (omega arith, c.requires.there)

pub elements-loop-tree-preserved : goal.elements-loop-tree-preserved
elements-loop-tree-preserved t c = λ is_key tests.
    all_next (read_item c.args.acc.now is_key c.args.elem) c.loop-tree.yielded c.in-Some.tree (value_of c.in_ok-val.val) (values_list c.loop-tree.vals) (values_list c.push.new.self)
    (c.loop-tree.invariant is_key tests) (c.in_ok-val.ensures.ok.read is_key tests) c.in_ok-push.ensures.ok

pub elements-returns-in_err-val-clause-err : goal.elements-returns-in_err-val-clause-err
elements-returns-in_err-val-clause-err t c =
    let at = YieldsList-turn (YieldsList-from_vec {s = c.into_iter-tree-iterator.result} c.into_vec-tree-items.result.items (search rules) (search rules)) c.loop-tree.yielded c.loop-tree.tree-iterator c.loop-tree.yielded_by c.next.result c.next.new.self
    c.in-Some.tree c.in-Some.is c.next.ensures.steps in
    let p = err_from_is_err_and c.from_residual-in_err-val.result c.from_residual-in_err-val.ensures.1 in
    rw (p.1, p.2) (list_refused c.args.acc.now c.args.slot c.args.elem c.into_vec-tree-items.result.items c.args.trees (length c.loop-tree.yielded) c.in-Some.tree c.in_err-val.field-0.0 c.requires.form c.into_vec-tree-items.ensures at.0 at.1 c.in_err-val.ensures.err)

pub elements-returns-clause-ok : goal.elements-returns-clause-ok
elements-returns-clause-ok t c =
    let end = YieldsList-end (YieldsList-from_vec {s = c.into_iter-tree-iterator.result} c.into_vec-tree-items.result.items (search rules) (search rules)) c.loop-tree.yielded c.loop-tree.tree-iterator c.loop-tree.yielded_by c.next.result c.next.new.self
    c.in-None.is c.next.ensures.steps in
    let all = sym (map-id c.loop-tree.yielded) ∙ end.0 in
    list_means c.args.acc.now c.args.slot c.args.elem c.into_vec-tree-items.result.items c.args.trees c.loop-tree.vals c.requires.form c.into_vec-tree-items.ensures
    (λ is_key tests. ap (all_of (read_item c.args.acc.now is_key c.args.elem)) (sym all) ∙ c.loop-tree.invariant is_key tests)

pub list_value-returns-in_err-elements-in-List-clause-err : goal.list_value-returns-in_err-elements-in-List-clause-err
list_value-returns-in_err-elements-in-List-clause-err t c = let p = err_from_is_err_and c.from_residual.result c.from_residual.ensures.1 in rw (p.1, p.2) c.in_err-elements-in-List.ensures.err

pub list_value-returns-in_ok-elements-in-List-clause-ok : goal.list_value-returns-in_ok-elements-in-List-clause-ok
list_value-returns-in_ok-elements-in-List-clause-ok t c = c.in_ok-elements-in-List.ensures.ok

pub list_value-returns-in-Any-clause-ok : goal.list_value-returns-in-Any-clause-ok
list_value-returns-in-Any-clause-ok t c = any_means c.args.acc.now c.args.slot (list c.args.trees) (c.form.ensures.form ∙ ap Some c.in-Any.is) refl

-- ---- maps

pub pairs-tree_value-requires : goal.pairs-tree_value-requires
pairs-tree_value-requires t c =
    let at = YieldsList-turn (YieldsList-from_vec {s = c.into_iter-name-iterator.result} c.into_vec-name-items.result.items (search rules) (search rules)) c.loop-name.yielded c.loop-name.name-iterator c.loop-name.yielded_by c.next.result c.next.new.self
    (c.in-Some.name, c.in-Some.tree) c.in-Some.is c.next.ensures.steps in
    let below : depth (data_of c.in-Some.tree) ≤ members_depth c.args.entries =
    member_depth-in c.into_vec-name-items.result.items c.args.entries (length c.loop-name.yielded) (c.in-Some.name, c.in-Some.tree) c.into_vec-name-items.ensures.same at.0 at.1 in
    (omega arith, c.requires.there)

pub pairs-returns-then-not-is_key-clause-err : goal.pairs-returns-then-not-is_key-clause-err
pairs-returns-then-not-is_key-clause-err t c =
    let at = YieldsList-turn (YieldsList-from_vec {s = c.into_iter-name-iterator.result} c.into_vec-name-items.result.items (search rules) (search rules)) c.loop-name.yielded c.loop-name.name-iterator c.loop-name.yielded_by c.next.result c.next.new.self
    (c.in-Some.name, c.in-Some.tree) c.in-Some.is c.next.ensures.steps in
    let told : (c.in_ok-is_key.is_key ≡ true) ↔ IsTextOf c.args.acc.now c.args.key c.in-Some.name =
    subst (λ (k : List ℕ). (c.in_ok-is_key.is_key ≡ true) ↔ IsTextOf c.args.acc.now c.args.key k) c.as_str.ensures.same c.in_ok-is_key.ensures in
    key_refused c.args.acc.now c.args.slot c.args.key c.args.elem c.into_vec-name-items.result.items c.args.entries (length c.loop-name.yielded) (c.in-Some.name, c.in-Some.tree) c.in_ok-is_key.is_key c.requires.form c.into_vec-name-items.ensures.same
    at.0 at.1 c.as_str.ensures.utf8 told c.if-not-is_key.true

pub pairs-loop-name-preserved : goal.pairs-loop-name-preserved
pairs-loop-name-preserved t c = λ is_key tests.
    let told : (c.in_ok-is_key.is_key ≡ true) ↔ IsTextOf c.args.acc.now c.args.key c.in-Some.name =
    subst (λ (k : List ℕ). (c.in_ok-is_key.is_key ≡ true) ↔ IsTextOf c.args.acc.now c.args.key k) c.as_str.ensures.same c.in_ok-is_key.ensures in
    all_next (read_pair c.args.acc.now is_key c.args.key c.args.elem) c.loop-name.yielded (c.in-Some.name, c.in-Some.tree) (c.in-Some.name, value_of c.in_ok-val.val) (pairs_list c.loop-name.vals) (pairs_list c.push.new.self)
    (c.loop-name.invariant is_key tests)
    (key_read c.args.acc.now is_key tests c.args.key c.args.elem (c.in-Some.name, c.in-Some.tree) (value_of c.in_ok-val.val) c.in_ok-is_key.is_key c.as_str.ensures.utf8 told c.if-not-is_key.false c.in_ok-val.ensures.ok)
    c.in_ok-push.ensures.ok

pub pairs-returns-in_err-val-clause-err : goal.pairs-returns-in_err-val-clause-err
pairs-returns-in_err-val-clause-err t c =
    let at = YieldsList-turn (YieldsList-from_vec {s = c.into_iter-name-iterator.result} c.into_vec-name-items.result.items (search rules) (search rules)) c.loop-name.yielded c.loop-name.name-iterator c.loop-name.yielded_by c.next.result c.next.new.self
    (c.in-Some.name, c.in-Some.tree) c.in-Some.is c.next.ensures.steps in
    let p = err_from_is_err_and c.from_residual-in_err-val.result c.from_residual-in_err-val.ensures.1 in
    rw (p.1, p.2) (map_refused c.args.acc.now c.args.slot c.args.key c.args.elem c.into_vec-name-items.result.items c.args.entries (length c.loop-name.yielded) (c.in-Some.name, c.in-Some.tree) c.in_err-val.field-0.0 c.requires.form c.into_vec-name-items.ensures.same
    at.0 at.1 c.in_err-val.ensures.err)

pub pairs-returns-clause-ok : goal.pairs-returns-clause-ok
pairs-returns-clause-ok t c =
    let end = YieldsList-end (YieldsList-from_vec {s = c.into_iter-name-iterator.result} c.into_vec-name-items.result.items (search rules) (search rules)) c.loop-name.yielded c.loop-name.name-iterator c.loop-name.yielded_by c.next.result c.next.new.self
    c.in-None.is c.next.ensures.steps in
    let all = sym (map-id c.loop-name.yielded) ∙ end.0 in
    map_means c.args.acc.now c.args.slot c.args.key c.args.elem c.into_vec-name-items.result.items c.args.entries c.loop-name.vals c.requires.form c.into_vec-name-items.ensures.same
    (λ is_key tests. ap (all_of (read_pair c.args.acc.now is_key c.args.key c.args.elem)) (sym all) ∙ c.loop-name.invariant is_key tests)

pub map_value-returns-in_err-pairs-in-Map-clause-err : goal.map_value-returns-in_err-pairs-in-Map-clause-err
map_value-returns-in_err-pairs-in-Map-clause-err t c = let p = err_from_is_err_and c.from_residual.result c.from_residual.ensures.1 in rw (p.1, p.2) c.in_err-pairs-in-Map.ensures.err

pub map_value-returns-in_err-fields-in-Struct-clause-err : goal.map_value-returns-in_err-fields-in-Struct-clause-err
map_value-returns-in_err-fields-in-Struct-clause-err t c =
    let p = err_from_is_err_and c.from_residual-in_err-fields-in-Struct.result c.from_residual-in_err-fields-in-Struct.ensures.1 in
    rw (p.1, p.2) c.in_err-fields-in-Struct.ensures.err

pub map_value-returns-in_ok-pairs-in-Map-clause-ok : goal.map_value-returns-in_ok-pairs-in-Map-clause-ok
map_value-returns-in_ok-pairs-in-Map-clause-ok t c = c.in_ok-pairs-in-Map.ensures.ok

pub map_value-returns-in_ok-fields-in-Struct-clause-ok : goal.map_value-returns-in_ok-fields-in-Struct-clause-ok
map_value-returns-in_ok-fields-in-Struct-clause-ok t c = c.in_ok-fields-in-Struct.ensures.ok

pub map_value-returns-in-Any-clause-ok : goal.map_value-returns-in-Any-clause-ok
map_value-returns-in-Any-clause-ok t c = any_means c.args.acc.now c.args.slot (map_data c.args.entries) (c.form.ensures.form ∙ ap Some c.in-Any.is) refl

pub map_value-returns-in-Union-clause-ok : goal.map_value-returns-in-Union-clause-ok
map_value-returns-in-Union-clause-ok t c = c.union_value.ensures.ok

pub map_value-returns-in-Union-clause-err : goal.map_value-returns-in-Union-clause-err
map_value-returns-in-Union-clause-err t c = c.union_value.ensures.err

pub map_value-returns-in-Unit-clause-ok : goal.map_value-returns-in-Unit-clause-ok
map_value-returns-in-Unit-clause-ok t c = c.unit_value.ensures.ok

pub map_value-returns-in-Unit-clause-err : goal.map_value-returns-in-Unit-clause-err
map_value-returns-in-Unit-clause-err t c = c.unit_value.ensures.err

-- ---- structs

pub field_value-returns-in_ok-val-in-Some-clause-ok : goal.field_value-returns-in_ok-val-in-Some-clause-ok
field_value-returns-in_ok-val-in-Some-clause-ok t c = λ ms there.
    field_there c.args.acc.now c.args.field.now ms (data_of c.in-Some.tree) (value_of c.in_ok-val-in-Some.val) (ap (option_map data_of) (sym c.in-Some.is) ∙ there) c.in_ok-val-in-Some.ensures.ok

pub field_value-returns-in_err-val-in-Some-clause-err : goal.field_value-returns-in_err-val-in-Some-clause-err
field_value-returns-in_err-val-in-Some-clause-err t c = λ ms there.
    let p = err_from_is_err_and c.from_residual.result c.from_residual.ensures.1 in
    rw (p.1, p.2) (inr (inl (record { value = data_of c.in-Some.tree; there = sym there ∙ ap (option_map data_of) c.in-Some.is; refused = c.in_err-val-in-Some.ensures.err })))

pub field_value-returns-in-None-clause-err : goal.field_value-returns-in-None-clause-err
field_value-returns-in-None-clause-err t c = λ ms there.
    if_err (λ e. (e ≡ E.Memory) ⊎ ((e ≡ E.Mismatch c.args.ty R.Missing) × (must_stand c.args.field.now ≡ true))) (λ e. IsFieldRefused c.args.acc.now c.args.ty c.args.field.now ms e)
    (λ e missed. field_missed c.args.acc.now c.args.ty c.args.field.now ms e (ap (option_map data_of) (sym c.in-None.is) ∙ there) missed) c.left_out.result c.left_out.ensures.err

pub field_value-returns-in-None-clause-ok : goal.field_value-returns-in-None-clause-ok
field_value-returns-in-None-clause-ok t c = λ ms there.
    if_ok (λ o. or_implicit c.args.field.now.implicit c.args.field.now.optional ≡ Some (optional_of o)) (λ o. FieldMeans c.args.acc.now c.args.field.now ms (optional_of o))
    (λ o left. field_gone c.args.acc.now c.args.field.now ms (optional_of o) (ap (option_map data_of) (sym c.in-None.is) ∙ there) left) c.left_out.result c.left_out.ensures.ok

pub fields-returns-then-not-are_named-clause-err : goal.fields-returns-then-not-are_named-clause-err
fields-returns-then-not-are_named-clause-err t c = name_refused c.args.acc.now c.args.slot c.args.def.now c.args.entries c.requires.form (sym c.are_named.ensures ∙ c.if-not-are_named.true)

pub fields-loop-field-init : goal.fields-loop-field-init
fields-loop-field-init t c = record {
  read = λ is_key tests. ap (λ os. Some (optionals_list os)) (sym c.new-vals.ensures);
  rises = seen_rises c.into_vec-left.result.items c.into_vec-left.ensures.rises;
  kept = kept_first c.args.def.now.fields c.into_vec-left.result.items c.args.entries c.into_vec-left.ensures.same;
}

pub fields-field_value-requires : goal.fields-field_value-requires
fields-field_value-requires t c =
    let fs = c.as_slice-field-items.result.now in
    let there = ap (λ xs. slice_get xs c.loop-field.field-index) (sym c.as_slice-field-items.ensures) ∙ slice_get_read fs (length fs) c.loop-field.field-index c.field-item.result refl c.loop-field-test.true c.field-item.is in
    let found : option_map data_of c.take_value-tree.result ≡ value_at c.field-item.result.name (members_list c.args.entries) =
    ap (option_map data_of) (c.take_value-tree.ensures.found ∙ ap (λ k. value_at k c.loop-field.left.items) c.as_str.ensures.same) ∙ c.loop-field.invariant.kept c.loop-field.field-index c.field-item.result (omega arith) there in
    let below : found_depth c.take_value-tree.result ≤ members_depth c.args.entries = found_low c.field-item.result.name c.args.entries c.take_value-tree.result found in
    (omega arith, number_low (λ (f : Field). f.slot.ty.0) (length c.args.acc.now) c.args.def.now.fields c.requires.within.1 c.loop-field.field-index c.field-item.result there)

pub fields-loop-field-preserved : goal.fields-loop-field-preserved
fields-loop-field-preserved t c =
    let fs = c.as_slice-field-items.result.now in
    let there = ap (λ xs. slice_get xs c.loop-field.field-index) (sym c.as_slice-field-items.ensures) ∙ slice_get_read fs (length fs) c.loop-field.field-index c.field-item.result refl c.loop-field-test.true c.field-item.is in
    let found : option_map data_of c.take_value-tree.result ≡ value_at c.field-item.result.name (members_list c.args.entries) =
    ap (option_map data_of) (c.take_value-tree.ensures.found ∙ ap (λ k. value_at k c.loop-field.left.items) c.as_str.ensures.same) ∙ c.loop-field.invariant.kept c.loop-field.field-index c.field-item.result (omega arith) there in
    let proper = (told c.args.acc.now (record { table = c.recall.ensures.table; accepted = c.recall.ensures.accepted })).proper c.args.slot c.args.def.now c.requires.form in
    let others = subst (λ (n : List ℕ). (k : List ℕ) → n ≢ k → value_at k c.take_value-tree.new.pairs.items ≡ value_at k c.loop-field.left.items) c.as_str.ensures.same c.take_value-tree.ensures.others in
    record {
      read = λ is_key tests.
          all_step (read_field c.args.acc.now is_key c.args.entries) fs c.loop-field.field-index c.field-item.result (optional_of c.in_ok-val.val) (optionals_list c.loop-field.vals) (optionals_list c.push.new.self)
          c.loop-field-test.true c.field-item.is (c.loop-field.invariant.read is_key tests) ((c.in_ok-val.ensures.ok c.args.entries found).read is_key tests) c.in_ok-push.ensures.ok;
      rises = c.take_value-tree.ensures.rises;
      kept = kept_next c.args.def.now.fields proper c.loop-field.field-index c.field-item.result c.loop-field.left.items c.take_value-tree.new.pairs.items c.args.entries there others c.loop-field.invariant.kept;
    }

pub fields-returns-in_err-val-clause-err : goal.fields-returns-in_err-val-clause-err
fields-returns-in_err-val-clause-err t c =
    let fs = c.as_slice-field-items.result.now in
    let there = ap (λ xs. slice_get xs c.loop-field.field-index) (sym c.as_slice-field-items.ensures) ∙ slice_get_read fs (length fs) c.loop-field.field-index c.field-item.result refl c.loop-field-test.true c.field-item.is in
    let found : option_map data_of c.take_value-tree.result ≡ value_at c.field-item.result.name (members_list c.args.entries) =
    ap (option_map data_of) (c.take_value-tree.ensures.found ∙ ap (λ k. value_at k c.loop-field.left.items) c.as_str.ensures.same) ∙ c.loop-field.invariant.kept c.loop-field.field-index c.field-item.result (omega arith) there in
    let first = are_first c.args.def.now.fields ((told c.args.acc.now (record { table = c.recall.ensures.table; accepted = c.recall.ensures.accepted })).proper c.args.slot c.args.def.now c.requires.form) in
    let p = err_from_is_err_and c.from_residual.result c.from_residual.ensures.1 in
    rw (p.1, p.2)
    (field_refused c.args.acc.now c.args.slot c.args.def.now c.args.entries c.loop-field.field-index c.field-item.result c.in_err-val.field-0.0 c.requires.form first there (c.in_err-val.ensures.err c.args.entries found))

pub fields-returns-clause-ok : goal.fields-returns-clause-ok
fields-returns-clause-ok t c =
    struct_means c.args.acc.now c.args.slot c.args.def.now c.args.entries c.loop-field.vals c.requires.form (sym c.are_named.ensures ∙ c.if-not-are_named.false)
    (λ is_key tests. ap (all_of (read_field c.args.acc.now is_key c.args.entries)) (sym c.as_slice-field-items.ensures)
    ∙ all_whole (read_field c.args.acc.now is_key c.args.entries) c.as_slice-field-items.result.now c.loop-field.field-index (optionals_list c.loop-field.vals) c.loop-field-test.false (c.loop-field.invariant.read is_key tests))

-- ---- unions

pub union_value-returns-in_default-clause-err : goal.union_value-returns-in_default-clause-err
union_value-returns-in_default-clause-err t c = rw c.no_member.ensures (many_refused c.args.acc.now c.args.slot c.args.def.now c.args.entries c.requires.form c.in_default.ensures)

pub union_value-returns-in_default-member_named-clause-err : goal.union_value-returns-in_default-member_named-clause-err
union_value-returns-in_default-member_named-clause-err t c =
    rw c.no_member-in_default-member_named.ensures (stranger_refused c.args.acc.now c.args.slot c.args.def.now c.args.entries c.in-Some.name (data_of c.in-Some.tree) c.requires.form c.in-Some.ensures
    (ap (λ k. member_named k c.args.def.now.members) (sym c.as_str.ensures.same) ∙ c.in_default-member_named.ensures))

pub union_value-offset_bounds-as_slice-n : goal.union_value-offset_bounds-as_slice-n
union_value-offset_bounds-as_slice-n t c =
    let m = c.in-Some-member_named.ensures in
    let low = slice_get_within c.args.def.now.members c.in-Some-member_named.n m.member m.there in
    let most = c.requires.within.0 in
    omega arith

pub union_value-bounds-as_slice-n : goal.union_value-bounds-as_slice-n
union_value-bounds-as_slice-n t c =
    let m = c.in-Some-member_named.ensures in
    let low = slice_get_within c.args.def.now.members c.in-Some-member_named.n m.member m.there in
    let same = ap length c.as_slice.ensures in
    omega arith

pub union_value-bounds-as_slice-n-in-Some-member_named : goal.union_value-bounds-as_slice-n-in-Some-member_named
union_value-bounds-as_slice-n-in-Some-member_named t c =
    let m = c.in-Some-member_named.ensures in
    let low = slice_get_within c.args.def.now.members c.in-Some-member_named.n m.member m.there in
    let same = ap length c.as_slice.ensures in
    omega arith

pub union_value-tree_value-requires : goal.union_value-tree_value-requires
union_value-tree_value-requires t c =
    let m = c.in-Some-member_named.ensures in
    let is = picked c.args.def.now.members c.as_slice.result.now c.in-Some-member_named.n m.member c.index-as_slice-n.result c.as_slice.ensures m.there in
    let low = number_low (λ (m : Member). m.ty.0) (length c.args.acc.now) c.args.def.now.members c.requires.within.1 c.in-Some-member_named.n m.member m.there in
    let below : depth (data_of c.in-Some.tree) ≤ members_depth c.args.entries = only_depth c.in-Some.name c.args.entries (data_of c.in-Some.tree) c.in-Some.ensures in
    (omega arith, subst (λ (x : Member). x.ty.0 < length c.args.acc.now) (sym is) low)

pub union_value-returns-in_err-val-clause-err : goal.union_value-returns-in_err-val-clause-err
union_value-returns-in_err-val-clause-err t c =
    let m = c.in-Some-member_named.ensures in
    let is = picked c.args.def.now.members c.as_slice.result.now c.in-Some-member_named.n m.member c.index-as_slice-n.result c.as_slice.ensures m.there in
    let named = ap (λ k. member_named k c.args.def.now.members) (sym c.as_str.ensures.same) ∙ m.named in
    let refused = subst (λ (x : Member). IsRefused c.args.acc.now (plainly x.ty) (data_of c.in-Some.tree) c.in_err-val.field-0.0) is c.in_err-val.ensures.err in
    let p = err_from_is_err_and c.from_residual.result c.from_residual.ensures.1 in
    rw (p.1, p.2) (union_refused c.args.acc.now c.args.slot c.args.def.now c.args.entries c.in-Some.name (data_of c.in-Some.tree) c.in-Some-member_named.n m.member c.in_err-val.field-0.0 c.requires.form c.in-Some.ensures named refused)

pub union_value-overflow_cast-result : goal.union_value-overflow_cast-result
union_value-overflow_cast-result t c =
    let m = c.in-Some-member_named.ensures in
    let low = slice_get_within c.args.def.now.members c.in-Some-member_named.n m.member m.there in
    let most = c.requires.within.0 in
    omega arith

pub union_value-returns-clause-ok : goal.union_value-returns-clause-ok
union_value-returns-clause-ok t c =
    let m = c.in-Some-member_named.ensures in
    let is = picked c.args.def.now.members c.as_slice.result.now c.in-Some-member_named.n m.member c.index-as_slice-n.result c.as_slice.ensures m.there in
    let named = ap (λ k. member_named k c.args.def.now.members) (sym c.as_str.ensures.same) ∙ m.named in
    let v = subst (λ (x : Member). IsReadAs c.args.acc.now (plainly x.ty) (data_of c.in-Some.tree) (value_of c.in_ok-val.val)) is c.in_ok-val.ensures.ok in
    union_means c.args.acc.now c.args.slot c.args.def.now c.args.entries c.in-Some.name (data_of c.in-Some.tree) c.in-Some-member_named.n m.member c.in_ok-new.field-0 c.requires.form c.in-Some.ensures named
    (subst (λ (w : Value). IsReadAs c.args.acc.now (plainly m.member.ty) (data_of c.in-Some.tree) w) (sym c.in_ok-new.ensures) v)
