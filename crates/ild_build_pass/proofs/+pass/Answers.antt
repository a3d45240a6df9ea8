use Rattle.std.proofs.Common.{rules, ◌<◌, ◌∙◌, ◌++◌, length, get_or, Some, refl, sym, ap, subst, arith}
use Rattle.std.proofs.lemmas.List.{take_all}
use Rattle.ild_data.specs.Spell.{spell_text}
use Rattle.ild_emit.proofs.Growing.{grown_same, grown_then, on_err_always}
use Rattle.ild_schema.specs.Clear.{KeysApart}
use Rattle.ild_schema.specs.Marks.{mark_text}
use Rattle.ild_schema.specs.Slots.{plainly}
use Rattle.ild_schema.specs.Value.{height, optionals_list, pairs_list, values_list}
use Rattle.ild_schema.specs.ValueSeen.{value_of}
use Rattle.ild_schema.specs.declared.def.UnionForm.TheVariants as UF
use Rattle.ild_typed.specs.Hamt.{whole}
use Rattle.ild_build.specs.TextRep.{is_text_struct}
use Rattle.ild_build_leaf.specs.Made.{before_key, made}
use Rattle.ild_build_entries.proofs.Marked.{on_ok}
use Rattle.ild_build_pass.specs.Fitting.{FitsIn}
use Rattle.ild_build_pass.specs.inside.Fronts.{IsWrapped}
use Rattle.ild_build_pass.specs.Weights.{bare_keys}
use Rattle.ild_build_pass.proofs.Bare.{a_leaf}
use Rattle.ild_build_pass.proofs.Fitted.{list_fit, map_fit, member_there, struct_fit, union_fit}
use Rattle.ild_build_pass.proofs.Flow.{behind}
use Rattle.ild_build_pass.proofs.Inlined.{inline_layer}
use Rattle.ild_build_pass.proofs.AcceptedTables.{names_apart}
use Rattle.ild_build_pass.proofs.Others.{nothing}
use Rattle.ild_build_pass.proofs.Prefixing.{prefix_layer}
use Rattle.ild_build_pass.proofs.Wrapping.{wrapped_layer}
use Rattle.ild_build_pass.proofs.Writing.{no_ok, grown_on, none_past, unchanged, failed_then, failed_on, grown_around}
use Rattle.ild_build_pass.proofs.Gathering.{Gathered}
use Rattle.ild_build_pass.proofs.Rooting.{hamt_written, once_by_keys}
use Rattle.ild_build_pass.proofs.EntryOrder.{marked_round, none_marked, texts_by_keys}
use Rattle.ild_build_pass.proofs.Layers.{told, list_layer, map_layer, pairs_layer, hamt_layer, fields_layer, tuple_layer, listed_layer, fields_behind, union_layer, kinded_layer, marked_layer, map_text, struct_text, prefix_text, leaf_layer, text_leaf, int_leaf, bool_leaf}
use Rattle.ild_build_pass.proofs.Parts.{item_part, entry_part, hamt_part, place_part, tuple_part, listed_part, items_in, entries_in, root_in, fields_in, fields_of_value, member_in, same_part}
use Rattle.ild_build_pass.proofs.Rounds.{items_begin, items_go, items_over, entries_begin, entries_go, entries_over, tuple_begin, tuple_pass, tuple_go, tuple_over, fields_begin, fields_pass, fields_go, fields_over, places_begin, places_past, places_pass, places_go, places_over}
use Rattle.ild_build_pass.proofs.+pass.Goals as goal

-- ---- values

pub pass::add-returns-in_default : goal.pass::add-returns-in_default
pass::add-returns-in_default g t c = record {
  ok = leaf_layer g.H.KeyHash.hash_of c.args.acc.now c.add_leaf.result c.args.out.now c.add_leaf.new.out c.args.nodes.now c.args.slot c.args.val.now (a_leaf c.args.val.now c.in_default.not-List c.in_default.not-Map c.in_default.not-Struct c.in_default.not-Union) c.add_leaf.ensures.ok;
  err = unchanged c.add_leaf.result c.args.out.now c.add_leaf.new.out c.add_leaf.ensures.err;
}

pub pass::add-returns-in-Text : goal.pass::add-returns-in-Text
pass::add-returns-in-Text g t c = record {
  ok = text_leaf g.H.KeyHash.hash_of c.args.acc.now c.text.result c.args.out.now c.text.new.self c.args.nodes.now c.args.slot c.args.val.now c.in-Text.text c.as_str.result.now c.in-Text.is c.as_str.ensures.same c.text.ensures.ok;
  err = unchanged c.text.result c.args.out.now c.text.new.self c.text.ensures.err;
}

pub pass::add-returns-in-Int : goal.pass::add-returns-in-Int
pass::add-returns-in-Int g t c = record {
  ok = int_leaf g.H.KeyHash.hash_of c.args.acc.now c.int.result c.args.out.now c.int.new.self c.args.nodes.now c.args.slot c.args.val.now c.in-Int.n c.in-Int.is c.int.ensures.ok;
  err = unchanged c.int.result c.args.out.now c.int.new.self c.int.ensures.err;
}

pub pass::add-returns-in-Bool : goal.pass::add-returns-in-Bool
pass::add-returns-in-Bool g t c = record {
  ok = bool_leaf g.H.KeyHash.hash_of c.args.acc.now c.simple.result c.args.out.now c.simple.new.self c.args.nodes.now c.args.slot c.args.val.now c.in-Bool.b c.in-Bool.is c.simple.ensures.ok;
  err = unchanged c.simple.result c.args.out.now c.simple.new.self c.simple.ensures.err;
}

pub pass::add-returns-in-List : goal.pass::add-returns-in-List
pass::add-returns-in-List g t c = record {
  ok = told g.H.KeyHash.hash_of c.args.acc.now c.add_list.result c.args.out.now c.add_list.new.out c.args.nodes.now c.add_list.new.nodes c.args.slot (value_of c.args.val.now) _ (ap value_of c.in-List.is) c.add_list.ensures.ok;
  err = c.add_list.ensures.err;
}

pub pass::add-returns-in-Map : goal.pass::add-returns-in-Map
pass::add-returns-in-Map g t c = record {
  ok = told g.H.KeyHash.hash_of c.args.acc.now c.add_map.result c.args.out.now c.add_map.new.out c.args.nodes.now c.add_map.new.nodes c.args.slot (value_of c.args.val.now) _ (ap value_of c.in-Map.is) c.add_map.ensures.ok;
  err = c.add_map.ensures.err;
}

pub pass::add-returns-in-Struct : goal.pass::add-returns-in-Struct
pass::add-returns-in-Struct g t c = record {
  ok = told g.H.KeyHash.hash_of c.args.acc.now c.add_struct.result c.args.out.now c.add_struct.new.out c.args.nodes.now c.add_struct.new.nodes c.args.slot (value_of c.args.val.now) _ (ap value_of c.in-Struct.is) c.add_struct.ensures.ok;
  err = c.add_struct.ensures.err;
}

pub pass::add-returns-in-Union : goal.pass::add-returns-in-Union
pass::add-returns-in-Union g t c = record {
  ok = told g.H.KeyHash.hash_of c.args.acc.now c.add_union.result c.args.out.now c.add_union.new.out c.args.nodes.now c.add_union.new.nodes c.args.slot (value_of c.args.val.now) _ (ap value_of c.in-Union.is) c.add_union.ensures.ok;
  err = c.add_union.ensures.err;
}

pub pass::add-add_list-requires : goal.pass::add-add_list-requires
pass::add-add_list-requires g t c = λ κs le.
    let lower = ap (λ v. height (value_of v)) c.in-List.is in
    (omega arith, (le, (c.requires.within, subst (λ v. FitsIn c.args.acc.now c.args.slot (value_of v)) c.in-List.is c.requires.fits)))

pub pass::add-add_map-requires : goal.pass::add-add_map-requires
pass::add-add_map-requires g t c = λ κs le.
    let lower = ap (λ v. height (value_of v)) c.in-Map.is in
    (omega arith, (le, (c.requires.within, (ap value_of c.in-Map.is, subst (λ v. FitsIn c.args.acc.now c.args.slot (value_of v)) c.in-Map.is c.requires.fits))))

pub pass::add-add_struct-requires : goal.pass::add-add_struct-requires
pass::add-add_struct-requires g t c = λ κs le.
    let lower = ap (λ v. height (value_of v)) c.in-Struct.is in
    (omega arith, (le, (c.requires.within, (ap value_of c.in-Struct.is, subst (λ v. FitsIn c.args.acc.now c.args.slot (value_of v)) c.in-Struct.is c.requires.fits))))

pub pass::add-add_union-requires : goal.pass::add-add_union-requires
pass::add-add_union-requires g t c = λ κs le.
    let lower = ap (λ v. height (value_of v)) c.in-Union.is in
    (omega arith, (le, (c.requires.within, (ap value_of c.in-Union.is, subst (λ v. FitsIn c.args.acc.now c.args.slot (value_of v)) c.in-Union.is c.requires.fits))))

-- ---- lists

pub lists::add_list-add_items-requires : goal.lists::add_list-add_items-requires
lists::add_list-add_items-requires g t c = λ κs le.
    let parts = items_in c.args.acc.now c.args.slot c.form_of.result.now c.form_of.ensures.same c.form_of.ensures.within c.in-List.elem c.in-List.at c.args.vals.now c.in-List.is c.requires.fits in
    (omega arith, (le, (parts.low, parts.each)))

pub lists::add_list-returns-in-List : goal.lists::add_list-returns-in-List
lists::add_list-returns-in-List g t c = record {
  ok = list_layer g.H.KeyHash.hash_of c.args.acc.now c.add_items.result c.args.out.now c.add_items.new.out c.args.nodes.now c.add_items.new.nodes c.args.slot c.in-List.elem c.in-List.at c.args.vals.now c.form_of.result.now c.form_of.ensures.same c.in-List.is c.add_items.ensures.ok;
  err = c.add_items.ensures.err;
}

pub lists::add_list-returns-in_default : goal.lists::add_list-returns-in_default
lists::add_list-returns-in_default g t c =
    let x = list_fit c.args.acc.now c.args.slot c.args.vals.now c.form_of.result.now c.form_of.ensures.same c.requires.fits in
    absurd (c.in_default.not-List x.elem x.place x.is)

pub lists::add_items-loop-i-init : goal.lists::add_items-loop-i-init
lists::add_items-loop-i-init g t c = items_begin g.H.KeyHash.hash_of c.args.acc.now c.args.out.now c.args.nodes.now c.args.elem (values_list c.args.vals.now) c.len.result c.head.new.self c.in_ok-head.ensures.ok c.len.ensures

pub lists::add_items-add-requires : goal.lists::add_items-add-requires
lists::add_items-add-requires g t c = λ κs le.
    let part = item_part c.args.acc.now c.args.elem c.args.vals.now c.loop-i.i (value_of c.in-Some.val.now) c.requires.fits c.in-Some.ensures in
    (omega (arith, part.low), (le, (c.requires.within, part.fits)))

pub lists::add_items-loop-i-preserved : goal.lists::add_items-loop-i-preserved
lists::add_items-loop-i-preserved g t c =
    items_go g.H.KeyHash.hash_of c.args.acc.now c.args.out.now c.args.nodes.now c.args.elem (values_list c.args.vals.now) c.loop-i.i (value_of c.in-Some.val.now) c.in-Some.ensures
    c.loop-i.out c.add.new.out c.loop-i.nodes c.add.new.nodes c.in_ok-add.ensures.ok c.loop-i.invariant

pub lists::add_items-returns-in_default : goal.lists::add_items-returns-in_default
lists::add_items-returns-in_default g t c = absurd (none_past (values_list c.args.vals.now) c.loop-i.i (sym c.in_default.ensures) (omega arith))

pub lists::add_items-returns : goal.lists::add_items-returns
lists::add_items-returns g t c = record {
  ok = items_over g.H.KeyHash.hash_of c.args.acc.now c.args.out.now c.args.nodes.now c.args.elem (values_list c.args.vals.now) c.loop-i.i (omega arith) c.loop-i.out c.loop-i.nodes c.loop-i.invariant;
  err = tt;
}

pub lists::add_items-returns-in_err-head : goal.lists::add_items-returns-in_err-head
lists::add_items-returns-in_err-head g t c = record { ok = no_ok c.from_residual.result _ c.from_residual.ensures.0; err = on_err_always c.from_residual.result _ (grown_same c.args.out.now c.head.new.self c.in_err-head.ensures.err) }

pub lists::add_items-returns-in_err-add : goal.lists::add_items-returns-in_err-add
lists::add_items-returns-in_err-add g t c = record { ok = no_ok c.from_residual-in_err-add.result _ c.from_residual-in_err-add.ensures.0; err = on_err_always c.from_residual-in_err-add.result _ (grown_on c.args.out.now c.loop-i.out c.add.new.out c.loop-i.invariant.grown c.in_err-add.ensures.err) }

-- ---- maps

pub maps::add_map-add_pairs-requires : goal.maps::add_map-add_pairs-requires
maps::add_map-add_pairs-requires g t c = λ κs le.
    let parts = entries_in c.args.acc.now c.args.slot c.form_of.result.now c.form_of.ensures.same c.form_of.ensures.within c.in-Map.key c.in-Map.key_at c.in-Map.value c.in-Map.at c.in-Map.form c.args.pairs.now c.in-Map.is c.requires.fits in
    (omega arith, (le, (parts.low, parts.each)))

pub maps::add_map-add_pairs-requires-in-ListPairs : goal.maps::add_map-add_pairs-requires-in-ListPairs
maps::add_map-add_pairs-requires-in-ListPairs g t c = λ κs le.
    let parts = entries_in c.args.acc.now c.args.slot c.form_of.result.now c.form_of.ensures.same c.form_of.ensures.within c.in-Map.key c.in-Map.key_at c.in-Map.value c.in-Map.at c.in-Map.form c.args.pairs.now c.in-Map.is c.requires.fits in
    (omega arith, (le, (parts.low, parts.each)))

pub maps::add_map-add_hamt-requires : goal.maps::add_map-add_hamt-requires
maps::add_map-add_hamt-requires g t c = λ κs le.
    let parts = root_in c.args.acc.now c.args.slot c.form_of.result.now c.form_of.ensures.same c.form_of.ensures.within c.in-Map.key c.in-Map.key_at c.in-Map.value c.in-Map.at c.in-Map.form c.args.pairs.now c.in-Map.is c.requires.fits c.in-Hamt.shape c.in-Hamt.is in
    (omega arith, (le, (parts.low, parts.each)))

pub maps::add_map-returns-in-Map-form : goal.maps::add_map-returns-in-Map-form
maps::add_map-returns-in-Map-form g t c = record {
  ok = map_layer g.H.KeyHash.hash_of c.args.acc.now c.add_pairs.result c.args.out.now c.add_pairs.new.out c.args.nodes.now c.add_pairs.new.nodes c.args.slot c.in-Map.key c.in-Map.key_at c.in-Map.value c.in-Map.at c.in-Map.form c.args.pairs.now c.form_of.result.now c.form_of.ensures.same c.in-Map.is c.in-Map-form.is c.add_pairs.ensures.ok;
  err = c.add_pairs.ensures.err;
}

pub maps::add_map-returns-in-ListPairs : goal.maps::add_map-returns-in-ListPairs
maps::add_map-returns-in-ListPairs g t c = record {
  ok = pairs_layer g.H.KeyHash.hash_of c.args.acc.now c.add_pairs-in-ListPairs.result c.args.out.now c.add_pairs-in-ListPairs.new.out c.args.nodes.now c.add_pairs-in-ListPairs.new.nodes c.args.slot c.in-Map.key c.in-Map.key_at c.in-Map.value c.in-Map.at c.in-Map.form c.args.pairs.now c.form_of.result.now c.form_of.ensures.same c.in-Map.is c.in-ListPairs.is c.add_pairs-in-ListPairs.ensures.ok;
  err = c.add_pairs-in-ListPairs.ensures.err;
}

pub maps::add_map-returns-in-StringPairs : goal.maps::add_map-returns-in-StringPairs
maps::add_map-returns-in-StringPairs g t c = record {
  ok = map_text g.H.KeyHash.hash_of c.args.acc.now c.recall.ensures.legible c.add_as_text.result c.args.out.now c.add_as_text.new.out c.args.nodes.now c.args.slot (value_of c.args.val.now) c.args.pairs.now c.requires.same c.requires.fits
      c.in-Map.key c.in-Map.key_at c.in-Map.value c.in-Map.at c.in-Map.form _ c.form_of.result.now c.form_of.ensures.same c.in-Map.is c.in-StringPairs.is refl c.add_as_text.ensures.ok;
  err = unchanged c.add_as_text.result c.args.out.now c.add_as_text.new.out c.add_as_text.ensures.err;
}

pub maps::add_map-returns-in-Hamt : goal.maps::add_map-returns-in-Hamt
maps::add_map-returns-in-Hamt g t c = record {
  ok = hamt_layer g.H.KeyHash.hash_of c.args.acc.now c.add_hamt.result c.args.out.now c.add_hamt.new.out c.args.nodes.now c.add_hamt.new.nodes c.args.slot c.in-Map.key c.in-Map.key_at c.in-Map.value c.in-Map.at c.in-Map.form c.args.pairs.now c.form_of.result.now c.form_of.ensures.same c.in-Map.is c.in-Hamt.shape c.in-Hamt.is c.add_hamt.ensures.ok;
  err = c.add_hamt.ensures.err;
}

pub maps::add_map-returns-in_default : goal.maps::add_map-returns-in_default
maps::add_map-returns-in_default g t c =
    let x = map_fit c.args.acc.now c.args.slot c.args.pairs.now c.form_of.result.now c.form_of.ensures.same c.requires.fits in
    absurd (c.in_default.not-Map x.key x.key_at x.value x.place x.form x.is)

pub maps::add_pairs-loop-i-init : goal.maps::add_pairs-loop-i-init
maps::add_pairs-loop-i-init g t c = entries_begin g.H.KeyHash.hash_of c.args.acc.now c.args.out.now c.args.nodes.now c.args.paired c.args.value (pairs_list c.args.pairs.now) c.len.result c.add_count.new.out c.in_ok-add_count.ensures.ok c.len.ensures

pub maps::add_pairs-add_entry-requires : goal.maps::add_pairs-add_entry-requires
maps::add_pairs-add_entry-requires g t c = λ κs le.
    let part = entry_part c.args.acc.now c.args.value c.args.pairs.now c.loop-i.i c.in-Some.key.now (value_of c.in-Some.val.now) c.requires.fits (sym c.in-Some.ensures) in
    (omega (arith, part.low), (le, (c.requires.within, part.fits)))

pub maps::add_pairs-loop-i-preserved : goal.maps::add_pairs-loop-i-preserved
maps::add_pairs-loop-i-preserved g t c =
    entries_go g.H.KeyHash.hash_of c.args.acc.now c.args.out.now c.args.nodes.now c.args.paired c.args.value (pairs_list c.args.pairs.now) c.loop-i.i c.in-Some.key.now (value_of c.in-Some.val.now) (sym c.in-Some.ensures)
    c.loop-i.out c.add_entry.new.out c.loop-i.nodes c.add_entry.new.nodes c.in_ok-add_entry.ensures.ok c.loop-i.invariant

pub maps::add_pairs-returns-in_default : goal.maps::add_pairs-returns-in_default
maps::add_pairs-returns-in_default g t c = absurd (none_past (pairs_list c.args.pairs.now) c.loop-i.i (sym c.in_default.ensures) (omega arith))

pub maps::add_pairs-returns : goal.maps::add_pairs-returns
maps::add_pairs-returns g t c = record {
  ok = entries_over g.H.KeyHash.hash_of c.args.acc.now c.args.out.now c.args.nodes.now c.args.paired c.args.value (pairs_list c.args.pairs.now) c.loop-i.i (omega arith) c.loop-i.out c.loop-i.nodes c.loop-i.invariant;
  err = tt;
}

pub maps::add_pairs-returns-in_err-add_count : goal.maps::add_pairs-returns-in_err-add_count
maps::add_pairs-returns-in_err-add_count g t c = record { ok = no_ok c.from_residual.result _ c.from_residual.ensures.0; err = on_err_always c.from_residual.result _ (grown_same c.args.out.now c.add_count.new.out c.in_err-add_count.ensures.err) }

pub maps::add_pairs-returns-in_err-add_entry : goal.maps::add_pairs-returns-in_err-add_entry
maps::add_pairs-returns-in_err-add_entry g t c = record { ok = no_ok c.from_residual-in_err-add_entry.result _ c.from_residual-in_err-add_entry.ensures.0; err = on_err_always c.from_residual-in_err-add_entry.result _ (grown_on c.args.out.now c.loop-i.out c.add_entry.new.out c.loop-i.invariant.grown c.in_err-add_entry.ensures.err) }

-- ---- entries

pub maps::add_entry-add-requires : goal.maps::add_entry-add-requires
maps::add_entry-add-requires g t c = λ κs le.
    let within : c.args.slot.ty.0 < length c.args.acc.now = first_of (assumption c.requires, search rules) in
    let fits : FitsIn c.args.acc.now c.args.slot (value_of c.args.val.now) = first_of (assumption c.requires, search rules) in
    (omega arith, (le, (within, fits)))

pub maps::add_entry-returns : goal.maps::add_entry-returns
maps::add_entry-returns g t c = record {
  ok = on_ok c.add.result _ _
      (behind g.H.KeyHash.hash_of c.args.acc.now (made (whole g.H.KeyHash.hash_of) c.args.acc.now c.args.slot (value_of c.args.val.now)) _ c.args.out.now c.add_key.new.out c.add.new.out (before_key c.args.paired ++ spell_text c.args.key.now) c.args.nodes.now c.add.new.nodes c.in_ok-add_key.ensures.ok)
      c.add.ensures.ok;
  err = failed_then c.add.result c.args.out.now c.add_key.new.out c.add.new.out _ c.in_ok-add_key.ensures.ok c.add.ensures.err;
}

pub maps::add_entry-returns-in_err-add_key : goal.maps::add_entry-returns-in_err-add_key
maps::add_entry-returns-in_err-add_key g t c = record { ok = no_ok c.from_residual.result _ c.from_residual.ensures.0; err = on_err_always c.from_residual.result _ c.in_err-add_key.ensures.err }

-- ---- HAMTs

pub maps::add_hamt-loop-i-init : goal.maps::add_hamt-loop-i-init
maps::add_hamt-loop-i-init g t c = none_marked g.H.KeyHash.hash_of c.args.acc.now c.args.value c.in_ok-entries.entries c.args.nodes.now c.in_ok-entries.ensures

pub maps::add_hamt-add-requires : goal.maps::add_hamt-add-requires
maps::add_hamt-add-requires g t c = λ κs le.
    let part = hamt_part c.args.acc.now c.args.value c.args.pairs.now c.loop-i.i c.in-Some.key.now (value_of c.in-Some.val.now) c.requires.fits (sym c.in-Some.ensures) in
    (omega (arith, part.low), (le, (c.requires.within, part.fits)))

pub maps::add_hamt-loop-i-preserved : goal.maps::add_hamt-loop-i-preserved
maps::add_hamt-loop-i-preserved g t c =
    let b = c.in_ok-begun.ensures in
    marked_round g.H.KeyHash.hash_of c.args.acc.now c.args.value c.recall.ensures.legible.made c.recall.ensures.table.texts.spelled (pairs_list c.args.pairs.now) c.requires.fits c.loop-i.i c.in-Some.key.now (value_of c.in-Some.val.now) (sym c.in-Some.ensures) c.loop-i.entries _ c.end_entry.new.entries
    c.args.nodes.now c.loop-i.nodes c.add.new.nodes c.end_entry.new.nodes _ c.in_ok-begun.begun.from c.in_ok-begun.begun.value_from c.loop-i.invariant b.begins b.marks c.in_ok-add.ensures.ok b.at b.value_at c.in_ok-end_entry.ensures

pub maps::add_hamt-returns-in_default : goal.maps::add_hamt-returns-in_default
maps::add_hamt-returns-in_default g t c = absurd (none_past (pairs_list c.args.pairs.now) c.loop-i.i (sym c.in_default.ensures) (omega arith))

pub maps::add_hamt-returns : goal.maps::add_hamt-returns
maps::add_hamt-returns g t c =
    let h = g.H.KeyHash.hash_of in
    let rows = c.args.acc.now in
    let ps = pairs_list c.args.pairs.now in
    let m = c.loop-i.invariant in
    let all = take_all c.loop-i.i ps (omega arith) in
    let keys = m.gathered.keys ∙ ap bare_keys all in
    record {
      ok = on_ok c.add_root.result _ _
          (λ r. hamt_written h c.args.shape rows c.args.value c.args.pairs.now m.es c.args.out.now c.add_root.new.out c.args.nodes.now c.loop-i.nodes c.add_root.new.nodes
          (subst (λ xs. Gathered h rows c.args.value xs m.es c.args.nodes.now c.loop-i.nodes) all m.gathered) r)
          (c.add_root.ensures.ok h m.es m.marked (once_by_keys h c.args.shape ps m.es keys c.requires.fits.rises) (texts_by_keys ps m.es keys (λ i p e. (c.requires.fits.each i p e).text)) m.gathered.shallow);
      err = c.add_root.ensures.err;
    }

pub maps::add_hamt-returns-in_err-entries : goal.maps::add_hamt-returns-in_err-entries
maps::add_hamt-returns-in_err-entries g t c = record { ok = no_ok c.from_residual.result _ c.from_residual.ensures.0; err = on_err_always c.from_residual.result _ (grown_same c.args.out.now c.args.out.now refl) }

pub maps::add_hamt-returns-in_err-begun : goal.maps::add_hamt-returns-in_err-begun
maps::add_hamt-returns-in_err-begun g t c = record { ok = no_ok c.from_residual-in_err-begun.result _ c.from_residual-in_err-begun.ensures.0; err = on_err_always c.from_residual-in_err-begun.result _ (grown_same c.args.out.now c.args.out.now refl) }

pub maps::add_hamt-returns-in_err-add : goal.maps::add_hamt-returns-in_err-add
maps::add_hamt-returns-in_err-add g t c = record { ok = no_ok c.from_residual-in_err-add.result _ c.from_residual-in_err-add.ensures.0; err = on_err_always c.from_residual-in_err-add.result _ (grown_same c.args.out.now c.args.out.now refl) }

pub maps::add_hamt-returns-in_err-end_entry : goal.maps::add_hamt-returns-in_err-end_entry
maps::add_hamt-returns-in_err-end_entry g t c = record { ok = no_ok c.from_residual-in_err-end_entry.result _ c.from_residual-in_err-end_entry.ensures.0; err = on_err_always c.from_residual-in_err-end_entry.result _ (grown_same c.args.out.now c.args.out.now refl) }

-- ---- structs

pub structs::add_struct-add_fields-requires : goal.structs::add_struct-add_fields-requires
structs::add_struct-add_fields-requires g t c = λ κs le.
    let parts = fields_in c.args.acc.now c.args.slot c.form_of.result.now c.form_of.ensures.same c.form_of.ensures.within c.in-Struct.def c.args.vals.now c.in-Struct.is c.requires.fits in
    let is = c.form_of.ensures.same ∙ ap Some c.in-Struct.is in
    (omega arith, (le, (c.requires.within, (is, (parts.low, (parts.each, names_apart c.args.acc.now c.recall.ensures.legible c.args.slot c.in-Struct.def is c.in-Map.is))))))

pub structs::add_struct-add_tuple-requires : goal.structs::add_struct-add_tuple-requires
structs::add_struct-add_tuple-requires g t c = λ κs le.
    let parts = fields_in c.args.acc.now c.args.slot c.form_of.result.now c.form_of.ensures.same c.form_of.ensures.within c.in-Struct.def c.args.vals.now c.in-Struct.is c.requires.fits in
    (omega arith, (le, (parts.low, parts.each)))

pub structs::add_struct-add_listed-requires : goal.structs::add_struct-add_listed-requires
structs::add_struct-add_listed-requires g t c = λ κs le.
    let parts = fields_in c.args.acc.now c.args.slot c.form_of.result.now c.form_of.ensures.same c.form_of.ensures.within c.in-Struct.def c.args.vals.now c.in-Struct.is c.requires.fits in
    (omega arith, (le, (parts.low, parts.each)))

pub structs::add_struct-returns-in-Map : goal.structs::add_struct-returns-in-Map
structs::add_struct-returns-in-Map g t c = record {
  ok = fields_layer g.H.KeyHash.hash_of c.args.acc.now c.add_fields.result c.args.out.now c.add_fields.new.out c.args.nodes.now c.add_fields.new.nodes c.recall.ensures.legible c.args.slot c.in-Struct.def c.args.vals.now c.form_of.result.now c.form_of.ensures.same c.in-Struct.is c.in-Map.is c.add_fields.ensures.ok;
  err = c.add_fields.ensures.err;
}

pub structs::add_struct-returns-in-Tuple : goal.structs::add_struct-returns-in-Tuple
structs::add_struct-returns-in-Tuple g t c = record {
  ok = tuple_layer g.H.KeyHash.hash_of c.args.acc.now c.add_tuple.result c.args.out.now c.add_tuple.new.out c.args.nodes.now c.add_tuple.new.nodes c.recall.ensures.legible c.args.slot c.in-Struct.def c.args.vals.now c.form_of.result.now c.form_of.ensures.same c.in-Struct.is c.in-Tuple.is c.add_tuple.ensures.ok;
  err = c.add_tuple.ensures.err;
}

pub structs::add_struct-returns-in-ListPairs : goal.structs::add_struct-returns-in-ListPairs
structs::add_struct-returns-in-ListPairs g t c = record {
  ok = listed_layer g.H.KeyHash.hash_of c.args.acc.now c.add_listed.result c.args.out.now c.add_listed.new.out c.args.nodes.now c.add_listed.new.nodes c.recall.ensures.legible c.args.slot c.in-Struct.def c.args.vals.now c.form_of.result.now c.form_of.ensures.same c.in-Struct.is c.in-ListPairs.is c.add_listed.ensures.ok;
  err = c.add_listed.ensures.err;
}

pub structs::add_struct-returns-in-StringPairs : goal.structs::add_struct-returns-in-StringPairs
structs::add_struct-returns-in-StringPairs g t c = record {
  ok = struct_text g.H.KeyHash.hash_of c.args.acc.now c.recall.ensures.legible c.add_as_text.result c.args.out.now c.add_as_text.new.out c.args.nodes.now c.args.slot (value_of c.args.val.now) c.args.vals.now c.requires.same c.requires.fits c.in-Struct.def c.form_of.result.now c.form_of.ensures.same c.in-Struct.is (ap is_text_struct c.in-StringPairs.is) c.add_as_text.ensures.ok;
  err = unchanged c.add_as_text.result c.args.out.now c.add_as_text.new.out c.add_as_text.ensures.err;
}

pub structs::add_struct-returns-in-StringJoin : goal.structs::add_struct-returns-in-StringJoin
structs::add_struct-returns-in-StringJoin g t c = record {
  ok = struct_text g.H.KeyHash.hash_of c.args.acc.now c.recall.ensures.legible c.add_as_text-in-StringJoin.result c.args.out.now c.add_as_text-in-StringJoin.new.out c.args.nodes.now c.args.slot (value_of c.args.val.now) c.args.vals.now c.requires.same c.requires.fits
      c.in-Struct.def c.form_of.result.now c.form_of.ensures.same c.in-Struct.is (ap is_text_struct c.in-StringJoin.is) c.add_as_text-in-StringJoin.ensures.ok;
  err = unchanged c.add_as_text-in-StringJoin.result c.args.out.now c.add_as_text-in-StringJoin.new.out c.add_as_text-in-StringJoin.ensures.err;
}

pub structs::add_struct-returns-in_default : goal.structs::add_struct-returns-in_default
structs::add_struct-returns-in_default g t c =
    let x = struct_fit c.args.acc.now c.args.slot c.args.vals.now c.form_of.result.now c.form_of.ensures.same c.requires.fits in
    absurd (c.in_default.not-Struct x.def x.is)

-- ---- fields in the order of declaration

pub structs::add_tuple-loop-i-init : goal.structs::add_tuple-loop-i-init
structs::add_tuple-loop-i-init g t c = tuple_begin g.H.KeyHash.hash_of c.args.acc.now c.args.out.now c.args.nodes.now c.args.def.now.fields (optionals_list c.args.vals.now) c.present.result c.head.new.self c.in_ok-head.ensures.ok c.present.ensures

pub structs::add_tuple-add-requires : goal.structs::add_tuple-add-requires
structs::add_tuple-add-requires g t c = λ κs le.
    let field = tuple_part c.args.acc.now c.args.def.now c.args.vals.now c.requires.within c.requires.fits c.as_slice-field-items.result.now c.loop-i.i c.field-item.result (value_of c.in-Some.val.now) c.as_slice-field-items.ensures (omega arith) c.field-item.is c.in-Some.ensures in
    (omega (arith, field.part.low), (le, (field.within, field.part.fits)))

pub structs::add_tuple-loop-i-preserved-in_default : goal.structs::add_tuple-loop-i-preserved-in_default
structs::add_tuple-loop-i-preserved-in_default g t c = tuple_pass g.H.KeyHash.hash_of c.args.acc.now c.args.out.now c.args.nodes.now c.args.def.now.fields (optionals_list c.args.vals.now) c.as_slice-field-items.result.now c.as_slice-field-items.ensures c.loop-i.i c.field-item.result (omega arith) c.field-item.is c.loop-i.out c.loop-i.nodes c.in_default.ensures c.loop-i.invariant

pub structs::add_tuple-loop-i-preserved : goal.structs::add_tuple-loop-i-preserved
structs::add_tuple-loop-i-preserved g t c =
    tuple_go g.H.KeyHash.hash_of c.args.acc.now c.args.out.now c.args.nodes.now c.args.def.now.fields (optionals_list c.args.vals.now) c.as_slice-field-items.result.now c.as_slice-field-items.ensures c.loop-i.i c.field-item.result (omega arith) c.field-item.is
    c.loop-i.out c.loop-i.nodes (value_of c.in-Some.val.now) c.in-Some.ensures c.add.new.out c.add.new.nodes c.in_ok-add.ensures.ok c.loop-i.invariant

pub structs::add_tuple-returns : goal.structs::add_tuple-returns
structs::add_tuple-returns g t c = record {
  ok = tuple_over g.H.KeyHash.hash_of c.args.acc.now c.args.out.now c.args.nodes.now c.args.def.now.fields (optionals_list c.args.vals.now) c.as_slice-field-items.result.now c.as_slice-field-items.ensures c.loop-i.i (omega arith) c.loop-i.out c.loop-i.nodes c.loop-i.invariant;
  err = tt;
}

pub structs::add_tuple-returns-in_err-head : goal.structs::add_tuple-returns-in_err-head
structs::add_tuple-returns-in_err-head g t c = record { ok = no_ok c.from_residual.result _ c.from_residual.ensures.0; err = on_err_always c.from_residual.result _ (grown_same c.args.out.now c.head.new.self c.in_err-head.ensures.err) }

pub structs::add_tuple-returns-in_err-add : goal.structs::add_tuple-returns-in_err-add
structs::add_tuple-returns-in_err-add g t c = record { ok = no_ok c.from_residual-in_err-add.result _ c.from_residual-in_err-add.ensures.0; err = on_err_always c.from_residual-in_err-add.result _ (grown_on c.args.out.now c.loop-i.out c.add.new.out c.loop-i.invariant.grown c.in_err-add.ensures.err) }

pub structs::add_listed-loop-i-init : goal.structs::add_listed-loop-i-init
structs::add_listed-loop-i-init g t c = fields_begin g.H.KeyHash.hash_of c.args.acc.now c.args.out.now c.args.nodes.now c.args.def.now.fields (optionals_list c.args.vals.now) c.written.result c.head.new.self c.in_ok-head.ensures.ok c.written.ensures

pub structs::add_listed-add_entry-requires : goal.structs::add_listed-add_entry-requires
structs::add_listed-add_entry-requires g t c = λ κs le.
    let field = listed_part c.args.acc.now c.args.def.now c.args.vals.now c.requires.within c.requires.fits c.as_slice-field-items.result.now c.loop-i.i c.field-item.result (value_of c.in-Some.val.now) c.as_slice-field-items.ensures (omega arith) c.field-item.is c.in-Some.ensures in
    (omega (arith, field.part.low), (le, (field.within, field.part.fits)))

pub structs::add_listed-loop-i-preserved-in_default : goal.structs::add_listed-loop-i-preserved-in_default
structs::add_listed-loop-i-preserved-in_default g t c = fields_pass g.H.KeyHash.hash_of c.args.acc.now c.args.out.now c.args.nodes.now c.args.def.now.fields (optionals_list c.args.vals.now) c.as_slice-field-items.result.now c.as_slice-field-items.ensures c.loop-i.i c.field-item.result (omega arith) c.field-item.is c.loop-i.out c.loop-i.nodes c.in_default.ensures c.loop-i.invariant

pub structs::add_listed-loop-i-preserved : goal.structs::add_listed-loop-i-preserved
structs::add_listed-loop-i-preserved g t c =
    fields_go g.H.KeyHash.hash_of c.args.acc.now c.args.out.now c.args.nodes.now c.args.def.now.fields (optionals_list c.args.vals.now) c.as_slice-field-items.result.now c.as_slice-field-items.ensures c.loop-i.i c.field-item.result (omega arith) c.field-item.is
    c.loop-i.out c.loop-i.nodes (value_of c.in-Some.val.now) c.text_of_field-name.result.now c.in-Some.ensures c.text_of_field-name.ensures c.add_entry.new.out c.add_entry.new.nodes c.in_ok-add_entry.ensures.ok c.loop-i.invariant

pub structs::add_listed-returns : goal.structs::add_listed-returns
structs::add_listed-returns g t c = record {
  ok = fields_over g.H.KeyHash.hash_of c.args.acc.now c.args.out.now c.args.nodes.now c.args.def.now.fields (optionals_list c.args.vals.now) c.as_slice-field-items.result.now c.as_slice-field-items.ensures c.loop-i.i (omega arith) c.loop-i.out c.loop-i.nodes c.loop-i.invariant;
  err = tt;
}

pub structs::add_listed-returns-in_err-head : goal.structs::add_listed-returns-in_err-head
structs::add_listed-returns-in_err-head g t c = record { ok = no_ok c.from_residual.result _ c.from_residual.ensures.0; err = on_err_always c.from_residual.result _ (grown_same c.args.out.now c.head.new.self c.in_err-head.ensures.err) }

pub structs::add_listed-returns-in_err-add_entry : goal.structs::add_listed-returns-in_err-add_entry
structs::add_listed-returns-in_err-add_entry g t c = record { ok = no_ok c.from_residual-in_err-add_entry.result _ c.from_residual-in_err-add_entry.ensures.0; err = on_err_always c.from_residual-in_err-add_entry.result _ (grown_on c.args.out.now c.loop-i.out c.add_entry.new.out c.loop-i.invariant.grown c.in_err-add_entry.ensures.err) }

-- ---- fields in the key order

pub structs::add_fields-begin_fields-requires : goal.structs::add_fields-begin_fields-requires
structs::add_fields-begin_fields-requires g t c = record { low = c.requires.low; known = c.requires.known }

pub structs::add_fields-add_places-requires : goal.structs::add_fields-add_places-requires
structs::add_fields-add_places-requires g t c = λ κs le. (omega arith, (le, (c.requires.within, c.requires.fits)))

pub structs::add_fields-returns : goal.structs::add_fields-returns
structs::add_fields-returns g t c = record {
  ok = fields_behind g.H.KeyHash.hash_of c.args.acc.now c.add_places.result c.args.out.now c.add_places.new.out c.args.nodes.now c.add_places.new.nodes c.args.def.now.fields (optionals_list c.args.vals.now) c.begin_fields.new.out c.in_ok-places.places.now c.requires.apart c.in_ok-places.ensures.order c.in_ok-places.ensures.ok c.add_places.ensures.ok;
  err = failed_then c.add_places.result c.args.out.now c.begin_fields.new.out c.add_places.new.out _ c.in_ok-places.ensures.ok c.add_places.ensures.err;
}

pub structs::add_fields-returns-in_err-places : goal.structs::add_fields-returns-in_err-places
structs::add_fields-returns-in_err-places g t c = record { ok = no_ok c.from_residual.result _ c.from_residual.ensures.0; err = on_err_always c.from_residual.result _ (grown_same c.args.out.now c.begin_fields.new.out c.in_err-places.ensures.err) }

pub structs::add_places-loop-place-init : goal.structs::add_places-loop-place-init
structs::add_places-loop-place-init g t c = places_begin g.H.KeyHash.hash_of c.args.acc.now c.args.out.now c.args.nodes.now c.args.def.now.fields (optionals_list c.args.vals.now) c.args.places.now

pub structs::add_places-add_entry-requires : goal.structs::add_places-add_entry-requires
structs::add_places-add_entry-requires g t c = λ κs le.
    let field = place_part c.args.acc.now c.args.def.now c.args.vals.now c.requires.within c.requires.fits (get_or c.args.places.now c.loop-place.place-index 0) c.in-Some.field.now (value_of c.in-Some-kept_at.part.now) c.in-Some.ensures c.in-Some-kept_at.ensures in
    (omega (arith, field.part.low), (le, (field.within, field.part.fits)))

pub structs::add_places-loop-place-preserved-in_default : goal.structs::add_places-loop-place-preserved-in_default
structs::add_places-loop-place-preserved-in_default g t c = places_past g.H.KeyHash.hash_of c.args.acc.now c.args.out.now c.args.nodes.now c.args.def.now.fields (optionals_list c.args.vals.now) c.args.places.now c.loop-place.place-index c.loop-place-test.true c.loop-place.out c.loop-place.nodes c.in_default.ensures c.loop-place.invariant

pub structs::add_places-loop-place-preserved-in_default-kept_at : goal.structs::add_places-loop-place-preserved-in_default-kept_at
structs::add_places-loop-place-preserved-in_default-kept_at g t c = places_pass g.H.KeyHash.hash_of c.args.acc.now c.args.out.now c.args.nodes.now c.args.def.now.fields (optionals_list c.args.vals.now) c.args.places.now c.loop-place.place-index c.loop-place-test.true c.loop-place.out c.loop-place.nodes c.in-Some.field.now c.in-Some.ensures c.in_default-kept_at.ensures c.loop-place.invariant

pub structs::add_places-loop-place-preserved : goal.structs::add_places-loop-place-preserved
structs::add_places-loop-place-preserved g t c =
    places_go g.H.KeyHash.hash_of c.args.acc.now c.args.out.now c.args.nodes.now c.args.def.now.fields (optionals_list c.args.vals.now) c.args.places.now c.loop-place.place-index c.loop-place-test.true c.loop-place.out c.loop-place.nodes c.in-Some.field.now c.in-Some.ensures
    (value_of c.in-Some-kept_at.part.now) c.text_of_field-name.result.now c.in-Some-kept_at.ensures c.text_of_field-name.ensures c.add_entry.new.out c.add_entry.new.nodes c.in_ok-add_entry.ensures.ok c.loop-place.invariant

pub structs::add_places-returns : goal.structs::add_places-returns
structs::add_places-returns g t c = record {
  ok = places_over g.H.KeyHash.hash_of c.args.acc.now c.args.out.now c.args.nodes.now c.args.def.now.fields (optionals_list c.args.vals.now) c.args.places.now c.loop-place.place-index (omega arith) c.loop-place.out c.loop-place.nodes c.loop-place.invariant;
  err = tt;
}

pub structs::add_places-returns-in_err-add_entry : goal.structs::add_places-returns-in_err-add_entry
structs::add_places-returns-in_err-add_entry g t c = record { ok = no_ok c.from_residual.result _ c.from_residual.ensures.0; err = on_err_always c.from_residual.result _ (grown_on c.args.out.now c.loop-place.out c.add_entry.new.out c.loop-place.invariant.grown c.in_err-add_entry.ensures.err) }

-- ---- unions

pub unions::add_union-add_member-requires : goal.unions::add_union-add_member-requires
unions::add_union-add_member-requires g t c = λ κs le.
    let member = member_in c.args.acc.now c.args.slot c.form_of.result.now c.form_of.ensures.same c.form_of.ensures.within c.recall.ensures.legible c.in-Union.def c.args.number c.in-Some.member.now c.args.part.now c.in-Union.is c.in-Some.ensures c.requires.fits in
    (omega arith, (le, (member.low, ((λ e. c.in_default-form.not-StringPrefix e), (member.made, (member.apart, member.fits))))))

pub unions::add_union-returns-in-StringPrefix : goal.unions::add_union-returns-in-StringPrefix
unions::add_union-returns-in-StringPrefix g t c = record {
  ok = prefix_text g.H.KeyHash.hash_of c.args.acc.now c.recall.ensures.legible c.add_as_text.result c.args.out.now c.add_as_text.new.out c.args.nodes.now c.args.slot (value_of c.args.val.now) c.args.number c.args.part.now c.requires.same c.requires.fits c.in-Union.def c.form_of.result.now c.form_of.ensures.same c.in-Union.is c.in-StringPrefix.is c.add_as_text.ensures.ok;
  err = unchanged c.add_as_text.result c.args.out.now c.add_as_text.new.out c.add_as_text.ensures.err;
}

pub unions::add_union-returns-in-Some : goal.unions::add_union-returns-in-Some
unions::add_union-returns-in-Some g t c = record {
  ok = union_layer g.H.KeyHash.hash_of c.args.acc.now c.add_member.result c.args.out.now c.add_member.new.out c.args.nodes.now c.add_member.new.nodes c.args.slot c.in-Union.def c.args.number c.in-Some.member.now c.args.part.now c.form_of.result.now c.form_of.ensures.same c.in-Union.is c.in-Some.ensures c.add_member.ensures.ok;
  err = c.add_member.ensures.err;
}

pub unions::add_union-returns-in-None : goal.unions::add_union-returns-in-None
unions::add_union-returns-in-None g t c =
    absurd (member_there c.args.acc.now c.args.slot c.in-Union.def c.args.number c.args.part.now (c.form_of.ensures.same ∙ ap Some c.in-Union.is) c.requires.fits (sym c.in-None.ensures))

pub unions::add_union-returns-in_default : goal.unions::add_union-returns-in_default
unions::add_union-returns-in_default g t c =
    let x = union_fit c.args.acc.now c.args.slot c.args.number c.args.part.now c.form_of.result.now c.form_of.ensures.same c.requires.fits in
    absurd (c.in_default.not-Union x.def x.is)

-- ---- members

pub unions::add_member-add-requires : goal.unions::add_member-add-requires
unions::add_member-add-requires g t c = λ κs le.
    let part = same_part c.args.acc.now (plainly c.args.member.now.ty) (value_of c.get-val.result.now) c.args.part.now c.get-val.ensures c.requires.fits in
    (omega (arith, part.low), (le, (c.requires.within, part.fits)))

pub unions::add_member-add_prefixed-requires : goal.unions::add_member-add_prefixed-requires
unions::add_member-add_prefixed-requires g t c = λ κs le.
    let part = same_part c.args.acc.now (plainly c.args.member.now.ty) (value_of c.get-val.result.now) c.args.part.now c.get-val.ensures c.requires.fits in
    (omega (arith, part.low), (le, (c.requires.within, part.fits)))

pub unions::add_member-add_wrapped-requires : goal.unions::add_member-add_wrapped-requires
unions::add_member-add_wrapped-requires g t c = λ κs le.
    let part = same_part c.args.acc.now (plainly c.args.member.now.ty) (value_of c.get-val.result.now) c.args.part.now c.get-val.ensures c.requires.fits in
    (omega (arith, part.low), (le, (c.requires.within, (subst IsWrapped (sym c.in-Keyed-Text.is-0) tt, part.fits))))

pub unions::add_member-add_wrapped-requires-in-Envelope-Text : goal.unions::add_member-add_wrapped-requires-in-Envelope-Text
unions::add_member-add_wrapped-requires-in-Envelope-Text g t c = λ κs le.
    let part = same_part c.args.acc.now (plainly c.args.member.now.ty) (value_of c.get-val.result.now) c.args.part.now c.get-val.ensures c.requires.fits in
    (omega (arith, part.low), (le, (c.requires.within, (subst IsWrapped (sym c.in-Envelope-Text.is-0) (subst KeysApart c.in-Envelope-Text.is-0 c.requires.apart), part.fits))))

pub unions::add_member-returns-in-Kinded-default : goal.unions::add_member-returns-in-Kinded-default
unions::add_member-returns-in-Kinded-default g t c = record {
  ok = kinded_layer g.H.KeyHash.hash_of c.args.acc.now c.add.result c.args.out.now c.add.new.out c.args.nodes.now c.add.new.nodes c.args.form.now c.args.member.now (value_of c.get-val.result.now) c.args.part.now c.in-Kinded-default.is-0 c.get-val.ensures c.add.ensures.ok;
  err = c.add.ensures.err;
}

pub unions::add_member-returns-in-Keyed-Text : goal.unions::add_member-returns-in-Keyed-Text
unions::add_member-returns-in-Keyed-Text g t c = record {
  ok = marked_layer g.H.KeyHash.hash_of c.args.acc.now c.add_wrapped.result c.args.out.now c.add_wrapped.new.out c.args.nodes.now c.add_wrapped.new.nodes c.args.form.now c.args.form.now c.args.member.now
      _ c.as_str.result.now (value_of c.get-val.result.now) c.args.part.now refl (λ k. subst IsWrapped (sym c.in-Keyed-Text.is-0 ∙ k) tt) (ap mark_text c.in-Keyed-Text.is-1) c.as_str.ensures.same c.get-val.ensures c.add_wrapped.ensures.ok;
  err = c.add_wrapped.ensures.err;
}

pub unions::add_member-returns-in-Envelope-Text : goal.unions::add_member-returns-in-Envelope-Text
unions::add_member-returns-in-Envelope-Text g t c = record {
  ok = marked_layer g.H.KeyHash.hash_of c.args.acc.now c.add_wrapped-in-Envelope-Text.result c.args.out.now c.add_wrapped-in-Envelope-Text.new.out c.args.nodes.now c.add_wrapped-in-Envelope-Text.new.nodes c.args.form.now c.args.form.now c.args.member.now
      _ c.as_str-in-Envelope-Text.result.now (value_of c.get-val.result.now) c.args.part.now refl (λ k. subst IsWrapped (sym c.in-Envelope-Text.is-0 ∙ k) (subst KeysApart c.in-Envelope-Text.is-0 c.requires.apart)) (ap mark_text c.in-Envelope-Text.is-1) c.as_str-in-Envelope-Text.ensures.same c.get-val.ensures c.add_wrapped-in-Envelope-Text.ensures.ok;
  err = c.add_wrapped-in-Envelope-Text.ensures.err;
}

pub unions::add_member-returns-in-Inline-Text : goal.unions::add_member-returns-in-Inline-Text
unions::add_member-returns-in-Inline-Text g t c = record {
  ok = marked_layer g.H.KeyHash.hash_of c.args.acc.now c.add_inline.result c.args.out.now c.add_inline.new.out c.args.nodes.now c.add_inline.new.nodes c.args.form.now (UF.Inline c.as_str-in-Inline-Text.result.now) c.args.member.now
      _ c.as_str-in-Inline-Text-2.result.now (value_of c.get-val.result.now) c.args.part.now (c.in-Inline-Text.is-0 ∙ ap UF.Inline (sym c.as_str-in-Inline-Text.ensures.same)) (λ k. absurd cc) (ap mark_text c.in-Inline-Text.is-1) c.as_str-in-Inline-Text-2.ensures.same c.get-val.ensures c.add_inline.ensures.ok;
  err = c.add_inline.ensures.err;
}

pub unions::add_member-returns-in-BytesPrefix-Text : goal.unions::add_member-returns-in-BytesPrefix-Text
unions::add_member-returns-in-BytesPrefix-Text g t c = record {
  ok = marked_layer g.H.KeyHash.hash_of c.args.acc.now c.add_prefixed.result c.args.out.now c.add_prefixed.new.out c.args.nodes.now c.add_prefixed.new.nodes c.args.form.now UF.BytesPrefix c.args.member.now
      _ c.as_str-in-BytesPrefix-Text.result.now (value_of c.get-val.result.now) c.args.part.now c.in-BytesPrefix-Text.is-0 (λ k. absurd cc) (ap mark_text c.in-BytesPrefix-Text.is-1) c.as_str-in-BytesPrefix-Text.ensures.same c.get-val.ensures c.add_prefixed.ensures.ok;
  err = unchanged c.add_prefixed.result c.args.out.now c.add_prefixed.new.out c.add_prefixed.ensures.err;
}

-- ---- members, with what stands around them

pub unions::add_wrapped-add-requires : goal.unions::add_wrapped-add-requires
unions::add_wrapped-add-requires g t c = λ κs le.
    let within : c.args.slot.ty.0 < length c.args.acc.now = first_of (assumption c.requires, search rules) in
    let fits : FitsIn c.args.acc.now c.args.slot (value_of c.args.val.now) = first_of (assumption c.requires, search rules) in
    (omega arith, (le, (within, fits)))

pub unions::add_wrapped-returns : goal.unions::add_wrapped-returns
unions::add_wrapped-returns g t c =
    let form : IsWrapped c.args.form.now = first_of (assumption c.requires, search rules) in
    record {
      ok = wrapped_layer g.H.KeyHash.hash_of c.args.acc.now c.args.slot (value_of c.args.val.now) c.end_member.result c.args.form.now form c.args.name.now c.args.out.now c.begin_member.new.out c.add.new.out c.end_member.new.out c.args.nodes.now c.add.new.nodes c.in_ok-begin_member.ensures.ok c.in_ok-add.ensures.ok c.end_member.ensures.ok;
      err = failed_on c.end_member.result c.args.out.now c.add.new.out c.end_member.new.out (grown_then c.args.out.now c.begin_member.new.out c.add.new.out _ c.in_ok-begin_member.ensures.ok c.in_ok-add.ensures.ok.grown) c.end_member.ensures.err;
    }

pub unions::add_wrapped-returns-in_err-begin_member : goal.unions::add_wrapped-returns-in_err-begin_member
unions::add_wrapped-returns-in_err-begin_member g t c = record { ok = no_ok c.from_residual.result _ c.from_residual.ensures.0; err = on_err_always c.from_residual.result _ c.in_err-begin_member.ensures.err }

pub unions::add_wrapped-returns-in_err-add : goal.unions::add_wrapped-returns-in_err-add
unions::add_wrapped-returns-in_err-add g t c = record { ok = no_ok c.from_residual-in_err-add.result _ c.from_residual-in_err-add.ensures.0; err = on_err_always c.from_residual-in_err-add.result _ (grown_then c.args.out.now c.begin_member.new.out c.add.new.out _ c.in_ok-begin_member.ensures.ok c.in_err-add.ensures.err) }

pub unions::add_inline-add_places-requires : goal.unions::add_inline-add_places-requires
unions::add_inline-add_places-requires g t c = λ κs le.
    let parts = fields_of_value c.args.acc.now c.args.slot c.form_of.result.now c.form_of.ensures.same c.form_of.ensures.within (value_of c.args.val.now) c.in-Struct-Struct.def c.in-Struct-Struct.vals c.in-Struct-Struct.is-0 (ap value_of c.in-Struct-Struct.is-1) c.requires.fits in
    (omega (arith, parts.low), (le, (parts.fields.low, parts.fields.each)))

pub unions::add_inline-add_places-requires-in-Struct-Struct : goal.unions::add_inline-add_places-requires-in-Struct-Struct
unions::add_inline-add_places-requires-in-Struct-Struct g t c = λ κs le.
    let parts = fields_of_value c.args.acc.now c.args.slot c.form_of.result.now c.form_of.ensures.same c.form_of.ensures.within (value_of c.args.val.now) c.in-Struct-Struct.def c.in-Struct-Struct.vals c.in-Struct-Struct.is-0 (ap value_of c.in-Struct-Struct.is-1) c.requires.fits in
    (omega (arith, parts.low), (le, (parts.fields.low, parts.fields.each)))

pub unions::add_inline-returns-in_ok-add_tag-in-Struct-Struct : goal.unions::add_inline-returns-in_ok-add_tag-in-Struct-Struct
unions::add_inline-returns-in_ok-add_tag-in-Struct-Struct g t c =
    let h = c.in-Struct-Struct in
    let sides = c.in_ok-sides-in-Struct-Struct in
    let last = c.add_places-in-Struct-Struct in
    record {
      ok = inline_layer g.H.KeyHash.hash_of c.args.acc.now c.args.slot h.def h.vals c.args.tag.key.now c.args.tag.name.now last.result (value_of c.args.val.now) c.form_of.result.now c.recall.ensures.legible c.form_of.ensures.same h.is-0 (ap value_of h.is-1) c.requires.map c.requires.apart
          sides.sides.before.now sides.sides.behind.now sides.ensures.sides c.args.out.now c.begin_inline.new.out c.add_places.new.out c.add_tag.new.out last.new.out c.args.nodes.now c.add_places.new.nodes last.new.nodes
          sides.ensures.ok c.in_ok-add_places-in-Struct-Struct.ensures.ok c.in_ok-add_tag-in-Struct-Struct.ensures.ok last.ensures.ok;
      err = failed_on last.result c.args.out.now c.add_tag.new.out last.new.out (grown_around c.args.out.now c.begin_inline.new.out c.add_places.new.out c.add_tag.new.out _ _ c.in_ok-sides-in-Struct-Struct.ensures.ok c.in_ok-add_places-in-Struct-Struct.ensures.ok.grown c.in_ok-add_tag-in-Struct-Struct.ensures.ok) last.ensures.err;
    }

pub unions::add_inline-returns-in_err-sides-in-Struct-Struct : goal.unions::add_inline-returns-in_err-sides-in-Struct-Struct
unions::add_inline-returns-in_err-sides-in-Struct-Struct g t c = record { ok = no_ok c.from_residual.result _ c.from_residual.ensures.0; err = on_err_always c.from_residual.result _ (grown_same c.args.out.now c.begin_inline.new.out c.in_err-sides-in-Struct-Struct.ensures.err) }

pub unions::add_inline-returns-in_err-add_places-in-Struct-Struct : goal.unions::add_inline-returns-in_err-add_places-in-Struct-Struct
unions::add_inline-returns-in_err-add_places-in-Struct-Struct g t c = record {
  ok = no_ok c.from_residual-in_err-add_places-in-Struct-Struct.result _ c.from_residual-in_err-add_places-in-Struct-Struct.ensures.0;
  err = on_err_always c.from_residual-in_err-add_places-in-Struct-Struct.result _ (grown_then c.args.out.now c.begin_inline.new.out c.add_places.new.out _ c.in_ok-sides-in-Struct-Struct.ensures.ok c.in_err-add_places-in-Struct-Struct.ensures.err);
}

pub unions::add_inline-returns-in_err-add_tag-in-Struct-Struct : goal.unions::add_inline-returns-in_err-add_tag-in-Struct-Struct
unions::add_inline-returns-in_err-add_tag-in-Struct-Struct g t c = record {
  ok = no_ok c.from_residual-in_err-add_tag-in-Struct-Struct.result _ c.from_residual-in_err-add_tag-in-Struct-Struct.ensures.0;
  err = on_err_always c.from_residual-in_err-add_tag-in-Struct-Struct.result _
      (grown_on c.args.out.now c.add_places.new.out c.add_tag.new.out (grown_then c.args.out.now c.begin_inline.new.out c.add_places.new.out _ c.in_ok-sides-in-Struct-Struct.ensures.ok c.in_ok-add_places-in-Struct-Struct.ensures.ok.grown) c.in_err-add_tag-in-Struct-Struct.ensures.err);
}

pub unions::add_inline-returns-in_default : goal.unions::add_inline-returns-in_default
unions::add_inline-returns-in_default g t c =
    let is = c.form_of.ensures.same ∙ ap Some c.in_default.is-0 in
    record { ok = nothing g.H.KeyHash.hash_of c.args.acc.now c.args.slot c.in_default.field-0-0 is c.requires.plain c.args.val.now c.in_default.not-Struct-1 (UF.Inline c.args.tag.key.now) c.args.tag.name.now c.args.out.now c.args.nodes.now; err = tt }

pub unions::add_prefixed-add-requires : goal.unions::add_prefixed-add-requires
unions::add_prefixed-add-requires g t c = λ κs le.
    let within : c.args.slot.ty.0 < length c.args.acc.now = first_of (assumption c.requires, search rules) in
    let fits : FitsIn c.args.acc.now c.args.slot (value_of c.args.val.now) = first_of (assumption c.requires, search rules) in
    (omega arith, (le, (within, fits)))

pub unions::add_prefixed-returns : goal.unions::add_prefixed-returns
unions::add_prefixed-returns g t c = record {
  ok = prefix_layer g.H.KeyHash.hash_of c.args.acc.now c.add_behind_prefix.result c.args.slot (value_of c.args.val.now) c.args.digits.now c.args.out.now c.add_behind_prefix.new.out _ c.add.new.out c.as_slice.result.now c.args.nodes.now c.add.new.nodes
      c.new-member.ensures (c.as_slice.ensures.same ∙ c.finish-spelled.ensures) c.in_ok-add.ensures.ok c.add_behind_prefix.ensures.ok;
  err = c.add_behind_prefix.ensures.err;
}

pub unions::add_prefixed-returns-in_err-add : goal.unions::add_prefixed-returns-in_err-add
unions::add_prefixed-returns-in_err-add g t c = record { ok = no_ok c.from_residual.result _ c.from_residual.ensures.0; err = on_err_always c.from_residual.result _ refl }
