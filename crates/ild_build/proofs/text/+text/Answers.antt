use Rattle.std.proofs.Common.{rules, ◌<◌, ◌+◌, ◌++◌, ◌∙◌, length, Some, drop, true, false, refl, sym, ap, arith, string_bytes, append_assoc, subst}
use Rattle.std.specs.Prelude.{option_and_then}
use Rattle.ild_schema.specs.Joins.{pair_text}
use Rattle.ild_schema.specs.Table.{IsWithin}
use Rattle.ild_schema.specs.Value.{height, optionals_list, pairs_list}
use Rattle.ild_schema.specs.ValueSeen.{value_of}
use Rattle.ild_typed.specs.Strings.{cons_both}
use Rattle.ild_typed.specs.Texts.{join, join_pairs}
use Rattle.ild_path_text.specs.Left.{between}
use Rattle.ild_build.specs.inside.TextParts.{field_texts, field_pairs, entry_texts, pair_added}
use Rattle.ild_build.specs.TextRep.{text_rep}
use Rattle.ild_build.proofs.PartTests.{pair_height, field_height}
use Rattle.ild_build.proofs.Low.{field_low, member_low}
use Rattle.ild_build.proofs.Texting.{joining_goes, joining_breaks, pairing_goes, pairing_breaks, pairing_stops, pairing_skips, texts_apart, pairs_apart}
use Rattle.ild_build.proofs.Turns.{answered, fitting, join_given, fields_given, map_given, got, value_got, turn_text, turn_no_text, turn_pair, turn_no_pair, turn_entry, no_answer, an_answer, range_ok, pair_answer, pair_out, pair_behind, piece_is}
use Rattle.ild_build.proofs.TextForms.{joined_rep, fields_rep, entries_rep, union_rep, no_pairs_text, no_kind_text, other_map_text, plain_kind, map_val}
use Rattle.ild_build.proofs.text.+text.Goals as goal
use Rattle.ild_build.proofs.text.+text.Goals.{add_fields-in-Some+else-is_left_out+in_ok-add_pair-in-Some+else-not-branch, add_fields-in-None+else-not-field}

pub add_entries-add_pair-requires : goal.add_entries-add_pair-requires
add_entries-add_pair-requires t c =
    let low = pair_height c.args.pairs.now c.loop-i.i (c.in-Some.pair.now.0, value_of c.in-Some.pair.now.1) (sym c.in-Some.ensures) in
    (omega arith, c.requires)

pub add_entries-returns-then-not-branch : goal.add_entries-returns-then-not-branch
add_entries-returns-then-not-branch t c =
    let v = value_of c.in-Some.pair.now.1 in
    let turn = turn_entry c.args.acc.now c.args.value (pairs_list c.args.pairs.now) c.loop-i.i c.as_str.result.now v (sym c.in-Some.ensures ∙ ap (λ k. Some (k, v)) (sym c.as_str.ensures.same)) in
    pairing_breaks _ _ _ _ _ _ _ _ _ _ turn (no_answer _ _ _ _ c.in_ok-add_pair.ensures c.if-not-branch.true) c.loop-i.invariant

pub add_entries-loop-i-preserved : goal.add_entries-loop-i-preserved
add_entries-loop-i-preserved t c =
    let v = value_of c.in-Some.pair.now.1 in
    let turn = turn_entry c.args.acc.now c.args.value (pairs_list c.args.pairs.now) c.loop-i.i c.as_str.result.now v (sym c.in-Some.ensures ∙ ap (λ k. Some (k, v)) (sym c.as_str.ensures.same)) in
    let a = an_answer _ _ _ _ c.in_ok-add_pair.ensures c.if-not-branch.false in
    pairing_goes _ _ _ _ _ _ _ _ _ _ _ _ turn a.is a.out c.loop-i.invariant

pub add_entries-range_from-requires : goal.add_entries-range_from-requires
add_entries-range_from-requires t c =
    λ _. range_ok c.as_str-2.result.now _ c.as_str-utf8.result.now _ _ c.len-start.result c.as_str-2.ensures.value c.as_str-2.utf8 c.as_str-utf8.ensures.value c.as_str-utf8.utf8 c.loop-i.invariant.out (search rules)

pub add_fields-returns-then-len : goal.add_fields-returns-then-len
add_fields-returns-then-len t c =
    ap (option_and_then (join_pairs c.args.delims.inner.now c.args.delims.entry.now))
    (pairs_apart c.args.acc.now c.args.def.now.fields (optionals_list c.args.vals.now) (λ e. c.if-len.true (c.len.ensures ∙ e ∙ sym c.len-2.ensures)))

pub add_fields-add_pair-requires : goal.add_fields-add_pair-requires
add_fields-add_pair-requires t c =
    let at = got c.as_slice-field-items.result.now c.args.def.now.fields c.loop-i.i c.field-item.result c.as_slice-field-items.ensures (omega arith) c.field-item.is in
    let low = field_height c.args.vals.now c.loop-i.i (value_of c.in-Some.val.now) (value_got (optionals_list c.args.vals.now) c.loop-i.i (value_of c.in-Some.val.now) (sym c.in-Some.ensures)) in
    (omega arith, field_low (length c.args.acc.now) c.args.def.now c.loop-i.i c.field-item.result at c.requires.within)

pub add_fields-returns-then-not-branch : goal.add_fields-returns-then-not-branch
add_fields-returns-then-not-branch t c =
    let os = optionals_list c.args.vals.now in
    let v = value_of c.in-Some.val.now in
    let at = got c.as_slice-field-items.result.now c.args.def.now.fields c.loop-i.i c.field-item.result c.as_slice-field-items.ensures (omega arith) c.field-item.is in
    let turn = turn_pair c.args.acc.now c.args.def.now.fields os c.loop-i.i c.field-item.result v false at (sym c.in-Some.ensures) (sym c.is_left_out.ensures ∙ c.if-is_left_out.false) in
    pairing_breaks _ _ _ _ _ _ _ _ _ _ turn
    (ap (λ k. option_and_then (pair_added (between c.args.delims.entry.now c.loop-i.count) c.args.delims.inner.now k) (text_rep c.args.acc.now c.field-item.result.slot v)) (sym c.text_of_field.ensures)
    ∙ no_answer _ _ _ _ c.in_ok-add_pair-in-Some.ensures c.if-not-branch.true) c.loop-i.invariant.pairs

pub add_fields-returns-then-not-field : goal.add_fields-returns-then-not-field
add_fields-returns-then-not-field t c =
    let os = optionals_list c.args.vals.now in
    let at = got c.as_slice-field-items.result.now c.args.def.now.fields c.loop-i.i c.field-item.result c.as_slice-field-items.ensures (omega arith) c.field-item.is in
    let few : c.loop-i.i < length os = omega (arith, ap length c.as_slice-field-items.ensures) in
    pairing_stops _ _ _ _ _ _ _ (turn_no_pair c.args.acc.now c.args.def.now.fields os c.loop-i.i c.field-item.result false at few (sym c.in-None.ensures) c.if-not-field.true) c.loop-i.invariant.pairs

pub add_fields-loop-i-preserved : goal.add_fields-loop-i-preserved
add_fields-loop-i-preserved t c =
    let os = optionals_list c.args.vals.now in
    let at = got c.as_slice-field-items.result.now c.args.def.now.fields c.loop-i.i c.field-item.result c.as_slice-field-items.ensures (omega arith) c.field-item.is in
    let few : c.loop-i.i < length os = omega (arith, ap length c.as_slice-field-items.ensures) in
    elim c.match-field_at.branch [
      | add_fields-in-Some+else-is_left_out+in_ok-add_pair-in-Some+else-not-branch w ↦
          let v = value_of w.in-Some.val.now in
          let turn = turn_pair c.args.acc.now c.args.def.now.fields os c.loop-i.i c.field-item.result v false at (sym w.in-Some.ensures) (sym w.is_left_out.ensures ∙ w.if-is_left_out.false) in
          let a = an_answer _ _ _ _ w.in_ok-add_pair-in-Some.ensures w.if-not-branch.false in
          let made = ap (λ k. option_and_then (pair_added (between c.args.delims.entry.now c.loop-i.count) c.args.delims.inner.now k) (text_rep c.args.acc.now c.field-item.result.slot v)) (sym w.text_of_field.ensures) ∙ a.is in
          let goes = pairing_goes _ _ _ _ _ _ _ _ _ _ _ _ turn made a.out c.loop-i.invariant.pairs in
          rw (w.out-is, w.count-is) (record { pairs = goes; few = omega arith })
      | add_fields-in-None+else-not-field w ↦
          let skips = pairing_skips _ _ _ _ _ _ _ _ (turn_no_pair c.args.acc.now c.args.def.now.fields os c.loop-i.i c.field-item.result true at few (sym w.in-None.ensures) w.if-not-field.false) c.loop-i.invariant.pairs in
          rw (w.out-is, w.count-is) (record { pairs = skips; few = omega arith })
    ]

pub add_fields-range_from-requires : goal.add_fields-range_from-requires
add_fields-range_from-requires t c =
    λ _. range_ok c.as_str.result.now _ c.as_str-utf8.result.now _ _ c.len-start.result c.as_str.ensures.value c.as_str.utf8 c.as_str-utf8.ensures.value c.as_str-utf8.utf8 c.loop-i.invariant.pairs.out (search rules)

pub add_joined-returns-then-len : goal.add_joined-returns-then-len
add_joined-returns-then-len t c =
    ap (option_and_then (join c.args.delim.now)) (texts_apart c.args.acc.now c.args.def.now.fields (optionals_list c.args.vals.now) (λ e. c.if-len.true (c.len.ensures ∙ e ∙ sym c.len-2.ensures)))

pub add_joined-add_text-requires : goal.add_joined-add_text-requires
add_joined-add_text-requires t c =
    let at = got c.as_slice-field-items.result.now c.args.def.now.fields c.loop-i.i c.field-item.result c.as_slice-field-items.ensures (omega arith) c.field-item.is in
    let low = field_height c.args.vals.now c.loop-i.i (value_of c.in-Some.val.now) (value_got (optionals_list c.args.vals.now) c.loop-i.i (value_of c.in-Some.val.now) (sym c.in-Some.ensures)) in
    (omega arith, field_low (length c.args.acc.now) c.args.def.now c.loop-i.i c.field-item.result at c.requires.1.1.0)

pub add_joined-returns-in_default : goal.add_joined-returns-in_default
add_joined-returns-in_default t c =
    let os = optionals_list c.args.vals.now in
    let at = got c.as_slice-field-items.result.now c.args.def.now.fields c.loop-i.i c.field-item.result c.as_slice-field-items.ensures (omega arith) c.field-item.is in
    let few : c.loop-i.i < length os = omega (arith, ap length c.as_slice-field-items.ensures) in
    joining_breaks _ _ _ _ _ _ (turn_no_text c.args.acc.now c.args.def.now.fields os c.loop-i.i c.field-item.result at few (sym c.in_default.ensures)) c.loop-i.invariant

pub add_joined-returns-then-not-branch : goal.add_joined-returns-then-not-branch
add_joined-returns-then-not-branch t c =
    let os = optionals_list c.args.vals.now in
    let fs = c.args.def.now.fields in
    let at = got c.as_slice-field-items.result.now fs c.loop-i.i c.field-item.result c.as_slice-field-items.ensures (omega arith) c.field-item.is in
    joining_breaks _ _ _ _ _ _
    (turn_text c.args.acc.now fs os c.loop-i.i c.field-item.result (value_of c.in-Some.val.now) at (sym c.in-Some.ensures)
    ∙ ap (λ o. cons_both o (field_texts c.args.acc.now (drop (c.loop-i.i + 1) fs) (drop (c.loop-i.i + 1) os))) (no_answer _ _ _ _ c.in_ok-add_text.ensures c.if-not-branch.true)) c.loop-i.invariant

pub add_joined-loop-i-preserved : goal.add_joined-loop-i-preserved
add_joined-loop-i-preserved t c =
    let os = optionals_list c.args.vals.now in
    let fs = c.args.def.now.fields in
    let at = got c.as_slice-field-items.result.now fs c.loop-i.i c.field-item.result c.as_slice-field-items.ensures (omega arith) c.field-item.is in
    let a = an_answer _ _ _ _ c.in_ok-add_text.ensures c.if-not-branch.false in
    joining_goes _ _ _ _ _ _ _ a.text _
    (turn_text c.args.acc.now fs os c.loop-i.i c.field-item.result (value_of c.in-Some.val.now) at (sym c.in-Some.ensures)
    ∙ ap (λ o. cons_both o (field_texts c.args.acc.now (drop (c.loop-i.i + 1) fs) (drop (c.loop-i.i + 1) os))) a.is)
    (a.out ∙ ap (λ x. x ++ a.text) c.in_ok-add_between.ensures ∙ append_assoc (string_bytes c.loop-i.out) (between c.args.delim.now c.loop-i.i) a.text) c.loop-i.invariant

pub add_joined-range_from-requires : goal.add_joined-range_from-requires
add_joined-range_from-requires t c =
    λ _. range_ok c.as_str.result.now _ c.as_str-utf8.result.now _ _ c.len-start.result c.as_str.ensures.value c.as_str.utf8 c.as_str-utf8.ensures.value c.as_str-utf8.utf8 c.loop-i.invariant.out (search rules)

pub add_member-add_text-requires : goal.add_member-add_text-requires
add_member-add_text-requires t c =
    let same = ap height c.get-in-StringPrefix-Text.ensures in
    (omega arith, member_low (length c.args.acc.now) c.args.def.now c.args.number c.in-Some.member.now (sym c.in-Some.ensures) c.requires)

pub add_pair-range_from-requires : goal.add_pair-range_from-requires
add_pair-range_from-requires t c =
    let a = an_answer _ _ _ _ c.in_ok-add_text.ensures c.if-not-branch.false in
    λ _. range_ok c.as_str.result.now _ c.as_str-utf8.result.now _ _ c.len-start.result c.as_str.ensures.value c.as_str.utf8 c.as_str-utf8.ensures.value c.as_str-utf8.utf8
    (pair_behind (string_bytes c.add_between.new.out) (string_bytes c.push.new.out) (string_bytes c.push-2.new.out) (string_bytes c.add_text.new.out) c.args.delims.inner.now c.args.key.now a.text c.in_ok-push.ensures c.in_ok-push-2.ensures a.out) (search rules)

pub add_pair-returns : goal.add_pair-returns
add_pair-returns t c =
    let a = an_answer _ _ _ _ c.in_ok-add_text.ensures c.if-not-branch.false in
    let start = string_bytes c.add_between.new.out in
    let keyed = string_bytes c.push.new.out in
    let parted = string_bytes c.push-2.new.out in
    let new = string_bytes c.add_text.new.out in
    let inner = c.args.delims.inner.now in
    let key = c.args.key.now in
    let behind = pair_behind start keyed parted new inner key a.text c.in_ok-push.ensures c.in_ok-push-2.ensures a.out in
    let piece = piece_is c.as_str.result.now new c.as_str-utf8.result.now start (pair_text inner (key, a.text)) c.range_from.result.now c.len-start.result c.range_from.ensures.value c.as_str.ensures.value c.as_str-utf8.ensures.value behind (search rules) in
    pair_answer (between c.args.delims.entry.now c.args.count) inner key (string_bytes c.args.out.now) new (text_rep c.args.acc.now c.args.slot (value_of c.args.val.now)) a.text c.is_parted.result a.is
    (c.is_parted.ensures (key, a.text) (sym piece) refl)
    (pair_out (string_bytes c.args.out.now) start keyed parted new (between c.args.delims.entry.now c.args.count) inner key a.text c.in_ok-add_between.ensures c.in_ok-push.ensures c.in_ok-push-2.ensures a.out)

pub add_fields-loop-i-preserved-then-is_left_out : goal.add_fields-loop-i-preserved-then-is_left_out
add_fields-loop-i-preserved-then-is_left_out t c =
    let os = optionals_list c.args.vals.now in
    let at = got c.as_slice-field-items.result.now c.args.def.now.fields c.loop-i.i c.field-item.result c.as_slice-field-items.ensures (omega arith) c.field-item.is in
    let turn = turn_pair c.args.acc.now c.args.def.now.fields os c.loop-i.i c.field-item.result (value_of c.in-Some.val.now) true at (sym c.in-Some.ensures) (sym c.is_left_out.ensures ∙ c.if-is_left_out.true) in
    record { pairs = pairing_skips _ _ _ _ _ _ _ _ turn c.loop-i.invariant.pairs; few = omega arith }

pub add_member-add_text-requires-in-Kinded-Kind-Text : goal.add_member-add_text-requires-in-Kinded-Kind-Text
add_member-add_text-requires-in-Kinded-Kind-Text t c =
    let same = ap height c.get-in-Kinded-Kind-Text.ensures in
    (omega arith, member_low (length c.args.acc.now) c.args.def.now c.args.number c.in-Some.member.now (sym c.in-Some.ensures) c.requires)

pub add_text-add_joined-requires : goal.add_text-add_joined-requires
add_text-add_joined-requires t c =
    let rows = c.args.acc.now in
    let h = c.in-Struct-Struct in
    let lower = ap (λ v. height (value_of v)) h.is-1 in
    let some = join_given rows c.recall.ensures.legible c.args.slot h.def c.in-StringJoin.delim (c.form_of.ensures.same ∙ ap Some h.is-0) c.in-StringJoin.is in
    (omega arith, (subst (IsWithin (length rows)) h.is-0 c.form_of.ensures.within, subst (λ d. 0 < length d) (sym c.as_str-in-StringJoin.ensures.same) some))

pub add_text-invariant_of-delims : goal.add_text-invariant_of-delims
add_text-invariant_of-delims t c =
    let h = c.in-Struct-Struct in
    let some = fields_given c.args.acc.now c.recall.ensures.legible c.args.slot h.def c.in-StringPairs.inner c.in-StringPairs.entry (c.form_of.ensures.same ∙ ap Some h.is-0) c.in-StringPairs.is in
    record {
      inner_some = subst (λ d. 0 < length d) (sym c.as_str-in-StringPairs.ensures.same) some.0;
      entry_some = subst (λ d. 0 < length d) (sym c.as_str-in-StringPairs-2.ensures.same) some.1;
    }

pub add_text-add_fields-requires : goal.add_text-add_fields-requires
add_text-add_fields-requires t c =
    let rows = c.args.acc.now in
    let h = c.in-Struct-Struct in
    let lower = ap (λ v. height (value_of v)) h.is-1 in
    (omega arith, (subst (IsWithin (length rows)) h.is-0 c.form_of.ensures.within, fitting rows c.recall.ensures.legible c.args.slot h.def (c.form_of.ensures.same ∙ ap Some h.is-0)))

pub add_text-invariant_of-delims-in-StringPairs-form : goal.add_text-invariant_of-delims-in-StringPairs-form
add_text-invariant_of-delims-in-StringPairs-form t c =
    let h = c.in-Map-Map in
    let k = c.in-StringPairs-form in
    let some = map_given c.args.acc.now c.recall.ensures.legible c.args.slot h.key-0 h.key_at-0 h.value h.at-0 h.form k.inner k.entry (c.form_of.ensures.same ∙ ap Some h.is-0) k.is in
    record {
      inner_some = subst (λ d. 0 < length d) (sym c.as_str-in-StringPairs-form.ensures.same) some.0;
      entry_some = subst (λ d. 0 < length d) (sym c.as_str-in-StringPairs-form-2.ensures.same) some.1;
    }

pub add_text-returns-in-StringJoin : goal.add_text-returns-in-StringJoin
add_text-returns-in-StringJoin t c =
    let rows = c.args.acc.now in
    let h = c.in-Struct-Struct in
    answered _ _ _ _ _
    (ap (λ v. text_rep rows c.args.slot (value_of v)) h.is-1 ∙ joined_rep rows c.args.slot h.fields h.def c.in-StringJoin.delim (c.form_of.ensures.same ∙ ap Some h.is-0) c.in-StringJoin.is
    ∙ ap (λ d. option_and_then (join d) (field_texts rows h.def.fields (optionals_list h.fields))) (sym c.as_str-in-StringJoin.ensures.same)) c.add_joined.ensures

pub add_text-returns-in-StringPairs : goal.add_text-returns-in-StringPairs
add_text-returns-in-StringPairs t c =
    let rows = c.args.acc.now in
    let h = c.in-Struct-Struct in
    let k = c.in-StringPairs in
    let is = c.form_of.ensures.same ∙ ap Some h.is-0 in
    answered _ _ _ _ _
    (ap (λ v. text_rep rows c.args.slot (value_of v)) h.is-1 ∙ fields_rep rows c.args.slot h.fields h.def k.inner k.entry (fitting rows c.recall.ensures.legible c.args.slot h.def is) is k.is
    ∙ ap (λ d. option_and_then (join_pairs d k.entry) (field_pairs rows h.def.fields (optionals_list h.fields))) (sym c.as_str-in-StringPairs.ensures.same)
    ∙ ap (λ d. option_and_then (join_pairs c.as_str-in-StringPairs.result.now d) (field_pairs rows h.def.fields (optionals_list h.fields))) (sym c.as_str-in-StringPairs-2.ensures.same)) c.add_fields.ensures

pub add_text-returns-in-StringPairs-form : goal.add_text-returns-in-StringPairs-form
add_text-returns-in-StringPairs-form t c =
    let rows = c.args.acc.now in
    let h = c.in-Map-Map in
    let k = c.in-StringPairs-form in
    answered _ _ _ _ _
    (ap (λ v. text_rep rows c.args.slot (value_of v)) h.is-1
    ∙ entries_rep rows c.args.slot h.pairs h.key-0 h.key_at-0 h.value h.at-0 h.form k.inner k.entry (c.form_of.ensures.same ∙ ap Some h.is-0) k.is
    ∙ ap (λ d. option_and_then (join_pairs d k.entry) (entry_texts rows h.value (pairs_list h.pairs))) (sym c.as_str-in-StringPairs-form.ensures.same)
    ∙ ap (λ d. option_and_then (join_pairs c.as_str-in-StringPairs-form.result.now d) (entry_texts rows h.value (pairs_list h.pairs))) (sym c.as_str-in-StringPairs-form-2.ensures.same)) c.add_entries.ensures

pub add_text-returns-in_default-form : goal.add_text-returns-in_default-form
add_text-returns-in_default-form t c =
    let h = c.in-Map-Map in
    ap (λ v. text_rep c.args.acc.now c.args.slot (value_of v)) h.is-1
    ∙ no_pairs_text c.args.acc.now c.args.slot h.pairs h.key-0 h.key_at-0 h.value h.at-0 h.form (c.form_of.ensures.same ∙ ap Some h.is-0) (λ i e. c.in_default-form.not-StringPairs i e)

pub add_text-returns-in-Union-Union : goal.add_text-returns-in-Union-Union
add_text-returns-in-Union-Union t c =
    let h = c.in-Union-Union in
    answered _ _ _ _ _
    (ap (λ v. text_rep c.args.acc.now c.args.slot (value_of v)) h.is-1 ∙ union_rep c.args.acc.now c.args.slot h.number h.part h.def (c.form_of.ensures.same ∙ ap Some h.is-0)) c.add_member.ensures

pub add_text-returns-in_default-6 : goal.add_text-returns-in_default-6
add_text-returns-in_default-6 t c =
    let h = c.in_default in
    other_map_text c.args.acc.now c.args.slot (value_of c.args.val.now) h.field-0-0 h.field-1-0 h.field-2-0 h.field-3-0 h.field-4-0 (c.form_of.ensures.same ∙ ap Some h.is-0)
    (λ ps e. h.not-Map-1 ps (map_val c.args.val.now ps e))

pub add_text-returns-in_default-8 : goal.add_text-returns-in_default-8
add_text-returns-in_default-8 t c =
    let h = c.in_default in
    no_kind_text c.args.acc.now c.args.slot (value_of c.args.val.now) c.form_of.result.now c.form_of.ensures.same
    (plain_kind c.form_of.result.now h.not-Text-0 h.not-Any-0 h.not-Map-0 h.not-Struct-0 h.not-Union-0 h.not-Enum-0)
