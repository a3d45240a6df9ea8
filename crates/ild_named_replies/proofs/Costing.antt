-- Two tables that are alike: the same blocks are met on the way of a path, and a line costs as many gets.
use Rattle.std.proofs.Common.{◌≡◌, ℕ, ◌+◌, ◌<◌, codes, Bool, List, [], ◌∷◌, length, Option, Some, None, Result, Ok, Err, refl, ap, ap₂, ◌∙◌, subst, arith}
use Rattle.std.specs.Prelude.{option_map, option_and_then}
use Rattle.std.specs.Option.{option_map_or}
use Rattle.std.proofs.lemmas.Option.{none-some, same_Some}
use Rattle.ild_data.proofs.Options.{map_some}
use Rattle.ild_data.specs.Data.{Data}
use Rattle.ild_data.specs.Spell.{cid_of, id_of}
use Rattle.ild_schema.specs.declared.number.Slot.{Slot}
use Rattle.ild_schema.specs.declared.number.TypeNo.{TypeNo}
use Rattle.ild_schema.specs.declared.def.TypeDef.{TypeDef}
use Rattle.ild_schema.specs.declared.def.TypeDef.TheVariants as T
use Rattle.ild_schema.specs.declared.def.MapForm.TheVariants as M
use Rattle.ild_schema.specs.declared.row.Row.{Row}
use Rattle.ild_schema.specs.Slots.{form_of, plainly}
use Rattle.ild_schema.specs.Table.{IsTable}
use Rattle.ild_schema.specs.Value as V
use Rattle.ild_schema.specs.Value.{Value, Pairs, Optionals}
use Rattle.ild_script.specs.Line.{Reading, blank, command, outside, reads, shape_of}
use Rattle.ild_script.specs.declared.reply.No.{No}
use Rattle.ild_script.specs.declared.word.Word.{Word}
use Rattle.ild_script.specs.declared.word.Word.TheVariants as W
use Rattle.ild_typed.specs.At.{InSlot, at, last_holder, met, seen}
use Rattle.ild_typed.specs.Hamt.{whole}
use Rattle.ild_typed.specs.Holder.{Holder, struct_holder}
use Rattle.ild_typed.specs.Segment.{part}
use Rattle.ild_value_meaning.specs.MeantRead.{meant}
use Rattle.ild_path_edits.specs.Edit.{Edit, del_at, ins_at, line_change, new_slot, path_of, set_at}
use Rattle.ild_path_edits.specs.Judged.{Tests}
use Rattle.ild_path_edits.specs.Table.{slot_to_insert, slot_to_set}
use Rattle.ild_script_session.specs.Session.{State}
use Rattle.ild_script_meaning.specs.Ask.{Tell, asked, asked_by, count, list_of_parts, presence, representation, shown_form}
use Rattle.ild_script_meaning.specs.Costs.{blocks_met, brought, changed_met, meant_in, met_in, met_in_map, nodes_in, on_way, tell_gets, told_nodes}
use Rattle.ild_script_meaning.specs.Lines.{abort_due, all_met, begin_due, commit_due, due, edit_gets, read_json, root_due}
use Rattle.ild_named.specs.Named.{schema_block}
use Rattle.ild_named_lines.specs.Beneath.{reading_beneath, steps_beneath}
use Rattle.ild_named_lines.proofs.Readings.{lines_read_beneath}
use Rattle.ild_named_type.specs.Root.{named_rows, root_type}
use Rattle.ild_named_type.proofs.Last.{meant_last}
use Rattle.ild_named_law.specs.Law.{rooted}
use Rattle.ild_named_law.specs.Paths.{root_in}
use Rattle.ild_named_law.proofs.Alike.{AreAlike, IsLowIn}
use Rattle.ild_named_law.proofs.Entered.{holders_alike, paths_lead}
use Rattle.ild_named_law.proofs.Known.{alike_longer}
use Rattle.ild_named_law.proofs.Pathing.{IsLowSlot, at_low, forms_low, holder_same, part_low}
use Rattle.ild_named_law.proofs.Standing.{form_same, nodes_same, or_same, pairs_same}
use Rattle.ild_named_replies.specs.Costs.{LinesGetAlike}
use Rattle.ild_named_replies.specs.Edits.{AreTestsOfBoth, edit_beneath, rooted_or}
use Rattle.ild_named_replies.specs.Lines.{rooted_state}
use Rattle.ild_named_replies.specs.Replies.{on_struct, under_name}
use Rattle.ild_named_replies.proofs.Editing.{insert_low, last_low, line_changes, set_low, slot_low}
use Rattle.ild_named_replies.proofs.Meaning.{meant_alike}

zero_first : (k : ℕ) → 1 + (0 + k) ≡ 1 + k
zero_first k = omega arith

-- ---- the way of a path

module _ (h : List ℕ → List ℕ) (bound : ℕ) (others rows : List Row) (alike : AreAlike bound others rows) where
  map_met : (o : Option TypeDef) (ps : Pairs) (k : List ℕ) → IsLowIn bound o → met_in_map h others o ps k ≡ met_in_map h rows o ps k
  map_met (Some (T.Map key key_at value place (M.Hamt p))) ps k low = ap (λ x. option_map_or (on_way h p k) x 0) (pairs_same bound others rows alike (whole h) value ps low.1.0)
  map_met o ps k low = refl

  holder_met : (s : Slot) (v : Value) (k : List ℕ) → s.ty.0 < bound → met_in h others (form_of others s) v k ≡ met_in h rows (form_of rows s) v k
  holder_met s (V.map ps) k low = ap (λ o. met_in_map h others o ps k) (form_same bound others rows alike s low) ∙ map_met (form_of rows s) ps k (forms_low bound others rows alike s low)
  holder_met s v k low = refl

  abbrev of_others : InSlot → List ℕ → ℕ
  of_others q k = met_in h others (form_of others q.0) q.1 k

  abbrev of_rows : InSlot → List ℕ → ℕ
  of_rows q k = met_in h rows (form_of rows q.0) q.1 k

  path_met : (p : InSlot) (path : List (List ℕ)) → IsLowSlot bound p → met others of_others p path ≡ met rows of_rows p path
  path_met p [] low = refl
  path_met p (s ∷ ss) low =
      ap₂ (λ a b. a + b) (holder_met p.0 p.1 s low)
      (ap (λ x. option_map_or (λ q. met others of_others q ss) (part x s) 0) (holder_same bound others rows alike p.0 p.1 low)
      ∙ or_same (part (seen rows p) s) (λ q. met others of_others q ss) (λ q. met rows of_rows q ss) 0 (λ q e. path_met q ss (part_low bound others rows alike p.0 p.1 s q low e)))

  nodes_met : (o : Option InSlot) → ((q : InSlot) → o ≡ Some q → IsLowSlot bound q) → nodes_in h others o ≡ nodes_in h rows o
  nodes_met None low = refl
  nodes_met (Some q) low = ap length (nodes_same bound others rows alike h q.0 q.1 (low q refl))

  told_met : (tell : Tell) (o : Option InSlot) → ((q : InSlot) → o ≡ Some q → IsLowSlot bound q) → told_nodes h others tell o ≡ told_nodes h rows tell o
  told_met presence o low = refl
  told_met representation o low = refl
  told_met shown_form o low = nodes_met o low
  told_met count o low = nodes_met o low
  told_met list_of_parts o low = nodes_met o low

-- the slot of what was meant
meant_low : (bound : ℕ) (rows : List Row) (is_key : ℕ → List ℕ → Bool) (read : List ℕ → Option Data) (o : Option Slot) (json : List ℕ) (q : InSlot)
    → ((u : Slot) → o ≡ Some u → u.ty.0 < bound) → meant_in rows is_key read o json ≡ Some q → IsLowSlot bound q
meant_low bound rows is_key read None json q low e = absurd (none-some q e)
meant_low bound rows is_key read (Some u) json q low e =
    let m = map_some (λ w. (u, w)) (option_and_then (meant rows is_key u) (read json)) q e in subst (IsLowSlot bound) m.2 (low u refl)

module _ (h : List ℕ → List ℕ) (rows : List Row) (n : TypeNo) (table : IsTable rows) (low : n.0 < length rows) (tests others : Tests) (both : AreTestsOfBoth rows n tests others) (name source : List ℕ) where
  abbrev longer : List Row
  longer = named_rows rows n

  alike : AreAlike (length rows) longer rows
  alike = alike_longer rows table n

  abbrev fields : Value → Optionals
  fields v = V.present (V.text name) (V.present v (V.present (V.link (cid_of (id_of (schema_block source)))) V.no_optionals))

  root_met : (v : Value) (path : List (List ℕ)) → blocks_met h longer (root_in rows name source v) (codes "value" ∷ path) ≡ blocks_met h rows (plainly n, v) path
  root_met v path =
      ap (λ k. 1 + (0 + k))
      (ap (λ o. option_map_or (λ q. met longer (λ q k. met_in h longer (form_of longer q.0) q.1 k) q path) (part (struct_holder o (fields v)) (codes "value")) 0) (meant_last rows n)
      ∙ path_met h (length rows) longer rows alike (plainly n, v) path low)
      ∙ zero_first (met rows (λ q k. met_in h rows (form_of rows q.0) q.1 k) (plainly n, v) path)

  told_gets : (tell : Tell) (path : List (List ℕ)) (v : Value) → tell_gets h longer tell (root_in rows name source v) (codes "value" ∷ path) ≡ tell_gets h rows tell (plainly n, v) path
  told_gets tell path v =
      ap₂ (λ a b. a + b) (root_met v path)
      (ap (λ o. told_nodes h longer tell o) (paths_lead rows n table low name source v path)
      ∙ told_met h (length rows) longer rows alike tell (at rows (plainly n, v) path) (λ q e. at_low (length rows) longer rows alike (plainly n, v) path q low e))

  -- ---- edits

  own_low : (u : Slot) → Some (plainly n) ≡ Some u → u.ty.0 < length rows
  own_low u e = subst (λ (u : Slot). u.ty.0 < length rows) (same_Some (plainly n) u e) low

  new_low : (v : Value) (e : Edit (List ℕ)) (u : Slot) → new_slot rows (plainly n, v) e ≡ Some u → u.ty.0 < length rows
  new_low v (set_at [] x) u e = own_low u e
  new_low v (set_at (s ∷ ss) x) u e =
      slot_low (length rows) slot_to_set (set_low (length rows)) (last_holder rows (plainly n, v) s ss) (λ l e. last_low (length rows) longer rows alike (plainly n, v) s ss l low e) u e
  new_low v (ins_at [] x) u e = absurd (none-some u e)
  new_low v (ins_at (s ∷ ss) x) u e =
      slot_low (length rows) slot_to_insert (insert_low (length rows)) (last_holder rows (plainly n, v) s ss) (λ l e. last_low (length rows) longer rows alike (plainly n, v) s ss l low e) u e
  new_low v (del_at path) u e = absurd (none-some u e)

  new_same : (v : Value) (e : Edit (List ℕ)) → new_slot longer (root_in rows name source v) (edit_beneath e) ≡ new_slot rows (plainly n, v) e
  new_same v (set_at [] x) = ap (λ o. slot_to_set (struct_holder o (fields v)) (codes "value")) (meant_last rows n)
  new_same v (set_at (s ∷ ss) x) = ap (λ o. option_and_then (λ (l : Holder × List ℕ). slot_to_set l.0 l.1) o) (holders_alike rows n table low name source v s ss)
  new_same v (ins_at [] x) = ap (λ o. slot_to_insert (struct_holder o (fields v)) (codes "value")) (meant_last rows n)
  new_same v (ins_at (s ∷ ss) x) = ap (λ o. option_and_then (λ (l : Holder × List ℕ). slot_to_insert l.0 l.1) o) (holders_alike rows n table low name source v s ss)
  new_same v (del_at path) = refl

  read_in : (u : Slot) (o : Option Data) → u.ty.0 < length rows → option_and_then (meant longer others.is_key u) o ≡ option_and_then (meant rows tests.is_key u) o
  read_in u None less = refl
  read_in u (Some d) less = meant_alike rows n table tests others both u d less

  meant_here : (o : Option Slot) (json : List ℕ) → ((u : Slot) → o ≡ Some u → u.ty.0 < length rows) → meant_in longer others.is_key read_json o json ≡ meant_in rows tests.is_key read_json o json
  meant_here None json lows = refl
  meant_here (Some u) json lows = ap (λ x. option_map (λ w. (u, w)) x) (read_in u (read_json json) (lows u refl))

  pub brought_same : (v : Value) (e : Edit (List ℕ)) → brought longer others.is_key read_json (root_in rows name source v) (edit_beneath e) ≡ brought rows tests.is_key read_json (plainly n, v) e
  brought_same v (set_at path json) =
      ap (λ o. meant_in longer others.is_key read_json o json) (new_same v (set_at path json)) ∙ meant_here (new_slot rows (plainly n, v) (set_at path json)) json (new_low v (set_at path json))
  brought_same v (ins_at path json) =
      ap (λ o. meant_in longer others.is_key read_json o json) (new_same v (ins_at path json)) ∙ meant_here (new_slot rows (plainly n, v) (ins_at path json)) json (new_low v (ins_at path json))
  brought_same v (del_at path) = refl

  pub brought_low : (v : Value) (e : Edit (List ℕ)) (q : InSlot) → brought rows tests.is_key read_json (plainly n, v) e ≡ Some q → IsLowSlot (length rows) q
  brought_low v (set_at path json) q e = meant_low (length rows) rows tests.is_key read_json (new_slot rows (plainly n, v) (set_at path json)) json q (new_low v (set_at path json)) e
  brought_low v (ins_at path json) q e = meant_low (length rows) rows tests.is_key read_json (new_slot rows (plainly n, v) (ins_at path json)) json q (new_low v (ins_at path json)) e
  brought_low v (del_at path) q e = absurd (none-some q e)

  pub new_nodes_same : (v : Value) (e : Edit (List ℕ)) → nodes_in h longer (brought longer others.is_key read_json (root_in rows name source v) (edit_beneath e)) ≡ nodes_in h rows (brought rows tests.is_key read_json (plainly n, v) e)
  new_nodes_same v e =
      ap (λ o. nodes_in h longer o) (brought_same v e) ∙ nodes_met h (length rows) longer rows alike (brought rows tests.is_key read_json (plainly n, v) e) (brought_low v e)

  path_beneath_is : (e : Edit (List ℕ)) → path_of (edit_beneath e) ≡ codes "value" ∷ path_of e
  path_beneath_is (set_at path x) = refl
  path_beneath_is (ins_at path x) = refl
  path_beneath_is (del_at path) = refl

  changed_same : (path : List (List ℕ)) (new : ℕ) (r : Result Value No) → changed_met h longer (plainly (root_type rows)) (codes "value" ∷ path) new (rooted_or name source r) ≡ changed_met h rows (plainly n) path new r
  changed_same path new (Ok c) = ap (λ k. k + new) (root_met c path)
  changed_same path new (Err refusal) = refl

  pub all_same : (v : Value) (e : Edit (List ℕ)) → all_met (on_struct h rows others n) (rooted name source v) (edit_beneath e) ≡ all_met (under_name h rows tests n name source) v e
  all_same v e =
      let changed = line_change longer others.is_key read_json (root_in rows name source v) (edit_beneath e) in
      let new = nodes_in h longer (brought longer others.is_key read_json (root_in rows name source v) (edit_beneath e)) in
      ap (λ path. changed_met h longer (plainly (root_type rows)) path new changed) (path_beneath_is e)
      ∙ ap₂ (λ k r. changed_met h longer (plainly (root_type rows)) (codes "value" ∷ path_of e) k r) (new_nodes_same v e) (line_changes rows n table low tests others both name source read_json v e)
      ∙ changed_same (path_of e) (nodes_in h rows (brought rows tests.is_key read_json (plainly n, v) e)) (line_change rows tests.is_key read_json (plainly n, v) e)

  begun_gets : (v : Value) (e : Edit (List ℕ)) (begun : Option Value)
      → edit_gets (on_struct h rows others n) (rooted name source v) (edit_beneath e) (option_map (rooted name source) begun) ≡ edit_gets (under_name h rows tests n name source) v e begun
  begun_gets v e None = ap (λ path. blocks_met h longer (root_in rows name source v) path) (path_beneath_is e) ∙ root_met v (path_of e)
  begun_gets v e (Some b) = ap₂ (λ a b. a + b) (ap (λ path. blocks_met h longer (root_in rows name source v) path) (path_beneath_is e) ∙ root_met v (path_of e)) (all_same v e)

  -- ---- lines

  module _ (s : State Value) where
    root_gets : (o : Option Value) → (root_due (on_struct h rows others n) (rooted_state name source s) (option_map (rooted name source) o)).gets ≡ (root_due (under_name h rows tests n name source) s o).gets
    root_gets None = refl
    root_gets (Some v) = refl

    begin_gets : (o : Option Value) → (begin_due (rooted_state name source s) (option_map (rooted name source) o)).gets ≡ (begin_due s o).gets
    begin_gets None = refl
    begin_gets (Some v) = refl

    commit_gets : (o : Option Value) → (commit_due (on_struct h rows others n) (rooted_state name source s) (option_map (rooted name source) o)).gets ≡ (commit_due (under_name h rows tests n name source) s o).gets
    commit_gets None = refl
    commit_gets (Some v) = refl

    abort_gets : (o : Option Value) → (abort_due (rooted_state name source s) (option_map (rooted name source) o)).gets ≡ (abort_due s o).gets
    abort_gets None = refl
    abort_gets (Some v) = refl

    word_gets : (verb : Word) (path : List (List ℕ)) (json : List ℕ)
        → (due (on_struct h rows others n) (asked_by verb (steps_beneath (shape_of verb) path) json) (rooted_state name source s)).gets ≡ (due (under_name h rows tests n name source) (asked_by verb path json) s).gets
    word_gets W.Get path json = told_gets shown_form path s.value
    word_gets W.Rep path json = told_gets representation path s.value
    word_gets W.Has path json = told_gets presence path s.value
    word_gets W.Len path json = told_gets count path s.value
    word_gets W.Walk path json = told_gets list_of_parts path s.value
    word_gets W.Set path json = begun_gets s.value (set_at path json) s.begun
    word_gets W.Ins path json = begun_gets s.value (ins_at path json) s.begun
    word_gets W.Del path json = begun_gets s.value (del_at path) s.begun
    word_gets W.Root path json = root_gets s.begun
    word_gets W.Begin path json = begin_gets s.begun
    word_gets W.Commit path json = commit_gets s.begun
    word_gets W.Abort path json = abort_gets s.begun

    reading_gets : (r : Reading) → (due (on_struct h rows others n) (asked (reading_beneath r)) (rooted_state name source s)).gets ≡ (due (under_name h rows tests n name source) (asked r) s).gets
    reading_gets blank = refl
    reading_gets outside = refl
    reading_gets (command c) = word_gets c.verb c.path c.json

pub gets_alike : LinesGetAlike
gets_alike h rows n table low tests others both name source line s =
    ap (λ r. (due (on_struct h rows others n) (asked r) (rooted_state name source s)).gets) (lines_read_beneath line)
    ∙ reading_gets h rows n table low tests others both name source s (reads line)
