-- The one change of a holder's data.
use Rattle.std.proofs.Common.{◌≡◌, ℕ, Bool, true, false, List, Option, Some, None, refl, sym, ◌∙◌, ap, subst}
use Rattle.ild_data.specs.Data.{Data}
use Rattle.ild_path_apply.specs.Applies.{is_whole}
use Rattle.ild_path_block.specs.Changes.{Allows, IsChange, in_last, node_of}
use Rattle.ild_path_block.specs.Items.{becoming, is_refusing}
use Rattle.ild_path_block.specs.declared.edit.PartEdit.{PartEdit}
use Rattle.ild_path_block.specs.declared.edit.PartEdit.TheVariants as E
use Rattle.ild_path_changes.proofs.Datas.{data_of}
use Rattle.ild_path_changes.proofs.LastEdits.{delete_is_seen, insert_is_seen, set_is_seen}
use Rattle.ild_path_changes.proofs.Represented.{in_holders}
use Rattle.ild_path_changes.specs.LastLift.{deleting, inserting, last_seen, setting}
use Rattle.ild_path_edits.proofs.Holders.{set_part-seen}
use Rattle.ild_path_edits.proofs.RoomTests.{schemas_have_tests}
use Rattle.ild_path_edits.proofs.Seen.{delete_part-seen, insert_part-seen}
use Rattle.ild_path_holder.specs.Along.{is_holder}
use Rattle.ild_path_item.proofs.Whole.{delete_part, insert_part, is_all, not_whole_change, parts_there, set_part}
use Rattle.ild_path_item.specs.inside.Rewrites.{has_parts}
use Rattle.ild_path_item.specs.Texts.{becoming_with, with_part}
use Rattle.ild_path_last.specs.Change.{located}
use Rattle.ild_path_last.specs.declared.change.LastChange.{LastChange}
use Rattle.ild_path_steps.proofs.Holding.{Held, held_by}
use Rattle.ild_schema.proofs.Legibly.{legible}
use Rattle.ild_schema.specs.Clear.{IsClear}
use Rattle.ild_schema.specs.Slots.{form_of}
use Rattle.ild_schema.specs.Value.{Value}
use Rattle.ild_schema.specs.declared.def.TypeDef.{TypeDef}
use Rattle.ild_schema.specs.declared.number.Slot.{Slot}
use Rattle.ild_schema.specs.declared.row.Row.{Row}
use Rattle.ild_splice_changes.specs.TreeChange.{applied}
use Rattle.ild_typed.specs.At.{InSlot, seen}
use Rattle.ild_typed.specs.Hamt.{alone}
use Rattle.ild_typed.specs.Holder.{Holder, value_of}
use Rattle.ild_typed.specs.OfType.{OfType}
use Rattle.ild_typed.specs.Represented.{represented}
use Rattle.ild_typed.specs.Schema.{IsSchema}
use Rattle.ild_value_meaning.proofs.ByParts.{ByParts}
use Rattle.ild_value_meaning.proofs.Told.{told}
use Rattle.ild_value_meaning.proofs.TypedByParts.{to_parts}

module _ (rows : List Row) (q : InSlot) (s : List ℕ) where
  -- the data of a holder are those of its parts, in their form
  abbrev pub data_in : Holder → Option Data
  data_in h = data_of alone (form_of rows q.0) (represented alone rows) q.0 h

  pub was : (t : Data) → represented alone rows q.0 q.1 ≡ Some t → data_in (seen rows q) ≡ Some t
  was t made = sym (in_holders alone rows q.0 q.1) ∙ made

  -- of what it becomes
  pub changed_data : (edit : PartEdit) (w : Value) → becoming rows edit w q s ≡ data_in ((in_last edit w).made (seen rows q) s)
  changed_data (E.Set n) w = in_holders alone rows q.0 (value_of ((in_last (E.Set n) w).made (seen rows q) s)) ∙ ap data_in (set_part-seen rows q.0 q.1 s w)
  changed_data (E.Insert n) w = in_holders alone rows q.0 (value_of ((in_last (E.Insert n) w).made (seen rows q) s)) ∙ ap data_in (insert_part-seen rows q.0 q.1 s w)
  changed_data E.Delete w = in_holders alone rows q.0 (value_of ((in_last E.Delete w).made (seen rows q) s)) ∙ ap data_in (delete_part-seen rows q.0 q.1 s)

  -- and where a part becomes a value, or goes
  pub with_data : (o : Option Value) → becoming_with rows q s o ≡ data_in (with_part (seen rows q) s o)
  with_data None = in_holders alone rows q.0 (value_of (with_part (seen rows q) s None)) ∙ ap data_in (delete_part-seen rows q.0 q.1 s)
  with_data (Some w) = in_holders alone rows q.0 (value_of (with_part (seen rows q) s (Some w))) ∙ ap data_in (set_part-seen rows q.0 q.1 s w)

  module _ (schema : IsSchema rows) where
    clear : IsClear rows
    clear = (legible rows schema.accepted).clear

    abbrev is_key : ℕ → List ℕ → Bool
    is_key = (schemas_have_tests rows schema).0.is_key

    abbrev to : (slot : Slot) (v : Value) → OfType rows slot v → ByParts rows is_key slot v
    to slot v h = to_parts rows is_key (schemas_have_tests rows schema).1.keys v slot h

    -- they are the old ones with the one change that the edit is
    pub one_change : (edit : PartEdit) (w : Value) (t u : Data) → OfType rows q.0 q.1 → Allows rows edit (seen rows q) s w → represented alone rows q.0 q.1 ≡ Some t → becoming rows edit w q s ≡ Some u → u ≡ applied (last_seen alone rows (in_last edit w) s q) t
    one_change (E.Set n) w t u is h made now =
        set_is_seen rows is_key (told rows schema).apart (told rows schema).any_there clear alone q.0 q.1 s w h.0 (to q.0 q.1 is) h.1 (to h.0 w h.2.fits) (becoming rows (E.Set n) w q s) t u (was t made) (sym (changed_data (E.Set n) w) ∙ now) now
    one_change (E.Insert n) w t u is h made now =
        insert_is_seen rows is_key (told rows schema).apart (told rows schema).any_there clear alone q.0 q.1 s w h.0 (to q.0 q.1 is) h.1 (to h.0 w h.2.fits) (becoming rows (E.Insert n) w q s) t u (was t made) (sym (changed_data (E.Insert n) w) ∙ now) now
    one_change E.Delete w t u is h made now =
        delete_is_seen rows is_key (told rows schema).apart (told rows schema).any_there clear alone q.0 q.1 s (to q.0 q.1 is) h (becoming rows E.Delete w q s) t u (was t made) (sym (changed_data E.Delete w) ∙ now) now

  -- ---- where no rule could refuse what it becomes

  module _ (def : TypeDef) (known : form_of rows q.0 ≡ Some def) (plain : is_refusing (Some def) ≡ false) (t : Data) (made : represented alone rows q.0 q.1 ≡ Some t) where
    held : Held rows def (seen rows q) t
    held = held_by rows q.0 t def known q.1 made

    pub there : is_holder (seen rows q) ≡ true → has_parts t ≡ true
    there = parts_there rows def t plain (seen rows q) held

    not_all : (edit : PartEdit) (w : Value) → is_all (last_seen alone rows (in_last edit w) s q) ≡ false
    not_all (E.Set n) w = subst (λ F. is_all ((setting w).seen_in F (represented alone rows) (seen rows q) s (becoming rows (E.Set n) w q s)) ≡ false) (sym known) (set_part rows def t plain s (becoming rows (E.Set n) w q s) w (seen rows q) held)
    not_all (E.Insert n) w = subst (λ F. is_all ((inserting w).seen_in F (represented alone rows) (seen rows q) s (becoming rows (E.Insert n) w q s)) ≡ false) (sym known) (insert_part rows def t plain s (becoming rows (E.Insert n) w q s) w (seen rows q) held)
    not_all E.Delete w = subst (λ F. is_all (deleting.seen_in F (represented alone rows) (seen rows q) s (becoming rows E.Delete w q s)) ≡ false) (sym known) (delete_part rows def t plain s (becoming rows E.Delete w q s) (seen rows q) held)

    -- no whole item is replaced
    pub within : (edit : PartEdit) (w : Value) (change : LastChange) (u : Data) (is : IsChange rows (in_last edit w) q s (node_of edit) change) → becoming rows edit w q s ≡ Some u → is_whole change ≡ false
    within edit w change u is now =
        not_whole_change change (Some is.some) u is.some refl (ap (λ o. is_all (located change (Some is.some) o)) (sym now) ∙ ap is_all (sym is.of_some) ∙ not_all edit w)
