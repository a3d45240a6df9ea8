-- Edits that bring texts, of values and of their fronts.
use Rattle.std.proofs.Common.{◌≡◌, ℕ, List, true, false, Option, Some, None, refl, sym, ◌∙◌, ap, subst}
use Rattle.ild_data.specs.Data as T
use Rattle.ild_data.specs.Data.{Data}
use Rattle.ild_path_edits.specs.Edit.{Edit, change, del_at, ins_at, new_slot, set_at}
use Rattle.ild_path_edits.specs.EditLaws.{Brings}
use Rattle.ild_path_around.proofs.Alike.{alike, inside}
use Rattle.ild_path_around.proofs.Staying.{blocks_break_alike}
use Rattle.ild_path_around.specs.Blocks.{BringsTextPart, IsTextPart, TextEditsOfFronts}
use Rattle.ild_schema.specs.Value.{Value}
use Rattle.ild_schema.specs.declared.number.Slot.{Slot}
use Rattle.ild_schema.specs.declared.row.Row.{Row}
use Rattle.ild_typed.proofs.Flat.{flat_whole}
use Rattle.ild_typed.proofs.Judging.{tree_sound}
use Rattle.ild_typed.specs.At.{InSlot}
use Rattle.ild_typed.specs.Hamt.{whole}
use Rattle.ild_typed.specs.Judged.{breaks_delimiter}
use Rattle.ild_typed.specs.OfType.{OfType}
use Rattle.ild_typed.specs.Represented.{represented}
use Rattle.ild_typed.specs.Schema.{IsSchema}
use Rattle.ild_typed_fronts.proofs.Pathing.{edits_of_fronts}
use Rattle.ild_typed_fronts.proofs.Representing.{fronts_are_one}
use Rattle.ild_typed_fronts.specs.Front.{edit_front, front, front_in, in_one_block, part_front}

sound : (h : List ℕ → List ℕ) (rows : List Row) (slot : Slot) (w : Value) (d : Data) → represented (whole h) rows slot w ≡ Some d → breaks_delimiter rows slot w ≡ false
sound h rows slot w d made = (tree_sound h rows slot w d made).2

module _ (h : List ℕ → List ℕ) (rows : List Row) (schema : IsSchema rows) where
  text_whole : (slot : Slot) (w : Value) (x : IsTextPart rows slot w) → represented (whole h) rows slot w ≡ Some (T.text x.text_is)
  text_whole slot w x = flat_whole h rows slot w (T.text x.text_is) x.shown tt

  -- a text is its own front
  text_front : (slot : Slot) (w : Value) → IsTextPart rows slot w → front h rows slot w ≡ w
  text_front slot w x = sym (fronts_are_one h rows schema slot w w (T.text x.text_is) x.safe (text_whole slot w x) x.shown)

  part_is : (o : Option Slot) (w : Value) → ((slot : Slot) → o ≡ Some slot → IsTextPart rows slot w) → part_front h rows o w ≡ w
  part_is None w brings = refl
  part_is (Some slot) w brings = text_front slot w (brings slot refl)

  edit_is : (p : InSlot) (e : Edit Value) → BringsTextPart rows p e → edit_front h rows (new_slot rows p e) e ≡ e
  edit_is p (set_at path w) brings = ap (set_at path) (part_is (new_slot rows p (set_at path w)) w brings)
  edit_is p (ins_at path w) brings = ap (ins_at path) (part_is (new_slot rows p (ins_at path w)) w brings)
  edit_is p (del_at path) brings = refl

  pub brings_typed : (p : InSlot) (e : Edit Value) → BringsTextPart rows p e → Brings rows (OfType rows) p e
  brings_typed p (set_at path w) brings = λ slot e. (brings slot e).fits
  brings_typed p (ins_at path w) brings = λ slot e. (brings slot e).fits
  brings_typed p (del_at path) brings = tt

  brings_sound : (p : InSlot) (e : Edit Value) → BringsTextPart rows p e → Brings rows (λ slot w. breaks_delimiter rows slot w ≡ false) p e
  brings_sound p (set_at path w) brings = λ slot e. let x = brings slot e in sound h rows slot w (T.text x.text_is) (text_whole slot w x)
  brings_sound p (ins_at path w) brings = λ slot e. let x = brings slot e in sound h rows slot w (T.text x.text_is) (text_whole slot w x)
  brings_sound p (del_at path) brings = tt

pub text_edits_of_fronts : TextEditsOfFronts
text_edits_of_fronts h rows is_key schema keys p s ss e c d path texts brings is made one changed =
    let typed = brings_typed h rows schema p e brings in
    let free = sound h rows p.0 p.1 d made in
    let one_so = subst (λ u. in_one_block rows p u ≡ true) (sym path) one in
    record {
      made = ap (change rows is_key (front_in h rows p)) (sym (edit_is h rows schema p e brings)) ∙ edits_of_fronts h rows is_key schema keys p e c texts typed is one_so changed;
      alike = blocks_break_alike h rows is_key schema keys p s ss e c path texts typed (brings_sound h rows schema p e brings) is free one changed;
      sound = alike h rows p.1 p.0 (inside rows p.1 p.0 free) ∙ free;
    }
