-- What an edit makes of a typed value is typed; what was set is there, and elsewhere nothing changes.
use Rattle.std.proofs.Common.{◌≡◌, ℕ, List, [], ◌∷◌, Bool, true, Option, Some, None, refl, ap, sym, ◌∙◌}
use Rattle.std.specs.Prelude.{Result, Ok, Err}
use Rattle.ild_data.specs.Data.{Data}
use Rattle.ild_data.specs.Tree.{IsTree}
use Rattle.ild_schema.specs.declared.number.Slot.{Slot}
use Rattle.ild_schema.specs.declared.row.Row.{Row}
use Rattle.ild_schema.specs.Prelude.{anything}
use Rattle.ild_schema.specs.Value.{Value}
use Rattle.ild_schema.specs.Whole.{is_whole}
use Rattle.ild_script.specs.declared.reply.No.{No}
use Rattle.ild_typed.specs.At.{InSlot}
use Rattle.ild_typed.specs.OfType.{OfType, TestsKeys}
use Rattle.ild_typed.specs.Schema.{IsSchema}
use Rattle.ild_typed.specs.Typed.{Typed}
use Rattle.ild_value_meaning.specs.MeantRead.{meant}
use Rattle.ild_value_meaning.proofs.ByParts.{ByParts}
use Rattle.ild_value_meaning.proofs.MeantTyped.{meant_is_typed}
use Rattle.ild_value_meaning.proofs.Reading.{read_is_meant}
use Rattle.ild_value_meaning.proofs.Told.{told}
use Rattle.ild_value_meaning.proofs.TypedByParts.{to_parts, from_parts}
use Rattle.ild_path_edits.specs.Edit.{Edit, set_at, ins_at, del_at, new_slot, change, meant_or, read_or, new_part, with_part, changed_by}
use Rattle.ild_path_edits.specs.EditLaws.{Brings, EditsKeepTypes, EditsKeepTyped, LinesKeepTyped, SetStands, ElsewhereStays}
use Rattle.ild_path_edits.proofs.HeldTyped.{types_are_kept}
use Rattle.ild_path_edits.proofs.Kept.{IsKept}
use Rattle.ild_path_edits.proofs.Paths.{change_typed, there, others}
use Rattle.ild_path_edits.proofs.StayWhole.{part_whole, set_whole, insert_whole, delete_whole}

pub of_type_is_kept : (rows : List Row) (is_key : ℕ → List ℕ → Bool) → IsSchema rows → TestsKeys rows is_key → IsKept rows is_key (λ slot v. OfType rows slot v)
of_type_is_kept rows is_key schema keys =
    let ok = told rows schema in
    let k = types_are_kept rows is_key ok.apart ok.any_there in
    let to = λ (slot : Slot) (v : Value) (h : OfType rows slot v). to_parts rows is_key keys v slot h in
    let from = λ (slot : Slot) (v : Value) (h : ByParts rows is_key slot v). from_parts rows is_key keys v slot h in
    record {
      parts = λ p q s h e. from q.0 q.1 (k.parts p q s (to p.0 p.1 h) e);
      slots = λ p q s h e. k.slots p q s (to p.0 p.1 h) e;
      there = λ p q s h e. k.there p q s (to p.0 p.1 h) e;
      set = λ p s slot w h e fits new. from p.0 _ (k.set p s slot w (to p.0 p.1 h) e fits (to slot w new));
      inserted = λ p s slot w h e fits new. from p.0 _ (k.inserted p s slot w (to p.0 p.1 h) e fits (to slot w new));
      deleted = λ p s h e. from p.0 _ (k.deleted p s (to p.0 p.1 h) e);
      inside = λ v h. k.inside v (to anything v h);
    }

-- whole values of a type
abbrev pub IsWholeOfType : List Row → Slot → Value → Type 0
IsWholeOfType rows slot v = OfType rows slot v × (is_whole v ≡ true)

pub whole_is_kept : (rows : List Row) (is_key : ℕ → List ℕ → Bool) → IsSchema rows → TestsKeys rows is_key → IsKept rows is_key (λ slot v. IsWholeOfType rows slot v)
whole_is_kept rows is_key schema keys =
    let k = of_type_is_kept rows is_key schema keys in
    record {
      parts = λ p q s h e. (k.parts p q s h.0 e, part_whole rows p.0 p.1 s q h.1 e);
      slots = λ p q s h e. k.slots p q s h.0 e;
      there = λ p q s h e. k.there p q s h.0 e;
      set = λ p s slot w h e fits new. (k.set p s slot w h.0 e fits new.0, set_whole rows p.0 p.1 s w h.1 new.1);
      inserted = λ p s slot w h e fits new. (k.inserted p s slot w h.0 e fits new.0, insert_whole rows p.0 p.1 s w h.1 new.1);
      deleted = λ p s h e. (k.deleted p s h.0 e, delete_whole rows p.0 p.1 s h.1);
      inside = λ v h. k.inside v h.0;
    }

pub edits_keep_types : EditsKeepTypes
edits_keep_types rows is_key schema keys p e c texts new is h = change_typed rows is_key (λ slot v. OfType rows slot v) (of_type_is_kept rows is_key schema keys) p e c texts new is h

brings_whole : (rows : List Row) (p : InSlot) (e : Edit Value) → Brings rows (Typed rows) p e → Brings rows (λ slot v. IsWholeOfType rows slot v) p e
brings_whole rows p (set_at path w) h = λ slot f. let x = h slot f in ((x.0, x.1), x.2)
brings_whole rows p (ins_at path w) h = λ slot f. let x = h slot f in ((x.0, x.1), x.2)
brings_whole rows p (del_at path) h = tt

pub edits_keep_typed : EditsKeepTyped
edits_keep_typed rows is_key schema keys p e c texts new is h =
    let x = change_typed rows is_key (λ slot v. IsWholeOfType rows slot v) (whole_is_kept rows is_key schema keys) p e c texts (brings_whole rows p e new) ((is.0, is.1), is.2) h in
    ((x.0).0, (x.0).1, x.1)

-- ---- lines

err_ok : (n : No) (w : Value) → ◌≡◌ {A = Result Value No} (Err n) (Ok w) → ⊥
err_ok n w h = absurd cc

pub ok_same : (v w : Value) → ◌≡◌ {A = Result Value No} (Ok v) (Ok w) → v ≡ w
ok_same v w h = cc

pub meant_ok : (o : Option Value) (w : Value) → meant_or o ≡ Ok w → o ≡ Some w
meant_ok None w h = absurd (err_ok _ w h)
meant_ok (Some v) w h = ap Some (ok_same v w h)

read_ok : (by : Data → Option Value) (o : Option Data) (w : Value) → read_or by o ≡ Ok w → (d : Data) × (o ≡ Some d) × (by d ≡ Some w)
read_ok by None w h = absurd (err_ok _ w h)
read_ok by (Some d) w h = (d, refl, meant_ok (by d) w h)

module _ (rows : List Row) (is_key : ℕ → List ℕ → Bool) (schema : IsSchema rows) (keys : TestsKeys rows is_key) (read : List ℕ → Option Data) (json : List ℕ) (trees : (d : Data) → read json ≡ Some d → IsTree d) where
  part_typed : (o : Option Slot) (w : Value) → new_part rows is_key read o json ≡ Ok w → (slot : Slot) → o ≡ Some slot → Typed rows slot w
  part_typed o w h slot e =
      let x = read_ok (meant rows is_key slot) (read json) w (sym (ap (λ r. new_part rows is_key read r json) e) ∙ h) in
      (meant_is_typed rows is_key schema keys slot x.0 w (trees x.0 x.1) (read_is_meant rows is_key slot x.0 w x.2)).typed

  changed_typed : (p : InSlot) (c : Value) (of : Value → Edit Value) (r : Result Value No) → changed_by rows is_key p (with_part of r) ≡ Ok c → (w : Value) × (r ≡ Ok w) × (change rows is_key p (of w) ≡ Ok c)
  changed_typed p c of (Err n) h = absurd (err_ok n c h)
  changed_typed p c of (Ok w) h = (w, refl, h)

-- the slot of what is set does not depend on what it is
set_slot : (rows : List Row) (p : InSlot) (path : List (List ℕ)) (json : List ℕ) (w : Value) → new_slot rows p (set_at path json) ≡ new_slot rows p (set_at path w)
set_slot rows p [] json w = refl
set_slot rows p (s ∷ ss) json w = refl

ins_slot : (rows : List Row) (p : InSlot) (path : List (List ℕ)) (json : List ℕ) (w : Value) → new_slot rows p (ins_at path json) ≡ new_slot rows p (ins_at path w)
ins_slot rows p [] json w = refl
ins_slot rows p (s ∷ ss) json w = refl

pub lines_keep_typed : LinesKeepTyped
lines_keep_typed rows is_key schema keys read p (set_at path json) c texts trees is h =
    let o = new_slot rows p (set_at path json) in
    let x = changed_typed rows is_key schema keys read json trees p c (set_at path) (new_part rows is_key read o json) h in
    edits_keep_typed rows is_key schema keys p (set_at path x.0) c texts (λ slot e. part_typed rows is_key schema keys read json trees o x.0 x.1 slot (set_slot rows p path json x.0 ∙ e)) is x.2
lines_keep_typed rows is_key schema keys read p (ins_at path json) c texts trees is h =
    let o = new_slot rows p (ins_at path json) in
    let x = changed_typed rows is_key schema keys read json trees p c (ins_at path) (new_part rows is_key read o json) h in
    edits_keep_typed rows is_key schema keys p (ins_at path x.0) c texts (λ slot e. part_typed rows is_key schema keys read json trees o x.0 x.1 slot (ins_slot rows p path json x.0 ∙ e)) is x.2
lines_keep_typed rows is_key schema keys read p (del_at path) c texts trees is h = edits_keep_typed rows is_key schema keys p (del_at path) c texts tt is h

-- ---- what was set, and all else

pub set_stands : SetStands
set_stands rows is_key schema keys p s ss l slot w is h free fits new = there rows is_key (λ slot v. OfType rows slot v) (of_type_is_kept rows is_key schema keys) s ss p l slot w is h free fits new

pub elsewhere_stays : ElsewhereStays
elsewhere_stays rows is_key schema keys p q s ss other w is h new apart = others rows is_key (λ slot v. OfType rows slot v) (of_type_is_kept rows is_key schema keys) s ss p q other w is h new apart
