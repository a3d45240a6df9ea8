-- The entries of a map, as its block shows them, and the value at a key.
use Rattle.std.proofs.Common.{◌≡◌, ℕ, List, [], true, false, Some, None, refl, sym, ◌∙◌, ap, subst}
use Rattle.std.proofs.lemmas.Option.{same_Some}
use Rattle.ild_data.specs.Data.{Data}
use Rattle.ild_data.specs.Key.{value_at}
use Rattle.ild_data.proofs.Lists.{members_list-members_of}
use Rattle.ild_data.specs.declared.hamt_shape.HamtShape.{HamtShape}
use Rattle.ild_view_entries.specs.Forms.{MapDelims, ShowsMap}
use Rattle.ild_schema.specs.Clear.{ClearMap}
use Rattle.ild_schema.specs.Copies.{base}
use Rattle.ild_schema.specs.Delims.{MapDelims as Given}
use Rattle.ild_schema.specs.Legible.{IsLegible}
use Rattle.ild_schema.specs.Slots.{form_of}
use Rattle.ild_schema.specs.Value.{Value}
use Rattle.ild_schema.specs.declared.def.MapForm.{MapForm}
use Rattle.ild_schema.specs.declared.def.MapForm.TheVariants as MF
use Rattle.ild_schema.specs.declared.def.TypeDef.TheVariants as D
use Rattle.ild_schema.specs.declared.number.Slot.{Slot}
use Rattle.ild_schema.specs.declared.number.TypeNo.{TypeNo}
use Rattle.ild_schema.specs.declared.row.Row.{Row}
use Rattle.ild_struct.proofs.Splitting.{given_some}
use Rattle.ild_typed.specs.At.{seen}
use Rattle.ild_typed.specs.Composed.{map_form}
use Rattle.ild_typed.specs.Fits.{Front}
use Rattle.ild_typed.specs.Hamt.{alone}
use Rattle.ild_typed.specs.Layer as L
use Rattle.ild_typed.specs.Pieces.{is_null_there}
use Rattle.ild_typed.specs.Strings.{listpairs, map_data, members_in}
use Rattle.ild_view.proofs.Finding.{map_entry_there}
use Rattle.ild_view.proofs.Opening.{front_map, is_hamt}
use Rattle.ild_view.proofs.Parting.{Beside, no_entry, seen_by}
use Rattle.ild_view.specs.Parts.{entry_at}
use Rattle.ild_view.specs.Safe.{is_safe}

pub shows_map : (form : MapForm) (es : List (List ℕ × Data)) (t : Data) → ClearMap form → Given form → is_hamt form ≡ false → map_form alone form (L.map es) ≡ Some t → ShowsMap form es t
shows_map MF.Map es t clear given plain e = ap members_in (sym (same_Some (map_data es) t e)) ∙ ap Some (members_list-members_of es)
shows_map MF.ListPairs es t clear given plain e = sym (same_Some (listpairs es) t e)
shows_map (MF.StringPairs inner entry) es t clear given plain e = e
shows_map (MF.Hamt p) es t clear given plain e = absurd cc

given_delims : (form : MapForm) → ClearMap form → Given form → MapDelims form
given_delims MF.Map clear given = tt
given_delims MF.ListPairs clear given = tt
given_delims (MF.StringPairs inner entry) clear given = (given_some inner clear, given_some entry given)
given_delims (MF.Hamt p) clear given = tt

pub map_delims : (rows : List Row) → IsLegible rows → (s : Slot) (key : TypeNo) (key_at : ℕ) (value : Slot) (at : ℕ) (form : MapForm) → form_of rows s ≡ Some (D.Map key key_at value at form) → MapDelims form
map_delims rows legible s key key_at value at form known =
    let d = D.Map key key_at value at form in
    given_delims form (legible.clear.types (base rows s.ty.0) d known) (legible.delims (base rows s.ty.0) d known)

-- the value at a key, beside what is there of a map that is shown
pub record EntryAt (rows : List Row) (form : MapForm) (value : Slot) (t : Data) (k : List ℕ) (s : Slot) (f : Value) : Type 0 where
  pub entries : List (List ℕ × Data)
  pub shows : ShowsMap form entries t
  pub beside : Beside rows value (value_at k entries) (entry_at (seen rows (s, f)) k)

module _ (rows : List Row) (legible : IsLegible rows) (s : Slot) (safe : is_safe rows s ≡ true) (room : ℕ) (f : Value) (t : Data) (front : Front rows room s f t) (some : is_null_there s t ≡ false) where
  map_there : (key : TypeNo) (key_at : ℕ) (value : Slot) (at : ℕ) (form : MapForm) (plain : is_hamt form ≡ false) → form_of rows s ≡ Some (D.Map key key_at value at form) → (k : List ℕ) → EntryAt rows form value t k s f
  map_there key key_at value at form plain known k =
      let d = D.Map key key_at value at form in
      let x = front_map rows legible.clear s safe room f t front some key key_at value at form plain known in
      record {
        entries = x.parts;
        shows = shows_map form x.parts t (legible.clear.types (base rows s.ty.0) d known) (legible.delims (base rows s.ty.0) d known) plain x.made;
        beside = map_entry_there rows legible.clear s safe room f t front some key key_at value at form plain known k;
      }

  hamt_there : (p : HamtShape) (key : TypeNo) (key_at : ℕ) (value : Slot) (at : ℕ) → form_of rows s ≡ Some (D.Map key key_at value at (MF.Hamt p)) → (k : List ℕ) → EntryAt rows (MF.Hamt p) value t k s f
  hamt_there p key key_at value at known k =
      let d = D.Map key key_at value at (MF.Hamt p) in
      let none : entry_at (seen rows (s, f)) k ≡ None = no_entry rows legible.clear s safe room f t front d (seen_by rows legible.clear s safe room f t front some d known) refl k in
      record { entries = []; shows = refl; beside = subst (λ o. Beside rows value None o) (sym none) tt }

  pub entry_there : (key : TypeNo) (key_at : ℕ) (value : Slot) (at : ℕ) (form : MapForm) → form_of rows s ≡ Some (D.Map key key_at value at form) → (k : List ℕ) → EntryAt rows form value t k s f
  entry_there key key_at value at MF.Map known k = map_there key key_at value at MF.Map refl known k
  entry_there key key_at value at MF.ListPairs known k = map_there key key_at value at MF.ListPairs refl known k
  entry_there key key_at value at (MF.StringPairs inner entry) known k = map_there key key_at value at (MF.StringPairs inner entry) refl known k
  entry_there key key_at value at (MF.Hamt p) known k = hamt_there p key key_at value at known k
